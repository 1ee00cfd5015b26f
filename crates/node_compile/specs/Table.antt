-- What an item's table says, as plain numbers and cells.
use Rattle.std.specs.Prelude.{◌≡◌, ℕ, ℤ, List, map, Option, Result, IfOk}
use Rattle.std.specs.Arc.{arc_value}
use Rattle.std.specs.Option.{option_map}
use Rattle.std.specs.declared.sync.Arc.{Arc}
use Rattle.annual_overlap.specs.declared.ChainTable.{ChainTable}
use Rattle.denton_parts.specs.Year.{BenchmarkedYear}
use Rattle.denton_parts.specs.Years.{years_at}
use Rattle.price_base.specs.declared.Cell.{Cell}
use Rattle.node_compile.specs.declared.table.LeafPart.{LeafPart}
use Rattle.node_compile.specs.declared.table.NodeTable.{NodeTable}

-- the numbers of a leaf's certificate beside its values; the places of its benchmarked years are counted from the first
-- year of the run
pub record Certificate : Type 0 where
  pub indicators : List ℕ
  pub places : List ℕ
  pub benchmarks : List ℤ
  pub scale : ℕ
  pub multipliers : List ℤ
  pub gap : ℤ

-- the benchmarked years of a certificate
abbrev pub years_of_certificate : Certificate → List BenchmarkedYear
years_of_certificate certificate = years_at certificate.indicators certificate.places certificate.benchmarks

-- an item's table: the certificate of a leaf that has a benchmarked year, the values, the volumes at previous-year
-- prices, and their chain
pub record Table : Type 0 where
  pub leaf : Option Certificate
  pub value : List Cell
  pub prev : List Cell
  pub chain : ChainTable

-- what the code's table says
abbrev pub certificate_in : LeafPart → Certificate
certificate_in part = record {
  indicators = part.ind.items;
  places = part.years.items;
  benchmarks = part.bench.items;
  scale = part.cert.scale;
  multipliers = part.cert.u.items;
  gap = part.cert.gap;
}

abbrev pub leaf_in : Option LeafPart → Option Certificate
leaf_in leaf = option_map certificate_in leaf

abbrev pub table_in : NodeTable → Table
table_in table = record {
  leaf = leaf_in table.leaf;
  value = table.flows.value;
  prev = table.flows.prev;
  chain = table.chain;
}

-- what shared tables say
abbrev pub node_tables : {Z : Type 0} → List (Arc NodeTable Z) → List Table
node_tables nodes = map (λ node. table_in (arc_value node)) nodes

-- a table, once it is made, says what this one says; want of memory says nothing
abbrev pub Makes : {E : Type 0} → Result NodeTable E → Table → Type 0
Makes result table = IfOk result (λ made. table_in made ≡ table)
