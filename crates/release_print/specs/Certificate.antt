-- The text of a leaf's certificate: the lines that spell what the leaf's table says.
use Rattle.std.specs.Prelude.{ℕ, ℤ, pos, List, [], ◌∷◌, ◌++◌, map, codes, decimal, Option, Some, None}
use Rattle.std.specs.Fmt.{signed_decimal}
use Rattle.period_keys.specs.Period.{year_text, quarter_text}
use Rattle.series_tables.specs.Plan.{PlanShape}
use Rattle.cert_read.specs.Statement.{Statement, certificate_line, scale_line, start_line, indicator_line}
use Rattle.cert_read.specs.Statement.{benchmark_line, value_line, multiplier_line, gap_line, end_line}
use Rattle.cert_read.specs.Content.{Content, quarterly, yearly, spelled}
use Rattle.price_base.specs.declared.Cell.{Cell}
use Rattle.node_compile.specs.Laws.{numbers_in}
use Rattle.node_compile.specs.Shape.{IsBenchmarked}
use Rattle.node_compile.specs.Table.{Certificate, Table}
use Rattle.node_compile.specs.declared.table.LeafPart.{LeafPart}
use Rattle.release_print.specs.Line.{line_text, name_of}

-- the text of the line that says a statement
abbrev pub statement_text : Statement → List ℕ
statement_text (certificate_line name front) = line_text (codes "cert") (name ∷ signed_decimal front ∷ [])
statement_text (scale_line k) = line_text (codes "scale") (signed_decimal k ∷ [])
statement_text (start_line year) = line_text (codes "start") (year_text year ∷ [])
statement_text (indicator_line quarter value) = line_text (codes "i") (quarter_text quarter ∷ signed_decimal value ∷ [])
statement_text (benchmark_line year value) = line_text (codes "b") (year_text year ∷ signed_decimal value ∷ [])
statement_text (value_line quarter value) = line_text (codes "x") (quarter_text quarter ∷ signed_decimal value ∷ [])
statement_text (multiplier_line year value) = line_text (codes "u") (year_text year ∷ signed_decimal value ∷ [])
statement_text (gap_line value) = line_text (codes "gap") (signed_decimal value ∷ [])
statement_text end_line = line_text (codes "end") []

-- the text of statements, a line each
abbrev pub statements_text : List Statement → List ℕ
statements_text [] = []
statements_text (statement ∷ statements) = statement_text statement ++ statements_text statements

-- the text of the lines at the head: the leaf's name and the front, the scale, and the start year
abbrev pub head_text : List ℕ → ℕ → ℕ → ℕ → List ℕ
head_text name front k start =
    statement_text (certificate_line name (pos front))
    ++ (statement_text (scale_line (pos k)) ++ statement_text (start_line start))

-- the text of the lines of a leaf's numbers
abbrev pub numbers_text : ℕ → Certificate → List Cell → List ℕ
numbers_text start certificate values =
    statements_text (quarterly indicator_line start 0 (map pos certificate.indicators))
    ++ (statements_text (yearly benchmark_line start certificate.places certificate.benchmarks)
    ++ (statements_text (quarterly value_line start 0 (numbers_in values))
    ++ statements_text (yearly multiplier_line start certificate.places certificate.multipliers)))

-- what stands behind a leaf's values has the lists of a leaf with benchmarked years
abbrev pub IsPartOf : LeafPart → List Cell → Type 0
IsPartOf part values = IsBenchmarked part.ind.items part.years.items part.bench.items part.cert.u.items values

-- the text of the lines at the end
abbrev pub end_text : ℤ → List ℕ
end_text gap = statement_text (gap_line gap) ++ statement_text end_line

-- what the certificate of a leaf says: its name, the front, and the numbers of its table
abbrev pub content_of : ℕ → List ℕ → ℕ → Certificate → List Cell → Content
content_of start name front certificate values = record {
  heads = 3;
  name = name;
  front = pos front;
  scale = pos certificate.scale;
  start = start;
  ind = map pos certificate.indicators;
  places = certificate.places;
  bench = certificate.benchmarks;
  x = numbers_in values;
  u = certificate.multipliers;
  gap = certificate.gap;
  tail = 2;
}

-- the certificate, or one line where no year is benchmarked
abbrev pub certificate_or_none : ℕ → List ℕ → ℕ → Option Certificate → List Cell → List ℕ
certificate_or_none start name front None values = line_text (codes "nocert") (name ∷ decimal front ∷ [])
certificate_or_none start name front (Some certificate) values =
    statements_text (spelled (content_of start name front certificate values))

-- the certificate of the leaf of a number at a front, from its table
unfoldable pub certificate_text : PlanShape → ℕ → ℕ → Table → List ℕ
certificate_text plan front item table =
    certificate_or_none plan.start (name_of plan.names item) front table.leaf table.value
