-- The shape of an item's table.
use Rattle.std.specs.Prelude.{◌≡◌, ℕ, ◌+◌, ◌≤◌, ℤ, Bool, true, false, IsTrue, List, length, All, Option}
use Rattle.std.specs.Option.{ForSome}
use Rattle.annual_overlap.specs.declared.ChainTable.{ChainTable}
use Rattle.annual_overlap.specs.Years.{year_count}
use Rattle.denton_parts.specs.Years.{ArePlaces}
use Rattle.price_base.specs.declared.Cell.{Cell}
use Rattle.price_base.specs.declared.Cell.TheVariants.{Value}
use Rattle.node_compile.specs.declared.table.LeafPart.{LeafPart}

-- whether a cell is a number
abbrev pub is_number : Cell → Bool
is_number (Value number) = true
is_number _ = false

-- the lists of a leaf with benchmarked years: an indicator for each quarter, a year at least, each behind the one
-- before and with its four quarters, a benchmark for each, a multiplier between each two, and numbers in all quarters
pub record IsBenchmarked (indicators places : List ℕ) (benchmarks multipliers : List ℤ)
    (values : List Cell) : Type 0 where
  pub quarters : length indicators ≡ length values
  pub some_year : 1 ≤ length benchmarks
  pub placed : length places ≡ length benchmarks
  pub whole_years : ArePlaces (length values) places
  pub joints : length multipliers + 1 ≡ length benchmarks
  pub numbers : All (λ cell. IsTrue (is_number cell)) values

-- what stands behind a leaf's values has such lists, where there is something
abbrev pub IsBenchmarkedPart : Option LeafPart → List Cell → Type 0
IsBenchmarkedPart leaf values = ForSome leaf (λ part.
    IsBenchmarked part.ind.items part.years.items part.bench.items part.cert.u.items values)

-- the lists of a chain of so many quarters: a cell for each quarter, and in the other four one for each year that has
-- one of them
abbrev pub IsChainShaped : ChainTable → ℕ → Type 0
IsChainShaped chain quarters =
    (length chain.quarter ≡ quarters)
    × (length chain.value ≡ year_count quarters)
    × (length chain.prev ≡ year_count quarters)
    × (length chain.level ≡ year_count quarters)
    × (length chain.drift ≡ year_count quarters)
