-- What an item's table is worth. In the words of the manual's chapter 6: a leaf's values meet the benchmarks, and no
-- other series that meets them is better by more than the gap. In those of its chapter 8: chained volumes are the
-- products of the links, up to a printed drift, and add up over the year.
use Rattle.std.specs.Prelude.{◌≡◌, ◌≢◌, ◌↔◌, ℕ, ◌+◌, ◌^◌, ◌≤◌, ◌<◌, ℤ, pos, ◌≤ℤ◌, ◌<ℤ◌, List, map, length, IsSome}
use Rattle.std.specs.Prelude.{IfSome, IsSomeAnd, unwrap_or}
use Rattle.denton_parts.specs.Benchmarks.{MeetsBenchmarks}
use Rattle.denton_parts.specs.Limit.{limit_of}
use Rattle.denton_parts.specs.Ratios.{IsWithinGap}
use Rattle.price_base.specs.declared.Cell.{Cell}
use Rattle.price_base.specs.declared.Cell.TheVariants.{Range}
use Rattle.price_base.specs.Cells.{cell_at, number_of}
use Rattle.annual_overlap.specs.Drift.{AreWithinDrift}
use Rattle.annual_overlap.specs.Table.{chain_of, DoQuartersAddUp}
use Rattle.node_compile.specs.Table.{Table, years_of_certificate}

-- the number in a cell. A mark has none, and 0 stands for it; a leaf with a certificate has no mark among its values
abbrev pub number_in : Cell → ℤ
number_in cell = unwrap_or (number_of cell) (pos 0)

-- the numbers in cells
abbrev pub numbers_in : List Cell → List ℤ
numbers_in cells = map number_in cells

-- in each benchmarked year of the table's certificate the four values add up to the benchmark
abbrev pub MeetsItsBenchmarks : Table → Type 0
MeetsItsBenchmarks table = IfSome table.leaf (λ certificate.
    MeetsBenchmarks (years_of_certificate certificate) (pos 1) (numbers_in table.value))

-- no series of fractions that meets these benchmarks has a sum of squared ratio changes smaller than that of the values
-- by more than the certificate's gap over 10^(2 * scale)
abbrev pub IsWithinItsGap : Table → Type 0
IsWithinItsGap table = IfSome table.leaf (λ certificate.
    IsWithinGap certificate.indicators (years_of_certificate certificate) (numbers_in table.value)
    certificate.gap (pos (10 ^ certificate.scale)))

-- that gap is small: at most the limit for the certificate's indicators and scale, whatever the benchmarks
abbrev pub IsGapWithinLimit : Table → Type 0
IsGapWithinLimit table = IfSome table.leaf (λ certificate.
    certificate.gap ≤ℤ limit_of (pos (10 ^ certificate.scale)) certificate.indicators)

-- a cell is a number above zero
abbrev pub IsAboveZero : Cell → Type 0
IsAboveZero cell = IsSomeAnd (number_of cell) (λ number. pos 0 <ℤ number)

-- a year and the next are linked: the value of the one and the volume of the other are numbers above zero
abbrev pub AreLinked : List Cell → List Cell → ℕ → Type 0
AreLinked values volumes y = IsAboveZero (cell_at values y) × IsAboveZero (cell_at volumes (y + 1))

-- a year is linked to the reference year: that year's value is a number above zero, and so is each link between the two
pub record IsLinkedTo (values volumes : List Cell) (reference year : ℕ) : Type 0 where
  pub base : IsAboveZero (cell_at values reference)
  pub later : (y : ℕ) → reference ≤ y → y < year → AreLinked values volumes y
  pub earlier : (y : ℕ) → year ≤ y → y < reference → AreLinked values volumes y

-- a year's level is a number exactly where the year is linked to the reference year and the level isn't marked as out
-- of range
abbrev pub AreLinkedLevels : List Cell → List Cell → ℕ → List Cell → Type 0
AreLinkedLevels values volumes reference levels =
    (year : ℕ) → year < length levels →
    IsSome (number_of (cell_at levels year))
    ↔ (IsLinkedTo values volumes reference year × (cell_at levels year ≢ Range))

-- what the chain of a table from a reference year is worth
pub record IsTrulyChained (reference : ℕ) (table : Table) : Type 0 where
  -- it is the chain of the very values and volumes of the table
  pub own : table.chain ≡ chain_of table.value table.prev reference
  -- it has a level, as a number, for each year that is linked to the reference year
  pub levels : AreLinkedLevels table.chain.value table.chain.prev reference table.chain.level
  -- each level is within its drift of the exact chained volume
  pub near : AreWithinDrift table.chain.value table.chain.prev reference table.chain.level table.chain.drift
  -- the quarters of each complete year with a level and a volume above zero add up to the level
  pub quarters : DoQuartersAddUp table.chain
