-- One benchmarked year: its place, its indicators and their sums, and the ranges of its numbers.
use Rattle.std.specs.Prelude.{ℕ, ◌+◌, ◌^◌, ◌≤◌, ℤ, List, [], ◌∷◌, slice_index, unsigned_abs}

-- a benchmarked year: its place among the years of a run, the first at 0, its four quarters' indicators, its benchmark
pub record BenchmarkedYear : Type 0 where
  pub place : ℕ
  pub indicators : List ℕ
  pub benchmark : ℤ

-- the sum of the year's four indicators
abbrev pub year_sum : List ℕ → ℕ
year_sum indicators =
    slice_index indicators 0 + slice_index indicators 1 + slice_index indicators 2 + slice_index indicators 3

-- for each of the four quarters, the sum of the year's indicators before it
abbrev pub sums_before : List ℕ → List ℕ
sums_before indicators =
    0 ∷ slice_index indicators 0 ∷ (slice_index indicators 0 + slice_index indicators 1)
    ∷ (slice_index indicators 0 + slice_index indicators 1 + slice_index indicators 2) ∷ []

-- an indicator is from 1 to 10^9
abbrev pub IsIndicator : ℕ → Type 0
IsIndicator indicator = (1 ≤ indicator) × (indicator ≤ 10 ^ 9)

-- all four indicators of a year are
pub record AreIndicators (indicators : List ℕ) : Type 0 where
  pub first : IsIndicator (slice_index indicators 0)
  pub second : IsIndicator (slice_index indicators 1)
  pub third : IsIndicator (slice_index indicators 2)
  pub fourth : IsIndicator (slice_index indicators 3)

-- a benchmark is within 10^12
abbrev pub IsBenchmark : ℤ → Type 0
IsBenchmark benchmark = unsigned_abs benchmark ≤ 10 ^ 12

-- a multiplier is within 10^15
abbrev pub IsMultiplier : ℤ → Type 0
IsMultiplier multiplier = unsigned_abs multiplier ≤ 10 ^ 15
