-- What the solver's functions ask of years, multipliers and weights.
use Rattle.std.specs.Prelude.{◌≡◌, ℕ, ◌+◌, ◌*◌, ◌^◌, ◌≤◌, ◌<◌, ℤ, pos, ◌≤ℤ◌, List, length, slice_index_or, unsigned_abs}
use Rattle.std.specs.Prelude.{EachIndex}
use Rattle.std.specs.List.{All}
use Rattle.denton_parts.specs.Year.{BenchmarkedYear, IsMultiplier, year_sum}
use Rattle.denton_solve.specs.Sweeps.{weight_of}

-- each multiplier is in range
abbrev pub AreMultipliers : List ℤ → Type 0
AreMultipliers multipliers = EachIndex multipliers (λ y. IsMultiplier (slice_index_or multipliers y (pos 0)))

-- the year's annual ratio times 10^k is within 10^13
abbrev pub IsScaled : ℕ → BenchmarkedYear → Type 0
IsScaled k year = 10 ^ k * unsigned_abs year.benchmark ≤ 10 ^ 13 * year_sum year.indicators

-- that holds of each year
abbrev pub AreScaled : ℕ → List BenchmarkedYear → Type 0
AreScaled k years = All (IsScaled k) years

-- at most 126 years in a row miss a benchmark
abbrev pub AreFew : List ℕ → Type 0
AreFew missing = All (λ years. years ≤ 126) missing

-- these are the weights of the joints between the years
pub record AreWeights (years : List BenchmarkedYear) (weights : List ℤ) : Type 0 where
  pub count : length weights + 1 ≡ length years
  pub value : (y : ℕ) (other : BenchmarkedYear) → y + 1 < length years →
      slice_index_or weights y (pos 0) ≡ weight_of (slice_index_or years y other) (slice_index_or years (y + 1) other)
  pub least : (y : ℕ) → y + 1 < length years → pos 1000 ≤ℤ slice_index_or weights y (pos 0)
