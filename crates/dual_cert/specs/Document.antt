-- What a certificate's document keeps: the shape of its lists and the ranges of its numbers (this product's own).
use Rattle.std.specs.Prelude.{◌≡◌, ℕ, ◌+◌, ◌*◌, ◌/◌, ◌^◌, ◌≤◌, ℤ, pos, ◌≤ℤ◌, IsTrue, List, length, slice_index}
use Rattle.std.specs.Prelude.{slice_index_or, unsigned_abs, EachIndex}
use Rattle.line_form.specs.Name.{is_name}
use Rattle.denton_parts.specs.Year.{IsIndicator, IsBenchmark, IsMultiplier}
use Rattle.denton_parts.specs.Years.{ArePlaces}

-- a quarter's value is within 10^16 times its indicator, at the scale 10^k
abbrev pub IsQuarterValue : ℕ → ℕ → ℤ → Type 0
IsQuarterValue k indicator value = unsigned_abs value ≤ 10 ^ 16 * indicator / 10 ^ k

-- quarters with a gap: at most 512, a value for each indicator, all in range at the scale 10^k
pub record AreQuarters (k : ℕ) (indicators : List ℕ) (values : List ℤ) : Type 0 where
  pub scale_in_range : k ≤ 15
  pub most : length indicators ≤ 512
  pub same_length : length values ≡ length indicators
  pub each_indicator : EachIndex indicators (λ t. IsIndicator (slice_index indicators t))
  pub each_value : EachIndex indicators (λ t.
      IsQuarterValue k (slice_index indicators t) (slice_index_or values t (pos 0)))

-- each multiplier is in range
abbrev pub AreMultipliers : List ℤ → Type 0
AreMultipliers multipliers = EachIndex multipliers (λ y. IsMultiplier (slice_index_or multipliers y (pos 0)))

-- a document: a leaf's name, a front, a scale and a start year in range, at most 256 quarters, at least one benchmarked
-- year, each at a place counted from the start year with its four quarters and behind the one before, and a multiplier
-- between each two
pub record IsDocument (name : List ℕ) (front k start : ℕ) (places indicators : List ℕ)
    (benchmarks values multipliers : List ℤ) (gap : ℤ) : Type 0 where
  pub named : IsTrue (is_name name)
  pub front_in_range : front ≤ 262144
  pub first_start : 1900 ≤ start
  pub last_start : start ≤ 2200
  pub quarters : AreQuarters k indicators values
  pub few : length indicators ≤ 256
  pub some_year : 1 ≤ length benchmarks
  pub placed : length places ≡ length benchmarks
  pub whole_years : ArePlaces (length indicators) places
  pub joints : length multipliers + 1 ≡ length benchmarks
  pub each_benchmark : EachIndex benchmarks (λ y. IsBenchmark (slice_index_or benchmarks y (pos 0)))
  pub each_multiplier : AreMultipliers multipliers
  pub least_gap : pos 0 ≤ℤ gap
  pub most_gap : gap ≤ℤ pos (10 ^ 36)
