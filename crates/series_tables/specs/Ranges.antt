-- The values that tables and a leaf's input may hold.
use Rattle.std.specs.Prelude.{ℕ, ℤ, pos, neg_ℤ, ◌≤◌, ◌≤ℤ◌, ◌^◌, ◌≡◌, ◌*◌, List, length, Option, All}
use Rattle.std.specs.Option.{ForSome}

-- an indicator or a price in range
abbrev pub IsPositiveInRange : ℕ → Type 0
IsPositiveInRange value = (1 ≤ value) × (value ≤ 10 ^ 9)

-- a benchmark in range
abbrev pub IsBenchmarkInRange : ℤ → Type 0
IsBenchmarkInRange value = (neg_ℤ (pos (10 ^ 12)) ≤ℤ value) × (value ≤ℤ pos (10 ^ 12))

-- an indicator or a price in range, or none
abbrev pub IsPositiveOrNone : Option ℕ → Type 0
IsPositiveOrNone cell = ForSome cell IsPositiveInRange

-- a benchmark in range, or none
abbrev pub IsBenchmarkOrNone : Option ℤ → Type 0
IsBenchmarkOrNone cell = ForSome cell IsBenchmarkInRange

-- rows for so many items, each value in range
pub record AreRows (items : ℕ) (indicators prices : List (Option ℕ)) (benchmarks : List (Option ℤ)) : Type 0 where
  pub few : items ≤ 512
  pub quarters : length indicators ≡ items * 256
  pub priced : length prices ≡ items * 256
  pub years : length benchmarks ≡ items * 64
  pub indicators_in_range : All IsPositiveOrNone indicators
  pub prices_in_range : All IsPositiveOrNone prices
  pub benchmarks_in_range : All IsBenchmarkOrNone benchmarks
