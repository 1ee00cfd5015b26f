-- The sums of the benchmarked years, year by year.
use Rattle.std.specs.Prelude.{◌≡◌, ℕ, ◌<◌, ℤ, List}
use Rattle.std.specs.List.{All, Any}
use Rattle.denton_parts.specs.Benchmarks.{AddsUpTo}
use Rattle.denton_parts.specs.Year.{BenchmarkedYear}

-- the year's four quarters add up to its benchmark
abbrev pub AddsUp : List ℤ → BenchmarkedYear → Type 0
AddsUp quarters year = AddsUpTo year.benchmark quarters year.place

-- the place is that of the first of the years whose quarters don't add up to its benchmark
pub record IsFirstMissed (years : List BenchmarkedYear) (quarters : List ℤ) (place : ℕ) : Type 0 where
  pub missed : Any (λ year. (year.place ≡ place) × (¬ (AddsUp quarters year))) years
  pub earlier : All (λ year. year.place < place → AddsUp quarters year) years
