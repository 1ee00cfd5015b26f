-- Benchmarked years where they stand: the years that parts show at places, the years of a run of quarters, and the
-- reach of a value (the ranges and the reach are this product's own).
use Rattle.std.specs.Prelude.{◌≡◌, ℕ, suc, ◌+◌, ◌*◌, ◌^◌, ◌≤◌, ℤ, List, [], ◌∷◌, map, length, slice_index, unsigned_abs}
use Rattle.std.specs.List.{All}
use Rattle.std.specs.List.Sorted.{IsStrictlyIncreasing}
use Rattle.denton_parts.specs.Year.{BenchmarkedYear}
use Rattle.denton_parts.specs.declared.year.YearPart.{YearPart}

-- the year that a part shows at a place
abbrev pub year_in : ℕ → YearPart → BenchmarkedYear
year_in place part = record { place = place; indicators = part.ind; benchmark = part.bench }

-- the years that parts show at these places
abbrev pub years_in : List ℕ → List YearPart → List BenchmarkedYear
years_in (place ∷ places) (part ∷ parts) = year_in place part ∷ years_in places parts
years_in _ _ = []

-- the places of years, from the first one's on: between each and the next so many years miss a benchmark
abbrev pub places_apart : ℕ → List ℕ → List ℕ
places_apart first [] = first ∷ []
places_apart first (missing ∷ more) = first ∷ places_apart (suc (first + missing)) more

-- the years that parts show, from a first place on, so many years apart
abbrev pub years_apart : ℕ → List ℕ → List YearPart → List BenchmarkedYear
years_apart first missing parts = years_in (places_apart first missing) parts

-- what is so of the years that parts show, wherever they stand
abbrev pub Wherever : List YearPart → (List BenchmarkedYear → Type 0) → Type 0
Wherever parts P = (places : List ℕ) → length places ≡ length parts → P (years_in places parts)

-- the indicators of the four quarters of the year at a place of a run
abbrev pub quarters_at : List ℕ → ℕ → List ℕ
quarters_at indicators place =
    slice_index indicators (4 * place) ∷ slice_index indicators (4 * place + 1)
    ∷ slice_index indicators (4 * place + 2) ∷ slice_index indicators (4 * place + 3) ∷ []

-- the year at a place of a run, with a benchmark
abbrev pub year_at : List ℕ → ℕ → ℤ → BenchmarkedYear
year_at indicators place benchmark =
    record { place = place; indicators = quarters_at indicators place; benchmark = benchmark }

-- the years at these places of a run, with these benchmarks
abbrev pub years_at : List ℕ → List ℕ → List ℤ → List BenchmarkedYear
years_at indicators (place ∷ places) (benchmark ∷ benchmarks) =
    year_at indicators place benchmark ∷ years_at indicators places benchmarks
years_at indicators _ _ = []

-- places of years of so many quarters: they rise, and each year has its four quarters
pub record ArePlaces (quarters : ℕ) (places : List ℕ) : Type 0 where
  pub rising : IsStrictlyIncreasing places
  pub whole_years : All (λ place. 4 * place + 4 ≤ quarters) places

-- the years are years of a run of quarters, one after the other: each has its four quarters there, and their indicators
pub record AreYearsOf (indicators : List ℕ) (years : List BenchmarkedYear) : Type 0 where
  pub places : ArePlaces (length indicators) (map (λ year. year.place) years)
  pub own : All (λ year. year.indicators ≡ quarters_at indicators year.place) years

-- the indicators of the parts' quarters
abbrev pub indicators_of : List YearPart → List ℕ
indicators_of [] = []
indicators_of (part ∷ parts) =
    slice_index part.ind 0 ∷ slice_index part.ind 1 ∷ slice_index part.ind 2 ∷ slice_index part.ind 3
    ∷ indicators_of parts

-- a value's ratio to its indicator, in units of 1 over 10^k, is within 10^16
abbrev pub IsInReach : ℕ → ℕ → ℤ → Type 0
IsInReach k indicator value = 10 ^ k * unsigned_abs value ≤ 10 ^ 16 * indicator
