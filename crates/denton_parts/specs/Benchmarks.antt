-- The benchmark constraint of proportional benchmarking (IMF Quarterly National Accounts Manual 2017, chapter 6).
use Rattle.std.specs.Prelude.{◌≡◌, ℕ, ◌+◌, ◌*◌, ◌≤◌, ℤ, pos, ◌+ℤ◌, ◌*ℤ◌, List, length, slice_index_or}
use Rattle.std.specs.List.{All}
use Rattle.denton_parts.specs.Year.{BenchmarkedYear}

-- the sum of the four quarters of the year at a place
abbrev pub year_total : List ℤ → ℕ → ℤ
year_total quarters place =
    slice_index_or quarters (4 * place) (pos 0) +ℤ slice_index_or quarters (4 * place + 1) (pos 0)
    +ℤ slice_index_or quarters (4 * place + 2) (pos 0) +ℤ slice_index_or quarters (4 * place + 3) (pos 0)

-- the year at a place has its four quarters, and they add up to a total
abbrev pub AddsUpTo : ℤ → List ℤ → ℕ → Type 0
AddsUpTo total quarters place = (4 * place + 4 ≤ length quarters) × (year_total quarters place ≡ total)

-- in each benchmarked year the four quarters add up to n times the benchmark: a series of fractions with the
-- denominator n, given by its numerators, meets the benchmarks. Other years have no say
abbrev pub MeetsBenchmarks : List BenchmarkedYear → ℤ → List ℤ → Type 0
MeetsBenchmarks years n quarters = All (λ year. AddsUpTo (n *ℤ year.benchmark) quarters year.place) years
