-- The definitions computed on worked examples: years with the indicator 100 and the benchmarks 1000 and 1400.
use Rattle.std.specs.Prelude.{◌≡◌, ℕ, ◌+◌, ◌*◌, ◌^◌, ℤ, pos, ◌*ℤ◌, List, [], ◌∷◌, take, drop}
use Rattle.std.proofs.Common.{refl, arith}
use Rattle.std.proofs.lemmas.List.Elements.{All-nil, All-cons}
use Rattle.denton_parts.specs.Benchmarks.{MeetsBenchmarks, AddsUpTo}
use Rattle.denton_parts.specs.Changes.{Fraction, changes, steady, no_change}
use Rattle.denton_parts.specs.Gap.{distance_of, gap_by}
use Rattle.denton_parts.specs.Limit.{limit_of}
use Rattle.denton_parts.specs.Year.{BenchmarkedYear}

indicators : List ℕ
indicators = 100 ∷ 100 ∷ 100 ∷ 100 ∷ 100 ∷ 100 ∷ 100 ∷ 100 ∷ []

quarters : List ℤ
quarters = pos 227 ∷ pos 236 ∷ pos 255 ∷ pos 282 ∷ pos 318 ∷ pos 345 ∷ pos 364 ∷ pos 373 ∷ []

multipliers : List ℤ
multipliers = pos 363636363636 ∷ []

scale : ℤ
scale = pos 1000000000000

-- a year of these indicators at a place
abbrev year : ℕ → ℤ → BenchmarkedYear
year place benchmark =
    record { place = place; indicators = 100 ∷ 100 ∷ 100 ∷ 100 ∷ []; benchmark = benchmark }

-- two years that follow one another
abbrev years : List BenchmarkedYear
years = year 0 (pos 1000) ∷ year 1 (pos 1400) ∷ []

-- the same benchmarks, with a year between them that misses its own
abbrev years_apart : List BenchmarkedYear
years_apart = year 0 (pos 1000) ∷ year 2 (pos 1400) ∷ []

-- a benchmark of the second year alone
abbrev later_year : List BenchmarkedYear
later_year = year 1 (pos 1400) ∷ []

-- two years are met where each is
both : (a b : BenchmarkedYear) (n : ℤ) (values : List ℤ) → AddsUpTo (n *ℤ a.benchmark) values a.place →
    AddsUpTo (n *ℤ b.benchmark) values b.place → MeetsBenchmarks (a ∷ b ∷ []) n values
both a b n values first second =
    let P : BenchmarkedYear → Type 0 = λ year. AddsUpTo (n *ℤ year.benchmark) values year.place in
    All-cons P a (b ∷ []) first (All-cons P b [] second (All-nil P))

-- the quarters meet the benchmarks
meets : MeetsBenchmarks years (pos 1) quarters
unfolding quarters
meets = both (year 0 (pos 1000)) (year 1 (pos 1400)) (pos 1) quarters (omega arith, refl) (omega arith, refl)

-- in the first and the third of three years too, whatever the second year's quarters are
meets_apart : (a b c d : ℤ) → MeetsBenchmarks years_apart (pos 1)
    (pos 241 ∷ pos 244 ∷ pos 252 ∷ pos 263 ∷ a ∷ b ∷ c ∷ d ∷ pos 337 ∷ pos 348 ∷ pos 356 ∷ pos 359 ∷ [])
meets_apart a b c d =
    both (year 0 (pos 1000)) (year 2 (pos 1400)) (pos 1)
    (pos 241 ∷ pos 244 ∷ pos 252 ∷ pos 263 ∷ a ∷ b ∷ c ∷ d ∷ pos 337 ∷ pos 348 ∷ pos 356 ∷ pos 359 ∷ [])
    (omega arith, refl) (omega arith, refl)

-- the indicators of three years
abbrev hundreds : List ℕ
hundreds = 100 ∷ 100 ∷ 100 ∷ 100 ∷ 100 ∷ 100 ∷ 100 ∷ 100 ∷ 100 ∷ 100 ∷ 100 ∷ 100 ∷ []

-- the changes of a year between them, which misses its benchmark, are the multiplier that stands there
between : (a : ℤ) → take 4 (drop 4 (changes years_apart (a ∷ []) hundreds))
    ≡ steady a ∷ steady a ∷ steady a ∷ steady a ∷ []
between a = refl

-- those before the first benchmarked year and after the last are none
before : take 4 (changes later_year [] hundreds) ≡ no_change ∷ no_change ∷ no_change ∷ no_change ∷ []
before = refl

behind : drop 8 (changes later_year [] hundreds) ≡ no_change ∷ no_change ∷ no_change ∷ no_change ∷ []
behind = refl

-- the distances of the quarters from the second on
abbrev distances_from : ℤ → List ℤ → List Fraction → List ℤ
distances_from x0 (x1 ∷ xs) (c ∷ cs) = distance_of (pos 1000000000000) 100 x0 100 x1 c ∷ distances_from x1 xs cs
distances_from x0 _ _ = []

abbrev later : List Fraction → List Fraction
later (c ∷ cs) = cs
later [] = []

distances : distances_from (pos 227) (pos 236 ∷ pos 255 ∷ pos 282 ∷ pos 318 ∷ pos 345 ∷ pos 364 ∷ pos 373 ∷ [])
    (later (changes years multipliers indicators)) ≡ pos 909090909 ∷ pos 8181818182 ∷ pos 2727272727 ∷ pos 3636363636
    ∷ pos 2727272727 ∷ pos 8181818182 ∷ pos 909090909 ∷ []
unfolding indicators multipliers
distances = refl

-- their gap
gap : gap_by scale indicators quarters (changes years multipliers indicators) ≡ pos 163636363636363636364
unfolding scale indicators quarters multipliers
gap = refl

-- the distribution by annual ratios, without a step inside the years: a true and large gap
gap_of_annual_ratios : gap_by scale indicators (pos 250 ∷ pos 250 ∷ pos 250 ∷ pos 250 ∷ pos 350 ∷ pos 350 ∷ pos 350
    ∷ pos 350 ∷ []) (changes years (pos 0 ∷ []) indicators) ≡ pos 1000000000000000000000000
unfolding scale indicators
gap_of_annual_ratios = refl

-- a year with the indicator 1 in each quarter and the benchmark 10: its gap, and the limit for it
abbrev ones : List ℕ
ones = 1 ∷ 1 ∷ 1 ∷ 1 ∷ []

abbrev year_of_ones : List BenchmarkedYear
year_of_ones = record { place = 0; indicators = ones; benchmark = pos 10 } ∷ []

gap_of_ones : gap_by scale ones (pos 3 ∷ pos 3 ∷ pos 2 ∷ pos 2 ∷ []) (changes year_of_ones [] ones) ≡ pos (10 ^ 24)
unfolding scale
gap_of_ones = refl

limit_of_ones : limit_of scale ones ≡ pos (3 * (2 * 10 ^ 12 + 1024) ^ 2)
unfolding scale
limit_of_ones = refl
