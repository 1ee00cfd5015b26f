-- The definitions computed on worked examples.
use Rattle.std.specs.Prelude.{◌≡◌, ℤ, pos, neg_ℤ, [], ◌∷◌}
use Rattle.std.proofs.Common.{refl}
use Rattle.denton_parts.specs.Year.{BenchmarkedYear}
use Rattle.extrapolate.specs.Carried.{carried, carried_back, across_of}

-- a year with the indicator 100 in each quarter
abbrev hundreds : ℤ → BenchmarkedYear
hundreds benchmark = record { place = 0; indicators = 100 ∷ 100 ∷ 100 ∷ 100 ∷ []; benchmark = benchmark }

-- the quarter after a year that rises, by a multiplier before it
after_a_step : carried 12 (hundreds (pos 1400)) (pos 363636363636) 110 ≡ pos 410
after_a_step = refl

-- the quarter after an only year
after_one_year : carried 12 (hundreds (pos 1000)) (pos 0) 110 ≡ pos 275
after_one_year = refl

-- the quarter before a year that rises, by a multiplier after it
before_a_step : carried_back 12 (hundreds (pos 1000)) (pos 363636363636) 110 ≡ pos 250
before_a_step = refl

-- a half goes up, below zero too
half : carried 12 (hundreds (pos 1000)) (pos 0) 1 ≡ pos 3
half = refl

half_below_zero : carried 12 (hundreds (neg_ℤ (pos 1000))) (pos 0) 1 ≡ neg_ℤ (pos 2)
half_below_zero = refl

-- between two years the ratio goes in even steps from that with which the one ends to that with which the other begins
a_year_between : across_of 12 (hundreds (pos 1000)) (hundreds (pos 1400)) (pos 0) (pos 148148148148) (pos 0)
    (100 ∷ 100 ∷ 100 ∷ 100 ∷ []) ≡ pos 278 ∷ pos 293 ∷ pos 307 ∷ pos 322 ∷ []
unfolding across_of
a_year_between = refl
