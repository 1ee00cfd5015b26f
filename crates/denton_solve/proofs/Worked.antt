-- The definitions computed on worked examples.
use Rattle.std.specs.Prelude.{◌≡◌, ℕ, ℤ, pos, neg_ℤ, List, [], ◌∷◌}
use Rattle.std.proofs.Common.{refl}
use Rattle.sum_rounding.specs.ShareOut.{share_of}
use Rattle.denton_parts.specs.Scale.{greatest_up_to, scale_of_years}
use Rattle.denton_parts.specs.Year.{BenchmarkedYear}
use Rattle.denton_solve.specs.Series.{series_of}
use Rattle.denton_solve.specs.Sweeps.{sweep_of, iterated, multipliers_of}

-- a year at a place, with the indicator 100 in each quarter
abbrev hundreds : ℕ → ℤ → BenchmarkedYear
hundreds place benchmark =
    record { place = place; indicators = 100 ∷ 100 ∷ 100 ∷ 100 ∷ []; benchmark = benchmark }

-- two such years with the benchmarks 1000 and 1400
abbrev two_years : List BenchmarkedYear
two_years = hundreds 0 (pos 1000) ∷ hundreds 1 (pos 1400) ∷ []

scale : scale_of_years two_years ≡ 12
unfolding greatest_up_to
scale = refl

first_sweep : iterated 1 (sweep_of 12 two_years) (pos 0 ∷ []) ≡ pos 363372093023 ∷ []
unfolding iterated sweep_of
first_sweep = refl

second_sweep : iterated 2 (sweep_of 12 two_years) (pos 0 ∷ []) ≡ pos 363636171579 ∷ []
unfolding iterated sweep_of
second_sweep = refl

third_sweep : iterated 3 (sweep_of 12 two_years) (pos 0 ∷ []) ≡ pos 363636363497 ∷ []
unfolding iterated sweep_of
third_sweep = refl

fourth_sweep : iterated 4 (sweep_of 12 two_years) (pos 0 ∷ []) ≡ pos 363636363636 ∷ []
unfolding iterated sweep_of
fourth_sweep = refl

multipliers : multipliers_of 12 two_years ≡ pos 363636363636 ∷ []
unfolding multipliers_of iterated sweep_of
multipliers = refl

-- the values of the two years
values : series_of 12 two_years (pos 363636363636 ∷ [])
    ≡ pos 227 ∷ pos 236 ∷ pos 255 ∷ pos 282 ∷ pos 318 ∷ pos 345 ∷ pos 364 ∷ pos 373 ∷ []
unfolding series_of share_of
values = refl

-- the same benchmarks, with a year between them that misses its own: the joint spans five changes
abbrev years_apart : List BenchmarkedYear
years_apart = hundreds 3 (pos 1000) ∷ hundreds 5 (pos 1400) ∷ []

multipliers_apart : multipliers_of 12 years_apart ≡ pos 148148148148 ∷ []
unfolding multipliers_of iterated sweep_of
multipliers_apart = refl

values_apart : series_of 12 years_apart (pos 148148148148 ∷ [])
    ≡ pos 241 ∷ pos 244 ∷ pos 252 ∷ pos 263 ∷ pos 337 ∷ pos 348 ∷ pos 356 ∷ pos 359 ∷ []
unfolding series_of share_of
values_apart = refl

-- years whose indicators are the least and the greatest that there are
abbrev least_year : BenchmarkedYear
least_year = record { place = 0; indicators = 1 ∷ 1 ∷ 1 ∷ 1 ∷ []; benchmark = pos 1000000000000 }

abbrev greatest_year : BenchmarkedYear
greatest_year = record {
  place = 1;
  indicators = 1000000000 ∷ 1000000000 ∷ 1000000000 ∷ 1000000000 ∷ [];
  benchmark = pos 1000000000000;
}

far_apart : List BenchmarkedYear
far_apart = least_year ∷ greatest_year ∷ []

far_scale : scale_of_years far_apart ≡ 1
unfolding far_apart greatest_up_to
far_scale = refl

far_multipliers : multipliers_of 1 far_apart ≡ neg_ℤ (pos 909090908182) ∷ []
unfolding far_apart multipliers_of iterated sweep_of
far_multipliers = refl

far_values : series_of 1 far_apart (neg_ℤ (pos 909090908182) ∷ [])
    ≡ pos 306818181761 ∷ pos 284090909057 ∷ pos 238636363648 ∷ pos 170454545534 ∷ pos 79545454715975000000
    ∷ pos 11363636602275000000 ∷ neg_ℤ (pos 34090908806825000000) ∷ neg_ℤ (pos 56818181511425000000) ∷ []
unfolding far_apart series_of share_of
far_values = refl
