-- The ratio changes that multipliers fix: those that satisfy the dual conditions of proportional benchmarking (IMF
-- Quarterly National Accounts Manual 2017, chapter 6).
use Rattle.std.specs.Prelude.{ℕ, suc, ◌==◌, ℤ, pos, ◌+ℤ◌, ◌-ℤ◌, ◌*ℤ◌, List, [], ◌∷◌, ◌++◌, map, slice_index}
use Rattle.std.specs.Prelude.{if◌then◌else◌}
use Rattle.denton_parts.specs.Year.{BenchmarkedYear, year_sum, sums_before}

-- a fraction that is never rounded: each use takes its floor or its ceiling
pub record Fraction : Type 0 where
  pub numerator : ℤ
  pub denominator : ℤ

-- the change into a quarter of a year with this indicator sum, of which the part `before` stands before the quarter:
-- the multipliers on the year's two sides, weighed by the year's other part and this one
abbrev pub change_of : ℤ → ℤ → ℕ → ℕ → Fraction
change_of left right sum before = record {
  numerator = left *ℤ (pos sum -ℤ pos before) +ℤ right *ℤ pos before;
  denominator = pos sum;
}

-- the change into a quarter of the year, from 0 to 3, between the multipliers before and after the year
abbrev pub change_in_year : List ℕ → ℤ → ℤ → ℕ → Fraction
change_in_year indicators left right quarter =
    change_of left right (year_sum indicators) (slice_index (sums_before indicators) quarter)

-- the change into a quarter of no benchmarked year: the multiplier that stands there
abbrev pub steady : ℤ → Fraction
steady multiplier = record { numerator = multiplier; denominator = pos 1 }

-- no change
abbrev pub no_change : Fraction
no_change = steady (pos 0)

-- the changes from the first quarter of the year at a place on, behind a multiplier, with the benchmarked years to come
-- and the multipliers after each: within a benchmarked year they go over from the multiplier before it to the one after
-- it, and in every other quarter they are the multiplier that stands there
abbrev pub changes_from : ℕ → ℤ → List BenchmarkedYear → List ℤ → List ℕ → List Fraction
changes_from place left (year ∷ years) (right ∷ rights) (i0 ∷ i1 ∷ i2 ∷ i3 ∷ indicators) =
    if year.place == place
    then (change_in_year year.indicators left right 0 ∷ change_in_year year.indicators left right 1
    ∷ change_in_year year.indicators left right 2 ∷ change_in_year year.indicators left right 3
    ∷ changes_from (suc place) right years rights indicators)
    else (steady left ∷ steady left ∷ steady left ∷ steady left
    ∷ changes_from (suc place) left (year ∷ years) (right ∷ rights) indicators)
changes_from place left _ _ indicators = map (λ i. steady left) indicators

-- the changes of all quarters of a run: the multipliers stand between the benchmarked years, and 0 stands before the
-- first and after the last of them
abbrev pub changes : List BenchmarkedYear → List ℤ → List ℕ → List Fraction
changes years multipliers indicators = changes_from 0 (pos 0) years (multipliers ++ pos 0 ∷ []) indicators
