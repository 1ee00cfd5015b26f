-- The quarters outside the benchmarked years: before the first and after the last of them its ratio is carried on (IMF
-- Quarterly National Accounts Manual 2017, chapter 6), and between two of them the ratio goes in even steps from the
-- one to the other. The rounding is this product's own.
use Rattle.std.specs.Prelude.{ℕ, suc, ◌^◌, ℤ, pos, ◌+ℤ◌, ◌-ℤ◌, ◌*ℤ◌, List, [], ◌∷◌, map, length}
use Rattle.ratio_arith.specs.Division.{floor_of, round_of}
use Rattle.denton_parts.specs.Level.{level_in, level_unit, ratio_floor}
use Rattle.denton_parts.specs.Year.{BenchmarkedYear}

-- the value of an indicator at the ratio of a quarter of a benchmarked year, to the nearest whole unit, halves up
abbrev pub at_quarter : ℕ → BenchmarkedYear → ℤ → ℤ → ℕ → ℕ → ℤ
at_quarter k year left right quarter indicator =
    round_of (pos indicator *ℤ level_in k year left right quarter) (level_unit k year)

-- the value that an indicator past the last benchmarked year has: at the ratio with which that year ends. No multiplier
-- stands after it
abbrev pub carried : ℕ → BenchmarkedYear → ℤ → ℕ → ℤ
carried k last left indicator = at_quarter k last left (pos 0) 3 indicator

-- the value that an indicator before the first benchmarked year has: at the ratio with which that year begins. No
-- multiplier stands before it
abbrev pub carried_back : ℕ → BenchmarkedYear → ℤ → ℕ → ℤ
carried_back k first right indicator = at_quarter k first (pos 0) right 0 indicator

-- those values for each indicator
unfoldable pub carried_of : ℕ → BenchmarkedYear → ℤ → List ℕ → List ℤ
carried_of k last left indicators = map (carried k last left) indicators

unfoldable pub carried_back_of : ℕ → BenchmarkedYear → ℤ → List ℕ → List ℤ
carried_back_of k first right indicators = map (carried_back k first right) indicators

-- the ratio at a step of so many from one ratio to another, rounded down, in units of 1 over the scale
abbrev pub ratio_between : ℤ → ℤ → ℕ → ℕ → ℤ
ratio_between from to steps step = from +ℤ floor_of (pos step *ℤ (to -ℤ from)) (pos steps)

-- the values of indicators, from a step on, at the ratios of the steps, to the nearest whole unit, halves up
abbrev pub stepped : ℕ → ℤ → ℤ → ℕ → ℕ → List ℕ → List ℤ
stepped k from to steps step [] = []
stepped k from to steps step (indicator ∷ indicators) =
    round_of (pos indicator *ℤ ratio_between from to steps step) (pos (10 ^ k))
    ∷ stepped k from to steps (suc step) indicators

-- the values of the quarters between two benchmarked years, with the multipliers before the one, between the two and
-- after the other: the ratio goes in even steps from that with which the one ends to that with which the other begins
unfoldable pub across_of : ℕ → BenchmarkedYear → BenchmarkedYear → ℤ → ℤ → ℤ → List ℕ → List ℤ
across_of k left right before own after indicators =
    stepped k (ratio_floor k left before own 3) (ratio_floor k right own after 0) (suc (length indicators)) 1 indicators
