-- The scaled levels of a year's ratio (this product's own form of the proportional solution of chapter 6).
use Rattle.std.specs.Prelude.{◌≡◌, ℕ, ◌^◌, ℤ, pos, ◌+ℤ◌, ◌-ℤ◌, ◌*ℤ◌, List, [], ◌∷◌, slice_index, slice_index_or}
use Rattle.ratio_arith.specs.Division.{floor_of}
use Rattle.denton_parts.specs.Changes.{change_in_year}
use Rattle.denton_parts.specs.Year.{BenchmarkedYear, year_sum}

-- the floor of the change into a quarter of the year
abbrev pub floored_change : List ℕ → ℤ → ℤ → ℕ → ℤ
floored_change indicators left right quarter =
    floor_of (change_in_year indicators left right quarter).numerator
    (change_in_year indicators left right quarter).denominator

-- for each of the four quarters, how far its ratio stands above that of the year's first: the sum of the floored
-- changes up to it
abbrev pub rises : List ℕ → ℤ → ℤ → List ℤ
rises indicators left right =
    pos 0 ∷ floored_change indicators left right 1
    ∷ (floored_change indicators left right 1 +ℤ floored_change indicators left right 2)
    ∷ (floored_change indicators left right 1 +ℤ floored_change indicators left right 2
    +ℤ floored_change indicators left right 3) ∷ []

-- the rises weighed by the indicators
abbrev pub weighed_rises : List ℕ → ℤ → ℤ → ℤ
weighed_rises indicators left right =
    pos (slice_index indicators 1) *ℤ slice_index_or (rises indicators left right) 1 (pos 0)
    +ℤ pos (slice_index indicators 2) *ℤ slice_index_or (rises indicators left right) 2 (pos 0)
    +ℤ pos (slice_index indicators 3) *ℤ slice_index_or (rises indicators left right) 3 (pos 0)

-- a quarter's level: its ratio times the scale and the year's indicator sum
abbrev pub level_of : List ℕ → ℤ → ℕ → ℤ → ℤ → ℕ → ℤ
level_of indicators benchmark k left right quarter =
    pos (10 ^ k) *ℤ benchmark -ℤ weighed_rises indicators left right
    +ℤ pos (year_sum indicators) *ℤ slice_index_or (rises indicators left right) quarter (pos 0)

-- the level of a quarter of a benchmarked year
abbrev pub level_in : ℕ → BenchmarkedYear → ℤ → ℤ → ℕ → ℤ
level_in k year left right quarter = level_of year.indicators year.benchmark k left right quarter

-- what the year's levels are counted in: the scale times the sum of its indicators
abbrev pub level_unit : ℕ → BenchmarkedYear → ℤ
level_unit k year = pos (10 ^ k) *ℤ pos (year_sum year.indicators)

-- the floor of a quarter's benchmark-to-indicator ratio, in units of 1 over the scale 10^k
abbrev pub ratio_floor : ℕ → BenchmarkedYear → ℤ → ℤ → ℕ → ℤ
ratio_floor k year left right quarter = floor_of (level_in k year left right quarter) (pos (year_sum year.indicators))

-- a quarter's indicator times its level
abbrev pub weighed_level : List ℕ → ℤ → ℕ → ℤ → ℤ → ℕ → ℤ
weighed_level indicators benchmark k left right quarter =
    pos (slice_index indicators quarter) *ℤ level_of indicators benchmark k left right quarter

-- the law that a year's levels keep its benchmark, whatever the multipliers: its four indicators times their levels add
-- up to the scale times the sum of the indicators times the benchmark
abbrev pub LevelsAddUp : Type 0
LevelsAddUp = (indicators : List ℕ) (benchmark : ℤ) (k : ℕ) (left right : ℤ) →
    weighed_level indicators benchmark k left right 0 +ℤ weighed_level indicators benchmark k left right 1
    +ℤ weighed_level indicators benchmark k left right 2 +ℤ weighed_level indicators benchmark k left right 3
    ≡ (pos (10 ^ k) *ℤ pos (year_sum indicators)) *ℤ benchmark
