-- The multipliers: what a sweep over the joints between benchmarked years makes of them (this product's own way to the
-- proportional solution of the IMF Quarterly National Accounts Manual 2017, chapter 6).
use Rattle.std.specs.Prelude.{◌≡◌, ◌⊎◌, ℕ, zero, suc, ◌+◌, ◌*◌, ◌^◌, ◌≤◌, ℤ, pos, ◌+ℤ◌, ◌-ℤ◌, ◌*ℤ◌, neg_ℤ, ◌-◌, List}
use Rattle.std.specs.Prelude.{[], ◌∷◌, length, replicate, slice_index}
use Rattle.std.specs.Int.{int_min, int_max}
use Rattle.ratio_arith.specs.Division.{floor_of, ceil_of}
use Rattle.denton_parts.specs.Level.{ratio_floor}
use Rattle.denton_parts.specs.Ratios.{square}
use Rattle.denton_parts.specs.Year.{BenchmarkedYear, year_sum, sums_before}

-- how many changes lead from a year's last quarter to the first of the next benchmarked year: one, and four more for
-- each year between them, which misses a benchmark
abbrev pub width_of : BenchmarkedYear → BenchmarkedYear → ℕ
width_of year next = 1 + 4 * (next.place - suc year.place)

-- the residual of the joint between two years: how far the step of the ratio, from the one year's last quarter to the
-- other's first, is from the joint's multiplier at each change between them
abbrev pub residual_of : ℕ → BenchmarkedYear → BenchmarkedYear → ℤ → ℤ → ℤ → ℤ
residual_of k year next before own after =
    ratio_floor k next own after 0 -ℤ ratio_floor k year before own 3 -ℤ pos (width_of year next) *ℤ own

-- a thousand times the square of a part over the square of its whole, rounded up
abbrev pub thousandths : ℤ → ℤ → ℤ
thousandths part whole = ceil_of (pos 1000 *ℤ square part) (square whole)

-- the sum of the indicators before a quarter of the year
abbrev pub before_quarter : BenchmarkedYear → ℕ → ℤ
before_quarter year quarter = pos (slice_index (sums_before year.indicators) quarter)

-- the sum of the indicators of the year from a quarter on
abbrev pub from_quarter : BenchmarkedYear → ℕ → ℤ
from_quarter year quarter = pos (year_sum year.indicators) -ℤ before_quarter year quarter

-- the thousandths of the year before a joint
abbrev pub weight_behind : BenchmarkedYear → ℤ
weight_behind year =
    thousandths (before_quarter year 1) (pos (year_sum year.indicators))
    +ℤ thousandths (before_quarter year 2) (pos (year_sum year.indicators))
    +ℤ thousandths (before_quarter year 3) (pos (year_sum year.indicators))

-- and of the year after it
abbrev pub weight_ahead : BenchmarkedYear → ℤ
weight_ahead next =
    thousandths (from_quarter next 1) (pos (year_sum next.indicators))
    +ℤ thousandths (from_quarter next 2) (pos (year_sum next.indicators))
    +ℤ thousandths (from_quarter next 3) (pos (year_sum next.indicators))

-- the weight of a joint, in thousandths: by how much its residual falls where its multiplier rises by 1
abbrev pub weight_of : BenchmarkedYear → BenchmarkedYear → ℤ
weight_of year next = pos 1000 *ℤ pos (width_of year next) +ℤ weight_behind year +ℤ weight_ahead next

-- the joint's multiplier moved by its residual over its weight
abbrev pub moved_of : ℕ → BenchmarkedYear → BenchmarkedYear → ℤ → ℤ → ℤ → ℤ
moved_of k year next before own after =
    own +ℤ floor_of (pos 1000 *ℤ residual_of k year next before own after) (weight_of year next)

-- a multiplier cut to 10^15 where it passes that on either side
abbrev pub cut_of : ℤ → ℤ
cut_of moved = int_max (neg_ℤ (pos (10 ^ 15))) (int_min moved (pos (10 ^ 15)))

-- the first number of a list, 0 where there is none
abbrev pub first_of : List ℤ → ℤ
first_of [] = pos 0
first_of (number ∷ numbers) = number

-- a sweep from a year on, with the multiplier before it: each joint's multiplier moves by the residual that the
-- multipliers before the sweep leave
abbrev pub sweep_from : ℕ → ℤ → BenchmarkedYear → List BenchmarkedYear → List ℤ → List ℤ
sweep_from k before year (next ∷ years) (own ∷ multipliers) =
    cut_of (moved_of k year next before own (first_of multipliers)) ∷ sweep_from k own next years multipliers
sweep_from k before year _ _ = []

-- a sweep over the joints of a run of years, with the multiplier before the first of them
abbrev pub sweep_after : ℕ → ℤ → List BenchmarkedYear → List ℤ → List ℤ
sweep_after k before [] multipliers = []
sweep_after k before (year ∷ years) multipliers = sweep_from k before year years multipliers

-- a sweep over all joints: the multipliers stand between the benchmarked years, and 0 stands before the first and after
-- the last
unfoldable pub sweep_of : ℕ → List BenchmarkedYear → List ℤ → List ℤ
sweep_of k years multipliers = sweep_after k (pos 0) years multipliers

-- a function applied a number of times
unfoldable pub iterated : ℕ → (List ℤ → List ℤ) → List ℤ → List ℤ
iterated zero f numbers = numbers
iterated (suc n) f numbers = f (iterated n f numbers)

-- no multiplier but 0 at any joint
abbrev pub no_multipliers : List BenchmarkedYear → List ℤ
no_multipliers years = replicate (length years - 1) (pos 0)

-- the multipliers after so many sweeps from 0
abbrev pub swept : ℕ → List BenchmarkedYear → ℕ → List ℤ
swept k years sweeps = iterated sweeps (sweep_of k years) (no_multipliers years)

-- the multipliers: those after 192 sweeps
unfoldable pub multipliers_of : ℕ → List BenchmarkedYear → List ℤ
multipliers_of k years = swept k years 192

-- so many sweeps are enough: there are no more than 192, and after one that leaves the multipliers as they were none
-- changes them
abbrev pub IsEnough : ℕ → List BenchmarkedYear → ℕ → Type 0
IsEnough k years sweeps = (sweeps ≡ 192) ⊎ ((1 ≤ sweeps) × (swept k years sweeps ≡ swept k years (sweeps - 1)))
