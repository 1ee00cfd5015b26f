-- Years as parts of a run of quarters.
use Rattle.std.specs.Prelude.{◌≡◌, ℕ, ◌+◌, ◌-◌, ◌*◌, ◌≤◌, ◌<◌, nat_lt, ℤ, pos, List, [], ◌∷◌, ◌++◌, length, slice_index}
use Rattle.std.specs.Prelude.{unsigned_abs, if◌then◌else◌}
use Rattle.ratio_arith.specs.Division.{floor_of, ceil_of}
use Rattle.denton_parts.specs.Changes.{Fraction, steady, change_in_year}
use Rattle.denton_parts.specs.Year.{BenchmarkedYear}
use Rattle.denton_parts.specs.declared.quotient.Quotient.{Quotient}

-- the change into a quarter of the run, from the multiplier before these years and those after each on: before a year
-- the multiplier that stands there, in it the year's own change, and behind it the change of the years that follow
abbrev pub change_among : ℤ → List BenchmarkedYear → List ℤ → ℕ → Fraction
change_among left (year ∷ years) (right ∷ rights) quarter =
    if nat_lt quarter (4 * year.place) then steady left
    else if nat_lt quarter (4 * year.place + 4)
    then change_in_year year.indicators left right (quarter - 4 * year.place)
    else change_among right years rights quarter
change_among left _ _ quarter = steady left

-- the change into a quarter of the run: no multiplier stands before the first year and after the last
abbrev pub change_at_quarter : List BenchmarkedYear → List ℤ → ℕ → Fraction
change_at_quarter years multipliers quarter = change_among (pos 0) years (multipliers ++ pos 0 ∷ []) quarter

-- so many of the years of these places end before a quarter, and no others
pub record AreEnded (places : List ℕ) (ended quarter : ℕ) : Type 0 where
  pub most : ended ≤ length places
  pub each : (y : ℕ) → y < ended → 4 * slice_index places y + 4 ≤ quarter
  pub next : ended < length places → quarter < 4 * slice_index places ended + 4

-- the floor and the ceiling of n/d
abbrev pub AreBoundsOf : ℤ → ℤ → Quotient → Type 0
AreBoundsOf n d bounds = (bounds.floor ≡ floor_of n d) × (bounds.ceiling ≡ ceil_of n d)

-- both are within m
abbrev pub AreWithin : ℕ → Quotient → Type 0
AreWithin m bounds = (unsigned_abs bounds.floor ≤ m) × (unsigned_abs bounds.ceiling ≤ m)
