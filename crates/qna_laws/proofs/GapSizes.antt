-- How large a gap is: it is not negative, and each quarter after the first adds at most 10^33.
use Rattle.std.specs.Prelude.{ℕ, ◌+◌, ◌*◌, ◌^◌, ◌≤◌, max, Bool, true, false, ◌==◌, if◌then◌else◌, ℤ, pos}
use Rattle.std.specs.Prelude.{◌+ℤ◌, ◌-ℤ◌, ◌*ℤ◌, ◌≤ℤ◌, ◌<ℤ◌, unsigned_abs, List, [], ◌∷◌, ◌++◌, map, length}
use Rattle.std.specs.Prelude.{slice_index, EachIndex}
use Rattle.std.proofs.Common.{arith, zero, suc, get_or}
use Rattle.std.proofs.lemmas.List.Elements.{All-head, All-tail}
use Rattle.ratio_arith.specs.Division.{floor_of, ceil_of}
use Rattle.ratio_arith.proofs.Floors.{floor_size}
use Rattle.ratio_arith.proofs.Linear.{linear}
use Rattle.denton_parts.specs.Changes.{Fraction, steady, change_of, change_in_year, changes_from, changes}
use Rattle.denton_parts.specs.Gap.{low_of, high_of, gap_from, gap_by}
use Rattle.denton_parts.specs.Year.{BenchmarkedYear, AreIndicators, IsMultiplier, year_sum}
use Rattle.denton_parts.proofs.Places.{IsInRange, AreInRange}
use Rattle.denton_parts.proofs.Sizes.{weighed_within, ceil_size}
use Rattle.dual_cert.specs.Document.{AreQuarters, AreMultipliers}
use Rattle.dual_cert.proofs.Sizes.{square_small, value_reach, ratio_size}

-- the floor and the ceiling of n/d are within m
abbrev AreBothWithin : ℕ → ℤ → ℤ → Type 0
AreBothWithin m n d = (unsigned_abs (floor_of n d) ≤ m) × (unsigned_abs (ceil_of n d) ≤ m)

-- those of each change are within 10^15
abbrev AreChangesWithin : List Fraction → Type 0
AreChangesWithin [] = Unit {0}
AreChangesWithin (change ∷ later) = AreBothWithin (10 ^ 15) change.numerator change.denominator × AreChangesWithin later

-- ---- the changes

change_within : (left right : ℤ) (sum before : ℕ) → IsMultiplier left → IsMultiplier right → 1 ≤ sum → before ≤ sum → AreBothWithin (10 ^ 15) (change_of left right sum before).numerator (change_of left right sum before).denominator
change_within left right sum before first second some part =
    let positive : pos 0 <ℤ pos sum = omega (arith, linear) in
    let bounds = weighed_within left right (pos sum) (pos before) (10 ^ 15) first second (omega (arith, linear)) (omega (arith, linear)) in
    let numerator : ℤ = left *ℤ (pos sum -ℤ pos before) +ℤ right *ℤ pos before in
    (floor_size numerator (pos sum) (10 ^ 15) positive bounds.0 bounds.1, ceil_size numerator (pos sum) (10 ^ 15) positive bounds.0 bounds.1)

steady_within : (left : ℤ) → IsMultiplier left →
    AreBothWithin (10 ^ 15) (steady left).numerator (steady left).denominator
steady_within left first = (
  floor_size left (pos 1) (10 ^ 15) (omega (arith, linear)) (omega (arith, linear)) (omega (arith, linear)),
  ceil_size left (pos 1) (10 ^ 15) (omega (arith, linear)) (omega (arith, linear)) (omega (arith, linear)),
)

all_steady : (left : ℤ) (indicators : List ℕ) → IsMultiplier left → AreChangesWithin (map (λ i. steady left) indicators)
all_steady left [] first = tt
all_steady left (i ∷ is) first = (steady_within left first, all_steady left is first)

-- the changes into a year's four quarters
year_within : (indicators : List ℕ) (left right : ℤ) (later : List Fraction) → AreIndicators indicators →
    IsMultiplier left → IsMultiplier right → AreChangesWithin later →
    AreChangesWithin (change_in_year indicators left right 0 ∷ change_in_year indicators left right 1
    ∷ change_in_year indicators left right 2 ∷ change_in_year indicators left right 3 ∷ later)
year_within indicators left right later are first second rest =
    let least = are.first.0 in
    let i0 : ℕ = slice_index indicators 0 in
    let i1 : ℕ = slice_index indicators 1 in
    let i2 : ℕ = slice_index indicators 2 in
    let i3 : ℕ = slice_index indicators 3 in
    let some : 1 ≤ i0 + i1 + i2 + i3 = omega arith in (
      change_within left right (i0 + i1 + i2 + i3) 0 first second some (omega arith),
      (
        change_within left right (i0 + i1 + i2 + i3) i0 first second some (omega arith),
        (
          change_within left right (i0 + i1 + i2 + i3) (i0 + i1) first second some (omega arith),
          (change_within left right (i0 + i1 + i2 + i3) (i0 + i1 + i2) first second some (omega arith), rest),
        ),
      ),
    )

-- a choice of two lists of changes
chosen_within : (b : Bool) (xs ys : List Fraction) → AreChangesWithin xs → AreChangesWithin ys →
    AreChangesWithin (if b then xs else ys)
chosen_within true xs ys first second = first
chosen_within false xs ys first second = second

changes_from-within : (place : ℕ) (left : ℤ) (years : List BenchmarkedYear) (rights : List ℤ) (indicators : List ℕ) →
    IsMultiplier left → AreMultipliers rights → AreInRange years →
    AreChangesWithin (changes_from place left years rights indicators)
changes_from-within place left [] rights indicators first each range = all_steady left indicators first
changes_from-within place left (year ∷ years) [] indicators first each range = all_steady left indicators first
changes_from-within place left (year ∷ years) (right ∷ rights) [] first each range = tt
changes_from-within place left (year ∷ years) (right ∷ rights) (i0 ∷ []) first each range =
    all_steady left (i0 ∷ []) first
changes_from-within place left (year ∷ years) (right ∷ rights) (i0 ∷ i1 ∷ []) first each range =
    all_steady left (i0 ∷ i1 ∷ []) first
changes_from-within place left (year ∷ years) (right ∷ rights) (i0 ∷ i1 ∷ i2 ∷ []) first each range =
    all_steady left (i0 ∷ i1 ∷ i2 ∷ []) first
changes_from-within place left (year ∷ years) (right ∷ rights) (i0 ∷ i1 ∷ i2 ∷ i3 ∷ is) first each range =
    let second : IsMultiplier right = each 0 (omega arith) in
    let still = steady_within left first in
    let behind : List Fraction = changes_from (suc place) right years rights is in
    let beside : List Fraction = changes_from (suc place) left (year ∷ years) (right ∷ rights) is in
    chosen_within (year.place == place)
    (change_in_year year.indicators left right 0 ∷ change_in_year year.indicators left right 1
    ∷ change_in_year year.indicators left right 2 ∷ change_in_year year.indicators left right 3 ∷ behind)
    (steady left ∷ steady left ∷ steady left ∷ steady left ∷ beside)
    (year_within year.indicators left right behind (All-head IsInRange year years range).0 first second
    (changes_from-within (suc place) right years rights is second (λ y inside. each (suc y) (omega arith))
    (All-tail IsInRange year years range))) (
      still,
      (
        still,
        (
          still,
          (
            still,
            changes_from-within (suc place) left (year ∷ years) (right ∷ rights) is first each range,
          ),
        ),
      ),
    )

-- 0 after the last multiplier is in range too
zero_after : (multipliers : List ℤ) → AreMultipliers multipliers → AreMultipliers (multipliers ++ pos 0 ∷ [])
zero_after [] each zero inside = omega arith
zero_after [] each (suc y) inside = absurd (omega arith)
zero_after (u ∷ us) each zero inside = each 0 (omega arith)
zero_after (u ∷ us) each (suc y) inside = zero_after us (λ i h. each (suc i) (omega arith)) y (omega arith)

-- ---- the distances

less_within : (a b c : ℤ) → unsigned_abs a ≤ 10 ^ 16 → unsigned_abs b ≤ 10 ^ 16 → unsigned_abs c ≤ 10 ^ 15 → unsigned_abs (a -ℤ b -ℤ c) ≤ 3 * 10 ^ 16
less_within a b c first second third = omega (arith, linear)

distance_within : (scale : ℤ) (i0 : ℕ) (x0 : ℤ) (i1 : ℕ) (x1 : ℤ) (change : Fraction) → AreBothWithin (10 ^ 16) (scale *ℤ x0) (pos i0) → AreBothWithin (10 ^ 16) (scale *ℤ x1) (pos i1) → AreBothWithin (10 ^ 15) change.numerator change.denominator → max (unsigned_abs (low_of scale i0 x0 i1 x1 change)) (unsigned_abs (high_of scale i0 x0 i1 x1 change)) ≤ 3 * 10 ^ 16
distance_within scale i0 x0 i1 x1 change before now given =
    let low = less_within (floor_of (scale *ℤ x1) (pos i1)) (ceil_of (scale *ℤ x0) (pos i0)) (ceil_of change.numerator change.denominator) now.0 before.1 given.1 in
    let high = less_within (ceil_of (scale *ℤ x1) (pos i1)) (floor_of (scale *ℤ x0) (pos i0)) (floor_of change.numerator change.denominator) now.1 before.0 given.0 in
    omega arith

-- ---- the sum

sum_within : (squared quarters : ℕ) (later : ℤ) → squared ≤ 9 * 10 ^ 32 → (pos 0 ≤ℤ later) × (later ≤ℤ pos (quarters * 10 ^ 33)) → (pos 0 ≤ℤ (pos squared +ℤ later)) × ((pos squared +ℤ later) ≤ℤ pos (suc quarters * 10 ^ 33))
sum_within squared quarters later few bounds = (omega (arith, linear), omega (arith, linear))

nothing_within : (n : ℕ) → (pos 0 ≤ℤ pos 0) × (pos 0 ≤ℤ pos n)
nothing_within n = (omega (arith, linear), omega (arith, linear))

gap_from-within : (scale : ℤ) (i0 : ℕ) (x0 : ℤ) (indicators : List ℕ) (quarters : List ℤ) (given : List Fraction) → AreBothWithin (10 ^ 16) (scale *ℤ x0) (pos i0) → EachIndex indicators (λ t. AreBothWithin (10 ^ 16) (scale *ℤ get_or quarters t (pos 0)) (pos (get_or indicators t 0))) → AreChangesWithin given →
    (pos 0 ≤ℤ gap_from scale i0 x0 indicators quarters given) × (gap_from scale i0 x0 indicators quarters given ≤ℤ pos (length indicators * 10 ^ 33))
gap_from-within scale i0 x0 [] quarters given before each changed = nothing_within (0 * 10 ^ 33)
gap_from-within scale i0 x0 (i1 ∷ is) [] given before each changed = nothing_within (suc (length is) * 10 ^ 33)
gap_from-within scale i0 x0 (i1 ∷ is) (x1 ∷ xs) [] before each changed = nothing_within (suc (length is) * 10 ^ 33)
gap_from-within scale i0 x0 (i1 ∷ is) (x1 ∷ xs) (change ∷ later) before each changed =
    let now : AreBothWithin (10 ^ 16) (scale *ℤ x1) (pos i1) = each 0 (omega arith) in
    let near = distance_within scale i0 x0 i1 x1 change before now changed.0 in
    let distance : ℕ = max (unsigned_abs (low_of scale i0 x0 i1 x1 change)) (unsigned_abs (high_of scale i0 x0 i1 x1 change)) in
    let rest = gap_from-within scale i1 x1 is xs later now (λ t inside. each (suc t) (omega arith)) changed.1 in
    sum_within (distance * distance) (length is) (gap_from scale i1 x1 is xs later) (square_small distance near) rest

quarters_few : (n : ℕ) (gap : ℤ) → n ≤ 512 → (pos 0 ≤ℤ gap) × (gap ≤ℤ pos (n * 10 ^ 33)) →
    (pos 0 ≤ℤ gap) × (gap ≤ℤ pos (10 ^ 36))
quarters_few n gap few bounds = (bounds.0, omega (arith, linear))

gap_by-within : (scale : ℤ) (indicators : List ℕ) (quarters : List ℤ) (given : List Fraction) →
    length indicators ≤ 512 →
    EachIndex indicators (λ t.
    AreBothWithin (10 ^ 16) (scale *ℤ get_or quarters t (pos 0)) (pos (get_or indicators t 0))) →
    AreChangesWithin given →
    (pos 0 ≤ℤ gap_by scale indicators quarters given) × (gap_by scale indicators quarters given ≤ℤ pos (10 ^ 36))
gap_by-within scale [] quarters given few each changed = nothing_within (10 ^ 36)
gap_by-within scale (i ∷ is) [] given few each changed = nothing_within (10 ^ 36)
gap_by-within scale (i ∷ is) (x ∷ xs) [] few each changed = nothing_within (10 ^ 36)
gap_by-within scale (i ∷ is) (x ∷ xs) (change ∷ later) few each changed =
    quarters_few (length is) (gap_from scale i x is xs later) (omega arith) (gap_from-within scale i x is xs later (each 0 (omega arith)) (λ t inside. each (suc t) (omega arith)) changed.1)

-- the gap of quarters, benchmarked years and multipliers in range is from 0 to 10^36
pub gap_in_range : (k : ℕ) (indicators : List ℕ) (years : List BenchmarkedYear) (quarters multipliers : List ℤ) →
    AreQuarters k indicators quarters → AreInRange years → AreMultipliers multipliers →
    (pos 0 ≤ℤ gap_by (pos (10 ^ k)) indicators quarters (changes years multipliers indicators))
    × (gap_by (pos (10 ^ k)) indicators quarters (changes years multipliers indicators) ≤ℤ pos (10 ^ 36))
gap_in_range k indicators years quarters multipliers are range each =
    gap_by-within (pos (10 ^ k)) indicators quarters (changes years multipliers indicators) are.most
    (λ t inside. ratio_size (pos (10 ^ k)) (get_or quarters t (pos 0)) (get_or indicators t 0)
    (are.each_indicator t inside).0
    (value_reach k (get_or indicators t 0) (unsigned_abs (get_or quarters t (pos 0))) (are.each_value t inside)))
    (changes_from-within 0 (pos 0) years (multipliers ++ pos 0 ∷ []) indicators (omega arith)
    (zero_after multipliers each) range)
