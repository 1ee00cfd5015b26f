-- The steps of the loop that adds up the squared distances.
use Rattle.std.specs.Prelude.{◌≡◌, ℕ, ◌+◌, ◌-◌, ◌*◌, ◌≤◌, ◌<◌, max, ℤ, pos, ◌≤ℤ◌, ◌+ℤ◌, ◌-ℤ◌, ◌*ℤ◌, List, [], ◌∷◌, length, drop, unsigned_abs}
use Rattle.std.proofs.Common.{refl, ◌∙◌, ap, arith, zero, suc, get_or}
use Rattle.std.proofs.Math.ListN.{drop_of_length-le}
use Rattle.denton_parts.specs.Ratios.{square}
use Rattle.ratio_arith.proofs.Linear.{linear}
use Rattle.denton_parts.specs.Changes.{Fraction, no_change}
use Rattle.denton_parts.specs.declared.quotient.Quotient.{Quotient}
use Rattle.dual_cert.specs.Parts.{AreBoundsOf}
use Rattle.denton_parts.specs.Gap.{low_of, high_of, distance_of, gap_from, gap_by}

-- the gap from the second quarter on
pub gap_by-first : (scale : ℤ) (indicators : List ℕ) (quarters : List ℤ) (changes : List Fraction) → 0 < length indicators → length quarters ≡ length indicators → length changes ≡ length indicators → gap_by scale indicators quarters changes ≡ gap_from scale (get_or indicators 0 0) (get_or quarters 0 (pos 0)) (drop 1 indicators) (drop 1 quarters) (drop 1 changes)
gap_by-first scale [] quarters changes some same_quarters same_changes = absurd (omega arith)
gap_by-first scale (i ∷ is) [] changes some same_quarters same_changes = absurd (omega arith)
gap_by-first scale (i ∷ is) (x ∷ xs) [] some same_quarters same_changes = absurd (omega arith)
gap_by-first scale (i ∷ is) (x ∷ xs) (c ∷ cs) some same_quarters same_changes = refl

-- one quarter's squared distance, and the gap from the next quarter on
pub gap_from-next : (scale : ℤ) (i : ℕ) (x : ℤ) (t : ℕ) (indicators : List ℕ) (quarters : List ℤ) (changes : List Fraction) → t < length indicators → length quarters ≡ length indicators → length changes ≡ length indicators → gap_from scale i x (drop t indicators) (drop t quarters) (drop t changes) ≡ square (distance_of scale i x (get_or indicators t 0) (get_or quarters t (pos 0)) (get_or changes t no_change)) +ℤ gap_from scale (get_or indicators t 0) (get_or quarters t (pos 0)) (drop (suc t) indicators) (drop (suc t) quarters) (drop (suc t) changes)
gap_from-next scale i x t [] quarters changes inside same_quarters same_changes = absurd (omega arith)
gap_from-next scale i x t (i0 ∷ is) [] changes inside same_quarters same_changes = absurd (omega arith)
gap_from-next scale i x t (i0 ∷ is) (x0 ∷ xs) [] inside same_quarters same_changes = absurd (omega arith)
gap_from-next scale i x zero (i0 ∷ is) (x0 ∷ xs) (c0 ∷ cs) inside same_quarters same_changes = refl
gap_from-next scale i x (suc t) (i0 ∷ is) (x0 ∷ xs) (c0 ∷ cs) inside same_quarters same_changes = gap_from-next scale i x t is xs cs (omega arith) (omega arith) (omega arith)

-- past the last quarter nothing is left
pub gap_from-end : (scale : ℤ) (i : ℕ) (x : ℤ) (t : ℕ) (indicators : List ℕ) (quarters : List ℤ) (changes : List Fraction) → length indicators ≤ t → gap_from scale i x (drop t indicators) (drop t quarters) (drop t changes) ≡ pos 0
gap_from-end scale i x t indicators quarters changes past = ap (λ l. gap_from scale i x l (drop t quarters) (drop t changes)) (drop_of_length-le indicators past)

-- what the code squares is the distance
pub square_is : (unit : ℤ) (i0 : ℕ) (x0 : ℤ) (i1 : ℕ) (x1 : ℤ) (c : Fraction) (before now change : Quotient) (squared : ℤ) → AreBoundsOf (unit *ℤ x0) (pos i0) before → AreBoundsOf (unit *ℤ x1) (pos i1) now → AreBoundsOf c.numerator c.denominator change → squared ≡ pos (max (unsigned_abs (now.floor -ℤ before.ceiling -ℤ change.ceiling)) (unsigned_abs (now.ceiling -ℤ before.floor -ℤ change.floor)) * max (unsigned_abs (now.floor -ℤ before.ceiling -ℤ change.ceiling)) (unsigned_abs (now.ceiling -ℤ before.floor -ℤ change.floor))) → squared ≡ square (distance_of unit i0 x0 i1 x1 c)
square_is unit i0 x0 i1 x1 c before now change squared b n g e =
    let low : now.floor -ℤ before.ceiling -ℤ change.ceiling ≡ low_of unit i0 x0 i1 x1 c = omega (arith, linear) in
    let high : now.ceiling -ℤ before.floor -ℤ change.floor ≡ high_of unit i0 x0 i1 x1 c = omega (arith, linear) in
    e ∙ ap (λ u. pos (max (unsigned_abs u) (unsigned_abs (now.ceiling -ℤ before.floor -ℤ change.floor)) * max (unsigned_abs u) (unsigned_abs (now.ceiling -ℤ before.floor -ℤ change.floor)))) low ∙ ap (λ u. pos (max (unsigned_abs (low_of unit i0 x0 i1 x1 c)) (unsigned_abs u) * max (unsigned_abs (low_of unit i0 x0 i1 x1 c)) (unsigned_abs u))) high

-- the total after a step
pub total_after : (unit whole gap squared : ℤ) (t : ℕ) (indicators : List ℕ) (quarters : List ℤ) (changes : List Fraction) → 1 ≤ t → t < length indicators → length quarters ≡ length indicators → length changes ≡ length indicators → gap +ℤ gap_from unit (get_or indicators (t - 1) 0) (get_or quarters (t - 1) (pos 0)) (drop t indicators) (drop t quarters) (drop t changes) ≡ whole → squared ≡ square (distance_of unit (get_or indicators (t - 1) 0) (get_or quarters (t - 1) (pos 0)) (get_or indicators t 0) (get_or quarters t (pos 0)) (get_or changes t no_change)) → (gap +ℤ squared) +ℤ gap_from unit (get_or indicators (t + 1 - 1) 0) (get_or quarters (t + 1 - 1) (pos 0)) (drop (t + 1) indicators) (drop (t + 1) quarters) (drop (t + 1) changes) ≡ whole
total_after unit whole gap squared t indicators quarters changes least inside same_quarters same_changes total e =
    let next = gap_from-next unit (get_or indicators (t - 1) 0) (get_or quarters (t - 1) (pos 0)) t indicators quarters changes inside same_quarters same_changes in
    let back : t + 1 - 1 ≡ t = omega arith in
    let up_one : t + 1 ≡ suc t = omega arith in
    rw (back, up_one) (omega (arith, linear))

-- a natural number is not negative
pub at_least_zero : (z : ℤ) (n : ℕ) → z ≡ pos n → pos 0 ≤ℤ z
at_least_zero z n e = omega (arith, linear)
