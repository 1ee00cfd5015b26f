-- Places of rows that stand one after another.
use Rattle.std.proofs.Common.{◌≡◌, ◌≢◌, ℕ, ◌+◌, ◌*◌, ◌/◌, ◌<◌, ◌==◌, ◌&&◌, Bool, true, false, cond, List, length, Option, Some, None, nat_lt, refl, sym, ap, ◌∙◌, arith, get_or, set, get_or-set_same, get_or-set_other}
use Rattle.std.proofs.lemmas.Nat.{div-mul-add}
use Rattle.series_tables.specs.Cells.{at_place}

-- two places are one only where leaf and period are
pub place_of : (width leaf period other at : ℕ) → period < width → at < width → leaf * width + period ≡ other * width + at → (leaf ≡ other) × (period ≡ at)
place_of width leaf period other at h k e =
    let same : leaf ≡ other = sym (div-mul-add leaf width period h) ∙ ap (λ place. place / width) e ∙ div-mul-add other width at k in
    (same, omega (arith, ap (λ l. l * width) same))

-- what stands at a place once a value was put at one
pub at_place_after_set : {X : Type 0} (rows : List (Option X)) (width leaf period other at : ℕ) (value : X) → period < width → leaf * width + period < length rows →
    at_place (set rows (leaf * width + period) (Some value)) width other at ≡ cond (leaf == other && period == at) (Some value) (at_place rows width other at)
at_place_after_set {X} rows width leaf period other at value within room = by_tests (nat_lt at width) (leaf == other && period == at) refl refl
  where
    by_tests : (inside own : Bool) → nat_lt at width ≡ inside → (leaf == other && period == at) ≡ own →
        cond inside (get_or (set rows (leaf * width + period) (Some value)) (other * width + at) None) None ≡ cond own (Some value) (cond inside (get_or rows (other * width + at) None) None)
    by_tests true true i o = let same : (leaf ≡ other) × (period ≡ at) = grind arith in
        rw (← same.0, ← same.1) (get_or-set_same rows (leaf * width + period) (Some value) None room)
    by_tests true false i o =
        let below : at < width = grind arith in
        let apart : other * width + at ≢ leaf * width + period = λ e. let same = place_of width leaf period other at within below (sym e) in grind arith in
        get_or-set_other rows (leaf * width + period) (other * width + at) (Some value) None apart
    by_tests false true i o = absurd (grind arith)
    by_tests false false i o = refl
