-- Steps of the loops over the levels.
use Rattle.std.proofs.Common.{◌≡◌, ℕ, zero, suc, ◌+◌, ◌-◌, ◌<◌, ◌≤◌, ◌≢◌, Bool, true, false, if◌then◌else◌, List, length, get_or, set, arith, ap, sym, ◌∙◌, refl, subst, nat_lt, get_or-set_other, get_or-set_same, ◌⊎◌, inl, inr, ◌==◌}
use Rattle.std.proofs.lemmas.List.{get_or_past}
use Rattle.std.proofs.lemmas.List.FromFn.{fill_by_all}
use Rattle.price_base.specs.declared.Cell.{Cell}
use Rattle.price_base.specs.declared.Cell.TheVariants.{Missing}
use Rattle.price_base.specs.Cells.{cell_at}
use Rattle.annual_overlap.specs.declared.Point.{Point}
use Rattle.annual_overlap.specs.declared.Point.TheVariants.{Marked}
use Rattle.annual_overlap.specs.Chain.{link_after, step_forward, step_backward, reference_point, years_after, years_before, point_at, points_of}

-- what holds at each index holds once a place is written with what it holds of
pub each_set : {X : Type 0} (P : X → Type 0) (xs : List X) (i : ℕ) (v d : X) → i < length xs → ((k : ℕ) → P (get_or xs k d)) → P v → (k : ℕ) → P (get_or (set xs i v) k d)
each_set {X = X} P xs i v d below all new k = by (k == i) refl
  where
    by : (b : Bool) → (k == i) ≡ b → P (get_or (set xs i v) k d)
    by true e = let same : k ≡ i = grind (arith, e) in subst (λ (x : X). P x) (sym (ap (λ j. get_or (set xs i v) j d) same ∙ get_or-set_same xs i v d below)) new
    by false e = let other : k ≢ i = grind (arith, e) in subst (λ (x : X). P x) (sym (get_or-set_other xs i k v d other)) (all k)

-- a year before the reference year
point_before : (values volumes : List Cell) (reference k : ℕ) → k < reference → point_at values volumes reference k ≡ years_before values volumes reference (reference - k)
point_before values volumes reference k below = by (nat_lt k reference) refl
  where
    by : (b : Bool) → nat_lt k reference ≡ b → (if b then years_before values volumes reference (reference - k) else years_after values volumes reference (k - reference)) ≡ years_before values volumes reference (reference - k)
    by true e = refl
    by false e = absurd (grind (arith, e))

-- the reference year or one after it
point_after : (values volumes : List Cell) (reference k : ℕ) → reference ≤ k → point_at values volumes reference k ≡ years_after values volumes reference (k - reference)
point_after values volumes reference k above = by (nat_lt k reference) refl
  where
    by : (b : Bool) → nat_lt k reference ≡ b → (if b then years_before values volumes reference (reference - k) else years_after values volumes reference (k - reference)) ≡ years_after values volumes reference (k - reference)
    by true e = absurd (grind (arith, e))
    by false e = refl

-- one more year's level is written from the reference year on
pub after_written : (values volumes : List Cell) (out : List Point) (reference year : ℕ) (point : Point) → reference ≤ year → year < length out →
    point ≡ years_after values volumes reference (year - reference) →
    ((k : ℕ) → k < year → k < length values → get_or out k (Marked Missing) ≡ point_at values volumes reference k) →
    (k : ℕ) → k < year + 1 → k < length values → get_or (set out year point) k (Marked Missing) ≡ point_at values volumes reference k
after_written values volumes out reference year point from below reached written k last inside = by (k == year) refl
  where
    by : (b : Bool) → (k == year) ≡ b → get_or (set out year point) k (Marked Missing) ≡ point_at values volumes reference k
    by true e =
        let same : k ≡ year = grind (arith, e) in
        ap (λ j. get_or (set out year point) j (Marked Missing)) same ∙ get_or-set_same out year point (Marked Missing) below ∙ reached ∙ sym (point_after values volumes reference year from) ∙ ap (point_at values volumes reference) (sym same)
    by false e =
        let other : k ≢ year = grind (arith, e) in
        get_or-set_other out year k point (Marked Missing) other ∙ written k (omega arith) inside

-- the level of the year after it
pub after_reached : (values volumes : List Cell) (reference year : ℕ) (point next : Point) → reference ≤ year → point ≡ years_after values volumes reference (year - reference) →
    next ≡ step_forward point (link_after values volumes year) → next ≡ years_after values volumes reference (year + 1 - reference)
after_reached values volumes reference year point next from reached e =
    let there : year ≡ reference + (year - reference) = omega arith in
    let more : suc (year - reference) ≡ year + 1 - reference = omega arith in
    e ∙ ap (λ p. step_forward p (link_after values volumes year)) reached ∙ ap (λ y. step_forward (years_after values volumes reference (year - reference)) (link_after values volumes y)) there ∙
    ap (years_after values volumes reference) more

-- the reference year is reached at once
pub after_start : (values volumes : List Cell) (reference : ℕ) (point : Point) → point ≡ reference_point (cell_at values reference) → point ≡ years_after values volumes reference (reference - reference)
after_start values volumes reference point e = let none : 0 ≡ reference - reference = omega arith in e ∙ ap (years_after values volumes reference) none

-- all levels are written
pub after_all : (values volumes : List Cell) (out : List Point) (reference year : ℕ) → length out ≤ year → length out ≡ length values →
    ((k : ℕ) → k < year → k < length values → get_or out k (Marked Missing) ≡ point_at values volumes reference k) → out ≡ points_of values volumes reference
unfolding points_of
after_all values volumes out reference year ended same written = fill_by_all (point_at values volumes reference) out (length values) (Marked Missing) same (λ k below. written k (omega arith) below)

-- one more year's level is written back from the reference year
pub before_written : (values volumes : List Cell) (out : List Point) (reference from year : ℕ) (next : Point) → from ≡ year + 1 → year < reference → year < length out →
    next ≡ years_before values volumes reference (reference - year) →
    ((k : ℕ) → from ≤ k → k < reference → k < length values → get_or out k (Marked Missing) ≡ point_at values volumes reference k) →
    (k : ℕ) → year ≤ k → k < reference → k < length values → get_or (set out year next) k (Marked Missing) ≡ point_at values volumes reference k
before_written values volumes out reference from year next step until below reached written k first inside there = by (k == year) refl
  where
    by : (b : Bool) → (k == year) ≡ b → get_or (set out year next) k (Marked Missing) ≡ point_at values volumes reference k
    by true e =
        let same : k ≡ year = grind (arith, e) in
        ap (λ j. get_or (set out year next) j (Marked Missing)) same ∙ get_or-set_same out year next (Marked Missing) below ∙ reached ∙ sym (point_before values volumes reference year until) ∙ ap (point_at values volumes reference) (sym same)
    by false e =
        let other : k ≢ year = grind (arith, e) in
        get_or-set_other out year k next (Marked Missing) other ∙ written k (omega arith) inside there

-- the level of the year before it
pub before_reached : (values volumes : List Cell) (reference from year : ℕ) (point next : Point) → from ≡ year + 1 → year < reference → point ≡ years_before values volumes reference (reference - from) →
    next ≡ step_backward point (link_after values volumes year) → next ≡ years_before values volumes reference (reference - year)
before_reached values volumes reference from year point next step until reached e =
    let there : year ≡ reference - suc (reference - from) = omega arith in
    let more : suc (reference - from) ≡ reference - year = omega arith in
    e ∙ ap (λ p. step_backward p (link_after values volumes year)) reached ∙ ap (λ y. step_backward (years_before values volumes reference (reference - from)) (link_after values volumes y)) there ∙
    ap (years_before values volumes reference) more

-- without a reference year no level is known
missing_before : (values volumes : List Cell) (reference n : ℕ) → cell_at values reference ≡ Missing → years_before values volumes reference n ≡ Marked Missing
missing_before values volumes reference zero e = ap reference_point e
missing_before values volumes reference (suc n) e = ap (λ p. step_backward p (link_after values volumes (reference - suc n))) (missing_before values volumes reference n e)

-- the year after the last one before the reference year is reached at once
pub before_start : (values volumes : List Cell) (reference year : ℕ) (point : Point) → year ≤ reference → (reference ≤ year) ⊎ (length values ≤ year) →
    point ≡ reference_point (cell_at values reference) → point ≡ years_before values volumes reference (reference - year)
before_start values volumes reference year point until (inl reached) e = let none : 0 ≡ reference - year = omega arith in e ∙ ap (years_before values volumes reference) none
before_start values volumes reference year point until (inr past) e =
    let missing : cell_at values reference ≡ Missing = get_or_past values reference Missing (omega arith) in
    e ∙ ap reference_point missing ∙ sym (missing_before values volumes reference (reference - year) missing)
