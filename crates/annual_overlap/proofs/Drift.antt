-- Why a level is within its drift of the exact chained volume: one step along a link keeps it so, and so do all steps from the reference year.
use Rattle.std.proofs.Common.{◌≡◌, ℕ, zero, suc, ◌+◌, ◌-◌, ◌^◌, ◌<◌, ◌≤◌, ℤ, pos, ◌+ℤ◌, ◌*ℤ◌, ◌<ℤ◌, ◌≤ℤ◌, Bool, true, false, if◌then◌else◌, List, [], ◌∷◌, arith, ap, sym, ◌∙◌, refl, int_le, nat_lt}
use Rattle.std.specs.Prelude.{◌&&◌, ◌||◌}
use Rattle.ratio_arith.specs.Division.{round_of, ceil_of}
use Rattle.ratio_arith.specs.Nearness.{IsNear}
use Rattle.ratio_arith.proofs.Linear.{linear, literal_product}
use Rattle.ratio_arith.proofs.Floors.{round_is, ceil_is}
use Rattle.ratio_arith.proofs.Near.{near_times}
use Rattle.ratio_arith.proofs.Order.{product_mono, product_strict}
use Rattle.ratio_arith.proofs.Ring.{same_by_ring, var, num, ◌⊕◌, ◌⊗◌}
use Rattle.price_base.specs.declared.Cell.{Cell}
use Rattle.price_base.specs.declared.Cell.TheVariants.{Missing, Value, NoBase, NoLink, Range}
use Rattle.price_base.specs.Cells.{cell_at}
use Rattle.annual_overlap.specs.declared.Point.{Point}
use Rattle.annual_overlap.specs.declared.Point.TheVariants.{Known, Marked}
use Rattle.annual_overlap.specs.declared.Ratio.TheVariants.{Of, Broken}
use Rattle.annual_overlap.specs.Years.{number_or}
use Rattle.annual_overlap.specs.Chain.{link_of, moved, step_forward, step_backward, reference_point, years_after, years_before, point_at}
use Rattle.annual_overlap.specs.Drift.{product_from, exact_num, exact_den}

-- the product of two numbers above zero is above zero
product_positive : (a b : ℤ) → pos 0 <ℤ a → pos 0 <ℤ b → pos 0 <ℤ (a *ℤ b)
product_positive a b ha hb =
    let strict = product_strict a (pos 0) b ha hb in
    let e : a *ℤ pos 0 ≡ pos 0 = same_by_ring (a ∷ []) (var 0 ⊗ num (pos 0)) (num (pos 0)) refl in
    omega (arith, linear)

-- the rounded quotient, times the divisor, is near to what is divided
round_near : (n d : ℤ) → pos 0 <ℤ d → IsNear n (d *ℤ round_of n d) d
round_near n d h =
    let near = round_is n d h in
    omega (arith, linear, literal_product 2 (d *ℤ round_of n d), literal_product 2 n)

-- the ceiling and one more, times the divisor, is at least what is divided and the divisor
ceil_wider : (n d : ℤ) → pos 0 <ℤ d → (n +ℤ d) ≤ℤ (d *ℤ (ceil_of n d +ℤ pos 1))
ceil_wider n d h =
    let ceiling = ceil_is n d h in
    let e : d *ℤ (ceil_of n d +ℤ pos 1) ≡ d *ℤ ceil_of n d +ℤ d = same_by_ring (d ∷ ceil_of n d ∷ []) (var 0 ⊗ (var 1 ⊕ num (pos 1))) (var 0 ⊗ var 1 ⊕ var 0) refl in
    omega (arith, linear)

-- one step by the ratio of two numbers above zero, where the new level is near to the moved one and the new drift has room for the old one and one more
pub near_step : (s n d level drift over under next wider : ℤ) → pos 0 <ℤ d → pos 0 <ℤ over → IsNear (s *ℤ n) (level *ℤ d) (drift *ℤ d) →
    IsNear (level *ℤ over) (under *ℤ next) under → (drift *ℤ over +ℤ under) ≤ℤ (under *ℤ wider) →
    IsNear (s *ℤ (n *ℤ over)) (next *ℤ (d *ℤ under)) (wider *ℤ (d *ℤ under))
near_step s n d level drift over under next wider hd ho exact rounded room =
    let values = s ∷ n ∷ d ∷ level ∷ drift ∷ over ∷ under ∷ next ∷ wider ∷ [] in
    let old = near_times over (s *ℤ n) (level *ℤ d) (drift *ℤ d) (omega (arith, linear)) exact in
    let new = near_times d (level *ℤ over) (under *ℤ next) under (omega (arith, linear)) rounded in
    let more = product_mono d (drift *ℤ over +ℤ under) (under *ℤ wider) (omega (arith, linear)) room in
    let e0 : over *ℤ (s *ℤ n) ≡ s *ℤ (n *ℤ over) = same_by_ring values (var 5 ⊗ (var 0 ⊗ var 1)) (var 0 ⊗ (var 1 ⊗ var 5)) refl in
    let e1 : over *ℤ (level *ℤ d) ≡ d *ℤ (level *ℤ over) = same_by_ring values (var 5 ⊗ (var 3 ⊗ var 2)) (var 2 ⊗ (var 3 ⊗ var 5)) refl in
    let e2 : d *ℤ (under *ℤ next) ≡ next *ℤ (d *ℤ under) = same_by_ring values (var 2 ⊗ (var 6 ⊗ var 7)) (var 7 ⊗ (var 2 ⊗ var 6)) refl in
    let e3 : d *ℤ (under *ℤ wider) ≡ wider *ℤ (d *ℤ under) = same_by_ring values (var 2 ⊗ (var 6 ⊗ var 8)) (var 8 ⊗ (var 2 ⊗ var 6)) refl in
    let e4 : d *ℤ (drift *ℤ over +ℤ under) ≡ over *ℤ (drift *ℤ d) +ℤ d *ℤ under = same_by_ring values (var 2 ⊗ (var 4 ⊗ var 5 ⊕ var 6)) (var 5 ⊗ (var 4 ⊗ var 2) ⊕ var 2 ⊗ var 6) refl in
    omega (arith, linear)

-- a cell that is no number
abbrev pub IsMark : Cell → Type 0
IsMark (Value number) = ⊥
IsMark Missing = Unit {0}
IsMark NoBase = Unit {0}
IsMark NoLink = Unit {0}
IsMark Range = Unit {0}

-- a point is a mark, or it is within its drift of ten thousand times a fraction with a positive divisor
abbrev pub IsExact : Point → ℤ → ℤ → Type 0
IsExact (Known level drift) n d = (pos 0 <ℤ d) × IsNear (pos 10000 *ℤ n) (level *ℤ d) (drift *ℤ d)
IsExact (Marked mark) n d = IsMark mark

exact_at : (p : Point) (n d m e : ℤ) → n ≡ m → d ≡ e → IsExact p n d → IsExact p m e
exact_at (Marked mark) n d m e en ed exact = exact
exact_at (Known level drift) n d m e en ed exact = rw (← en, ← ed) exact

-- so is the point after one step
moved_near : (level drift over under n d : ℤ) → pos 0 <ℤ over → pos 0 <ℤ under → pos 0 <ℤ d → IsNear (pos 10000 *ℤ n) (level *ℤ d) (drift *ℤ d) →
    IsExact (moved level drift over under) (n *ℤ over) (d *ℤ under)
moved_near level drift over under n d ho hu hd exact = by (int_le (round_of (level *ℤ over) under) (pos (10 ^ 19)) && int_le (ceil_of (drift *ℤ over) under +ℤ pos 1) (pos (10 ^ 19)))
  where
    by : (b : Bool) → IsExact (if b then Known (round_of (level *ℤ over) under) (ceil_of (drift *ℤ over) under +ℤ pos 1) else Marked Range) (n *ℤ over) (d *ℤ under)
    by false = tt
    by true = (product_positive d under hd hu, near_step (pos 10000) n d level drift over under _ _ hd ho exact (round_near (level *ℤ over) under hu) (ceil_wider (drift *ℤ over) under hu))

-- one step forward along a link
pub forward_near : (p : Point) (before volume : Cell) (n d : ℤ) → IsExact p n d →
    IsExact (step_forward p (link_of before volume)) (n *ℤ number_or (pos 1) volume) (d *ℤ number_or (pos 1) before)
forward_near (Marked mark) before volume n d exact = exact
forward_near (Known level drift) (Value before) (Value volume) n d exact = by (int_le volume (pos 0)) refl (int_le before (pos 0)) refl (int_le before (pos (10 ^ 18)))
  where
    by : (x : Bool) → int_le volume (pos 0) ≡ x → (y : Bool) → int_le before (pos 0) ≡ y → (z : Bool) →
        IsExact (step_forward (Known level drift) (if x || y then Broken NoLink else (if z then Of volume before else Broken Range))) (n *ℤ volume) (d *ℤ before)
    by true ex y ey z = tt
    by false ex true ey z = tt
    by false ex false ey false = tt
    by false ex false ey true = moved_near level drift volume before n d (omega (arith, linear)) (omega (arith, linear)) exact.0 exact.1
forward_near (Known level drift) (Value before) Missing n d exact = tt
forward_near (Known level drift) (Value before) NoBase n d exact = tt
forward_near (Known level drift) (Value before) NoLink n d exact = tt
forward_near (Known level drift) (Value before) Range n d exact = tt
forward_near (Known level drift) Missing (Value volume) n d exact = tt
forward_near (Known level drift) Missing Missing n d exact = tt
forward_near (Known level drift) Missing NoBase n d exact = tt
forward_near (Known level drift) Missing NoLink n d exact = tt
forward_near (Known level drift) Missing Range n d exact = tt
forward_near (Known level drift) NoBase (Value volume) n d exact = tt
forward_near (Known level drift) NoBase Missing n d exact = tt
forward_near (Known level drift) NoBase NoBase n d exact = tt
forward_near (Known level drift) NoBase NoLink n d exact = tt
forward_near (Known level drift) NoBase Range n d exact = tt
forward_near (Known level drift) NoLink (Value volume) n d exact = tt
forward_near (Known level drift) NoLink Missing n d exact = tt
forward_near (Known level drift) NoLink NoBase n d exact = tt
forward_near (Known level drift) NoLink NoLink n d exact = tt
forward_near (Known level drift) NoLink Range n d exact = tt
forward_near (Known level drift) Range (Value volume) n d exact = tt
forward_near (Known level drift) Range Missing n d exact = tt
forward_near (Known level drift) Range NoBase n d exact = tt
forward_near (Known level drift) Range NoLink n d exact = tt
forward_near (Known level drift) Range Range n d exact = tt

-- one step backward along a link
pub backward_near : (p : Point) (before volume : Cell) (n d : ℤ) → IsExact p n d →
    IsExact (step_backward p (link_of before volume)) (n *ℤ number_or (pos 1) before) (d *ℤ number_or (pos 1) volume)
backward_near (Marked mark) before volume n d exact = exact
backward_near (Known level drift) (Value before) (Value volume) n d exact = by (int_le volume (pos 0)) refl (int_le before (pos 0)) refl (int_le before (pos (10 ^ 18)))
  where
    by : (x : Bool) → int_le volume (pos 0) ≡ x → (y : Bool) → int_le before (pos 0) ≡ y → (z : Bool) →
        IsExact (step_backward (Known level drift) (if x || y then Broken NoLink else (if z then Of volume before else Broken Range))) (n *ℤ before) (d *ℤ volume)
    by true ex y ey z = tt
    by false ex true ey z = tt
    by false ex false ey false = tt
    by false ex false ey true = moved_near level drift before volume n d (omega (arith, linear)) (omega (arith, linear)) exact.0 exact.1
backward_near (Known level drift) (Value before) Missing n d exact = tt
backward_near (Known level drift) (Value before) NoBase n d exact = tt
backward_near (Known level drift) (Value before) NoLink n d exact = tt
backward_near (Known level drift) (Value before) Range n d exact = tt
backward_near (Known level drift) Missing (Value volume) n d exact = tt
backward_near (Known level drift) Missing Missing n d exact = tt
backward_near (Known level drift) Missing NoBase n d exact = tt
backward_near (Known level drift) Missing NoLink n d exact = tt
backward_near (Known level drift) Missing Range n d exact = tt
backward_near (Known level drift) NoBase (Value volume) n d exact = tt
backward_near (Known level drift) NoBase Missing n d exact = tt
backward_near (Known level drift) NoBase NoBase n d exact = tt
backward_near (Known level drift) NoBase NoLink n d exact = tt
backward_near (Known level drift) NoBase Range n d exact = tt
backward_near (Known level drift) NoLink (Value volume) n d exact = tt
backward_near (Known level drift) NoLink Missing n d exact = tt
backward_near (Known level drift) NoLink NoBase n d exact = tt
backward_near (Known level drift) NoLink NoLink n d exact = tt
backward_near (Known level drift) NoLink Range n d exact = tt
backward_near (Known level drift) Range (Value volume) n d exact = tt
backward_near (Known level drift) Range Missing n d exact = tt
backward_near (Known level drift) Range NoBase n d exact = tt
backward_near (Known level drift) Range NoLink n d exact = tt
backward_near (Known level drift) Range Range n d exact = tt

-- the reference year's level is exact
reference_near : (cell : Cell) → IsExact (reference_point cell) (number_or (pos 1) cell) (pos 1)
reference_near (Value value) = by (int_le value (pos 0)) (int_le value (pos (10 ^ 15)))
  where
    by : (x y : Bool) → IsExact (if x then Marked NoLink else (if y then Known (pos 10000 *ℤ value) (pos 0) else Marked Range)) value (pos 1)
    by true y = tt
    by false false = tt
    by false true =
        let e : (pos 10000 *ℤ value) *ℤ pos 1 ≡ pos 10000 *ℤ value = same_by_ring (value ∷ []) (num (pos 10000) ⊗ var 0 ⊗ num (pos 1)) (num (pos 10000) ⊗ var 0) refl in
        (omega (arith, linear), omega (arith, linear))
reference_near Missing = tt
reference_near NoBase = tt
reference_near NoLink = tt
reference_near Range = tt

-- the first factor of a product taken out in front
product_front : (cells : List Cell) (start n : ℕ) → product_from cells start (suc n) ≡ number_or (pos 1) (cell_at cells start) *ℤ product_from cells (start + 1) n
product_front cells start zero =
    let here : start + 0 ≡ start = omega arith in
    let x = number_or (pos 1) (cell_at cells start) in
    ap (λ k. pos 1 *ℤ number_or (pos 1) (cell_at cells k)) here ∙ same_by_ring (x ∷ []) (num (pos 1) ⊗ var 0) (var 0 ⊗ num (pos 1)) refl
product_front cells start (suc n) =
    let before = product_front cells start n in
    let last : start + suc n ≡ start + 1 + n = omega arith in
    let x = number_or (pos 1) (cell_at cells start) in
    let y = product_from cells (start + 1) n in
    let z = number_or (pos 1) (cell_at cells (start + 1 + n)) in
    ap (λ w. w *ℤ number_or (pos 1) (cell_at cells (start + suc n))) before ∙ ap (λ k. (x *ℤ y) *ℤ number_or (pos 1) (cell_at cells k)) last ∙
    same_by_ring (x ∷ y ∷ z ∷ []) (var 0 ⊗ var 1 ⊗ var 2) (var 0 ⊗ (var 1 ⊗ var 2)) refl

-- all levels after the reference year
after_near : (values volumes : List Cell) (reference n : ℕ) →
    IsExact (years_after values volumes reference n) (number_or (pos 1) (cell_at values reference) *ℤ product_from volumes (reference + 1) n) (product_from values reference n)
after_near values volumes reference zero =
    let x = number_or (pos 1) (cell_at values reference) in
    exact_at (reference_point (cell_at values reference)) x (pos 1) (x *ℤ pos 1) (pos 1) (same_by_ring (x ∷ []) (var 0) (var 0 ⊗ num (pos 1)) refl) refl (reference_near (cell_at values reference))
after_near values volumes reference (suc n) =
    let step = forward_near (years_after values volumes reference n) (cell_at values (reference + n)) (cell_at volumes (reference + n + 1)) _ _ (after_near values volumes reference n) in
    let place : reference + n + 1 ≡ reference + 1 + n = omega arith in
    let x = number_or (pos 1) (cell_at values reference) in
    let y = product_from volumes (reference + 1) n in
    let z = number_or (pos 1) (cell_at volumes (reference + n + 1)) in
    let e : (x *ℤ y) *ℤ z ≡ x *ℤ (y *ℤ number_or (pos 1) (cell_at volumes (reference + 1 + n))) =
    same_by_ring (x ∷ y ∷ z ∷ []) (var 0 ⊗ var 1 ⊗ var 2) (var 0 ⊗ (var 1 ⊗ var 2)) refl ∙ ap (λ k. x *ℤ (y *ℤ number_or (pos 1) (cell_at volumes k))) place in
    exact_at (years_after values volumes reference (suc n)) _ _ _ _ e refl step

-- all levels before the reference year
before_near : (values volumes : List Cell) (reference n : ℕ) → n ≤ reference →
    IsExact (years_before values volumes reference n) (number_or (pos 1) (cell_at values reference) *ℤ product_from values (reference - n) n) (product_from volumes (reference - n + 1) n)
before_near values volumes reference zero below =
    let x = number_or (pos 1) (cell_at values reference) in
    exact_at (reference_point (cell_at values reference)) x (pos 1) (x *ℤ pos 1) (pos 1) (same_by_ring (x ∷ []) (var 0) (var 0 ⊗ num (pos 1)) refl) refl (reference_near (cell_at values reference))
before_near values volumes reference (suc n) below =
    let m : ℕ = reference - suc n in
    let next : reference - n ≡ reference - suc n + 1 = omega arith in
    let step = backward_near (years_before values volumes reference n) (cell_at values (reference - suc n)) (cell_at volumes (reference - suc n + 1)) _ _ (before_near values volumes reference n (omega arith)) in
    let x = number_or (pos 1) (cell_at values reference) in
    let y = product_from values (reference - suc n + 1) n in
    let z = number_or (pos 1) (cell_at values (reference - suc n)) in
    let v = product_from volumes (reference - suc n + 1 + 1) n in
    let w = number_or (pos 1) (cell_at volumes (reference - suc n + 1)) in
    let e : (x *ℤ product_from values (reference - n) n) *ℤ z ≡ x *ℤ product_from values (reference - suc n) (suc n) =
    ap (λ k. (x *ℤ product_from values k n) *ℤ z) next ∙ same_by_ring (x ∷ y ∷ z ∷ []) (var 0 ⊗ var 1 ⊗ var 2) (var 0 ⊗ (var 2 ⊗ var 1)) refl ∙ ap (λ u. x *ℤ u) (sym (product_front values (reference - suc n) n)) in
    let f : product_from volumes (reference - n + 1) n *ℤ w ≡ product_from volumes (reference - suc n + 1) (suc n) =
    ap (λ k. product_from volumes (k + 1) n *ℤ w) next ∙ same_by_ring (v ∷ w ∷ []) (var 0 ⊗ var 1) (var 1 ⊗ var 0) refl ∙ sym (product_front volumes (reference - suc n + 1) n) in
    exact_at (years_before values volumes reference (suc n)) _ _ _ _ e f step

-- all levels
pub point_near : (values volumes : List Cell) (reference y : ℕ) → IsExact (point_at values volumes reference y) (exact_num values volumes reference y) (exact_den values volumes reference y)
point_near values volumes reference y = by (nat_lt y reference) refl
  where
    by : (b : Bool) → nat_lt y reference ≡ b → IsExact (if b then years_before values volumes reference (reference - y) else years_after values volumes reference (y - reference)) (exact_num values volumes reference y) (exact_den values volumes reference y)
    by true less =
        let below : y < reference = grind (arith, less) in
        let none : y - reference ≡ 0 = omega arith in
        let back : reference - (reference - y) ≡ y = omega arith in
        let x = number_or (pos 1) (cell_at values reference) in
        let u = product_from values y (reference - y) in
        let v = product_from volumes (y + 1) (reference - y) in
        let e : x *ℤ product_from values (reference - (reference - y)) (reference - y) ≡ exact_num values volumes reference y =
        ap (λ k. x *ℤ product_from values k (reference - y)) back ∙ same_by_ring (x ∷ u ∷ []) (var 0 ⊗ var 1) (var 0 ⊗ num (pos 1) ⊗ var 1) refl ∙ ap (λ k. x *ℤ product_from volumes (reference + 1) k *ℤ u) (sym none) in
        let f : product_from volumes (reference - (reference - y) + 1) (reference - y) ≡ exact_den values volumes reference y =
        ap (λ k. product_from volumes (k + 1) (reference - y)) back ∙ same_by_ring (v ∷ []) (var 0) (num (pos 1) ⊗ var 0) refl ∙ ap (λ k. product_from values reference k *ℤ v) (sym none) in
        exact_at _ _ _ _ _ e f (before_near values volumes reference (reference - y) (omega arith))
    by false less =
        let above : reference ≤ y = grind (arith, less) in
        let none : reference - y ≡ 0 = omega arith in
        let x = number_or (pos 1) (cell_at values reference) in
        let u = product_from volumes (reference + 1) (y - reference) in
        let v = product_from values reference (y - reference) in
        let e : x *ℤ u ≡ exact_num values volumes reference y =
        same_by_ring (x ∷ u ∷ []) (var 0 ⊗ var 1) (var 0 ⊗ var 1 ⊗ num (pos 1)) refl ∙ ap (λ k. x *ℤ u *ℤ product_from values y k) (sym none) in
        let f : v ≡ exact_den values volumes reference y = same_by_ring (v ∷ []) (var 0) (var 0 ⊗ num (pos 1)) refl ∙ ap (λ k. v *ℤ product_from volumes (y + 1) k) (sym none) in
        exact_at _ _ _ _ _ e f (after_near values volumes reference (y - reference))
