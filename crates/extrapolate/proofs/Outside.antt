-- The values outside the benchmarked years stand at the ratios that are carried on, and at those of the steps between
-- two years.
use Rattle.std.specs.Prelude.{◌≡◌, ℕ, suc, ◌+◌, ◌*◌, ◌^◌, ◌≤◌, ◌<◌, ℤ, pos, ◌+ℤ◌, ◌-ℤ◌, ◌*ℤ◌, neg_ℤ, ◌≤ℤ◌, ◌<ℤ◌, List, [], ◌∷◌, ◌++◌, map, length, unsigned_abs}
use Rattle.std.specs.List.{All}
use Rattle.std.proofs.Common.{refl, sym, ◌∙◌, ap, arith, subst}
use Rattle.std.proofs.Math.Nat.{one-le-pow}
use Rattle.ratio_arith.specs.Division.{floor_of}
use Rattle.ratio_arith.specs.Nearness.{IsNear}
use Rattle.ratio_arith.proofs.Floors.{floor_exact, round_is}
use Rattle.ratio_arith.proofs.Linear.{linear, literal_product}
use Rattle.ratio_arith.proofs.Near.{floors_near, near_at}
use Rattle.ratio_arith.proofs.Order.{product_cancel}
use Rattle.ratio_arith.proofs.Ring.{same_by_ring, var, num, ◌⊕◌, ◌⊖◌, ◌⊗◌, neg}
use Rattle.extrapolate.specs.Carried.{at_quarter, ratio_between, stepped}
use Rattle.denton_parts.specs.Changes.{Fraction, steady}
use Rattle.denton_parts.specs.Level.{level_in, level_unit, ratio_floor}
use Rattle.denton_parts.specs.Year.{BenchmarkedYear, AreIndicators, year_sum}
use Rattle.denton_parts.proofs.Reach.{level_unit_positive, near_rounded}
use Rattle.denton_parts.proofs.Distances.{IsAtRatio, Follow, more, level_at_ratio, rounded_at_ratio, steady_floor}

-- an indicator's value at the ratio of a quarter of a year
pub carried_at_ratio : (k : ℕ) (year : BenchmarkedYear) (left right : ℤ) (j i : ℕ) → AreIndicators year.indicators →
    IsAtRatio (pos (10 ^ k)) i (at_quarter k year left right j i) (ratio_floor k year left right j)
carried_at_ratio k year left right j i are =
    let positive = level_unit_positive k year are in
    level_at_ratio (pos (10 ^ k)) (pos (year_sum year.indicators)) i (at_quarter k year left right j i)
    (level_in k year left right j) (omega (arith, linear))
    (near_rounded (pos i *ℤ level_in k year left right j) (level_unit k year) (at_quarter k year left right j i)
    positive
    (round_is (pos i *ℤ level_in k year left right j) (level_unit k year) positive))

-- no step leads nowhere
pub between_first : (from to : ℤ) (steps : ℕ) → 1 ≤ steps → ratio_between from to steps 0 ≡ from
between_first from to steps some =
    let e : pos 0 *ℤ (to -ℤ from) ≡ pos steps *ℤ pos 0 =
    same_by_ring (to ∷ from ∷ pos steps ∷ []) (num (pos 0) ⊗ (var 0 ⊖ var 1)) (var 2 ⊗ num (pos 0)) refl in
    let none : floor_of (pos 0 *ℤ (to -ℤ from)) (pos steps) ≡ pos 0 =
    ap (λ u. floor_of u (pos steps)) e ∙ floor_exact (pos steps) (pos 0) (omega (arith, linear)) in
    omega (arith, linear)

-- all steps lead to the end
pub between_last : (from to : ℤ) (steps : ℕ) → 1 ≤ steps → ratio_between from to steps steps ≡ to
between_last from to steps some =
    let all = floor_exact (pos steps) (to -ℤ from) (omega (arith, linear)) in
    omega (arith, linear)

-- one step goes by the multiplier, where the whole way is near to the steps times the multiplier
pub between_near : (from to own : ℤ) (steps step : ℕ) → 1 ≤ steps →
    unsigned_abs (to -ℤ from -ℤ pos steps *ℤ own) ≤ 1000 * steps →
    IsNear (ratio_between from to steps step +ℤ own) (ratio_between from to steps (suc step)) (pos 1001)
between_near from to own steps step some small =
    let rise = to -ℤ from in
    let w = pos steps in
    let positive : pos 0 <ℤ w = omega (arith, linear) in
    let now = floor_of (pos step *ℤ rise) w in
    let next = floor_of (pos (suc step) *ℤ rise) w in
    let near = floors_near (pos (suc step) *ℤ rise) (pos step *ℤ rise) w positive in
    let one : pos (suc step) ≡ pos step +ℤ pos 1 = omega (arith, linear) in
    let rises : pos (suc step) *ℤ rise -ℤ pos step *ℤ rise ≡ rise = ap (λ u. u *ℤ rise -ℤ pos step *ℤ rise) one
    ∙ same_by_ring (pos step ∷ rise ∷ []) ((var 0 ⊕ num (pos 1)) ⊗ var 1 ⊖ var 0 ⊗ var 1) (var 1) refl in
    let apart : w *ℤ (next -ℤ now -ℤ own) ≡ w *ℤ (next -ℤ now) -ℤ w *ℤ own = same_by_ring (w ∷ next ∷ now ∷ own ∷ [])
    (var 0 ⊗ (var 1 ⊖ var 2 ⊖ var 3)) (var 0 ⊗ (var 1 ⊖ var 2) ⊖ var 0 ⊗ var 3) refl in
    let top : w *ℤ pos 1001 ≡ pos 1001 *ℤ w =
    same_by_ring (w ∷ []) (var 0 ⊗ num (pos 1001)) (num (pos 1001) ⊗ var 0) refl in
    let bottom : w *ℤ neg_ℤ (pos 1001) ≡ neg_ℤ (pos 1001 *ℤ w) =
    same_by_ring (w ∷ []) (var 0 ⊗ neg (num (pos 1001))) (neg (num (pos 1001) ⊗ var 0)) refl in
    let high = product_cancel w (next -ℤ now -ℤ own) (pos 1001) positive (omega (arith, linear, literal_product)) in
    let low =
    product_cancel w (neg_ℤ (pos 1001)) (next -ℤ now -ℤ own) positive (omega (arith, linear, literal_product)) in
    omega (arith, linear)

-- quarters at the steps between two ratios, and quarters that follow them
pub stepped_follow : (k : ℕ) (from to own : ℤ) (steps step : ℕ) (js is : List ℕ) (xs : List ℤ) (cs : List Fraction) →
    1 ≤ steps → unsigned_abs (to -ℤ from -ℤ pos steps *ℤ own) ≤ 1000 * steps → All (λ i. 1 ≤ i) js →
    Follow (pos (10 ^ k)) (ratio_between from to steps (step + length js)) is xs cs →
    Follow (pos (10 ^ k)) (ratio_between from to steps step) (js ++ is) (stepped k from to steps (suc step) js ++ xs)
    (map (λ i. steady own) js ++ cs)
stepped_follow k from to own steps step [] is xs cs some small each rest =
    let e : step + 0 ≡ step = omega arith in
    subst (λ (n : ℕ). Follow (pos (10 ^ k)) (ratio_between from to steps n) is xs cs) e rest
stepped_follow k from to own steps step (j ∷ js) is xs cs some small each rest =
    let one = each 0 j (omega arith) in
    let least : 1 ≤ 10 ^ k = one-le-pow k 10 (omega arith) in
    let e : step + suc (length js) ≡ suc step + length js = omega arith in
    let later = stepped_follow k from to own steps (suc step) js is xs cs some small
    (λ y other inside. each (suc y) other (omega arith)) (subst (λ (n : ℕ). Follow (pos (10 ^ k))
    (ratio_between from to steps n) is xs cs) e rest) in
    more (ratio_between from to steps step) (ratio_between from to steps (suc step)) j _ (steady own) _ _ _ one
    (omega (arith, linear)) (rounded_at_ratio (pos (10 ^ k)) j (ratio_between from to steps (suc step))
    (omega (arith, linear)))
    (near_at _ _ _ _ _ _ (ap (λ u. ratio_between from to steps step +ℤ u) (sym (steady_floor own))) refl refl
    (between_near from to own steps step some small)) later
