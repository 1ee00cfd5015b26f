-- The laws of nearness: sums, products, chains, and floors against their quotients.
use Rattle.std.specs.Prelude.{◌≡◌, ℤ, pos, ◌+ℤ◌, ◌-ℤ◌, ◌*ℤ◌, neg_ℤ, ◌≤ℤ◌, ◌<ℤ◌, [], ◌∷◌}
use Rattle.std.proofs.Common.{refl, arith}
use Rattle.ratio_arith.specs.Division.{floor_of}
use Rattle.ratio_arith.specs.Nearness.{IsNear}
use Rattle.ratio_arith.proofs.Floors.{floor_is}
use Rattle.ratio_arith.proofs.Linear.{linear}
use Rattle.ratio_arith.proofs.Order.{product_mono}
use Rattle.ratio_arith.proofs.Ring.{same_by_ring, var, ◌⊕◌, ◌⊖◌, ◌⊗◌}

-- a number is near to itself
pub near_self : (x b : ℤ) → pos 0 ≤ℤ b → IsNear x x b
near_self x b h = omega (arith, linear)

-- nearness goes both ways
pub near_sym : (x y b : ℤ) → IsNear x y b → IsNear y x b
near_sym x y b near = omega (arith, linear)

-- nearness in steps
pub near_chain : (x y z a b : ℤ) → IsNear x y a → IsNear y z b → IsNear x z (a +ℤ b)
near_chain x y z a b first second = omega (arith, linear)

-- sums of near numbers are near
pub near_sum : (x y u v a b : ℤ) → IsNear x y a → IsNear u v b → IsNear (x +ℤ u) (y +ℤ v) (a +ℤ b)
near_sum x y u v a b first second = omega (arith, linear)

-- differences of near numbers are near
pub near_difference : (x y u v a b : ℤ) → IsNear x y a → IsNear u v b → IsNear (x -ℤ u) (y -ℤ v) (a +ℤ b)
near_difference x y u v a b first second = omega (arith, linear)

-- the negatives of near numbers are near
pub near_neg : (x y b : ℤ) → IsNear x y b → IsNear (neg_ℤ x) (neg_ℤ y) b
near_neg x y b near = omega (arith, linear)

-- nearness within a bound is nearness within a larger one
pub near_wider : (x y a b : ℤ) → IsNear x y a → a ≤ℤ b → IsNear x y b
near_wider x y a b near wider = omega (arith, linear)

-- equal parts may be put in for one another
pub near_at : (x y b u v c : ℤ) → x ≡ u → y ≡ v → b ≡ c → IsNear x y b → IsNear u v c
near_at x y b u v c ex ey eb near = omega (arith, linear)

-- a factor that is not negative multiplies the distance
pub near_times : (k x y b : ℤ) → pos 0 ≤ℤ k → IsNear x y b → IsNear (k *ℤ x) (k *ℤ y) (k *ℤ b)
near_times k x y b positive near =
    let low = product_mono k (x -ℤ b) y positive near.low in
    let high = product_mono k y (x +ℤ b) positive near.high in
    let a = var 0 in
    let e : k *ℤ (x -ℤ b) ≡ k *ℤ x -ℤ k *ℤ b = same_by_ring (k ∷ x ∷ b ∷ []) (a ⊗ (var 1 ⊖ var 2)) (a ⊗ var 1 ⊖ a ⊗ var 2) refl in
    let f : k *ℤ (x +ℤ b) ≡ k *ℤ x +ℤ k *ℤ b = same_by_ring (k ∷ x ∷ b ∷ []) (a ⊗ (var 1 ⊕ var 2)) (a ⊗ var 1 ⊕ a ⊗ var 2) refl in
    omega (arith, linear)

-- the difference of two floors, times the divisor, is near to the difference of the numerators
pub floors_near : (n m d : ℤ) → pos 0 <ℤ d → IsNear (n -ℤ m) (d *ℤ (floor_of n d -ℤ floor_of m d)) d
floors_near n m d positive =
    let first = floor_is n d positive in
    let second = floor_is m d positive in
    let a = var 0 in
    let e : d *ℤ (floor_of n d -ℤ floor_of m d) ≡ d *ℤ floor_of n d -ℤ d *ℤ floor_of m d = same_by_ring (d ∷ floor_of n d ∷ floor_of m d ∷ []) (a ⊗ (var 1 ⊖ var 2)) (a ⊗ var 1 ⊖ a ⊗ var 2) refl in
    omega (arith, linear)
