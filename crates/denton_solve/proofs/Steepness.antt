-- One joint between two years, in whole numbers: what its residual and its step become where the multipliers change.
use Rattle.std.specs.Prelude.{◌≡◌, ℤ, pos, ◌+ℤ◌, ◌-ℤ◌, ◌*ℤ◌, neg_ℤ, ◌≤ℤ◌, ◌<ℤ◌, [], ◌∷◌}
use Rattle.std.proofs.Common.{refl, ap, arith}
use Rattle.ratio_arith.specs.Nearness.{IsNear}
use Rattle.ratio_arith.proofs.Floors.{ceil_is}
use Rattle.ratio_arith.proofs.Linear.{linear, literal_product}
use Rattle.ratio_arith.proofs.Near.{near_times}
use Rattle.ratio_arith.proofs.Order.{product_mono, product_nonneg, square_nonneg, product_cancel}
use Rattle.ratio_arith.proofs.Ring.{same_by_ring, var, num, ◌⊕◌, ◌⊖◌, ◌⊗◌, neg}
use Rattle.denton_solve.specs.Sweeps.{thousandths}

-- the sum of the products of three parts with what is left of their whole
abbrev pub crossed : ℤ → ℤ → ℤ → ℤ → ℤ
crossed whole a b c = a *ℤ (whole -ℤ a) +ℤ b *ℤ (whole -ℤ b) +ℤ c *ℤ (whole -ℤ c)

-- the sum of their squares
abbrev pub squared : ℤ → ℤ → ℤ → ℤ
squared a b c = a *ℤ a +ℤ b *ℤ b +ℤ c *ℤ c

-- a part of a whole times a floored change
part_near : (whole part outer own change : ℤ) → pos 0 ≤ℤ part → part ≤ℤ whole →
    IsNear (outer *ℤ (whole -ℤ part) +ℤ own *ℤ part) (whole *ℤ change) whole →
    IsNear (part *ℤ (outer *ℤ (whole -ℤ part) +ℤ own *ℤ part)) (whole *ℤ (part *ℤ change)) (whole *ℤ whole)
part_near whole part outer own change least most near =
    let times = near_times part (outer *ℤ (whole -ℤ part) +ℤ own *ℤ part) (whole *ℤ change) whole least near in
    let x = var 0 in
    let y = var 1 in
    let z = var 2 in
    let turned : part *ℤ (whole *ℤ change) ≡ whole *ℤ (part *ℤ change) =
    same_by_ring (whole ∷ part ∷ change ∷ []) (y ⊗ (x ⊗ z)) (x ⊗ (y ⊗ z)) refl in
    let room = product_mono whole part whole (omega (arith, linear)) most in
    let e : part *ℤ whole ≡ whole *ℤ part = same_by_ring (whole ∷ part ∷ []) (y ⊗ x) (x ⊗ y) refl in
    omega (arith, linear)

-- one year of a joint: how far its ratio at the joint goes where the joint's multiplier goes by `own` and the other
-- by `outer`
pub half : (whole a b c outer own x y z ratio : ℤ) → pos 0 ≤ℤ a → a ≤ℤ whole → pos 0 ≤ℤ b → b ≤ℤ whole → pos 0 ≤ℤ c →
    c ≤ℤ whole →
    IsNear (outer *ℤ (whole -ℤ a) +ℤ own *ℤ a) (whole *ℤ x) whole → IsNear (outer *ℤ (whole -ℤ b) +ℤ own *ℤ b)
    (whole *ℤ y) whole → IsNear (outer *ℤ (whole -ℤ c) +ℤ own *ℤ c) (whole *ℤ z) whole →
    IsNear (a *ℤ x +ℤ b *ℤ y +ℤ c *ℤ z) (whole *ℤ ratio) whole →
    IsNear (outer *ℤ crossed whole a b c +ℤ own *ℤ squared a b c) (whole *ℤ (whole *ℤ ratio))
    (pos 4 *ℤ (whole *ℤ whole))
half whole a b c outer own x y z ratio la ma lb mb lc mc na nb nc near =
    let one = part_near whole a outer own x la ma na in
    let two = part_near whole b outer own y lb mb nb in
    let three = part_near whole c outer own z lc mc nc in
    let last = near_times whole (a *ℤ x +ℤ b *ℤ y +ℤ c *ℤ z) (whole *ℤ ratio) whole (omega (arith, linear)) near in
    let v0 = var 0 in
    let v1 = var 1 in
    let v2 = var 2 in
    let v3 = var 3 in
    let v4 = var 4 in
    let v5 = var 5 in
    let v6 = var 6 in
    let apart : whole *ℤ (a *ℤ x +ℤ b *ℤ y +ℤ c *ℤ z) ≡ whole *ℤ (a *ℤ x) +ℤ whole *ℤ (b *ℤ y) +ℤ whole *ℤ (c *ℤ z) =
    same_by_ring (whole ∷ a ∷ b ∷ c ∷ x ∷ y ∷ z ∷ []) (v0 ⊗ (v1 ⊗ v4 ⊕ v2 ⊗ v5 ⊕ v3 ⊗ v6))
    (v0 ⊗ (v1 ⊗ v4) ⊕ v0 ⊗ (v2 ⊗ v5) ⊕ v0 ⊗ (v3 ⊗ v6)) refl in
    let gathered : outer *ℤ crossed whole a b c +ℤ own *ℤ squared a b c ≡ a *ℤ (outer *ℤ (whole -ℤ a) +ℤ own *ℤ a)
    +ℤ b *ℤ (outer *ℤ (whole -ℤ b) +ℤ own *ℤ b) +ℤ c *ℤ (outer *ℤ (whole -ℤ c) +ℤ own *ℤ c) =
    same_by_ring (whole ∷ a ∷ b ∷ c ∷ outer ∷ own ∷ []) (v4 ⊗ (v1 ⊗ (v0 ⊖ v1) ⊕ v2 ⊗ (v0 ⊖ v2) ⊕ v3 ⊗ (v0 ⊖ v3))
    ⊕ v5 ⊗ (v1 ⊗ v1 ⊕ v2 ⊗ v2 ⊕ v3 ⊗ v3))
    (v1 ⊗ (v4 ⊗ (v0 ⊖ v1) ⊕ v5 ⊗ v1) ⊕ v2 ⊗ (v4 ⊗ (v0 ⊖ v2) ⊕ v5 ⊗ v2) ⊕ v3 ⊗ (v4 ⊗ (v0 ⊖ v3) ⊕ v5 ⊗ v3)) refl in
    omega (arith, linear, literal_product 4 (whole *ℤ whole))

-- a part of a whole, times the rest, is small beside the two squares
pub share_bound : (s n : ℤ) → (pos 36 *ℤ (s *ℤ (n -ℤ s))) ≤ℤ (pos 30 *ℤ (s *ℤ s) +ℤ pos 5 *ℤ (n *ℤ n))
share_bound s n =
    let x = var 0 in
    let y = var 1 in
    let left = num (pos 30) ⊗ (x ⊗ x) ⊕ num (pos 5) ⊗ (y ⊗ y) ⊖ num (pos 36) ⊗ (x ⊗ (y ⊖ x)) in
    let root = num (pos 5) ⊗ y ⊖ num (pos 18) ⊗ x in
    let e : pos 5 *ℤ (pos 30 *ℤ (s *ℤ s) +ℤ pos 5 *ℤ (n *ℤ n) -ℤ pos 36 *ℤ (s *ℤ (n -ℤ s)))
    ≡ (pos 5 *ℤ n -ℤ pos 18 *ℤ s) *ℤ (pos 5 *ℤ n -ℤ pos 18 *ℤ s) +ℤ pos 6 *ℤ (s *ℤ s) =
    same_by_ring (s ∷ n ∷ []) (num (pos 5) ⊗ left) (root ⊗ root ⊕ num (pos 6) ⊗ (x ⊗ x)) refl in
    let first = square_nonneg (pos 5 *ℤ n -ℤ pos 18 *ℤ s) in
    let second = square_nonneg s in
    omega (arith, linear, literal_product)

-- three such parts
pub shares_bound : (n a b c : ℤ) → (pos 36 *ℤ crossed n a b c) ≤ℤ (pos 30 *ℤ squared a b c +ℤ pos 15 *ℤ (n *ℤ n))
shares_bound n a b c =
    let one = share_bound a n in
    let two = share_bound b n in
    let three = share_bound c n in
    omega (arith, linear, literal_product)

-- the product of the squares of two wholes
abbrev pub both : ℤ → ℤ → ℤ
both n m = (n *ℤ n) *ℤ (m *ℤ m)

-- how steeply the residual falls where the joint's multiplier rises, times that product
abbrev pub steepness : ℤ → ℤ → ℤ → ℤ → ℤ → ℤ
steepness width n q m p = width *ℤ both n m +ℤ (m *ℤ m) *ℤ q +ℤ (n *ℤ n) *ℤ p

-- how much of that the neighbours' multipliers can take off, times that product
abbrev pub sideways : ℤ → ℤ → ℤ → ℤ → ℤ
sideways n a m b = (m *ℤ m) *ℤ a +ℤ (n *ℤ n) *ℤ b

-- what the neighbours take off is at most five sixths of the weight
pub cross_bound : (width n a q m b p : ℤ) → pos 1 ≤ℤ width → (pos 36 *ℤ a) ≤ℤ (pos 30 *ℤ q +ℤ pos 15 *ℤ (n *ℤ n)) →
    (pos 36 *ℤ b) ≤ℤ (pos 30 *ℤ p +ℤ pos 15 *ℤ (m *ℤ m)) →
    (pos 6 *ℤ sideways n a m b) ≤ℤ (pos 5 *ℤ steepness width n q m p)
cross_bound width n a q m b p wide first second =
    let x = var 0 in
    let y = var 1 in
    let z = var 2 in
    let w = var 3 in
    let one = product_mono (m *ℤ m) (pos 36 *ℤ a) (pos 30 *ℤ q +ℤ pos 15 *ℤ (n *ℤ n)) (square_nonneg m) first in
    let two = product_mono (n *ℤ n) (pos 36 *ℤ b) (pos 30 *ℤ p +ℤ pos 15 *ℤ (m *ℤ m)) (square_nonneg n) second in
    let room = product_mono (both n m) (pos 1) width (product_nonneg (n *ℤ n) (m *ℤ m) (square_nonneg n)
    (square_nonneg m)) wide in
    let e1 : (m *ℤ m) *ℤ (pos 36 *ℤ a) ≡ pos 36 *ℤ ((m *ℤ m) *ℤ a) =
    same_by_ring (m ∷ a ∷ []) (x ⊗ x ⊗ (num (pos 36) ⊗ y)) (num (pos 36) ⊗ (x ⊗ x ⊗ y)) refl in
    let e2 : (n *ℤ n) *ℤ (pos 36 *ℤ b) ≡ pos 36 *ℤ ((n *ℤ n) *ℤ b) =
    same_by_ring (n ∷ b ∷ []) (x ⊗ x ⊗ (num (pos 36) ⊗ y)) (num (pos 36) ⊗ (x ⊗ x ⊗ y)) refl in
    let e3 : (m *ℤ m) *ℤ (pos 30 *ℤ q +ℤ pos 15 *ℤ (n *ℤ n)) ≡ pos 30 *ℤ ((m *ℤ m) *ℤ q) +ℤ pos 15 *ℤ both n m =
    same_by_ring (m ∷ q ∷ n ∷ []) (x ⊗ x ⊗ (num (pos 30) ⊗ y ⊕ num (pos 15) ⊗ (z ⊗ z)))
    (num (pos 30) ⊗ (x ⊗ x ⊗ y) ⊕ num (pos 15) ⊗ (z ⊗ z ⊗ (x ⊗ x))) refl in
    let e4 : (n *ℤ n) *ℤ (pos 30 *ℤ p +ℤ pos 15 *ℤ (m *ℤ m)) ≡ pos 30 *ℤ ((n *ℤ n) *ℤ p) +ℤ pos 15 *ℤ both n m =
    same_by_ring (n ∷ p ∷ m ∷ []) (x ⊗ x ⊗ (num (pos 30) ⊗ y ⊕ num (pos 15) ⊗ (z ⊗ z)))
    (num (pos 30) ⊗ (x ⊗ x ⊗ y) ⊕ num (pos 15) ⊗ (x ⊗ x ⊗ (z ⊗ z))) refl in
    let e5 : both n m *ℤ pos 1 ≡ both n m =
    same_by_ring (n ∷ m ∷ []) (x ⊗ x ⊗ (y ⊗ y) ⊗ num (pos 1)) (x ⊗ x ⊗ (y ⊗ y)) refl in
    let e6 : both n m *ℤ width ≡ width *ℤ both n m =
    same_by_ring (n ∷ m ∷ width ∷ []) (x ⊗ x ⊗ (y ⊗ y) ⊗ z) (z ⊗ (x ⊗ x ⊗ (y ⊗ y))) refl in
    omega (arith, linear, literal_product)

-- a joint's residual where the multipliers change: it goes by its steepness times the joint's own change, but for
-- what the neighbours take
-- off and the floors
pub residual_near : (width n a q before left m b p after right own most : ℤ) → pos 0 ≤ℤ a → pos 0 ≤ℤ b →
    IsNear (pos 0) before most → IsNear (pos 0) after most →
    IsNear (before *ℤ a +ℤ own *ℤ q) (n *ℤ (n *ℤ left)) (pos 4 *ℤ (n *ℤ n)) →
    IsNear (after *ℤ b +ℤ own *ℤ p) (m *ℤ (m *ℤ neg_ℤ right)) (pos 4 *ℤ (m *ℤ m)) →
    IsNear (neg_ℤ (own *ℤ steepness width n q m p)) (both n m *ℤ (right -ℤ left -ℤ width *ℤ own))
    (most *ℤ sideways n a m b +ℤ pos 8 *ℤ both n m)
residual_near width n a q before left m b p after right own most la lb nb na first second =
    let one = near_times (m *ℤ m) (before *ℤ a +ℤ own *ℤ q) (n *ℤ (n *ℤ left)) (pos 4 *ℤ (n *ℤ n)) (square_nonneg m)
    first in
    let two = near_times (n *ℤ n) (after *ℤ b +ℤ own *ℤ p) (m *ℤ (m *ℤ neg_ℤ right)) (pos 4 *ℤ (m *ℤ m))
    (square_nonneg n) second in
    let behind = near_times ((m *ℤ m) *ℤ a) (pos 0) before most (product_nonneg (m *ℤ m) a (square_nonneg m) la) nb in
    let ahead = near_times ((n *ℤ n) *ℤ b) (pos 0) after most (product_nonneg (n *ℤ n) b (square_nonneg n) lb) na in
    let x = var 0 in
    let y = var 1 in
    let z = var 2 in
    let w = var 3 in
    let v = var 4 in
    let e1 : (m *ℤ m) *ℤ (before *ℤ a +ℤ own *ℤ q) ≡ ((m *ℤ m) *ℤ a) *ℤ before +ℤ own *ℤ ((m *ℤ m) *ℤ q) =
    same_by_ring (m ∷ before ∷ a ∷ own ∷ q ∷ []) (x ⊗ x ⊗ (y ⊗ z ⊕ w ⊗ v)) (x ⊗ x ⊗ z ⊗ y ⊕ w ⊗ (x ⊗ x ⊗ v)) refl
    in
    let e2 : (n *ℤ n) *ℤ (after *ℤ b +ℤ own *ℤ p) ≡ ((n *ℤ n) *ℤ b) *ℤ after +ℤ own *ℤ ((n *ℤ n) *ℤ p) =
    same_by_ring (n ∷ after ∷ b ∷ own ∷ p ∷ []) (x ⊗ x ⊗ (y ⊗ z ⊕ w ⊗ v)) (x ⊗ x ⊗ z ⊗ y ⊕ w ⊗ (x ⊗ x ⊗ v)) refl
    in
    let e3 : (m *ℤ m) *ℤ (n *ℤ (n *ℤ left)) ≡ both n m *ℤ left =
    same_by_ring (m ∷ n ∷ left ∷ []) (x ⊗ x ⊗ (y ⊗ (y ⊗ z))) (y ⊗ y ⊗ (x ⊗ x) ⊗ z) refl in
    let e4 : (n *ℤ n) *ℤ (m *ℤ (m *ℤ neg_ℤ right)) ≡ neg_ℤ (both n m *ℤ right) =
    same_by_ring (n ∷ m ∷ right ∷ []) (x ⊗ x ⊗ (y ⊗ (y ⊗ neg z))) (neg (x ⊗ x ⊗ (y ⊗ y) ⊗ z)) refl in
    let e5 : (m *ℤ m) *ℤ (pos 4 *ℤ (n *ℤ n)) ≡ pos 4 *ℤ both n m =
    same_by_ring (m ∷ n ∷ []) (x ⊗ x ⊗ (num (pos 4) ⊗ (y ⊗ y))) (num (pos 4) ⊗ (y ⊗ y ⊗ (x ⊗ x))) refl in
    let e6 : (n *ℤ n) *ℤ (pos 4 *ℤ (m *ℤ m)) ≡ pos 4 *ℤ both n m =
    same_by_ring (n ∷ m ∷ []) (x ⊗ x ⊗ (num (pos 4) ⊗ (y ⊗ y))) (num (pos 4) ⊗ (x ⊗ x ⊗ (y ⊗ y))) refl in
    let e7 : ((m *ℤ m) *ℤ a) *ℤ pos 0 ≡ pos 0 =
    same_by_ring (m ∷ a ∷ []) (x ⊗ x ⊗ y ⊗ num (pos 0)) (num (pos 0)) refl in
    let e8 : ((n *ℤ n) *ℤ b) *ℤ pos 0 ≡ pos 0 =
    same_by_ring (n ∷ b ∷ []) (x ⊗ x ⊗ y ⊗ num (pos 0)) (num (pos 0)) refl in
    let e9 : most *ℤ sideways n a m b ≡ ((m *ℤ m) *ℤ a) *ℤ most +ℤ ((n *ℤ n) *ℤ b) *ℤ most =
    same_by_ring (most ∷ n ∷ a ∷ m ∷ b ∷ []) (x ⊗ (w ⊗ w ⊗ z ⊕ y ⊗ y ⊗ v)) (w ⊗ w ⊗ z ⊗ x ⊕ y ⊗ y ⊗ v ⊗ x) refl in
    let e10 : own *ℤ steepness width n q m p ≡ width *ℤ (both n m *ℤ own) +ℤ own *ℤ ((m *ℤ m) *ℤ q) +ℤ own
    *ℤ ((n *ℤ n) *ℤ p) =
    same_by_ring (own ∷ width ∷ n ∷ q ∷ m ∷ p ∷ []) (x ⊗ (y ⊗ (z ⊗ z ⊗ (v ⊗ v)) ⊕ v ⊗ v ⊗ w ⊕ z ⊗ z ⊗ var 5))
    (y ⊗ (z ⊗ z ⊗ (v ⊗ v) ⊗ x) ⊕ x ⊗ (v ⊗ v ⊗ w) ⊕ x ⊗ (z ⊗ z ⊗ var 5)) refl in
    let e11 : both n m *ℤ (right -ℤ left -ℤ width *ℤ own) ≡ both n m *ℤ right -ℤ both n m *ℤ left -ℤ width
    *ℤ (both n m *ℤ own) =
    same_by_ring (n ∷ m ∷ right ∷ left ∷ width ∷ own ∷ []) (x ⊗ x ⊗ (y ⊗ y) ⊗ (z ⊖ w ⊖ v ⊗ var 5))
    (x ⊗ x ⊗ (y ⊗ y) ⊗ z ⊖ x ⊗ x ⊗ (y ⊗ y) ⊗ w ⊖ v ⊗ (x ⊗ x ⊗ (y ⊗ y) ⊗ var 5)) refl in
    omega (arith, linear, literal_product)

-- the square of a positive number is positive
pub square_positive : (n : ℤ) → pos 0 <ℤ n → pos 0 <ℤ (n *ℤ n)
square_positive n positive =
    let times = product_mono n (pos 1) n (omega (arith, linear)) (omega (arith, linear)) in
    let e : n *ℤ pos 1 ≡ n = same_by_ring (n ∷ []) (var 0 ⊗ num (pos 1)) (var 0) refl in
    omega (arith, linear)

-- a share of a thousand, rounded up, times the square of its whole
share_times : (part n m : ℤ) → pos 0 <ℤ n →
    ((pos 1000 *ℤ ((m *ℤ m) *ℤ (part *ℤ part))) ≤ℤ ((n *ℤ n) *ℤ ((m *ℤ m) *ℤ thousandths part n)))
    × (((n *ℤ n) *ℤ ((m *ℤ m) *ℤ thousandths part n)) ≤ℤ (pos 1000 *ℤ ((m *ℤ m) *ℤ (part *ℤ part)) +ℤ (m *ℤ m)
    *ℤ (n *ℤ n)))
share_times part n m positive =
    let ceiling = ceil_is (pos 1000 *ℤ (part *ℤ part)) (n *ℤ n) (square_positive n positive) in
    let t = thousandths part n in
    let low = product_mono (m *ℤ m) (pos 1000 *ℤ (part *ℤ part)) ((n *ℤ n) *ℤ t) (square_nonneg m) ceiling.at_least in
    let high = product_mono (m *ℤ m) ((n *ℤ n) *ℤ t) (pos 1000 *ℤ (part *ℤ part) +ℤ n *ℤ n) (square_nonneg m)
    (omega (arith, linear)) in
    let x = var 0 in
    let y = var 1 in
    let z = var 2 in
    let e1 : (m *ℤ m) *ℤ (pos 1000 *ℤ (part *ℤ part)) ≡ pos 1000 *ℤ ((m *ℤ m) *ℤ (part *ℤ part)) =
    same_by_ring (m ∷ part ∷ []) (x ⊗ x ⊗ (num (pos 1000) ⊗ (y ⊗ y))) (num (pos 1000) ⊗ (x ⊗ x ⊗ (y ⊗ y))) refl in
    let e2 : (m *ℤ m) *ℤ (pos 1000 *ℤ (part *ℤ part) +ℤ n *ℤ n) ≡ pos 1000 *ℤ ((m *ℤ m) *ℤ (part *ℤ part)) +ℤ (m *ℤ m)
    *ℤ (n *ℤ n) =
    same_by_ring (m ∷ part ∷ n ∷ []) (x ⊗ x ⊗ (num (pos 1000) ⊗ (y ⊗ y) ⊕ z ⊗ z))
    (num (pos 1000) ⊗ (x ⊗ x ⊗ (y ⊗ y)) ⊕ x ⊗ x ⊗ (z ⊗ z)) refl in
    let e3 : (m *ℤ m) *ℤ ((n *ℤ n) *ℤ t) ≡ (n *ℤ n) *ℤ ((m *ℤ m) *ℤ t) =
    same_by_ring (m ∷ n ∷ t ∷ []) (x ⊗ x ⊗ (y ⊗ y ⊗ z)) (y ⊗ y ⊗ (x ⊗ x ⊗ z)) refl in
    (omega (arith, linear), omega (arith, linear))

-- a joint's weight, with its shares
abbrev pub weighed : ℤ → ℤ → ℤ → ℤ → ℤ → ℤ → ℤ → ℤ → ℤ → ℤ
weighed width n a b c m d e f =
    pos 1000 *ℤ width +ℤ (thousandths a n +ℤ thousandths b n +ℤ thousandths c n)
    +ℤ (thousandths d m +ℤ thousandths e m +ℤ thousandths f m)

-- it is a thousand times its steepness, but for six roundings
pub weight_bounds : (width n a b c m d e f : ℤ) → pos 0 <ℤ n → pos 0 <ℤ m →
    ((pos 1000 *ℤ steepness width n (squared a b c) m (squared d e f)) ≤ℤ (both n m *ℤ weighed width n a b c m d e f))
    × ((both n m *ℤ weighed width n a b c m d e f) ≤ℤ (pos 1000 *ℤ steepness width n (squared a b c) m (squared d e f)
    +ℤ pos 6 *ℤ both n m))
weight_bounds width n a b c m d e f pn pm =
    let one = share_times a n m pn in
    let two = share_times b n m pn in
    let three = share_times c n m pn in
    let four = share_times d m n pm in
    let five = share_times e m n pm in
    let six = share_times f m n pm in
    let t1 = thousandths a n in
    let t2 = thousandths b n in
    let t3 = thousandths c n in
    let t4 = thousandths d m in
    let t5 = thousandths e m in
    let t6 = thousandths f m in
    let x = var 0 in
    let y = var 1 in
    let apart : both n m *ℤ weighed width n a b c m d e f ≡ pos 1000 *ℤ (width *ℤ both n m)
    +ℤ (n *ℤ n) *ℤ ((m *ℤ m) *ℤ t1) +ℤ (n *ℤ n) *ℤ ((m *ℤ m) *ℤ t2) +ℤ (n *ℤ n) *ℤ ((m *ℤ m) *ℤ t3)
    +ℤ (m *ℤ m) *ℤ ((n *ℤ n) *ℤ t4) +ℤ (m *ℤ m) *ℤ ((n *ℤ n) *ℤ t5) +ℤ (m *ℤ m) *ℤ ((n *ℤ n) *ℤ t6) =
    same_by_ring (n ∷ m ∷ width ∷ t1 ∷ t2 ∷ t3 ∷ t4 ∷ t5 ∷ t6 ∷ [])
    (x ⊗ x ⊗ (y ⊗ y) ⊗ (num (pos 1000) ⊗ var 2 ⊕ (var 3 ⊕ var 4 ⊕ var 5) ⊕ (var 6 ⊕ var 7 ⊕ var 8)))
    (num (pos 1000) ⊗ (var 2 ⊗ (x ⊗ x ⊗ (y ⊗ y))) ⊕ x ⊗ x ⊗ (y ⊗ y ⊗ var 3) ⊕ x ⊗ x ⊗ (y ⊗ y ⊗ var 4) ⊕ x ⊗ x
    ⊗ (y ⊗ y ⊗ var 5)
    ⊕ y ⊗ y ⊗ (x ⊗ x ⊗ var 6) ⊕ y ⊗ y ⊗ (x ⊗ x ⊗ var 7) ⊕ y ⊗ y ⊗ (x ⊗ x ⊗ var 8)) refl in
    let first : (m *ℤ m) *ℤ squared a b c ≡ (m *ℤ m) *ℤ (a *ℤ a) +ℤ (m *ℤ m) *ℤ (b *ℤ b) +ℤ (m *ℤ m) *ℤ (c *ℤ c) =
    same_by_ring (m ∷ a ∷ b ∷ c ∷ []) (x ⊗ x ⊗ (y ⊗ y ⊕ var 2 ⊗ var 2 ⊕ var 3 ⊗ var 3))
    (x ⊗ x ⊗ (y ⊗ y) ⊕ x ⊗ x ⊗ (var 2 ⊗ var 2) ⊕ x ⊗ x ⊗ (var 3 ⊗ var 3)) refl in
    let second : (n *ℤ n) *ℤ squared d e f ≡ (n *ℤ n) *ℤ (d *ℤ d) +ℤ (n *ℤ n) *ℤ (e *ℤ e) +ℤ (n *ℤ n) *ℤ (f *ℤ f) =
    same_by_ring (n ∷ d ∷ e ∷ f ∷ []) (x ⊗ x ⊗ (y ⊗ y ⊕ var 2 ⊗ var 2 ⊕ var 3 ⊗ var 3))
    (x ⊗ x ⊗ (y ⊗ y) ⊕ x ⊗ x ⊗ (var 2 ⊗ var 2) ⊕ x ⊗ x ⊗ (var 3 ⊗ var 3)) refl in
    let turned : (m *ℤ m) *ℤ (n *ℤ n) ≡ both n m =
    same_by_ring (m ∷ n ∷ []) (x ⊗ x ⊗ (y ⊗ y)) (y ⊗ y ⊗ (x ⊗ x)) refl in
    (omega (arith, linear, literal_product), omega (arith, linear, literal_product))

-- one step of a sweep brings two rows of multipliers nearer: what is left of their greatest difference is 84 of 100,
-- and less than 15
pub settle : (unit off steep g weight own step change most : ℤ) → pos 0 <ℤ unit → pos 0 <ℤ weight → unit ≤ℤ steep →
    IsNear (pos 0) own most →
    g ≡ unit *ℤ weight → (pos 1000 *ℤ steep) ≤ℤ g → g ≤ℤ (pos 1000 *ℤ steep +ℤ pos 6 *ℤ unit) → (pos 6 *ℤ off)
    ≤ℤ (pos 5 *ℤ steep) →
    IsNear (neg_ℤ (own *ℤ steep)) (unit *ℤ step) (most *ℤ off +ℤ pos 8 *ℤ unit) → IsNear (pos 1000 *ℤ step)
    (weight *ℤ change) weight →
    IsNear (pos 0) (pos 100 *ℤ (own +ℤ change)) (pos 84 *ℤ most +ℤ pos 1500)
settle unit off steep g weight own step change most pu pw small near_own e_g low high cross near_step near_change =
    let some : pos 0 ≤ℤ most = omega (arith, linear) in
    let spread : pos 0 ≤ℤ (g -ℤ pos 1000 *ℤ steep) = omega (arith, linear) in
    let drift = near_times (g -ℤ pos 1000 *ℤ steep) (pos 0) own most spread near_own in
    let moved = near_times unit (pos 1000 *ℤ step) (weight *ℤ change) weight (omega (arith, linear)) near_change in
    let crossed = product_mono most (pos 6 *ℤ off) (pos 5 *ℤ steep) some cross in
    let wide : (pos 96 *ℤ g) ≤ℤ (pos 100000 *ℤ steep) = omega (arith, linear, literal_product) in
    let kept = product_mono most (pos 96 *ℤ g) (pos 100000 *ℤ steep) some wide in
    let x = var 0 in
    let y = var 1 in
    let z = var 2 in
    let e1 : (g -ℤ pos 1000 *ℤ steep) *ℤ pos 0 ≡ pos 0 =
    same_by_ring (g ∷ steep ∷ []) ((x ⊖ num (pos 1000) ⊗ y) ⊗ num (pos 0)) (num (pos 0)) refl in
    let e2 : (g -ℤ pos 1000 *ℤ steep) *ℤ own ≡ g *ℤ own -ℤ pos 1000 *ℤ (own *ℤ steep) =
    same_by_ring (g ∷ steep ∷ own ∷ []) ((x ⊖ num (pos 1000) ⊗ y) ⊗ z) (x ⊗ z ⊖ num (pos 1000) ⊗ (z ⊗ y)) refl in
    let e3 : (g -ℤ pos 1000 *ℤ steep) *ℤ most ≡ most *ℤ g -ℤ pos 1000 *ℤ (most *ℤ steep) =
    same_by_ring (g ∷ steep ∷ most ∷ []) ((x ⊖ num (pos 1000) ⊗ y) ⊗ z) (z ⊗ x ⊖ num (pos 1000) ⊗ (z ⊗ y)) refl in
    let e4 : unit *ℤ (pos 1000 *ℤ step) ≡ pos 1000 *ℤ (unit *ℤ step) =
    same_by_ring (unit ∷ step ∷ []) (x ⊗ (num (pos 1000) ⊗ y)) (num (pos 1000) ⊗ (x ⊗ y)) refl in
    let e5 : unit *ℤ (weight *ℤ change) ≡ (unit *ℤ weight) *ℤ change =
    same_by_ring (unit ∷ weight ∷ change ∷ []) (x ⊗ (y ⊗ z)) (x ⊗ y ⊗ z) refl in
    let e6 : g *ℤ change ≡ (unit *ℤ weight) *ℤ change = ap (λ u. u *ℤ change) e_g in
    let e7 : most *ℤ (pos 6 *ℤ off) ≡ pos 6 *ℤ (most *ℤ off) =
    same_by_ring (most ∷ off ∷ []) (x ⊗ (num (pos 6) ⊗ y)) (num (pos 6) ⊗ (x ⊗ y)) refl in
    let e8 : most *ℤ (pos 5 *ℤ steep) ≡ pos 5 *ℤ (most *ℤ steep) =
    same_by_ring (most ∷ steep ∷ []) (x ⊗ (num (pos 5) ⊗ y)) (num (pos 5) ⊗ (x ⊗ y)) refl in
    let e9 : most *ℤ (pos 96 *ℤ g) ≡ pos 96 *ℤ (most *ℤ g) =
    same_by_ring (most ∷ g ∷ []) (x ⊗ (num (pos 96) ⊗ y)) (num (pos 96) ⊗ (x ⊗ y)) refl in
    let e10 : most *ℤ (pos 100000 *ℤ steep) ≡ pos 100000 *ℤ (most *ℤ steep) =
    same_by_ring (most ∷ steep ∷ []) (x ⊗ (num (pos 100000) ⊗ y)) (num (pos 100000) ⊗ (x ⊗ y)) refl in
    let low_end : neg_ℤ (pos 84 *ℤ (most *ℤ g) +ℤ pos 1500 *ℤ g) ≤ℤ (pos 100 *ℤ (g *ℤ own +ℤ g *ℤ change)) =
    omega (arith, linear, literal_product) in
    let high_end : (pos 100 *ℤ (g *ℤ own +ℤ g *ℤ change)) ≤ℤ (pos 84 *ℤ (most *ℤ g) +ℤ pos 1500 *ℤ g) =
    omega (arith, linear, literal_product) in
    let positive : pos 0 <ℤ g = omega (arith, linear, literal_product) in
    let e11 : g *ℤ (pos 100 *ℤ (own +ℤ change)) ≡ pos 100 *ℤ (g *ℤ own +ℤ g *ℤ change) =
    same_by_ring (g ∷ own ∷ change ∷ []) (x ⊗ (num (pos 100) ⊗ (y ⊕ z))) (num (pos 100) ⊗ (x ⊗ y ⊕ x ⊗ z)) refl in
    let e12 : g *ℤ (pos 84 *ℤ most +ℤ pos 1500) ≡ pos 84 *ℤ (most *ℤ g) +ℤ pos 1500 *ℤ g =
    same_by_ring (g ∷ most ∷ []) (x ⊗ (num (pos 84) ⊗ y ⊕ num (pos 1500)))
    (num (pos 84) ⊗ (y ⊗ x) ⊕ num (pos 1500) ⊗ x) refl
    in
    let e13 : g *ℤ neg_ℤ (pos 84 *ℤ most +ℤ pos 1500) ≡ neg_ℤ (pos 84 *ℤ (most *ℤ g) +ℤ pos 1500 *ℤ g) =
    same_by_ring (g ∷ most ∷ []) (x ⊗ neg (num (pos 84) ⊗ y ⊕ num (pos 1500)))
    (neg (num (pos 84) ⊗ (y ⊗ x) ⊕ num (pos 1500)
    ⊗ x)) refl in
    let low_part = product_cancel g (neg_ℤ (pos 84 *ℤ most +ℤ pos 1500)) (pos 100 *ℤ (own +ℤ change)) positive
    (omega (arith, linear)) in
    let high_part =
    product_cancel g (pos 100 *ℤ (own +ℤ change)) (pos 84 *ℤ most +ℤ pos 1500) positive (omega (arith, linear)) in
    omega (arith, linear)
