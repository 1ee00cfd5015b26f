-- One year's part of the balance, by parts: inside a benchmarked year the changes fall by multiples of the indicators,
-- so the differences of two series that meet one benchmark drop out, and in any other year the change stays.
use Rattle.std.specs.Prelude.{◌≡◌, ℕ, ◌+◌, ℤ, pos, ◌+ℤ◌, ◌-ℤ◌, ◌*ℤ◌, neg_ℤ, ◌<ℤ◌, [], ◌∷◌}
use Rattle.std.proofs.Common.{refl, sym, ◌∙◌, ap, arith}
use Rattle.ratio_arith.proofs.Linear.{linear}
use Rattle.ratio_arith.proofs.Order.{product_cancel_same}
use Rattle.ratio_arith.proofs.Ring.{same_by_ring, var, num, ◌⊕◌, ◌⊖◌, ◌⊗◌, neg}
use Rattle.denton_parts.specs.Changes.{change_of}

-- a year by parts: the weighed changes of four ratios w0 to w3 after w, and what follows
by_parts : (q left right w w0 w1 w2 w3 t : ℤ) (i0 i1 i2 i3 : ℕ) → q *ℤ (change_of left right (i0 + i1 + i2 + i3) 0).numerator *ℤ (w0 -ℤ w) +ℤ (q *ℤ (change_of left right (i0 + i1 + i2 + i3) i0).numerator *ℤ (w1 -ℤ w0) +ℤ (q *ℤ (change_of left right (i0 + i1 + i2 + i3) (i0 + i1)).numerator *ℤ (w2 -ℤ w1) +ℤ (q *ℤ (change_of left right (i0 + i1 + i2 + i3) (i0 + i1 + i2)).numerator *ℤ (w3 -ℤ w2) +ℤ t))) ≡ q *ℤ (left -ℤ right) *ℤ (pos i0 *ℤ w0 +ℤ pos i1 *ℤ w1 +ℤ pos i2 *ℤ w2 +ℤ pos i3 *ℤ w3) +ℤ q *ℤ pos (i0 + i1 + i2 + i3) *ℤ (right *ℤ w3 -ℤ left *ℤ w) +ℤ t
by_parts q left right w w0 w1 w2 w3 t i0 i1 i2 i3 =
    let tq = var 0 in
    let l = var 1 in
    let r = var 2 in
    let b = var 3 in
    let b0 = var 4 in
    let b1 = var 5 in
    let b2 = var 6 in
    let b3 = var 7 in
    let rest = var 8 in
    let a0 = var 9 in
    let a1 = var 10 in
    let a2 = var 11 in
    let a3 = var 12 in
    let sum = a0 ⊕ a1 ⊕ a2 ⊕ a3 in
    same_by_ring (q ∷ left ∷ right ∷ w ∷ w0 ∷ w1 ∷ w2 ∷ w3 ∷ t ∷ pos i0 ∷ pos i1 ∷ pos i2 ∷ pos i3 ∷ []) (tq ⊗ (l ⊗ (sum ⊖ num (pos 0)) ⊕ r ⊗ num (pos 0)) ⊗ (b0 ⊖ b) ⊕ (tq ⊗ (l ⊗ (sum ⊖ a0) ⊕ r ⊗ a0) ⊗ (b1 ⊖ b0) ⊕ (tq ⊗ (l ⊗ (sum ⊖ (a0 ⊕ a1)) ⊕ r ⊗ (a0 ⊕ a1)) ⊗ (b2 ⊖ b1) ⊕ (tq ⊗ (l ⊗ (sum ⊖ (a0 ⊕ a1 ⊕ a2)) ⊕ r ⊗ (a0 ⊕ a1 ⊕ a2)) ⊗ (b3 ⊖ b2) ⊕ rest)))) (tq ⊗ (l ⊖ r) ⊗ (a0 ⊗ b0 ⊕ a1 ⊗ b1 ⊕ a2 ⊗ b2 ⊕ a3 ⊗ b3) ⊕ tq ⊗ sum ⊗ (r ⊗ b3 ⊖ l ⊗ b) ⊕ rest) refl

-- an indicator times a scaled ratio is the common multiple times the number
lifted : (i p whole number : ℤ) → p *ℤ i ≡ whole → i *ℤ (p *ℤ number) ≡ whole *ℤ number
lifted i p whole number e =
    let x = var 0 in
    let y = var 1 in
    let z = var 2 in
    let turned : i *ℤ (p *ℤ number) ≡ (p *ℤ i) *ℤ number = same_by_ring (i ∷ p ∷ number ∷ []) (x ⊗ (y ⊗ z)) (y ⊗ x ⊗ z) refl in
    turned ∙ ap (λ u. u *ℤ number) e

-- the differences of two series that meet one benchmark add up to nothing
balanced : (n a x0 x1 x2 x3 z0 z1 z2 z3 : ℤ) → x0 +ℤ x1 +ℤ x2 +ℤ x3 ≡ pos 1 *ℤ a → z0 +ℤ z1 +ℤ z2 +ℤ z3 ≡ n *ℤ a → (n *ℤ x0 -ℤ z0) +ℤ (n *ℤ x1 -ℤ z1) +ℤ (n *ℤ x2 -ℤ z2) +ℤ (n *ℤ x3 -ℤ z3) ≡ pos 0
balanced n a x0 x1 x2 x3 z0 z1 z2 z3 ex ez =
    let t = var 0 in
    let spread : n *ℤ (x0 +ℤ x1 +ℤ x2 +ℤ x3) ≡ n *ℤ x0 +ℤ n *ℤ x1 +ℤ n *ℤ x2 +ℤ n *ℤ x3 = same_by_ring (n ∷ x0 ∷ x1 ∷ x2 ∷ x3 ∷ []) (t ⊗ (var 1 ⊕ var 2 ⊕ var 3 ⊕ var 4)) (t ⊗ var 1 ⊕ t ⊗ var 2 ⊕ t ⊗ var 3 ⊕ t ⊗ var 4) refl in
    let one : pos 1 *ℤ a ≡ a = same_by_ring (a ∷ []) (num (pos 1) ⊗ t) t refl in
    let whole : n *ℤ (x0 +ℤ x1 +ℤ x2 +ℤ x3) ≡ n *ℤ a = ap (λ u. n *ℤ u) (ex ∙ one) in
    omega (arith, linear)

-- a year's sum and what follows, where the next year's begins with the multiplier after this one
pub year_step : (share q left right w w0 w1 w2 w3 t : ℤ) (i0 i1 i2 i3 : ℕ) → q *ℤ pos (i0 + i1 + i2 + i3) ≡ share → pos i0 *ℤ w0 +ℤ pos i1 *ℤ w1 +ℤ pos i2 *ℤ w2 +ℤ pos i3 *ℤ w3 ≡ pos 0 → t ≡ neg_ℤ (share *ℤ (right *ℤ w3)) → q *ℤ (change_of left right (i0 + i1 + i2 + i3) 0).numerator *ℤ (w0 -ℤ w) +ℤ (q *ℤ (change_of left right (i0 + i1 + i2 + i3) i0).numerator *ℤ (w1 -ℤ w0) +ℤ (q *ℤ (change_of left right (i0 + i1 + i2 + i3) (i0 + i1)).numerator *ℤ (w2 -ℤ w1) +ℤ (q *ℤ (change_of left right (i0 + i1 + i2 + i3) (i0 + i1 + i2)).numerator *ℤ (w3 -ℤ w2) +ℤ t))) ≡ neg_ℤ (share *ℤ (left *ℤ w))
year_step share q left right w w0 w1 w2 w3 t i0 i1 i2 i3 part nothing follows =
    let parts = by_parts q left right w w0 w1 w2 w3 t i0 i1 i2 i3 in
    let x = var 0 in
    let y = var 1 in
    let z = var 2 in
    let v = var 3 in
    let gone : q *ℤ (left -ℤ right) *ℤ (pos i0 *ℤ w0 +ℤ pos i1 *ℤ w1 +ℤ pos i2 *ℤ w2 +ℤ pos i3 *ℤ w3) ≡ q *ℤ (left -ℤ right) *ℤ pos 0 = ap (λ u. q *ℤ (left -ℤ right) *ℤ u) nothing in
    let zero_product : q *ℤ (left -ℤ right) *ℤ pos 0 ≡ pos 0 = same_by_ring (q ∷ left ∷ right ∷ []) (x ⊗ (y ⊖ z) ⊗ num (pos 0)) (num (pos 0)) refl in
    let taken : q *ℤ pos (i0 + i1 + i2 + i3) *ℤ (right *ℤ w3 -ℤ left *ℤ w) ≡ share *ℤ (right *ℤ w3 -ℤ left *ℤ w) = ap (λ u. u *ℤ (right *ℤ w3 -ℤ left *ℤ w)) part in
    let spread : share *ℤ (right *ℤ w3 -ℤ left *ℤ w) ≡ share *ℤ (right *ℤ w3) -ℤ share *ℤ (left *ℤ w) = same_by_ring (share ∷ (right *ℤ w3) ∷ (left *ℤ w) ∷ []) (x ⊗ (y ⊖ z)) (x ⊗ y ⊖ x ⊗ z) refl in
    omega (arith, linear)

-- the four weighed ratios of a year add up to nothing
pub year_balanced : (whole n a p0 p1 p2 p3 x0 x1 x2 x3 z0 z1 z2 z3 : ℤ) (i0 i1 i2 i3 : ℕ) → p0 *ℤ pos i0 ≡ whole → p1 *ℤ pos i1 ≡ whole → p2 *ℤ pos i2 ≡ whole → p3 *ℤ pos i3 ≡ whole → x0 +ℤ x1 +ℤ x2 +ℤ x3 ≡ pos 1 *ℤ a → z0 +ℤ z1 +ℤ z2 +ℤ z3 ≡ n *ℤ a → pos i0 *ℤ (p0 *ℤ (n *ℤ x0 -ℤ z0)) +ℤ pos i1 *ℤ (p1 *ℤ (n *ℤ x1 -ℤ z1)) +ℤ pos i2 *ℤ (p2 *ℤ (n *ℤ x2 -ℤ z2)) +ℤ pos i3 *ℤ (p3 *ℤ (n *ℤ x3 -ℤ z3)) ≡ pos 0
year_balanced whole n a p0 p1 p2 p3 x0 x1 x2 x3 z0 z1 z2 z3 i0 i1 i2 i3 e0 e1 e2 e3 ex ez =
    let l0 = lifted (pos i0) p0 whole (n *ℤ x0 -ℤ z0) e0 in
    let l1 = lifted (pos i1) p1 whole (n *ℤ x1 -ℤ z1) e1 in
    let l2 = lifted (pos i2) p2 whole (n *ℤ x2 -ℤ z2) e2 in
    let l3 = lifted (pos i3) p3 whole (n *ℤ x3 -ℤ z3) e3 in
    let sum = balanced n a x0 x1 x2 x3 z0 z1 z2 z3 ex ez in
    collect whole (n *ℤ x0 -ℤ z0) (n *ℤ x1 -ℤ z1) (n *ℤ x2 -ℤ z2) (n *ℤ x3 -ℤ z3) _ _ _ _ l0 l1 l2 l3 sum
  where
    collect : (whole d0 d1 d2 d3 m0 m1 m2 m3 : ℤ) → m0 ≡ whole *ℤ d0 → m1 ≡ whole *ℤ d1 → m2 ≡ whole *ℤ d2 → m3 ≡ whole *ℤ d3 → d0 +ℤ d1 +ℤ d2 +ℤ d3 ≡ pos 0 → m0 +ℤ m1 +ℤ m2 +ℤ m3 ≡ pos 0
    collect whole d0 d1 d2 d3 m0 m1 m2 m3 e0 e1 e2 e3 sum =
        let t = var 0 in
        let spread : whole *ℤ (d0 +ℤ d1 +ℤ d2 +ℤ d3) ≡ whole *ℤ d0 +ℤ whole *ℤ d1 +ℤ whole *ℤ d2 +ℤ whole *ℤ d3 = same_by_ring (whole ∷ d0 ∷ d1 ∷ d2 ∷ d3 ∷ []) (t ⊗ (var 1 ⊕ var 2 ⊕ var 3 ⊕ var 4)) (t ⊗ var 1 ⊕ t ⊗ var 2 ⊕ t ⊗ var 3 ⊕ t ⊗ var 4) refl in
        let gone : whole *ℤ (d0 +ℤ d1 +ℤ d2 +ℤ d3) ≡ whole *ℤ pos 0 = ap (λ u. whole *ℤ u) sum in
        let zero_product : whole *ℤ pos 0 ≡ pos 0 = same_by_ring (whole ∷ []) (t ⊗ num (pos 0)) (num (pos 0)) refl in
        omega (arith, linear)

-- two quarters of one year have one share of the changes' common multiple
pub same_share : (share q r sum : ℤ) → pos 0 <ℤ sum → q *ℤ sum ≡ share → r *ℤ sum ≡ share → r ≡ q
same_share share q r sum positive e f =
    let x = var 0 in
    let y = var 1 in
    let first : sum *ℤ r ≡ r *ℤ sum = same_by_ring (sum ∷ r ∷ []) (x ⊗ y) (y ⊗ x) refl in
    let second : sum *ℤ q ≡ q *ℤ sum = same_by_ring (sum ∷ q ∷ []) (x ⊗ y) (y ⊗ x) refl in
    product_cancel_same sum r q positive (first ∙ f ∙ sym e ∙ sym second)

-- four quarters of no benchmarked year: their given change stays, so its parts telescope
pub hole_step : (share left w w0 w1 w2 w3 t : ℤ) → t ≡ neg_ℤ (share *ℤ (left *ℤ w3)) →
    share *ℤ left *ℤ (w0 -ℤ w) +ℤ (share *ℤ left *ℤ (w1 -ℤ w0)
    +ℤ (share *ℤ left *ℤ (w2 -ℤ w1) +ℤ (share *ℤ left *ℤ (w3 -ℤ w2) +ℤ t)))
    ≡ neg_ℤ (share *ℤ (left *ℤ w))
hole_step share left w w0 w1 w2 w3 t follows =
    let s = var 0 in
    let l = var 1 in
    let b = var 2 in
    let b0 = var 3 in
    let b1 = var 4 in
    let b2 = var 5 in
    let b3 = var 6 in
    rw follows
    (same_by_ring (share ∷ left ∷ w ∷ w0 ∷ w1 ∷ w2 ∷ w3 ∷ [])
    (s ⊗ l ⊗ (b0 ⊖ b) ⊕ (s ⊗ l ⊗ (b1 ⊖ b0) ⊕ (s ⊗ l ⊗ (b2 ⊖ b1) ⊕ (s ⊗ l ⊗ (b3 ⊖ b2) ⊕ neg (s ⊗ (l ⊗ b3))))))
    (neg (s ⊗ (l ⊗ b))) refl)

-- the share of a change that is a whole number is the whole share
pub one_share : (share q : ℤ) → q *ℤ pos 1 ≡ share → q ≡ share
one_share share q e = same_by_ring (q ∷ []) (var 0) (var 0 ⊗ num (pos 1)) refl ∙ e
