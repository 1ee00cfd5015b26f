-- The laws of floors and ceilings: what they are, that they are the only ones, how large they are.
use Rattle.std.specs.Prelude.{◌≡◌, ℕ, ◌≤◌, ℤ, pos, negsuc, ◌+ℤ◌, ◌*ℤ◌, neg_ℤ, ◌≤ℤ◌, ◌<ℤ◌, [], ◌∷◌, unsigned_abs}
use Rattle.std.proofs.Common.{refl, sym, arith, zero, suc, subst}
use Rattle.std.proofs.lemmas.Int.{ints, by_lt_z}
use Rattle.ratio_arith.specs.Division.{floor_of, ceil_of, round_of, IsFloor, IsCeiling, IsNearest}
use Rattle.ratio_arith.proofs.Linear.{linear, literal_product}
use Rattle.ratio_arith.proofs.Ring.{same_by_ring, var, num, ◌⊕◌, ◌⊗◌, neg}
use Rattle.ratio_arith.proofs.Order.{product_mono, product_cancel}

-- the floor is the greatest whole number at most the quotient
pub floor_is : (n d : ℤ) → pos 0 <ℤ d → IsFloor n d (floor_of n d)
floor_is n (pos zero) positive = absurd (omega (arith, ints))
floor_is n (negsuc d) positive = absurd (omega (arith, ints))
floor_is (pos n) (pos (suc d)) positive = record { at_most = omega (arith, ints); close = omega (arith, ints) }
floor_is (negsuc n) (pos (suc d)) positive = record { at_most = omega (arith, ints); close = omega (arith, ints) }

-- a number within the floor's bounds is the floor
pub floor_from_bounds : (n d q : ℤ) → pos 0 <ℤ d → IsFloor n d q → q ≡ floor_of n d
floor_from_bounds n d q positive bounds = by_lt_z q (floor_of n d)
    (λ below. absurd (over q (floor_of n d) bounds.close (floor_is n d positive).at_most below))
    (λ at_least. by_lt_z (floor_of n d) q
    (λ above. absurd (over (floor_of n d) q (floor_is n d positive).close bounds.at_most above))
    (λ at_most. omega (arith, linear)))
  where
    over : (low high : ℤ) → n <ℤ (d *ℤ low +ℤ d) → (d *ℤ high) ≤ℤ n → low <ℤ high → ⊥
    over low high close at_most less =
        let next : (low +ℤ pos 1) ≤ℤ high = omega (arith, linear) in
        let kept = product_mono d (low +ℤ pos 1) high (omega (arith, linear)) next in
        let x = var 0 in
        let y = var 1 in
        let e : d *ℤ (low +ℤ pos 1) ≡ d *ℤ low +ℤ d = same_by_ring (d ∷ low ∷ []) (x ⊗ (y ⊕ num (pos 1))) (x ⊗ y ⊕ x) refl in
        omega (arith, linear)

-- the ceiling is the least whole number at least the quotient
pub ceil_is : (n d : ℤ) → pos 0 <ℤ d → IsCeiling n d (ceil_of n d)
ceil_is n d positive =
    let floor = floor_is (neg_ℤ n) d positive in
    let x = var 0 in
    let y = var 1 in
    let e : d *ℤ neg_ℤ (floor_of (neg_ℤ n) d) ≡ neg_ℤ (d *ℤ floor_of (neg_ℤ n) d) = same_by_ring (d ∷ floor_of (neg_ℤ n) d ∷ []) (x ⊗ neg y) (neg (x ⊗ y)) refl in
    omega (arith, linear)

-- a number within the ceiling's bounds is the ceiling
pub ceil_from_bounds : (n d q : ℤ) → pos 0 <ℤ d → IsCeiling n d q → q ≡ ceil_of n d
ceil_from_bounds n d q positive bounds =
    let x = var 0 in
    let y = var 1 in
    let e : d *ℤ neg_ℤ q ≡ neg_ℤ (d *ℤ q) = same_by_ring (d ∷ q ∷ []) (x ⊗ neg y) (neg (x ⊗ y)) refl in
    let floor : IsFloor (neg_ℤ n) d (neg_ℤ q) = record { at_most = omega (arith, linear); close = omega (arith, linear) } in
    let same = floor_from_bounds (neg_ℤ n) d (neg_ℤ q) positive floor in
    omega (arith, linear)

-- the rounded quotient is the nearest whole number, halves up
pub round_is : (n d : ℤ) → pos 0 <ℤ d → IsNearest n d (round_of n d)
round_is n d positive =
    let floor = floor_is (pos 2 *ℤ n +ℤ d) (pos 2 *ℤ d) (omega (arith, linear, literal_product 2 d)) in
    let x = var 0 in
    let y = var 1 in
    let e : (pos 2 *ℤ d) *ℤ round_of n d ≡ pos 2 *ℤ (d *ℤ round_of n d) = same_by_ring (d ∷ round_of n d ∷ []) (num (pos 2) ⊗ x ⊗ y) (num (pos 2) ⊗ (x ⊗ y)) refl in
    omega (arith, linear, literal_product)

-- a whole number is the floor of its multiple
pub floor_exact : (d k : ℤ) → pos 0 <ℤ d → floor_of (d *ℤ k) d ≡ k
floor_exact d k positive = sym (floor_from_bounds (d *ℤ k) d k positive (record { at_most = omega (arith, linear); close = omega (arith, linear) }))

-- a whole number is the ceiling of its multiple
pub ceil_exact : (d k : ℤ) → pos 0 <ℤ d → ceil_of (d *ℤ k) d ≡ k
ceil_exact d k positive = sym (ceil_from_bounds (d *ℤ k) d k positive (record { at_least = omega (arith, linear); close = omega (arith, linear) }))

-- whole multiples of the divisor come out of a floor
pub floor-add_multiple : (n d k : ℤ) → pos 0 <ℤ d → floor_of (n +ℤ d *ℤ k) d ≡ floor_of n d +ℤ k
floor-add_multiple n d k positive =
    let floor = floor_is n d positive in
    let x = var 0 in
    let y = var 1 in
    let z = var 2 in
    let e : d *ℤ (floor_of n d +ℤ k) ≡ d *ℤ floor_of n d +ℤ d *ℤ k = same_by_ring (d ∷ floor_of n d ∷ k ∷ []) (x ⊗ (y ⊕ z)) (x ⊗ y ⊕ x ⊗ z) refl in
    sym (floor_from_bounds (n +ℤ d *ℤ k) d (floor_of n d +ℤ k) positive (record { at_most = omega (arith, linear); close = omega (arith, linear) }))

-- a greater numerator has no smaller floor
pub floor_mono : (n m d : ℤ) → pos 0 <ℤ d → n ≤ℤ m → floor_of n d ≤ℤ floor_of m d
floor_mono n m d positive h = by_lt_z (floor_of m d) (floor_of n d)
    (λ less. absurd (over less))
    (λ at_most. at_most)
  where
    over : floor_of m d <ℤ floor_of n d → ⊥
    over less =
        let next : (floor_of m d +ℤ pos 1) ≤ℤ floor_of n d = omega (arith, linear) in
        let kept = product_mono d (floor_of m d +ℤ pos 1) (floor_of n d) (omega (arith, linear)) next in
        let low = floor_is n d positive in
        let high = floor_is m d positive in
        let x = var 0 in
        let y = var 1 in
        let e : d *ℤ (floor_of m d +ℤ pos 1) ≡ d *ℤ floor_of m d +ℤ d = same_by_ring (d ∷ floor_of m d ∷ []) (x ⊗ (y ⊕ num (pos 1))) (x ⊗ y ⊕ x) refl in
        omega (arith, linear)

-- the ceiling is the floor or one more
pub ceil_near_floor : (n d : ℤ) → pos 0 <ℤ d → (floor_of n d ≤ℤ ceil_of n d) × (ceil_of n d ≤ℤ (floor_of n d +ℤ pos 1))
ceil_near_floor n d positive = (product_cancel d (floor_of n d) (ceil_of n d) positive below, by_lt_z (floor_of n d +ℤ pos 1) (ceil_of n d) (λ less. absurd (over less)) (λ at_most. at_most))
  where
    below : (d *ℤ floor_of n d) ≤ℤ (d *ℤ ceil_of n d)
    below = let floor = floor_is n d positive in let ceiling = ceil_is n d positive in omega (arith, linear)

    over : (floor_of n d +ℤ pos 1) <ℤ ceil_of n d → ⊥
    over less =
        let floor = floor_is n d positive in
        let ceiling = ceil_is n d positive in
        let next : (floor_of n d +ℤ pos 2) ≤ℤ ceil_of n d = omega (arith, linear) in
        let kept = product_mono d (floor_of n d +ℤ pos 2) (ceil_of n d) (omega (arith, linear)) next in
        let x = var 0 in
        let y = var 1 in
        let e : d *ℤ (floor_of n d +ℤ pos 2) ≡ d *ℤ floor_of n d +ℤ (d +ℤ d) = same_by_ring (d ∷ floor_of n d ∷ []) (x ⊗ (y ⊕ num (pos 2))) (x ⊗ y ⊕ (x ⊕ x)) refl in
        omega (arith, linear)

-- a quotient's floor is no larger than a bound that its numerator keeps
pub floor_size : (n d : ℤ) (m : ℕ) → pos 0 <ℤ d → neg_ℤ (d *ℤ pos m) ≤ℤ n → n ≤ℤ (d *ℤ pos m) → unsigned_abs (floor_of n d) ≤ m
floor_size n d m positive low high =
    let x = var 0 in
    let y = var 1 in
    let e : d *ℤ neg_ℤ (pos m) ≡ neg_ℤ (d *ℤ pos m) = same_by_ring (d ∷ pos m ∷ []) (x ⊗ neg y) (neg (x ⊗ y)) refl in
    let least = floor_mono (d *ℤ neg_ℤ (pos m)) n d positive (omega (arith, linear)) in
    let most = floor_mono n (d *ℤ pos m) d positive high in
    let at_least = floor_exact d (neg_ℤ (pos m)) positive in
    let at_most = floor_exact d (pos m) positive in
    omega (arith, linear)

-- what is computed as the floor meets the floor's bounds
pub floor_at : (n d q : ℤ) → pos 0 <ℤ d → q ≡ floor_of n d → IsFloor n d q
floor_at n d q positive e = let P : ℤ → Type 0 = λ u. IsFloor n d u in subst P (sym e) (floor_is n d positive)

-- what is computed as the ceiling meets the ceiling's bounds
pub ceil_at : (n d q : ℤ) → pos 0 <ℤ d → q ≡ ceil_of n d → IsCeiling n d q
ceil_at n d q positive e = let P : ℤ → Type 0 = λ u. IsCeiling n d u in subst P (sym e) (ceil_is n d positive)

-- what is computed as the rounded quotient is the nearest whole number
pub round_at : (n d q : ℤ) → pos 0 <ℤ d → q ≡ round_of n d → IsNearest n d q
round_at n d q positive e = let P : ℤ → Type 0 = λ u. IsNearest n d u in subst P (sym e) (round_is n d positive)
