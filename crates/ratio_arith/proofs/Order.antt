-- The order of the integers and their products: what holds of a product by its factors' signs, and how a factor is put in or taken off.
use Rattle.std.specs.Prelude.{◌≡◌, ℕ, ℤ, pos, negsuc, ◌+ℤ◌, ◌-ℤ◌, ◌*ℤ◌, neg_ℤ, ◌≤ℤ◌, ◌<ℤ◌, [], ◌∷◌, unsigned_abs, ◌≤◌, ◌*◌}
use Rattle.std.proofs.Common.{refl, arith}
use Rattle.std.proofs.lemmas.Int.{ints, by_lt_z, unsigned_abs-mul}
use Rattle.ratio_arith.proofs.Linear.{linear}
use Rattle.ratio_arith.proofs.Ring.{same_by_ring, var, num, ◌⊕◌, ◌⊖◌, ◌⊗◌}

-- a product of two numbers that are not negative is not negative
pub product_nonneg : (a b : ℤ) → pos 0 ≤ℤ a → pos 0 ≤ℤ b → pos 0 ≤ℤ (a *ℤ b)
product_nonneg (pos a) (pos b) p q = omega (arith, ints)
product_nonneg (pos a) (negsuc b) p q = absurd (omega (arith, ints))
product_nonneg (negsuc a) b p q = absurd (omega (arith, ints))

-- a square is not negative
pub square_nonneg : (a : ℤ) → pos 0 ≤ℤ (a *ℤ a)
square_nonneg (pos a) = omega (arith, ints)
square_nonneg (negsuc a) = omega (arith, ints)

-- a is at most b where b is a and a rest that is not negative
pub le_from_rest : (a b rest : ℤ) → b -ℤ a ≡ rest → pos 0 ≤ℤ rest → a ≤ℤ b
le_from_rest a b rest e h = omega (arith, linear)

-- a factor that is not negative keeps an order
pub product_mono : (k a b : ℤ) → pos 0 ≤ℤ k → a ≤ℤ b → (k *ℤ a) ≤ℤ (k *ℤ b)
product_mono k a b positive h =
    let x = var 0 in
    let y = var 1 in
    let z = var 2 in
    let e : k *ℤ b -ℤ k *ℤ a ≡ k *ℤ (b -ℤ a) = same_by_ring (k ∷ a ∷ b ∷ []) (x ⊗ z ⊖ x ⊗ y) (x ⊗ (z ⊖ y)) refl in
    let rest : pos 0 ≤ℤ (b -ℤ a) = omega (arith, linear) in
    le_from_rest (k *ℤ a) (k *ℤ b) (k *ℤ (b -ℤ a)) e (product_nonneg k (b -ℤ a) positive rest)

-- a positive factor keeps a strict order
pub product_strict : (k a b : ℤ) → pos 0 <ℤ k → a <ℤ b → (k *ℤ a) <ℤ (k *ℤ b)
product_strict k a b positive h =
    let more : (a +ℤ pos 1) ≤ℤ b = omega (arith, linear) in
    let kept : (k *ℤ (a +ℤ pos 1)) ≤ℤ (k *ℤ b) = product_mono k (a +ℤ pos 1) b (omega (arith, linear)) more in
    let x = var 0 in
    let y = var 1 in
    let e : k *ℤ (a +ℤ pos 1) ≡ k *ℤ a +ℤ k = same_by_ring (k ∷ a ∷ []) (x ⊗ (y ⊕ num (pos 1))) (x ⊗ y ⊕ x) refl in
    omega (arith, linear)

-- a positive factor is taken off an order
pub product_cancel : (k a b : ℤ) → pos 0 <ℤ k → (k *ℤ a) ≤ℤ (k *ℤ b) → a ≤ℤ b
product_cancel k a b positive h = by_lt_z b a
    (λ below. let strict = product_strict k b a positive below in omega (arith, linear))
    (λ at_most. at_most)

-- a positive factor is taken off an equation
pub product_cancel_same : (k a b : ℤ) → pos 0 <ℤ k → k *ℤ a ≡ k *ℤ b → a ≡ b
product_cancel_same k a b positive e =
    let below = product_cancel k a b positive (omega (arith, linear)) in
    let above = product_cancel k b a positive (omega (arith, linear)) in
    omega (arith, linear)

-- the square of a number within h is at most the square of h
pub square_within : (a h : ℤ) → neg_ℤ h ≤ℤ a → a ≤ℤ h → (a *ℤ a) ≤ℤ (h *ℤ h)
square_within a h low high =
    let x = var 0 in
    let y = var 1 in
    let e : h *ℤ h -ℤ a *ℤ a ≡ (h -ℤ a) *ℤ (h +ℤ a) = same_by_ring (a ∷ h ∷ []) (y ⊗ y ⊖ x ⊗ x) ((y ⊖ x) ⊗ (y ⊕ x)) refl in
    let first : pos 0 ≤ℤ (h -ℤ a) = omega (arith, linear) in
    let second : pos 0 ≤ℤ (h +ℤ a) = omega (arith, linear) in
    le_from_rest (a *ℤ a) (h *ℤ h) ((h -ℤ a) *ℤ (h +ℤ a)) e (product_nonneg (h -ℤ a) (h +ℤ a) first second)

-- the size of a product is at most the product of the sizes
pub size-*ℤ : (a b : ℤ) (m n : ℕ) → unsigned_abs a ≤ m → unsigned_abs b ≤ n → unsigned_abs (a *ℤ b) ≤ m * n
size-*ℤ a b m n p q = grind (arith, unsigned_abs-mul a b)
