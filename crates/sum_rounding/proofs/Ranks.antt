-- The ranks of four remainders: they differ, and they follow the order of the remainders.
use Rattle.std.proofs.Common.{◌≡◌, ◌≢◌, ℕ, ◌+◌, ◌*◌, ◌<◌, ◌⊎◌, ℤ, pos, negsuc, ◌+ℤ◌, ◌*ℤ◌, ◌<ℤ◌, ◌≤ℤ◌, [], ◌∷◌, arith, cond, ltb, ap, refl}
use Rattle.std.proofs.lemmas.Int.{ints}
use borrow.Author.Differences.{up, down}
use Rattle.std.proofs.lemmas.Bool.Decides.{nat_tests}
use Rattle.sum_rounding.specs.ShareOut.{rank_of}

-- of two ranks the smaller is the rank of the larger remainder, or of the earlier one
abbrev pub Ordered : ℕ → ℕ → ℤ → ℤ → Type 0
Ordered p q r s = ((p < q) × (s ≤ℤ r)) ⊎ ((q < p) × (r <ℤ s))

pub first_second : (a b c d : ℤ) → Ordered (rank_of [] a (b ∷ c ∷ d ∷ [])) (rank_of (a ∷ []) b (c ∷ d ∷ [])) a b
first_second a b c d = grind (arith, ints)

pub first_third : (a b c d : ℤ) → Ordered (rank_of [] a (b ∷ c ∷ d ∷ [])) (rank_of (a ∷ b ∷ []) c (d ∷ [])) a c
first_third a b c d = grind (arith, ints)

-- as many of four different ranks are below what is left as units are left
abbrev pub one_below : ℕ → ℕ → ℕ
one_below rank left = cond (ltb rank left) 1 0

pub counted : (p q r s left : ℕ) → p < 4 → q < 4 → r < 4 → s < 4 → left < 4 → p ≢ q → p ≢ r → p ≢ s → q ≢ r → q ≢ s → r ≢ s →
    one_below p left + one_below q left + one_below r left + one_below s left ≡ left
counted p q r s left = grind (arith, nat_tests)

pub first_fourth : (a b c d : ℤ) → Ordered (rank_of [] a (b ∷ c ∷ d ∷ [])) (rank_of (a ∷ b ∷ c ∷ []) d []) a d
first_fourth a b c d = grind (arith, ints)

pub second_third : (a b c d : ℤ) → Ordered (rank_of (a ∷ []) b (c ∷ d ∷ [])) (rank_of (a ∷ b ∷ []) c (d ∷ [])) b c
second_third a b c d = grind (arith, ints)

pub second_fourth : (a b c d : ℤ) → Ordered (rank_of (a ∷ []) b (c ∷ d ∷ [])) (rank_of (a ∷ b ∷ c ∷ []) d []) b d
second_fourth a b c d = grind (arith, ints)

pub third_fourth : (a b c d : ℤ) → Ordered (rank_of (a ∷ b ∷ []) c (d ∷ [])) (rank_of (a ∷ b ∷ c ∷ []) d []) c d
third_fourth a b c d = grind (arith, ints)

-- no rank is above three
pub ranks_small : (a b c d : ℤ) →
    (rank_of [] a (b ∷ c ∷ d ∷ []) < 4) × (rank_of (a ∷ []) b (c ∷ d ∷ []) < 4) × (rank_of (a ∷ b ∷ []) c (d ∷ []) < 4) × (rank_of (a ∷ b ∷ c ∷ []) d [] < 4)
ranks_small a b c d = (grind (arith, ints), grind (arith, ints), grind (arith, ints), grind (arith, ints))

-- a product by a sum
pub distribute : (n : ℕ) (x y : ℤ) → pos n *ℤ (x +ℤ y) ≡ pos n *ℤ x +ℤ pos n *ℤ y
distribute n x y =
    let e : up (x +ℤ y) + (down x + down y) ≡ down (x +ℤ y) + (up x + up y) = omega (arith, ints) in
    omega (arith, ints, ap (λ k. n * k) e)

-- a factor of a product below four times the other factor
below_four : (n k : ℕ) → 0 < n → n * k < 4 * n → k < 4
below_four n k h below = grind arith

-- the units that are left: none to three
pub units_left : (n : ℕ) (left s : ℤ) → 0 < n → s ≡ pos n *ℤ left → pos 0 ≤ℤ s → s <ℤ pos (4 * n) → (k : ℕ) × (left ≡ pos k) × (k < 4)
units_left n (pos k) s h e low high = (k, refl, below_four n k h (omega (arith, ints)))
units_left n (negsuc k) s h e low high = absurd (grind (arith, ints))
