-- How large the numbers of one year are.
use Rattle.std.specs.Prelude.{◌≡◌, ℕ, ◌*◌, ◌^◌, ◌≤◌, ◌<◌, List, slice_index, ℤ, pos, negsuc, ◌+ℤ◌, ◌-ℤ◌, ◌*ℤ◌, neg_ℤ, ◌≤ℤ◌, ◌<ℤ◌, [], ◌∷◌, unsigned_abs}
use Rattle.std.proofs.Common.{refl, ◌∙◌, ap, arith, zero, suc, get_or}
use Rattle.denton_parts.specs.Year.{AreIndicators, year_sum}
use Rattle.denton_parts.specs.Level.{rises, weighed_rises, level_of}
use Rattle.std.proofs.lemmas.Int.{ints, unsigned_abs-mul}
use Rattle.std.proofs.Math.Nat.{mul-le-mul, mul-le-mul_right, pow-le-pow_right, one-le-pow}
use Rattle.ratio_arith.specs.Division.{ceil_of, IsFloor}
use Rattle.ratio_arith.proofs.Floors.{floor_size, ceil_from_bounds}
use Rattle.ratio_arith.proofs.Linear.{linear}
use Rattle.ratio_arith.proofs.Order.{product_mono}
use Rattle.ratio_arith.proofs.Ring.{same_by_ring, var, num, ◌⊕◌, ◌⊖◌, ◌⊗◌, neg}

-- a weight times a number within m is within the weight times m
weighed_part : (number weight : ℤ) (m : ℕ) → unsigned_abs number ≤ m → pos 0 ≤ℤ weight → (neg_ℤ (weight *ℤ pos m) ≤ℤ (number *ℤ weight)) × ((number *ℤ weight) ≤ℤ (weight *ℤ pos m))
weighed_part number weight m size positive =
    let x = var 0 in
    let y = var 1 in
    let low = product_mono weight (neg_ℤ (pos m)) number positive (omega (arith, ints)) in
    let high = product_mono weight number (pos m) positive (omega (arith, ints)) in
    let turned : weight *ℤ number ≡ number *ℤ weight = same_by_ring (weight ∷ number ∷ []) (x ⊗ y) (y ⊗ x) refl in
    let sign : weight *ℤ neg_ℤ (pos m) ≡ neg_ℤ (weight *ℤ pos m) = same_by_ring (weight ∷ pos m ∷ []) (x ⊗ neg y) (neg (x ⊗ y)) refl in
    omega (arith, linear)

-- two numbers within m, weighed by the parts of a sum, come within the sum times m
pub weighed_within : (left right sum before : ℤ) (m : ℕ) → unsigned_abs left ≤ m → unsigned_abs right ≤ m → pos 0 ≤ℤ before → before ≤ℤ sum → (neg_ℤ (sum *ℤ pos m) ≤ℤ (left *ℤ (sum -ℤ before) +ℤ right *ℤ before)) × ((left *ℤ (sum -ℤ before) +ℤ right *ℤ before) ≤ℤ (sum *ℤ pos m))
weighed_within left right sum before m first second start within =
    let x = var 0 in
    let y = var 1 in
    let z = var 2 in
    let one = weighed_part left (sum -ℤ before) m first (omega (arith, linear)) in
    let other = weighed_part right before m second start in
    let split : (sum -ℤ before) *ℤ pos m +ℤ before *ℤ pos m ≡ sum *ℤ pos m = same_by_ring (sum ∷ before ∷ pos m ∷ []) ((x ⊖ y) ⊗ z ⊕ y ⊗ z) (x ⊗ z) refl in
    omega (arith, linear)

-- where the floor leaves no remainder it is the ceiling
pub ceil_without_remainder : (n d floor : ℤ) → pos 0 <ℤ d → IsFloor n d floor → n ≤ℤ (d *ℤ floor) → floor ≡ ceil_of n d
ceil_without_remainder n d floor positive bounds rest = ceil_from_bounds n d floor positive (record { at_least = rest; close = omega (arith, linear) })

-- where the floor leaves a remainder the ceiling is one more
pub ceil_with_remainder : (n d floor : ℤ) → pos 0 <ℤ d → IsFloor n d floor → (d *ℤ floor) <ℤ n → floor +ℤ pos 1 ≡ ceil_of n d
ceil_with_remainder n d floor positive bounds rest =
    let x = var 0 in
    let y = var 1 in
    let next : d *ℤ (floor +ℤ pos 1) ≡ d *ℤ floor +ℤ d = same_by_ring (d ∷ floor ∷ []) (x ⊗ (y ⊕ num (pos 1))) (x ⊗ y ⊕ x) refl in
    ceil_from_bounds n d (floor +ℤ pos 1) positive (record { at_least = omega (arith, linear); close = omega (arith, linear) })

-- a ceiling is no larger than a bound that its numerator keeps
pub ceil_size : (n d : ℤ) (m : ℕ) → pos 0 <ℤ d → neg_ℤ (d *ℤ pos m) ≤ℤ n → n ≤ℤ (d *ℤ pos m) → unsigned_abs (ceil_of n d) ≤ m
ceil_size n d m positive low high =
    let size = floor_size (neg_ℤ n) d m positive (omega (arith, linear)) (omega (arith, linear)) in
    omega (arith, linear)

-- an indicator times a number is at most 10^9 times its size
pub indicator_size : (i : ℕ) (a : ℤ) → i ≤ 10 ^ 9 → unsigned_abs (pos i *ℤ a) ≤ 10 ^ 9 * unsigned_abs a
indicator_size i a h = let product = unsigned_abs-mul (pos i) a in let more = mul-le-mul_right (unsigned_abs a) h in omega arith

-- a product is at most the product of two bounds
pub product_size : (a b : ℤ) (m n : ℕ) → unsigned_abs a ≤ m → unsigned_abs b ≤ n → unsigned_abs (a *ℤ b) ≤ m * n
product_size a b m n p q = let product = unsigned_abs-mul a b in let more = mul-le-mul p q in omega arith

-- each of four rises is as small as the greatest of them
pub rise_size : (first second third : ℤ) (j : ℕ) → unsigned_abs first ≤ 10 ^ 15 → unsigned_abs second ≤ 2 * 10 ^ 15 → unsigned_abs third ≤ 3 * 10 ^ 15 → unsigned_abs (get_or (pos 0 ∷ first ∷ second ∷ third ∷ []) j (pos 0)) ≤ 3 * 10 ^ 15
rise_size first second third zero one two three = omega arith
rise_size first second third (suc zero) one two three = omega arith
rise_size first second third (suc (suc zero)) one two three = omega arith
rise_size first second third (suc (suc (suc zero))) one two three = three
rise_size first second third (suc (suc (suc (suc j)))) one two three = omega arith

-- an indicator of the year is at most 10^9
pub indicator_most : (indicators : List ℕ) (j : ℕ) → AreIndicators indicators → j < 4 → slice_index indicators j ≤ 10 ^ 9
indicator_most indicators zero are inside = are.first.1
indicator_most indicators (suc zero) are inside = are.second.1
indicator_most indicators (suc (suc zero)) are inside = are.third.1
indicator_most indicators (suc (suc (suc zero))) are inside = are.fourth.1
indicator_most indicators (suc (suc (suc (suc j)))) are inside = absurd (omega arith)

-- an indicator times a level
pub weighed_level : (i r : ℕ) → i ≤ 10 ^ 9 → r < 3 * 10 ^ 25 → i * r < 3 * 10 ^ 34
weighed_level i r few small = let product = mul-le-mul_right r few in omega arith

-- a level from its parts
pub level_is : (indicators : List ℕ) (bench : ℤ) (k : ℕ) (left right : ℤ) (j : ℕ) (sum base weighed raised result : ℤ) (found : List ℤ) → found ≡ rises indicators left right → sum ≡ pos (year_sum indicators) → base ≡ pos (10 ^ k) *ℤ bench → weighed ≡ pos (slice_index indicators 1) *ℤ get_or found 1 (pos 0) +ℤ pos (slice_index indicators 2) *ℤ get_or found 2 (pos 0) +ℤ pos (slice_index indicators 3) *ℤ get_or found 3 (pos 0) → raised ≡ base -ℤ weighed +ℤ sum *ℤ get_or found j (pos 0) → result ≡ raised → result ≡ level_of indicators bench k left right j
level_is indicators bench k left right j sum base weighed raised result found e_found e_sum e_base e_weighed e_raised e_result =
    let parts : weighed ≡ weighed_rises indicators left right = e_weighed ∙ ap (λ (u : List ℤ). pos (slice_index indicators 1) *ℤ get_or u 1 (pos 0) +ℤ pos (slice_index indicators 2) *ℤ get_or u 2 (pos 0) +ℤ pos (slice_index indicators 3) *ℤ get_or u 3 (pos 0)) e_found in
    let lift : sum *ℤ get_or found j (pos 0) ≡ pos (year_sum indicators) *ℤ get_or (rises indicators left right) j (pos 0) = ap (λ u. u *ℤ get_or found j (pos 0)) e_sum ∙ ap (λ (u : List ℤ). pos (year_sum indicators) *ℤ get_or u j (pos 0)) e_found in
    omega (arith, linear)

-- a power of ten times a sum from 1 to 4 * 10^9
pub scaled_sum_sizes : (k : ℕ) (sum : ℤ) → k ≤ 15 → pos 1 ≤ℤ sum → sum ≤ℤ pos (4 * 10 ^ 9) → (pos 0 <ℤ (pos (10 ^ k) *ℤ sum)) × ((pos (10 ^ k) *ℤ sum) ≤ℤ pos (4 * 10 ^ 24))
scaled_sum_sizes k (pos sum) small some most =
    let unit : 10 ^ k ≤ 10 ^ 15 = pow-le-pow_right (omega arith) small in
    let least : 1 ≤ 10 ^ k = one-le-pow k 10 (omega arith) in
    let some' : 1 ≤ sum = omega (arith, linear) in
    let most' : sum ≤ 4 * 10 ^ 9 = omega (arith, linear) in
    let product : 10 ^ k * sum ≤ 10 ^ 15 * (4 * 10 ^ 9) = mul-le-mul unit most' in
    let positive : 1 * 1 ≤ 10 ^ k * sum = mul-le-mul least some' in
    (omega (arith, linear), omega (arith, linear))
scaled_sum_sizes k (negsuc sum) small some most = absurd (omega (arith, linear))
