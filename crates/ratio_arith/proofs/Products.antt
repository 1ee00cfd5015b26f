-- The ring laws of the integers' product.
use Prim.Native.Nat.{◌+◌, ◌*◌}
use native.Mathlib.Omega.{arith}
use Rattle.std.specs.Prelude.{◌≡◌, ℤ, ◌+ℤ◌, ◌*ℤ◌, neg_ℤ}
use Rattle.std.proofs.Common.{ap}
use borrow.Author.Differences.{up, down, product_is, sum_is_lem, neg_is}
use Rattle.ratio_arith.proofs.Linear.{linear}

-- a product of three numbers can be grouped either way
pub *ℤ_assoc : (a b c : ℤ) → (a *ℤ b) *ℤ c ≡ a *ℤ (b *ℤ c)
*ℤ_assoc a b c =
    let left = product_is a b in
    let right = product_is b c in
    let left_up : up (a *ℤ b) * up c ≡ (up a * up b + down a * down b) * up c = ap (λ u. u * up c) left.0 in
    let left_down : down (a *ℤ b) * down c ≡ (up a * down b + down a * up b) * down c = ap (λ u. u * down c) left.1 in
    let cross_up : up (a *ℤ b) * down c ≡ (up a * up b + down a * down b) * down c = ap (λ u. u * down c) left.0 in
    let cross_down : down (a *ℤ b) * up c ≡ (up a * down b + down a * up b) * up c = ap (λ u. u * up c) left.1 in
    let right_up : up a * up (b *ℤ c) ≡ up a * (up b * up c + down b * down c) = ap (λ u. up a * u) right.0 in
    let right_down : down a * down (b *ℤ c) ≡ down a * (up b * down c + down b * up c) = ap (λ u. down a * u) right.1 in
    let over_up : down a * up (b *ℤ c) ≡ down a * (up b * up c + down b * down c) = ap (λ u. down a * u) right.0 in
    let over_down : up a * down (b *ℤ c) ≡ up a * (up b * down c + down b * up c) = ap (λ u. up a * u) right.1 in
    omega (arith, linear, product_is (a *ℤ b) c, product_is a (b *ℤ c))

-- a product with a sum is the sum of the products
pub *ℤ-+ℤ : (a b c : ℤ) → a *ℤ (b +ℤ c) ≡ a *ℤ b +ℤ a *ℤ c
*ℤ-+ℤ a b c =
    let by_up = ap (λ u. up a * u) (sum_is_lem b c) in
    let by_down = ap (λ u. down a * u) (sum_is_lem b c) in
    omega (arith, linear, product_is a (b +ℤ c), product_is a b, product_is a c, by_up, by_down)

-- a factor's sign is the product's
pub neg_ℤ-*ℤ : (a b : ℤ) → neg_ℤ a *ℤ b ≡ neg_ℤ (a *ℤ b)
neg_ℤ-*ℤ a b =
    let sign = neg_is a in
    let e0 = ap (λ u. u * up b) sign.0 in
    let e1 = ap (λ u. u * up b) sign.1 in
    let e2 = ap (λ u. u * down b) sign.0 in
    let e3 = ap (λ u. u * down b) sign.1 in
    omega (arith, linear, product_is (neg_ℤ a) b, product_is a b, e0, e1, e2, e3)
