-- Linear arithmetic on integers for `omega`: sums, differences, orders and equations, where each product is an unknown.
use Prim.Native.Nat.{ℕ, ◌*◌}
use native.Mathlib.Omega.{arith}
use Rattle.std.specs.Prelude.{◌≡◌, ℤ, pos, ◌*ℤ◌}
use borrow.Author.Differences.{up, down, same_out, Apart-out, lt_T, le_T, lt_not, le_not, lt-true, lt-false, le-true, le-false, true-lt, false-lt, true-le, false-le, not_negative_out, lt_out, le_out, same_in, lt_in, le_in, below_in, at_most_in, not_negative_in, sum_is_lem, neg_is, product_is, abs_is}

-- the rules for `omega (arith, linear)`: a product is read as one unknown
pub ruleset linear = (same_out, Apart-out, lt_T, le_T, lt_not, le_not, lt-true, lt-false, le-true, le-false, true-lt, false-lt, true-le, false-le, not_negative_out, lt_out, le_out, same_in, lt_in, le_in, below_in, at_most_in, not_negative_in, sum_is_lem, neg_is, abs_is)

-- a product by a numeral is linear: list it beside `linear`
pub literal_product : (k : ℕ) (a : ℤ) → (up (pos k *ℤ a) ≡ k * up a) × (down (pos k *ℤ a) ≡ k * down a)
literal_product k a = omega (arith, product_is (pos k) a)
