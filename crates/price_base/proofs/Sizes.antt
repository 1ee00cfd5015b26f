-- How large the product of two small numbers is.
use Rattle.std.proofs.Common.{◌≡◌, ◌^◌, ◌≤◌, ℤ, ◌*ℤ◌, unsigned_abs, arith, FitsSigned, to_z, of_z}
use Rattle.std.proofs.lemmas.Int.{to_z-of_z, fits_signed_from_abs}
use Rattle.std.specs.Int.{w128}
use Rattle.ratio_arith.proofs.Order.{size-*ℤ}

-- a product of two numbers at most 10^15 in size is at most 10^30 in size
pub small_product : (a b : ℤ) → unsigned_abs a ≤ 10 ^ 15 → unsigned_abs b ≤ 10 ^ 15 → unsigned_abs (a *ℤ b) ≤ 10 ^ 30
small_product a b ha hb = size-*ℤ a b (10 ^ 15) (10 ^ 15) ha hb

-- so the code holds it
pub small_fits : (a b : ℤ) → unsigned_abs a ≤ 10 ^ 15 → unsigned_abs b ≤ 10 ^ 15 → FitsSigned w128 (a *ℤ b)
small_fits a b ha hb = fits_signed_from_abs w128 (a *ℤ b) (let h : unsigned_abs (a *ℤ b) ≤ 10 ^ 30 = small_product a b ha hb in omega arith)

pub small_kept : (a b : ℤ) → unsigned_abs a ≤ 10 ^ 15 → unsigned_abs b ≤ 10 ^ 15 → to_z w128 (of_z w128 (to_z w128 (of_z w128 a) *ℤ to_z w128 (of_z w128 b))) ≡ a *ℤ b
small_kept a b ha hb =
    let fa : FitsSigned w128 a = fits_signed_from_abs w128 a (omega arith) in
    let fb : FitsSigned w128 b = fits_signed_from_abs w128 b (omega arith) in
    rw (to_z-of_z w128 a fa, to_z-of_z w128 b fb) (to_z-of_z w128 (a *ℤ b) (small_fits a b ha hb))
