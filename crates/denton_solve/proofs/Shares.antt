-- The shares of squares that make a joint's weight are from 0 to 1000.
use Rattle.std.specs.Prelude.{◌≡◌, ℤ, pos, ◌*ℤ◌, ◌≤ℤ◌, ◌<ℤ◌}
use Rattle.std.proofs.Common.{refl, arith}
use Rattle.std.proofs.Math.IntN.{*ℤ_comm}
use Rattle.ratio_arith.proofs.Floors.{ceil_is}
use Rattle.ratio_arith.proofs.Linear.{linear, literal_product}
use Rattle.ratio_arith.proofs.Order.{square_within, square_nonneg, product_cancel}
use Rattle.denton_parts.proofs.Sizes.{ceil_size}
use Rattle.denton_solve.specs.Sweeps.{thousandths}

-- the square of a positive number is positive
square_positive : (whole : ℤ) → pos 1 ≤ℤ whole → pos 0 <ℤ (whole *ℤ whole)
square_positive whole positive =
    let one : (pos 1 *ℤ pos 1) ≤ℤ (whole *ℤ whole) = square_within (pos 1) whole (omega (arith, linear)) positive in
    let unit : pos 1 *ℤ pos 1 ≡ pos 1 = refl in
    omega (arith, linear)

-- a share is from 0 to 1000
pub share_bounds : (part whole : ℤ) → pos 1 ≤ℤ whole → pos 0 ≤ℤ part → part ≤ℤ whole →
    (pos 0 ≤ℤ thousandths part whole) × (thousandths part whole ≤ℤ pos 1000)
share_bounds part whole positive least most =
    let squares = square_within part whole (omega (arith, linear)) most in
    let some = square_nonneg part in
    let divisor = square_positive whole positive in
    let turned = *ℤ_comm (whole *ℤ whole) (pos 1000) in
    let none = *ℤ_comm (whole *ℤ whole) (pos 0) in
    let size = ceil_size (pos 1000 *ℤ (part *ℤ part)) (whole *ℤ whole) 1000 divisor
    (omega (arith, linear, literal_product)) (omega (arith, linear, literal_product)) in
    let ceiling = ceil_is (pos 1000 *ℤ (part *ℤ part)) (whole *ℤ whole) divisor in
    let low = product_cancel (whole *ℤ whole) (pos 0) (thousandths part whole) divisor
    (omega (arith, linear, literal_product)) in
    (low, omega (arith, linear))
