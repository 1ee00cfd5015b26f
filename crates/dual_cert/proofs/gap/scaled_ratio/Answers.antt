use Rattle.std.proofs.Common.{arith, ◌*ℤ◌, FitsSigned}
use Rattle.std.specs.Int.{w128}
use Rattle.std.proofs.lemmas.Int.{to_z-of_z, unsigned_abs-mul, fits_signed_from_abs}
use Rattle.dual_cert.proofs.Sizes.{ratio_size}
use Rattle.dual_cert.proofs.gap.scaled_ratio.Goals as goal

pub returns-clause-size : goal.returns-clause-size
returns-clause-size c =
    let sizes = ratio_size c.args.unit c.args.value c.args.indicator c.requires.indicator.0 c.requires.reach in
    let product = unsigned_abs-mul c.args.unit c.args.value in
    let fits : FitsSigned w128 (c.args.unit *ℤ c.args.value) = fits_signed_from_abs w128 (c.args.unit *ℤ c.args.value) (omega arith) in
    (grind (arith, to_z-of_z), grind (arith, to_z-of_z))
