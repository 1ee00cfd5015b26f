use Rattle.std.proofs.Common.{arith, pos, ◌*ℤ◌, FitsSigned}
use Rattle.std.specs.Int.{w128}
use Rattle.std.proofs.lemmas.Int.{to_z-of_z, fits_signed_from_abs}
use Rattle.denton_parts.proofs.Sizes.{indicator_size}
use Rattle.denton_parts.proofs.levels.sized_product.Goals as goal

pub returns-clause-size : goal.returns-clause-size
returns-clause-size c =
    let size = indicator_size c.args.indicator c.args.rise c.requires.indicator.1 in
    let fits : FitsSigned w128 (pos c.args.indicator *ℤ c.args.rise) = fits_signed_from_abs w128 (pos c.args.indicator *ℤ c.args.rise) (omega arith) in
    grind (arith, to_z-of_z)
