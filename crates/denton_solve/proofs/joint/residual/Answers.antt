use Rattle.std.proofs.Common.{arith, ◌≡◌, ◌^◌, ◌*ℤ◌, FitsSigned, to_z, of_z}
use Rattle.std.specs.Int.{w128}
use Rattle.std.proofs.lemmas.Int.{to_z-of_z}
use Rattle.denton_parts.proofs.Machine.{machine}
use Rattle.denton_parts.proofs.Sizes.{product_size}
use Rattle.denton_solve.proofs.joint.residual.Goals as goal

pub overflow_sub-result : goal.overflow_sub-result
overflow_sub-result c =
    let size = product_size c.args.width c.args.own 505 (10 ^ 15) (omega (arith, machine)) c.requires.own in
    let product : to_z w128 (of_z w128 (to_z w128 (of_z w128 c.args.width) *ℤ to_z w128 (of_z w128 c.args.own)))
    ≡ c.args.width *ℤ c.args.own =
    let fits : FitsSigned w128 (c.args.width *ℤ c.args.own) = omega (arith, machine) in grind (arith, to_z-of_z) in
    omega (arith, machine)

pub returns-clause-value : goal.returns-clause-value
returns-clause-value c =
    let size = product_size c.args.width c.args.own 505 (10 ^ 15) (omega (arith, machine)) c.requires.own in
    let product : to_z w128 (of_z w128 (to_z w128 (of_z w128 c.args.width) *ℤ to_z w128 (of_z w128 c.args.own)))
    ≡ c.args.width *ℤ c.args.own =
    let fits : FitsSigned w128 (c.args.width *ℤ c.args.own) = omega (arith, machine) in grind (arith, to_z-of_z) in
    omega (arith, machine)

pub returns-clause-size : goal.returns-clause-size
returns-clause-size c =
    let size = product_size c.args.width c.args.own 505 (10 ^ 15) (omega (arith, machine)) c.requires.own in
    let product : to_z w128 (of_z w128 (to_z w128 (of_z w128 c.args.width) *ℤ to_z w128 (of_z w128 c.args.own)))
    ≡ c.args.width *ℤ c.args.own =
    let fits : FitsSigned w128 (c.args.width *ℤ c.args.own) = omega (arith, machine) in grind (arith, to_z-of_z) in
    omega (arith, machine)
