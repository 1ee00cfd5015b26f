use Rattle.std.proofs.Common.{arith, ◌≡◌, ◌*◌, ◌^◌, ◌*ℤ◌, FitsSigned, to_z, of_z}
use Rattle.std.specs.Int.{w128}
use Rattle.std.proofs.lemmas.Int.{to_z-of_z}
use Rattle.denton_parts.proofs.Machine.{machine}
use Rattle.denton_parts.proofs.Sizes.{product_size}
use Rattle.denton_parts.proofs.levels.raised.Goals as goal

pub overflow_add-result : goal.overflow_add-result
overflow_add-result c =
    let size = product_size c.args.sum c.args.rise (4 * 10 ^ 9) (3 * 10 ^ 15) c.requires.sum c.requires.rise in
    let lift : to_z w128 (of_z w128 (to_z w128 (of_z w128 c.args.sum) *ℤ to_z w128 (of_z w128 c.args.rise))) ≡ c.args.sum *ℤ c.args.rise = let fits : FitsSigned w128 (c.args.sum *ℤ c.args.rise) = omega (arith, machine) in grind (arith, to_z-of_z) in
    omega (arith, machine)

pub returns-clause-value : goal.returns-clause-value
returns-clause-value c =
    let size = product_size c.args.sum c.args.rise (4 * 10 ^ 9) (3 * 10 ^ 15) c.requires.sum c.requires.rise in
    let lift : to_z w128 (of_z w128 (to_z w128 (of_z w128 c.args.sum) *ℤ to_z w128 (of_z w128 c.args.rise))) ≡ c.args.sum *ℤ c.args.rise = let fits : FitsSigned w128 (c.args.sum *ℤ c.args.rise) = omega (arith, machine) in grind (arith, to_z-of_z) in
    omega (arith, machine)

pub returns-clause-size : goal.returns-clause-size
returns-clause-size c =
    let size = product_size c.args.sum c.args.rise (4 * 10 ^ 9) (3 * 10 ^ 15) c.requires.sum c.requires.rise in
    let lift : to_z w128 (of_z w128 (to_z w128 (of_z w128 c.args.sum) *ℤ to_z w128 (of_z w128 c.args.rise))) ≡ c.args.sum *ℤ c.args.rise = let fits : FitsSigned w128 (c.args.sum *ℤ c.args.rise) = omega (arith, machine) in grind (arith, to_z-of_z) in
    omega (arith, machine)
