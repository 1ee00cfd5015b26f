use Rattle.std.proofs.Common.{arith, ◌^◌, pos, ◌<ℤ◌, FitsSigned}
use Rattle.std.specs.Int.{w128}
use Rattle.std.proofs.lemmas.Int.{to_z-of_z}
use Rattle.ratio_arith.proofs.Floors.{floor_size}
use Rattle.denton_parts.proofs.Machine.{machine}
use Rattle.denton_parts.proofs.change_floor.Goals as goal

pub returns-clause-size : goal.returns-clause-size
returns-clause-size c =
    let positive : pos 0 <ℤ c.args.part.now.sum = omega (arith, machine) in
    let fits : FitsSigned w128 c.args.part.now.sum = omega (arith, machine) in
    let size = floor_size c.change_numerator.result c.args.part.now.sum (10 ^ 15) positive c.change_numerator.ensures.low c.change_numerator.ensures.high in
    grind (arith, to_z-of_z)
