use Rattle.std.proofs.Common.{arith, ◌≡◌, ◌+ℤ◌, ◌-ℤ◌, FitsSigned}
use Rattle.std.specs.Int.{w128}
use Rattle.std.proofs.lemmas.Int.{to_z-of_z}
use Rattle.ratio_arith.specs.Division.{floor_of}
use Rattle.denton_parts.proofs.Machine.{machine}
use Rattle.denton_parts.proofs.levels.ends.ends_at.Goals as goal

pub returns-clause-last : goal.returns-clause-last
returns-clause-last c =
    let lowered : FitsSigned w128 (c.args.base -ℤ c.args.weighed) = omega (arith, machine) in
    let value : c.small_floor-first.result ≡ floor_of (c.args.base -ℤ c.args.weighed) c.args.sum = grind (arith, to_z-of_z) in
    let fits : FitsSigned w128 (c.small_floor-first.result +ℤ c.args.rise) = omega (arith, machine) in
    grind (arith, to_z-of_z)
