use Rattle.std.proofs.Common.{rules, arith, ◌≡◌, pos, ◌+ℤ◌, ◌*ℤ◌, FitsSigned, ◌<ℤ◌, ◌≤ℤ◌}
use Rattle.std.specs.Int.{w128}
use Rattle.std.proofs.lemmas.Int.{to_z-of_z}
use Rattle.ratio_arith.specs.Division.{floor_of}
use Rattle.ratio_arith.proofs.Floors.{floor_at}
use Rattle.denton_parts.proofs.Machine.{machine}
use Rattle.denton_parts.proofs.Sizes.{ceil_without_remainder, ceil_with_remainder}
use Rattle.denton_parts.proofs.quotient.quotient_of.Goals as goal

pub returns-then-reached-n-clause-ceiling : goal.returns-then-reached-n-clause-ceiling
returns-then-reached-n-clause-ceiling c =
    let positive : pos 0 <ℤ c.args.d = omega (arith, machine) in
    let value : c.floor_div-floor.result ≡ floor_of c.args.n c.args.d = grind (arith, to_z-of_z) in
    let bounds = floor_at c.args.n c.args.d c.floor_div-floor.result positive value in
    let fits : FitsSigned w128 (c.args.d *ℤ c.floor_div-floor.result) = omega (arith, machine) in
    let rest : (c.args.d *ℤ c.floor_div-floor.result) <ℤ c.args.n = grind (arith, machine, to_z-of_z) in
    let same = ceil_with_remainder c.args.n c.args.d c.floor_div-floor.result positive bounds rest in
    let next : FitsSigned w128 (c.floor_div-floor.result +ℤ pos 1) = search rules in
    grind (arith, to_z-of_z)

pub returns-else-reached-n-clause-ceiling : goal.returns-else-reached-n-clause-ceiling
returns-else-reached-n-clause-ceiling c =
    let positive : pos 0 <ℤ c.args.d = omega (arith, machine) in
    let value : c.floor_div-floor.result ≡ floor_of c.args.n c.args.d = grind (arith, to_z-of_z) in
    let bounds = floor_at c.args.n c.args.d c.floor_div-floor.result positive value in
    let fits : FitsSigned w128 (c.args.d *ℤ c.floor_div-floor.result) = omega (arith, machine) in
    let rest : c.args.n ≤ℤ (c.args.d *ℤ c.floor_div-floor.result) = grind (arith, machine, to_z-of_z) in
    let same = ceil_without_remainder c.args.n c.args.d c.floor_div-floor.result positive bounds rest in
    grind (arith, to_z-of_z)
