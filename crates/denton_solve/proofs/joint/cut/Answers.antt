use Rattle.std.proofs.Common.{rules, arith, ◌≡◌, ◌+ℤ◌, FitsSigned, ◌∙◌}
use Rattle.std.specs.Int.{w128}
use Rattle.std.proofs.lemmas.Int.{to_z-of_z}
use Rattle.denton_parts.proofs.Machine.{machine}
use Rattle.denton_solve.specs.Sweeps.{cut_of}
use Rattle.denton_solve.proofs.joint.cut.Goals as goal

pub returns : goal.returns
returns c =
    let own_fits : FitsSigned w128 c.args.own = c.ranges.own in
    let step_fits : FitsSigned w128 c.args.step = c.ranges.step in
    let fits : FitsSigned w128 (c.args.own +ℤ c.args.step) = omega (arith, machine) in
    let value : c.clamp.result ≡ cut_of (c.args.own +ℤ c.args.step) = simp to_z-of_z at c.clamp.ensures.value in
    let out : FitsSigned w128 c.clamp.result = search rules in
    record { value = to_z-of_z w128 c.clamp.result out ∙ value }
