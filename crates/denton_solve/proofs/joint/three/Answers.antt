use Rattle.std.proofs.Common.{arith, ◌≡◌}
use Rattle.std.proofs.lemmas.Int.{to_z-of_z}
use Rattle.denton_parts.proofs.Machine.{machine}
use Rattle.denton_solve.specs.Sweeps.{thousandths}
use Rattle.denton_solve.proofs.joint.three.Goals as goal

pub returns-clause-value : goal.returns-clause-value
returns-clause-value c =
    let first : c.share-one.result ≡ thousandths c.args.first c.args.whole =
    simp (to_z-of_z, c.ranges.first, c.ranges.whole) at c.share-one.ensures.value in
    let second : c.share.result ≡ thousandths c.args.second c.args.whole =
    simp (to_z-of_z, c.ranges.second, c.ranges.whole) at c.share.ensures.value in
    let third : c.share-2.result ≡ thousandths c.args.third c.args.whole =
    simp (to_z-of_z, c.ranges.third, c.ranges.whole) at c.share-2.ensures.value in
    omega (arith, machine)
