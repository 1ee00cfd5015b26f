use Rattle.std.proofs.Common.{rules, arith, ◌≡◌, pos, FitsSigned, ◌∙◌}
use Rattle.std.specs.Int.{w128}
use Rattle.std.proofs.lemmas.Int.{to_z-of_z}
use Rattle.denton_parts.specs.Year.{year_sum}
use Rattle.denton_parts.specs.Years.{year_in}
use Rattle.denton_parts.proofs.Machine.{machine}
use Rattle.denton_solve.specs.Sweeps.{from_quarter}
use Rattle.denton_solve.proofs.Weights.{three_shares, same_shares}
use Rattle.denton_solve.proofs.joint.ahead.Goals as goal

pub returns-clause-value : goal.returns-clause-value
returns-clause-value c =
    let sum_fits : FitsSigned w128 c.args.next.now.sum = omega (arith, machine) in
    let r1 : FitsSigned w128 c.rest.result = search rules in
    let r2 : FitsSigned w128 c.rest-2.result = search rules in
    let r3 : FitsSigned w128 c.rest-3.result = search rules in
    let fits : FitsSigned w128 c.three.result = search rules in
    let found : c.three.result ≡ three_shares c.rest.result c.rest-2.result c.rest-3.result c.args.next.now.sum =
    simp to_z-of_z at c.three.ensures.value in
    to_z-of_z w128 c.three.result fits ∙ found
    ∙ same_shares c.rest.result c.rest-2.result c.rest-3.result c.args.next.now.sum
    (from_quarter (year_in 0 c.args.next.now) 1) (from_quarter (year_in 0 c.args.next.now) 2)
    (from_quarter (year_in 0 c.args.next.now) 3) (pos (year_sum c.args.next.now.ind)) c.rest.ensures.value
    c.rest-2.ensures.value c.rest-3.ensures.value c.args.next.now.total
