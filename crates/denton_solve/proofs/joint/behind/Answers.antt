use Rattle.std.proofs.Common.{rules, arith, ◌≡◌, pos, FitsSigned, ◌∙◌}
use Rattle.std.specs.Int.{w128}
use Rattle.std.proofs.lemmas.Int.{to_z-of_z}
use Rattle.denton_parts.specs.Year.{year_sum}
use Rattle.denton_parts.specs.Years.{year_in}
use Rattle.denton_parts.proofs.Machine.{machine}
use Rattle.denton_solve.specs.Sweeps.{before_quarter}
use Rattle.denton_solve.proofs.Weights.{three_shares, same_shares}
use Rattle.denton_solve.proofs.joint.behind.Goals as goal

pub returns-clause-value : goal.returns-clause-value
returns-clause-value c =
    let sum_fits : FitsSigned w128 c.args.year.now.sum = omega (arith, machine) in
    let e1 : FitsSigned w128 c.earlier.result = search rules in
    let e2 : FitsSigned w128 c.earlier-2.result = search rules in
    let e3 : FitsSigned w128 c.earlier-3.result = search rules in
    let fits : FitsSigned w128 c.three.result = search rules in
    let found : c.three.result ≡ three_shares c.earlier.result c.earlier-2.result c.earlier-3.result
    c.args.year.now.sum =
    simp to_z-of_z at c.three.ensures.value in
    to_z-of_z w128 c.three.result fits ∙ found
    ∙ same_shares c.earlier.result c.earlier-2.result c.earlier-3.result c.args.year.now.sum
    (before_quarter (year_in 0 c.args.year.now) 1) (before_quarter (year_in 0 c.args.year.now) 2)
    (before_quarter (year_in 0 c.args.year.now) 3) (pos (year_sum c.args.year.now.ind)) c.earlier.ensures.value
    c.earlier-2.ensures.value c.earlier-3.ensures.value c.args.year.now.total
