use Rattle.std.proofs.Common.{rules, arith, ◌≡◌, pos, ◌*ℤ◌, FitsSigned, ap, ◌∙◌}
use Rattle.std.specs.Int.{w128}
use Rattle.std.proofs.lemmas.Int.{to_z-of_z}
use Rattle.ratio_arith.specs.Division.{ceil_of}
use Rattle.ratio_arith.proofs.Linear.{literal_product}
use Rattle.denton_parts.proofs.Machine.{machine}
use Rattle.denton_solve.specs.Sweeps.{thousandths}
use Rattle.denton_solve.proofs.Shares.{share_bounds}
use Rattle.denton_solve.proofs.joint.share.Goals as goal

-- the quotient without casts
value : (c : goal.After-ceil_div) → c.ceil_div.result ≡ thousandths c.args.part c.args.whole
value c =
    let part : c.square.result ≡ c.args.part *ℤ c.args.part =
    simp (to_z-of_z, c.ranges.part) at c.square.ensures.value in
    let whole : c.square-2.result ≡ c.args.whole *ℤ c.args.whole =
    simp (to_z-of_z, c.ranges.whole) at c.square-2.ensures.value in
    let part_fits : FitsSigned w128 c.square.result = search rules in
    let whole_fits : FitsSigned w128 c.square-2.result = search rules in
    let fits : FitsSigned w128 (pos 1000 *ℤ c.square.result) = omega (arith, machine, literal_product) in
    let found : c.ceil_div.result ≡ ceil_of (pos 1000 *ℤ c.square.result) c.square-2.result =
    simp to_z-of_z at c.ceil_div.ensures.value in
    found ∙ ap (λ u. ceil_of (pos 1000 *ℤ u) c.square-2.result) part
    ∙ ap (λ u. ceil_of (pos 1000 *ℤ (c.args.part *ℤ c.args.part)) u) whole

fits : (c : goal.After-ceil_div) → FitsSigned w128 c.ceil_div.result
fits c = search rules

pub returns-clause-value : goal.returns-clause-value
returns-clause-value c = to_z-of_z w128 c.ceil_div.result (fits c) ∙ value c

pub returns-clause-least : goal.returns-clause-least
returns-clause-least c =
    let bounds = share_bounds c.args.part c.args.whole c.requires.positive c.requires.part c.requires.part_most in
    let same = returns-clause-value c in
    rw same bounds.0

pub returns-clause-most : goal.returns-clause-most
returns-clause-most c =
    let bounds = share_bounds c.args.part c.args.whole c.requires.positive c.requires.part c.requires.part_most in
    let same = returns-clause-value c in
    rw same bounds.1
