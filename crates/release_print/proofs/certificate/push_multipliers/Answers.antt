use Rattle.std.proofs.Common.{◌<◌, length, arith}
use Rattle.cert_read.specs.Statement.{multiplier_line}
use Rattle.release_print.proofs.Parts.{appends_part, wrote_all}
use Rattle.release_print.proofs.Lines.{yearly_part, yearly_more, yearly_done}
use Rattle.release_print.proofs.certificate.push_multipliers.Goals as goal

pub returns-in_err-push_multiplier : goal.returns-in_err-push_multiplier
returns-in_err-push_multiplier c =
    let inside : c.loop-y.y < length c.args.multipliers.now = omega arith in
    let there : c.loop-y.y < length c.args.years.now = omega arith in
    appends_part c.from_residual.result _ _ _ c.from_residual.ensures.0
    (yearly_part multiplier_line _ _ _ _ c.args.start c.loop-y.y _ _ c.args.years.now c.args.multipliers.now
    there c.from.ensures inside c.loop-y.invariant c.in_err-push_multiplier.ensures)

pub loop-y-preserved : goal.loop-y-preserved
loop-y-preserved c =
    let inside : c.loop-y.y < length c.args.multipliers.now = omega arith in
    let there : c.loop-y.y < length c.args.years.now = omega arith in
    yearly_more multiplier_line _ _ _ _ c.args.start c.loop-y.y _ _ c.args.years.now c.args.multipliers.now
    there c.from.ensures inside c.loop-y.invariant c.in_ok-push_multiplier.ensures

pub returns : goal.returns
returns c =
    wrote_all _ _ _ _ c.loop-y.invariant
    (yearly_done multiplier_line c.args.start c.loop-y.y c.args.years.now c.args.multipliers.now (omega arith))
