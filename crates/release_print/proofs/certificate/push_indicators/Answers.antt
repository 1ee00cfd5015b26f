use Rattle.std.proofs.Common.{◌<◌, length, arith}
use Rattle.release_print.proofs.Parts.{appends_part}
use Rattle.release_print.proofs.Lines.{indicators_part}
use Rattle.release_print.proofs.certificate.push_indicators.Goals as goal

pub returns-in_err-push_indicator : goal.returns-in_err-push_indicator
returns-in_err-push_indicator c =
    let inside : c.loop-quarter.quarter < length c.args.indicators.now = omega arith in
    appends_part c.from_residual.result _ _ _ c.from_residual.ensures.0 (indicators_part _ _ _ _ c.args.start c.loop-quarter.quarter 0 c.args.indicators.now inside c.loop-quarter.invariant c.in_err-push_indicator.ensures)
