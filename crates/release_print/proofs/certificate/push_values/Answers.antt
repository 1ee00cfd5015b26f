use Rattle.std.proofs.Common.{◌<◌, length, arith}
use Rattle.release_print.proofs.Parts.{appends_part}
use Rattle.release_print.proofs.Lines.{values_part}
use Rattle.release_print.proofs.certificate.push_values.Goals as goal

pub returns-in_err-push_value : goal.returns-in_err-push_value
returns-in_err-push_value c =
    let inside : c.loop-quarter.quarter < length c.args.cells.now = omega arith in
    appends_part c.from_residual.result _ _ _ c.from_residual.ensures.0 (values_part _ _ _ _ c.args.start c.loop-quarter.quarter _ c.args.cells.now inside c.loop-quarter.invariant c.in_err-push_value.ensures)
