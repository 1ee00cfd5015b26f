use Rattle.std.proofs.Common.{◌<◌, length, arith}
use Rattle.release_print.proofs.Parts.{appends_part}
use Rattle.release_print.proofs.Lines.{cells_part}
use Rattle.release_print.proofs.release.push_cells.Goals as goal

pub returns-in_err-push_cell : goal.returns-in_err-push_cell
returns-in_err-push_cell c =
    let inside : c.loop-quarter.quarter < length c.args.cells.now = omega arith in
    appends_part c.from_residual.result _ _ _ c.from_residual.ensures.0 (cells_part _ _ _ _ c.args.word.now c.args.name.now c.args.start c.loop-quarter.quarter _ c.args.cells.now inside c.loop-quarter.invariant c.in_err-push_cell.ensures)
