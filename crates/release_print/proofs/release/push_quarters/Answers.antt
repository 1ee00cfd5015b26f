use Rattle.std.proofs.Common.{refl}
use Rattle.release_print.proofs.Parts.{first_part, later_part, appends_behind, appends_part}
use Rattle.release_print.proofs.release.push_quarters.Goals as goal

pub returns-in_err-push_cells : goal.returns-in_err-push_cells
returns-in_err-push_cells c = appends_part c.from_residual.result _ _ _ c.from_residual.ensures.0 (first_part _ _ _ _ _ c.in_err-push_cells.ensures refl)

pub returns-in_err-push_cells-2 : goal.returns-in_err-push_cells-2
returns-in_err-push_cells-2 c = appends_part c.from_residual-in_err-push_cells-2.result _ _ _ c.from_residual-in_err-push_cells-2.ensures.0 (later_part _ _ _ _ _ _ c.in_ok-push_cells.ensures (first_part _ _ _ _ _ c.in_err-push_cells-2.ensures refl) refl)

pub returns : goal.returns
returns c =
    appends_behind c.push_cells-3.result _ _ _ _ _ _ c.in_ok-push_cells.ensures refl (appends_behind c.push_cells-3.result _ _ _ _ _ _ c.in_ok-push_cells-2.ensures refl c.push_cells-3.ensures)
