use Rattle.std.proofs.Common.{refl}
use Rattle.release_print.specs.Release.{release_text}
use Rattle.release_print.proofs.Parts.{first_part, later_part, appends_behind, appends_part}
use Rattle.release_print.proofs.release.print_release.Goals as goal

pub returns-in_err-push_edge : goal.returns-in_err-push_edge
unfolding release_text
returns-in_err-push_edge c = appends_part c.from_residual.result _ _ _ c.from_residual.ensures.0 (first_part _ _ _ _ _ c.in_err-push_edge.ensures refl)

pub returns-in_err-push_items : goal.returns-in_err-push_items
unfolding release_text
returns-in_err-push_items c =
    let p = rw c.as_slice.ensures.value at c.in_err-push_items.ensures in
    appends_part c.from_residual-in_err-push_items.result _ _ _ c.from_residual-in_err-push_items.ensures.0 (later_part _ _ _ _ _ _ c.in_ok-push_edge.ensures (first_part _ _ _ _ _ p refl) refl)

pub returns : goal.returns
unfolding release_text
returns c =
    let items = rw c.as_slice.ensures.value at c.in_ok-push_items.ensures in
    appends_behind c.push_edge-2.result _ _ _ _ _ _ c.in_ok-push_edge.ensures refl (appends_behind c.push_edge-2.result _ _ _ _ _ _ items refl c.push_edge-2.ensures)
