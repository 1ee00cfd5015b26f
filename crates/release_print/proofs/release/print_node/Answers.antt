use Rattle.std.proofs.Common.{◌≡◌, [], refl}
use Rattle.std.proofs.lemmas.Option.{get_or_from_slice_get}
use Rattle.release_print.specs.Line.{name_of}
use Rattle.release_print.specs.Release.{node_text}
use Rattle.release_print.proofs.Parts.{first_part, later_part, appends_behind, appends_part}
use Rattle.release_print.proofs.release.print_node.Goals as goal

pub returns-in_err-push_edge : goal.returns-in_err-push_edge
unfolding node_text
returns-in_err-push_edge c = appends_part c.from_residual.result _ _ _ c.from_residual.ensures.0 (first_part _ _ _ _ _ c.in_err-push_edge.ensures refl)

pub returns-in_err-push_item : goal.returns-in_err-push_item
unfolding node_text
returns-in_err-push_item c =
    let named : name_of c.args.plan.now.names c.args.node ≡ c.name.result.now = get_or_from_slice_get c.args.plan.now.names c.args.node _ [] c.name.ensures.item in
    let p = rw (c.start.ensures.year, ← named) at c.in_err-push_item.ensures in
    appends_part c.from_residual-in_err-push_item.result _ _ _ c.from_residual-in_err-push_item.ensures.0 (later_part _ _ _ _ _ _ c.in_ok-push_edge.ensures (first_part _ _ _ _ _ p refl) refl)

pub returns : goal.returns
unfolding node_text
returns c =
    let named : name_of c.args.plan.now.names c.args.node ≡ c.name.result.now = get_or_from_slice_get c.args.plan.now.names c.args.node _ [] c.name.ensures.item in
    let item = rw (c.start.ensures.year, ← named) at c.in_ok-push_item.ensures in
    appends_behind c.push_edge-2.result _ _ _ _ _ _ c.in_ok-push_edge.ensures refl (appends_behind c.push_edge-2.result _ _ _ _ _ _ item refl c.push_edge-2.ensures)
