use Rattle.std.proofs.Common.{◌<◌, length, arith}
use Rattle.std.specs.Arc.{arc_value}
use Rattle.node_compile.specs.Table.{table_in}
use Rattle.release_print.proofs.Parts.{appends_part}
use Rattle.release_print.proofs.Lines.{items_part, items_more}
use Rattle.release_print.proofs.release.push_items.Goals as goal

pub returns-in_err-push_item : goal.returns-in_err-push_item
returns-in_err-push_item c =
    let inside : c.loop-item.item < length c.args.nodes.now = omega arith in
    let p = rw (c.deref.ensures, c.start.ensures.year) at c.in_err-push_item.ensures in
    appends_part c.from_residual.result _ _ _ c.from_residual.ensures.0 (items_part _ _ _ _ c.args.plan.now.start c.loop-item.item c.args.plan.now.names c.name.result.now (λ node. table_in (arc_value node)) c.args.nodes.now c.index-nodes-item.result c.name.ensures.item inside c.index-nodes-item.is c.loop-item.invariant p)

pub loop-item-preserved : goal.loop-item-preserved
loop-item-preserved c =
    let inside : c.loop-item.item < length c.args.nodes.now = omega arith in
    let grown = rw (c.deref.ensures, c.start.ensures.year) at c.in_ok-push_item.ensures in
    items_more _ _ _ _ c.args.plan.now.start c.loop-item.item c.args.plan.now.names c.name.result.now (λ node. table_in (arc_value node)) c.args.nodes.now c.index-nodes-item.result c.name.ensures.item inside c.index-nodes-item.is c.loop-item.invariant grown
