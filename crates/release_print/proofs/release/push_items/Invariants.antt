use Rattle.std.proofs.Common.{map, drop}
use Rattle.std.specs.Arc.{arc_value}
use Rattle.node_compile.specs.Table.{table_in}
use Rattle.release_print.specs.Release.{items_lines}
use Rattle.release_print.proofs.Parts.{Wrote}
use Rattle.release_print.proofs.release.push_items.Given as goal

-- the lines so far are written, and those of what is left are to come
abbrev pub invariant-loop-item : goal.invariant-loop-item
invariant-loop-item l = Wrote l.fn.out.items l.out.items (items_lines l.plan.start (drop l.item l.plan.names) (map (λ node. table_in (arc_value node)) (drop l.item l.nodes))) (items_lines l.plan.start l.plan.names (map (λ node. table_in (arc_value node)) l.nodes))
