use Rattle.std.proofs.Common.{◌≤◌, ◌+◌, length, map}
use Rattle.std.specs.Arc.{arc_value}
use Rattle.series_tables.specs.Cells.{cell}
use Rattle.node_compile.specs.Items.{AreLastItems}
use Rattle.node_compile.specs.Table.{table_in}
use Rattle.node_compile.proofs.Items.{steps_of}
use Rattle.node_compile.proofs.release.compile_all.Given as goal

abbrev pub invariant-loop-item : goal.invariant-loop-item
invariant-loop-item g l =
    AreLastItems (cell l.tables) l.plan l.item (map (λ node. table_in (arc_value node)) l.nodes.items)
    × (l.steps ≤ l.fn.steps + steps_of (cell l.tables) l.plan l.item (length l.nodes.items))
