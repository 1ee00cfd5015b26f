use Rattle.std.proofs.Common.{◌^◌, Global}
use Rattle.std.specs.Arc.{arc_value}
use Rattle.std.specs.declared.sync.Arc.{Arc}
use Rattle.series_tables.specs.Cells.{cell}
use Rattle.node_compile.specs.Table.{Table, table_in}
use Rattle.node_compile.specs.declared.table.NodeTable.{NodeTable}
use Rattle.node_compile.proofs.Tree.{cells_behind}
use Rattle.node_compile.proofs.release.compile_item.Goals as goal

pub inner_of_plan-requires-clause-known : goal.inner_of_plan-requires-clause-known
inner_of_plan-requires-clause-known g c =
    let view : Arc NodeTable Global → Table = λ node. table_in (arc_value node) in (
      cells_behind view (λ t. t.value) (10 ^ 24) (cell c.args.tables.now) c.args.plan.now _ c.args.behind.now c.requires.behind (λ item known. known.value),
      cells_behind view (λ t. t.prev) (10 ^ 15) (cell c.args.tables.now) c.args.plan.now _ c.args.behind.now c.requires.behind (λ item known. known.prev),
    )
