-- What shared tables say.
use Rattle.std.specs.Arc.{arc_value}
use Rattle.std.specs.declared.alloc.Global.{Global}
use Rattle.std.specs.declared.sync.Arc.{Arc}
use Rattle.node_compile.specs.Table.{Table, table_in}
use Rattle.node_compile.specs.declared.table.NodeTable.{NodeTable}

-- what a shared table says
abbrev pub shared_table : Arc NodeTable Global → Table
shared_table table = table_in (arc_value table)
