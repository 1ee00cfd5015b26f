use Rattle.std.proofs.Common.{◌≡◌, map, take}
use Rattle.round_works.specs.Tables.{shared_table}
use Rattle.accounts_core.proofs.machine.Core.read_all.Given as goal

abbrev pub invariant-loop-node : goal.invariant-loop-node
invariant-loop-node l = map shared_table l.nodes.items ≡ take l.node (map shared_table l.self-inside.board.shown)
