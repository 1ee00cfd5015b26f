use Rattle.std.proofs.Common.{◌≡◌}
use Rattle.release_print.proofs.tests.set_row.Given as goal

-- the tables stay those of the plan
abbrev pub invariant-loop-period : goal.invariant-loop-period
invariant-loop-period l = l.tables.items ≡ l.initial.tables.items

abbrev pub invariant-loop-period-2 : goal.invariant-loop-period-2
invariant-loop-period-2 l = l.tables.items ≡ l.initial.tables.items
