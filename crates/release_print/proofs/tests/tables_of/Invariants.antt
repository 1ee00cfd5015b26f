use Rattle.std.proofs.Common.{◌≡◌, length}
use Rattle.release_print.proofs.tests.tables_of.Given as goal

-- the tables stay those of the plan
abbrev pub invariant-loop-item : goal.invariant-loop-item
invariant-loop-item l = l.tables.items ≡ length l.plan.names
