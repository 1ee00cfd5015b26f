use Rattle.std.proofs.Common.{◌≡◌}
use Rattle.numeric_tests.proofs.accounts.send.Given as goal

-- the tables have as many items as before
abbrev pub invariant-loop-period : goal.invariant-loop-period
invariant-loop-period l = l.tables.items ≡ l.initial.tables.items
