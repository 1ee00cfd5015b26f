use Rattle.std.proofs.Common.{◌≡◌, ◌+◌, length}
use Rattle.round_works.specs.Driven.{WasSent}
use Rattle.round_works.proofs.tests.send_year.Given as goal

abbrev pub invariant-loop-period : goal.invariant-loop-period
invariant-loop-period l = record {
  count : l.sent ≡ l.count + l.period;
  items : l.tables.items ≡ l.initial.tables.items;
  sent : WasSent l.plan l.sent l.tables;
}
