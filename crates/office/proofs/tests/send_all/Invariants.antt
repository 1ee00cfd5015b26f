use Rattle.std.proofs.Common.{◌≤◌, length}
use Rattle.accounts_history.specs.History.{journal}
use Rattle.desk_lock.specs.Passes.{IsSameButSeen}
use Rattle.office.proofs.tests.send_all.Given as goal

abbrev pub invariant-loop-input : goal.invariant-loop-input
invariant-loop-input g l = record {
  same : IsSameButSeen l.fn.pass l.pass;
  number : l.last ≤ length (journal l.pass.seen);
}
