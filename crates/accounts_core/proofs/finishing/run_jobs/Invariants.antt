use Rattle.std.proofs.Common.{◌≡◌, ◌≤◌, ◌+◌, false}
use Rattle.accounts_core.specs.Finishing.{IsSameRound, NoneLeft, NoneOut, jobs_now, steps_left}
use Rattle.accounts_core.specs.Run.{Reaches}
use Rattle.accounts_core.proofs.Running.{to_run}
use Rattle.accounts_core.proofs.finishing.run_jobs.Given as goal

abbrev pub invariant-loop-more : goal.invariant-loop-more
invariant-loop-more g l = record {
  reached : Reaches l.fn.core l.core;
  same : IsSameRound l.fn.core l.core;
  none_out : NoneOut (jobs_now l.core);
  ended : l.more ≡ false → NoneLeft (jobs_now l.core);
  steps : l.steps + steps_left l.core ≤ l.fn.steps + steps_left l.fn.core;
}

abbrev pub decreases-loop-more : goal.decreases-loop-more
decreases-loop-more g l = to_run l.core l.more
