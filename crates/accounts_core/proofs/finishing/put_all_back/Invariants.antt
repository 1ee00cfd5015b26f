use Rattle.std.proofs.Common.{ℕ, ◌<◌}
use Rattle.std.specs.Prelude.{◌≢◌}
use Rattle.dirty_plan.specs.Round.{state_of}
use Rattle.dirty_plan.specs.declared.job.JobState.TheVariants.{Out}
use Rattle.accounts_core.specs.Finishing.{IsSameRound, NoMoreOut, jobs_now}
use Rattle.accounts_core.specs.Run.{Reaches}
use Rattle.accounts_core.proofs.finishing.put_all_back.Given as goal

abbrev pub invariant-loop-node : goal.invariant-loop-node
invariant-loop-node l = record {
  reached : Reaches l.fn.core l.core;
  same : IsSameRound l.fn.core l.core;
  back : (item : ℕ) → item < l.node → state_of (jobs_now l.core) item ≢ Out;
  fewer : NoMoreOut (jobs_now l.fn.core) (jobs_now l.core);
}
