use Rattle.std.proofs.Common.{◌≡◌, ◌<◌, ap, sym, subst, ℕ, Bool, true, false, arith}
use Rattle.accounts_core.specs.Finishing.{NoneOut, jobs_now}
use Rattle.accounts_core.proofs.Ending.{at_err, ended_next}
use Rattle.accounts_core.proofs.Reaching.{reach_join, reach_none}
use Rattle.accounts_core.proofs.Running.{fewer_next, none_out_next, same_join, same_none, steps_next, to_run}
use Rattle.accounts_core.proofs.finishing.run_jobs.Goals as goal

pub loop-more-init : goal.loop-more-init
loop-more-init g c = record {
  reached = reach_none c.args.core.now;
  same = same_none c.args.core.now;
  none_out = c.requires;
  ended = λ never. absurd (cc);
  steps = omega arith;
}

pub loop-more-preserved : goal.loop-more-preserved
loop-more-preserved g c =
    let steps = steps_next c.loop-more.core c.run_next.new.core c.in_ok-more.more c.loop-more.steps c.run_next.new.steps c.in_ok-more.ensures.run in
    record {
      reached = reach_join c.args.core.now c.loop-more.core c.run_next.new.core c.loop-more.invariant.reached c.run_next.ensures.reached;
      same = same_join c.args.core.now c.loop-more.core c.run_next.new.core c.loop-more.invariant.same c.run_next.ensures.same;
      none_out = none_out_next c.loop-more.core c.run_next.new.core c.in_ok-more.more c.loop-more.steps c.run_next.new.steps c.loop-more.invariant.none_out c.in_ok-more.ensures.run;
      ended = ended_next c.loop-more.core c.run_next.new.core c.in_ok-more.more c.loop-more.steps c.run_next.new.steps c.loop-more.invariant.none_out c.in_ok-more.ensures.run;
      steps = omega (arith, steps, c.loop-more.invariant.steps);
    }

pub loop-more-smaller : goal.loop-more-smaller
loop-more-smaller g c =
    subst (λ (b : Bool). to_run c.run_next.new.core c.in_ok-more.more < to_run c.loop-more.core b) (sym c.loop-more-test.true)
    (fewer_next c.loop-more.core c.run_next.new.core c.in_ok-more.more c.loop-more.steps c.run_next.new.steps c.in_ok-more.ensures.run)

pub returns-in_err-more-clause-reached : goal.returns-in_err-more-clause-reached
returns-in_err-more-clause-reached g c = reach_join c.args.core.now c.loop-more.core c.run_next.new.core c.loop-more.invariant.reached c.run_next.ensures.reached

pub returns-in_err-more-clause-same : goal.returns-in_err-more-clause-same
returns-in_err-more-clause-same g c = same_join c.args.core.now c.loop-more.core c.run_next.new.core c.loop-more.invariant.same c.run_next.ensures.same

pub returns-in_err-more-clause-steps : goal.returns-in_err-more-clause-steps
returns-in_err-more-clause-steps g c = omega (arith, c.run_next.ensures.steps, c.loop-more.invariant.steps)

pub returns-clause-reached : goal.returns-clause-reached
returns-clause-reached g c = c.loop-more.invariant.reached

pub returns-clause-same : goal.returns-clause-same
returns-clause-same g c = c.loop-more.invariant.same

pub returns-clause-done : goal.returns-clause-done
returns-clause-done g c = c.loop-more.invariant.ended c.loop-more-test.false

pub returns-clause-steps : goal.returns-clause-steps
returns-clause-steps g c = omega (arith, c.loop-more.invariant.steps)

pub returns-in_err-more-clause-back : goal.returns-in_err-more-clause-back
returns-in_err-more-clause-back g c = at_err (NoneOut (jobs_now c.run_next.new.core)) c.from_residual.result (λ item. c.in_err-more.ensures.back item (c.loop-more.invariant.none_out item))
