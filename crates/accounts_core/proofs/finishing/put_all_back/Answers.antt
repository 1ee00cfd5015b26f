use Rattle.std.proofs.Common.{◌≡◌, ◌<◌, ap, subst, sym, ◌∙◌, inl, inr, ℕ, arith, List, length}
use Rattle.std.proofs.lemmas.Bool.{cases_eq}
use Rattle.series_tables.specs.Plan.{PlanShape}
use Rattle.dirty_plan.specs.Round.{state_of}
use Rattle.accounts_core.specs.Finishing.{NoMoreOut, jobs_now}
use Rattle.accounts_core.proofs.Ending.{at_err, fewer_same, stays_open}
use Rattle.accounts_core.proofs.Reaching.{reach_join}
use Rattle.accounts_core.proofs.Running.{none_out_all, same_join}
use Rattle.accounts_core.proofs.finishing.put_all_back.Goals as goal

pub returns-in_err-put_one_back-clause-reached : goal.returns-in_err-put_one_back-clause-reached
returns-in_err-put_one_back-clause-reached c = reach_join c.args.core.now c.loop-node.core c.put_one_back.new.core c.loop-node.invariant.reached c.put_one_back.ensures.reached

pub loop-node-preserved : goal.loop-node-preserved
loop-node-preserved c = record {
  reached = reach_join c.args.core.now c.loop-node.core c.put_one_back.new.core c.loop-node.invariant.reached c.put_one_back.ensures.reached;
  same = same_join c.args.core.now c.loop-node.core c.put_one_back.new.core c.loop-node.invariant.same c.put_one_back.ensures.same;
  back = λ item below is. (elim (cases_eq item c.loop-node.node) [
    | inl here ↦ c.in_ok-put_one_back.ensures.back.here (ap (state_of (jobs_now c.put_one_back.new.core)) (sym here) ∙ is)
    | inr other ↦ c.in_ok-put_one_back.ensures.back.others item (c.loop-node.invariant.back item (omega (arith, below, other))) is
  ]);
  fewer = λ item was. c.in_ok-put_one_back.ensures.back.others item (c.loop-node.invariant.fewer item was);
}

pub returns-clause-back : goal.returns-clause-back
returns-clause-back c = λ item.
    none_out_all c.args.core.now c.loop-node.core c.loop-node.node item c.stays_sound.ensures (stays_open c.args.core.now c.loop-node.core c.loop-node.invariant.same).plan
    (let len : c.len-node-end.result ≡ length c.args.core.now.plan.parents = c.len-node-end.ensures.parents ∙ ap (λ (p : PlanShape). length p.parents) c.plan.ensures in omega (arith, len, c.loop-node-test.false, c.loop-node.auto.node-end))
    c.loop-node.invariant.back

pub returns-in_err-put_one_back-clause-fewer : goal.returns-in_err-put_one_back-clause-fewer
returns-in_err-put_one_back-clause-fewer c = at_err (NoMoreOut (jobs_now c.args.core.now) (jobs_now c.put_one_back.new.core)) c.from_residual.result (λ item was.
    fewer_same c.loop-node.core c.put_one_back.new.core c.in_err-put_one_back.ensures.kept item (c.loop-node.invariant.fewer item was))
