use Rattle.std.proofs.Common.{◌≡◌, ◌∙◌, ◌-◌, suc, sym, arith}
use Rattle.dirty_plan.specs.Round.{has_flag}
use Rattle.dirty_plan.proofs.Marks.{mark_next, skip_next, opened_round_is}
use Rattle.dirty_plan.proofs.round.PlanRound.new.Goals as goal

pub loop-item-preserved-then-is_job : goal.loop-item-preserved-then-is_job
loop-item-preserved-then-is_job c =
    let next : suc (c.loop-item.item - 1) ≡ c.loop-item.item = omega (arith, c.loop-item-test.true) in
    mark_next c.args.plan.now (has_flag c.args.touched.now) c.loop-item.item (c.loop-item.item - 1) c.loop-item.jobs.len c.loop-item.jobs.items
    c.deref_mut.result.now c.mark.new.jobs c.index.result.now c.parent.result c.requires.leaves c.loop-item.invariant next
    (omega (arith, c.loop-item.auto.item, c.len-item.ensures.parents)) c.index.ensures (sym (c.is_job.ensures) ∙ c.if-is_job.true) c.parent.ensures.parent c.parent.ensures.smaller
    c.deref_mut.ensures.value c.deref_mut.ensures.len c.mark.ensures

pub loop-item-preserved : goal.loop-item-preserved
loop-item-preserved c =
    let next : suc (c.loop-item.item - 1) ≡ c.loop-item.item = omega (arith, c.loop-item-test.true) in
    skip_next c.args.plan.now (has_flag c.args.touched.now) c.loop-item.item (c.loop-item.item - 1) c.loop-item.jobs.items c.index.result.now
    c.requires.leaves c.loop-item.invariant next (omega (arith, c.loop-item.auto.item, c.len-item.ensures.parents)) c.index.ensures (sym (c.is_job.ensures) ∙ c.if-is_job.false)

pub returns : goal.returns
returns c =
    opened_round_is c.args.plan.now (has_flag c.args.touched.now) c.loop-item.item c.in_ok-parents.parents.items c.loop-item.jobs.items
    c.in_ok-parents.ensures c.loop-item-test.false c.loop-item.invariant
