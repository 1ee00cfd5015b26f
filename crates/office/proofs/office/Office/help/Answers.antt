use Rattle.std.proofs.Common.{◌∙◌, rules, subst}
use Rattle.office.specs.Holds.{Runs}
use Rattle.office.specs.declared.replies.Helped.TheVariants.{Compiled, Memory}
use Rattle.office.specs.declared.replies.Ran.{Ran}
use Rattle.office.proofs.Holding.{helps_after, ran_finished, ran_not_out, ran_wanting, took}
use Rattle.office.proofs.Seen.{then_made}
use Rattle.office.proofs.office.Office.help.Goals as goal

pub returns-in-NoneReady-clause-reply : goal.returns-in-NoneReady-clause-reply
returns-in-NoneReady-clause-reply g c =
    helps_after c.args.pass c.take-seen.result.0 c.publish_or_begin.result.0 c.publish_or_begin.result.1 (c.take-seen.ensures.pass.0.3 ∙ c.loop.invariant.0.3)
    (then_made c.args.pass.party c.loop.pass.party c.args.pass.seen c.loop.pass.seen c.take-seen.result.0.seen c.loop.invariant.0.3 c.loop.invariant.1 (took c.loop.pass c.take-seen.result.0 c.take-seen.result.1 c.take-seen.ensures.hold))
    c.publish_or_begin.ensures.reply

pub returns-in-Finished-clause-reply : goal.returns-in-Finished-clause-reply
returns-in-Finished-clause-reply g c =
    helps_after c.args.pass c.take-seen.result.0 c.run-after.result.0 (Compiled c.in-Job.job.node) (c.take-seen.ensures.pass.0.3 ∙ c.loop.invariant.0.3)
    (then_made c.args.pass.party c.loop.pass.party c.args.pass.seen c.loop.pass.seen c.take-seen.result.0.seen c.loop.invariant.0.3 c.loop.invariant.1 (took c.loop.pass c.take-seen.result.0 c.take-seen.result.1 c.take-seen.ensures.hold))
    (ran_finished c.take-seen.result.0 c.run-after.result.0 c.in-Job.job c.in-Job.job.node (subst (λ (r : Ran). Runs c.in-Job.job r c.take-seen.result.0 c.run-after.result.0) c.in-Finished.is c.run-after.ensures.ran))

pub returns-in-Wanting-clause-reply : goal.returns-in-Wanting-clause-reply
returns-in-Wanting-clause-reply g c =
    helps_after c.args.pass c.take-seen.result.0 c.run-after.result.0 Memory (c.take-seen.ensures.pass.0.3 ∙ c.loop.invariant.0.3)
    (then_made c.args.pass.party c.loop.pass.party c.args.pass.seen c.loop.pass.seen c.take-seen.result.0.seen c.loop.invariant.0.3 c.loop.invariant.1 (took c.loop.pass c.take-seen.result.0 c.take-seen.result.1 c.take-seen.ensures.hold))
    (ran_wanting c.take-seen.result.0 c.run-after.result.0 c.in-Job.job (subst (λ (r : Ran). Runs c.in-Job.job r c.take-seen.result.0 c.run-after.result.0) c.in-Wanting.is c.run-after.ensures.ran))

pub loop-preserved : goal.loop-preserved
loop-preserved g c = (
  search rules,
  then_made c.args.pass.party c.take-seen.result.0.party c.args.pass.seen c.take-seen.result.0.seen c.run-after.result.0.seen (c.take-seen.ensures.pass.0.3 ∙ c.loop.invariant.0.3)
      (then_made c.args.pass.party c.loop.pass.party c.args.pass.seen c.loop.pass.seen c.take-seen.result.0.seen c.loop.invariant.0.3 c.loop.invariant.1 (took c.loop.pass c.take-seen.result.0 c.take-seen.result.1 c.take-seen.ensures.hold))
      (ran_not_out c.take-seen.result.0 c.run-after.result.0 c.in-Job.job (subst (λ (r : Ran). Runs c.in-Job.job r c.take-seen.result.0 c.run-after.result.0) c.in-NotOut.is c.run-after.ensures.ran)),
)
