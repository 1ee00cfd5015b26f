use Rattle.std.proofs.Common.{◌≡◌, ◌+◌, ◌<◌, refl, length, arith}
use Rattle.dirty_plan.specs.declared.job.JobState.TheVariants.{Waiting}
use Rattle.round_works.specs.Opening.{IsFirstWork}
use Rattle.round_works.proofs.Beginnings.{works_more}
use Rattle.round_works.proofs.States.{within_jobs}
use Rattle.round_works.proofs.opening.first_works.Goals as goal

pub loop-item-preserved : goal.loop-item-preserved
loop-item-preserved c = record {
  all = omega (arith, c.loop-item.invariant.all, c.in_ok-push.ensures.len);
  works = λ inputs begins.
      works_more (IsFirstWork c.args.plan.now inputs c.args.jobs.now.jobs) c.loop-item.works.items c.push.new.self.items c.loop-item.item c.in_ok-first_work.field-0
      c.loop-item.invariant.all c.in_ok-push.ensures.items (c.loop-item.invariant.works inputs begins) (c.in_ok-first_work.ensures inputs begins);
}

pub returns-clause-works : goal.returns-clause-works
returns-clause-works c = λ inputs begins item waits.
    c.loop-item.invariant.works inputs begins item
    (let within = within_jobs c.args.jobs.now.jobs item Waiting waits refl in omega (arith, within, begins.shows.items, c.loop-item-test.false, c.len-item-end.ensures.parents)) waits
