use Rattle.std.proofs.Common.{◌≡◌, subst}
use Rattle.dirty_plan.specs.declared.job.JobState.TheVariants.{Out}
use Rattle.accounts_core.specs.Finishing.{NoMoreOut, jobs_now}
use Rattle.accounts_core.specs.Run.{takes}
use Rattle.accounts_core.specs.Step.{Takes}
use Rattle.accounts_core.specs.declared.replies.Take.{Take as TakeReply}
use Rattle.accounts_core.specs.declared.replies.Take.TheVariants.{Job as Handed}
use Rattle.accounts_core.proofs.Ending.{at_err}
use Rattle.accounts_core.proofs.Reaching.{reach_join, reach_one}
use Rattle.accounts_core.proofs.Running.{back_fewer, ran_one, same_join, same_with, steps_within, taken_out}
use Rattle.accounts_core.proofs.finishing.run_next.Goals as goal

pub run_job-requires : goal.run_job-requires
run_job-requires g c =
    let taken : Takes c.args.core.now (Handed c.in-Job.job) c.take.new.self = subst (λ (r : TakeReply). Takes c.args.core.now r c.take.new.self) c.in-Job.is c.take.ensures in
    (taken_out c.args.core.now c.take.new.self c.in-Job.job taken).2

pub returns-in_err-run_job-in-Job-clause-reached : goal.returns-in_err-run_job-in-Job-clause-reached
returns-in_err-run_job-in-Job-clause-reached g c =
    let taken : Takes c.args.core.now (Handed c.in-Job.job) c.take.new.self = subst (λ (r : TakeReply). Takes c.args.core.now r c.take.new.self) c.in-Job.is c.take.ensures in
    reach_join c.args.core.now c.take.new.self c.run_job.new.core (reach_one c.args.core.now c.take.new.self (takes (Handed c.in-Job.job)) taken) c.run_job.ensures.reached

pub returns-in_err-run_job-in-Job-clause-same : goal.returns-in_err-run_job-in-Job-clause-same
returns-in_err-run_job-in-Job-clause-same g c =
    let taken : Takes c.args.core.now (Handed c.in-Job.job) c.take.new.self = subst (λ (r : TakeReply). Takes c.args.core.now r c.take.new.self) c.in-Job.is c.take.ensures in
    same_join c.args.core.now c.take.new.self c.run_job.new.core (same_with c.args.core.now c.take.new.self _ (taken_out c.args.core.now c.take.new.self c.in-Job.job taken).1) c.run_job.ensures.same

pub returns-in_err-run_job-in-Job-clause-steps : goal.returns-in_err-run_job-in-Job-clause-steps
returns-in_err-run_job-in-Job-clause-steps g c =
    let taken : Takes c.args.core.now (Handed c.in-Job.job) c.take.new.self = subst (λ (r : TakeReply). Takes c.args.core.now r c.take.new.self) c.in-Job.is c.take.ensures in
    steps_within c.args.core.now c.take.new.self c.in-Job.job c.args.steps.now c.run_job.new.steps c.stays_sound.ensures taken c.run_job.ensures.steps

pub returns-in_ok-run_job-in-Job-clause-reached : goal.returns-in_ok-run_job-in-Job-clause-reached
returns-in_ok-run_job-in-Job-clause-reached g c =
    let taken : Takes c.args.core.now (Handed c.in-Job.job) c.take.new.self = subst (λ (r : TakeReply). Takes c.args.core.now r c.take.new.self) c.in-Job.is c.take.ensures in
    reach_join c.args.core.now c.take.new.self c.run_job.new.core (reach_one c.args.core.now c.take.new.self (takes (Handed c.in-Job.job)) taken) c.run_job.ensures.reached

pub returns-in_ok-run_job-in-Job-clause-same : goal.returns-in_ok-run_job-in-Job-clause-same
returns-in_ok-run_job-in-Job-clause-same g c =
    let taken : Takes c.args.core.now (Handed c.in-Job.job) c.take.new.self = subst (λ (r : TakeReply). Takes c.args.core.now r c.take.new.self) c.in-Job.is c.take.ensures in
    same_join c.args.core.now c.take.new.self c.run_job.new.core (same_with c.args.core.now c.take.new.self _ (taken_out c.args.core.now c.take.new.self c.in-Job.job taken).1) c.run_job.ensures.same

pub returns-in_ok-run_job-in-Job-clause-run : goal.returns-in_ok-run_job-in-Job-clause-run
returns-in_ok-run_job-in-Job-clause-run g c =
    let taken : Takes c.args.core.now (Handed c.in-Job.job) c.take.new.self = subst (λ (r : TakeReply). Takes c.args.core.now r c.take.new.self) c.in-Job.is c.take.ensures in
    ran_one c.args.core.now c.take.new.self c.run_job.new.core c.in-Job.job c.args.steps.now c.run_job.new.steps c.stays_sound.ensures taken c.in_ok-run_job-in-Job.ensures.done c.run_job.ensures.steps

pub returns-in_ok-run_job-in-Job-clause-steps : goal.returns-in_ok-run_job-in-Job-clause-steps
returns-in_ok-run_job-in-Job-clause-steps g c =
    let taken : Takes c.args.core.now (Handed c.in-Job.job) c.take.new.self = subst (λ (r : TakeReply). Takes c.args.core.now r c.take.new.self) c.in-Job.is c.take.ensures in
    steps_within c.args.core.now c.take.new.self c.in-Job.job c.args.steps.now c.run_job.new.steps c.stays_sound.ensures taken c.run_job.ensures.steps

pub returns-in_err-run_job-in-Job-clause-back : goal.returns-in_err-run_job-in-Job-clause-back
returns-in_err-run_job-in-Job-clause-back g c =
    let taken : Takes c.args.core.now (Handed c.in-Job.job) c.take.new.self = subst (λ (r : TakeReply). Takes c.args.core.now r c.take.new.self) c.in-Job.is c.take.ensures in
    at_err (NoMoreOut (jobs_now c.args.core.now) (jobs_now c.run_job.new.core)) c.from_residual.result (back_fewer c.args.core.now c.take.new.self c.run_job.new.core c.in-Job.job taken c.in_err-run_job-in-Job.ensures.back)
