use Rattle.std.proofs.Common.{◌≡◌, ◌∙◌, ap, subst, sym}
use Rattle.dirty_plan.specs.declared.job.JobState.TheVariants.{Done, Waiting}
use Rattle.round_works.specs.Jobs.{job_in}
use Rattle.round_works.specs.declared.work.Job.{Job}
use Rattle.accounts_core.specs.Run.{hands_in, puts_back}
use Rattle.accounts_core.specs.Finishing.{with_state_of}
use Rattle.accounts_core.specs.State.{IsOutNow}
use Rattle.accounts_core.proofs.Reaching.{reach_one}
use Rattle.accounts_core.proofs.Running.{handed_in, made_of, put_back_from, same_with}
use Rattle.accounts_core.proofs.finishing.run_job.Goals as goal

pub returns-in-Compiled-clause-reached : goal.returns-in-Compiled-clause-reached
returns-in-Compiled-clause-reached g c = reach_one c.args.core.now c.done.new.self (hands_in c.in-Compiled.made c.done.result) c.done.ensures

pub returns-in-Compiled-clause-same : goal.returns-in-Compiled-clause-same
returns-in-Compiled-clause-same g c =
    same_with c.args.core.now c.done.new.self _
    (handed_in c.args.core.now c.done.new.self c.args.job c.in-Compiled.made c.done.result c.requires (made_of c.args.job c.in-Compiled.made c.in-Compiled.ensures.end) c.done.ensures)

pub returns-in-Compiled-clause-done : goal.returns-in-Compiled-clause-done
returns-in-Compiled-clause-done g c =
    handed_in c.args.core.now c.done.new.self c.args.job c.in-Compiled.made c.done.result c.requires (made_of c.args.job c.in-Compiled.made c.in-Compiled.ensures.end) c.done.ensures

pub returns-in-Memory-clause-reached : goal.returns-in-Memory-clause-reached
returns-in-Memory-clause-reached g c = reach_one c.args.core.now c.put_back.new.self (puts_back c.in-Memory.job c.put_back.result) c.put_back.ensures

pub returns-in-Memory-clause-same : goal.returns-in-Memory-clause-same
returns-in-Memory-clause-same g c =
    let out : IsOutNow c.args.core.now (job_in c.in-Memory.job) = subst (λ (j : Job). IsOutNow c.args.core.now (job_in j)) (sym c.in-Memory.ensures.end) c.requires in
    same_with c.args.core.now c.put_back.new.self _ (put_back_from c.args.core.now c.put_back.new.self c.in-Memory.job c.put_back.result out c.put_back.ensures)

pub returns-in-Memory-clause-back : goal.returns-in-Memory-clause-back
returns-in-Memory-clause-back g c =
    let out : IsOutNow c.args.core.now (job_in c.in-Memory.job) = subst (λ (j : Job). IsOutNow c.args.core.now (job_in j)) (sym c.in-Memory.ensures.end) c.requires in
    put_back_from c.args.core.now c.put_back.new.self c.in-Memory.job c.put_back.result out c.put_back.ensures
    ∙ ap (λ (j : Job). with_state_of c.args.core.now j.node Waiting) c.in-Memory.ensures.end
