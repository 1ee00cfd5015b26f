use Rattle.std.proofs.Common.{subst, Some}
use Rattle.round_works.specs.Jobs.{job_in}
use Rattle.accounts_core.specs.Finishing.{IsCopyOf}
use Rattle.accounts_core.specs.Run.{puts_back}
use Rattle.accounts_core.proofs.Reaching.{reach_one}
use Rattle.accounts_core.proofs.Running.{copy_out_now, is_back, out_state, put_back_from}
use Rattle.accounts_core.proofs.finishing.put_one_back.Goals as goal

pub returns-in-Some-clause-reached : goal.returns-in-Some-clause-reached
returns-in-Some-clause-reached c = reach_one c.args.core.now c.put_back.new.self (puts_back c.in-Some.job c.put_back.result) c.put_back.ensures

pub returns-in-Some-clause-back : goal.returns-in-Some-clause-back
returns-in-Some-clause-back c =
    let copy : IsCopyOf c.args.core.now c.args.node (Some c.in-Some.job) = subst (IsCopyOf c.args.core.now c.args.node) c.in-Some.is c.in_ok-job.ensures in
    let out = copy_out_now c.args.core.now c.args.node c.in-Some.job copy in
    is_back c.args.core.now c.put_back.new.self c.in-Some.job.node c.args.node (put_back_from c.args.core.now c.put_back.new.self c.in-Some.job c.put_back.result out.0 c.put_back.ensures)
    (out_state c.args.core.now (job_in c.in-Some.job) out.0) out.1
