use Rattle.std.proofs.Common.{◌≡◌, arith}
use Rattle.accounts_core.specs.Finishing.{IsFinished, IsRoundEnded, NoMoreOut, jobs_now}
use Rattle.accounts_core.proofs.Ending.{closed_none_out, finished, on_err, on_ok, only_join, steps_twice, still_finished}
use Rattle.accounts_core.proofs.Reaching.{reach_join}
use Rattle.accounts_core.proofs.machine.Core.finish.Goals as goal

pub returns-clause-reached : goal.returns-clause-reached
returns-clause-reached g c = reach_join c.args.self.now c.finish_round.new.core c.finish_round-2.new.core c.finish_round.ensures.reached c.finish_round-2.ensures.reached

pub returns-clause-published : goal.returns-clause-published
returns-clause-published g c = only_join c.args.self.now c.finish_round.new.core c.finish_round-2.new.core c.finish_round.ensures.published c.finish_round-2.ensures.published

pub returns-clause-finished : goal.returns-clause-finished
returns-clause-finished g c =
    on_ok (IsRoundEnded c.finish_round.new.core c.finish_round-2.new.core) (IsFinished c.finish_round-2.new.core) c.finish_round-2.result
    (finished c.args.self.now c.finish_round.new.core c.finish_round-2.new.core c.in_ok-finish_round.ensures.ended c.finish_round-2.ensures.published) c.finish_round-2.ensures.ended

pub returns-clause-steps : goal.returns-clause-steps
returns-clause-steps g c =
    steps_twice c.args.self.now c.finish_round.new.core c.args.steps.now c.finish_round.new.steps c.finish_round-2.new.steps
    c.in_ok-finish_round.ensures.ended c.finish_round.ensures.published c.finish_round.ensures.steps c.finish_round-2.ensures.steps

pub returns-clause-wanting : goal.returns-clause-wanting
returns-clause-wanting g c =
    on_err (¬ IsFinished c.finish_round.new.core) (¬ IsFinished c.args.self.now) c.finish_round-2.result
    (λ not done. not (still_finished c.args.self.now c.finish_round.new.core done c.finish_round.ensures.published c.in_ok-finish_round.ensures.ended)) c.finish_round-2.ensures.wanting

pub returns-clause-back : goal.returns-clause-back
returns-clause-back g c =
    on_err (NoMoreOut (jobs_now c.finish_round.new.core) (jobs_now c.finish_round-2.new.core)) (NoMoreOut (jobs_now c.args.self.now) (jobs_now c.finish_round-2.new.core)) c.finish_round-2.result
    (λ fewer item was. fewer item (closed_none_out c.finish_round.new.core c.in_ok-finish_round.ensures.ended.closed item)) c.finish_round-2.ensures.back
