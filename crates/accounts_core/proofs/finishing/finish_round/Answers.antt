use Rattle.std.proofs.Common.{◌≡◌, ◌∙◌, sym, arith}
use Rattle.accounts_core.specs.Finishing.{IsFinished, NoMoreOut, jobs_now, next_front}
use Rattle.accounts_core.specs.Run.{begins, publishes}
use Rattle.accounts_core.proofs.Ending.{at_err, begun_fewer, begun_open, begun_unfinished, ended, fewer_same, left_touched, more_unfinished, only_after, only_none, stays_join, stays_open, steps_as}
use Rattle.accounts_core.proofs.Reaching.{reach_join, reach_one}
use Rattle.accounts_core.proofs.finishing.finish_round.Goals as goal

pub returns-in_err-put_all_back-clause-reached : goal.returns-in_err-put_all_back-clause-reached
returns-in_err-put_all_back-clause-reached g c =
    let begun = begun_open c.args.core.now c.begin.new.self c.in_ok-begin.field-0 c.in_ok-begin.ensures.step c.in_default.not-Nothing in
    let start = reach_one c.args.core.now c.begin.new.self (begins c.in_ok-begin.field-0) c.in_ok-begin.ensures.step in
    let back = stays_open c.begin.new.self c.put_all_back.new.core c.put_all_back.ensures.same in
    reach_join c.args.core.now c.begin.new.self c.put_all_back.new.core start c.put_all_back.ensures.reached

pub returns-in_err-put_all_back-clause-published : goal.returns-in_err-put_all_back-clause-published
returns-in_err-put_all_back-clause-published g c =
    let begun = begun_open c.args.core.now c.begin.new.self c.in_ok-begin.field-0 c.in_ok-begin.ensures.step c.in_default.not-Nothing in
    let start = reach_one c.args.core.now c.begin.new.self (begins c.in_ok-begin.field-0) c.in_ok-begin.ensures.step in
    let back = stays_open c.begin.new.self c.put_all_back.new.core c.put_all_back.ensures.same in
    only_none c.args.core.now c.put_all_back.new.core (back.plan ∙ begun.1) (back.history ∙ begun.2)

pub returns-in_err-run_jobs-clause-reached : goal.returns-in_err-run_jobs-clause-reached
returns-in_err-run_jobs-clause-reached g c =
    let begun = begun_open c.args.core.now c.begin.new.self c.in_ok-begin.field-0 c.in_ok-begin.ensures.step c.in_default.not-Nothing in
    let start = reach_one c.args.core.now c.begin.new.self (begins c.in_ok-begin.field-0) c.in_ok-begin.ensures.step in
    let back = stays_open c.begin.new.self c.put_all_back.new.core c.put_all_back.ensures.same in
    let ran = stays_join c.begin.new.self c.put_all_back.new.core c.run_jobs.new.core back (stays_open c.put_all_back.new.core c.run_jobs.new.core c.run_jobs.ensures.same) in
    let waited = reach_join c.args.core.now c.begin.new.self c.put_all_back.new.core start c.put_all_back.ensures.reached in
    let on = reach_join c.args.core.now c.put_all_back.new.core c.run_jobs.new.core waited c.run_jobs.ensures.reached in
    on

pub returns-in_err-run_jobs-clause-published : goal.returns-in_err-run_jobs-clause-published
returns-in_err-run_jobs-clause-published g c =
    let begun = begun_open c.args.core.now c.begin.new.self c.in_ok-begin.field-0 c.in_ok-begin.ensures.step c.in_default.not-Nothing in
    let start = reach_one c.args.core.now c.begin.new.self (begins c.in_ok-begin.field-0) c.in_ok-begin.ensures.step in
    let back = stays_open c.begin.new.self c.put_all_back.new.core c.put_all_back.ensures.same in
    let ran = stays_join c.begin.new.self c.put_all_back.new.core c.run_jobs.new.core back (stays_open c.put_all_back.new.core c.run_jobs.new.core c.run_jobs.ensures.same) in
    let waited = reach_join c.args.core.now c.begin.new.self c.put_all_back.new.core start c.put_all_back.ensures.reached in
    let on = reach_join c.args.core.now c.put_all_back.new.core c.run_jobs.new.core waited c.run_jobs.ensures.reached in
    only_none c.args.core.now c.run_jobs.new.core (ran.plan ∙ begun.1) (ran.history ∙ begun.2)

pub returns-in_err-run_jobs-clause-steps : goal.returns-in_err-run_jobs-clause-steps
returns-in_err-run_jobs-clause-steps g c =
    let begun = begun_open c.args.core.now c.begin.new.self c.in_ok-begin.field-0 c.in_ok-begin.ensures.step c.in_default.not-Nothing in
    let start = reach_one c.args.core.now c.begin.new.self (begins c.in_ok-begin.field-0) c.in_ok-begin.ensures.step in
    let back = stays_open c.begin.new.self c.put_all_back.new.core c.put_all_back.ensures.same in
    let touched = left_touched c.put_all_back.new.core c.stays_sound.ensures (back.is_open begun.0) in
    let same = steps_as c.args.core.now c.put_all_back.new.core (next_front c.args.core.now) (back.plan ∙ begun.1) (back.history ∙ begun.2) (back.front ∙ begun.3) in
    omega (arith, c.run_jobs.ensures.steps, touched, same)

pub returns-clause-reached : goal.returns-clause-reached
returns-clause-reached g c =
    let begun = begun_open c.args.core.now c.begin.new.self c.in_ok-begin.field-0 c.in_ok-begin.ensures.step c.in_default.not-Nothing in
    let start = reach_one c.args.core.now c.begin.new.self (begins c.in_ok-begin.field-0) c.in_ok-begin.ensures.step in
    let back = stays_open c.begin.new.self c.put_all_back.new.core c.put_all_back.ensures.same in
    let ran = stays_join c.begin.new.self c.put_all_back.new.core c.run_jobs.new.core back (stays_open c.put_all_back.new.core c.run_jobs.new.core c.run_jobs.ensures.same) in
    let waited = reach_join c.args.core.now c.begin.new.self c.put_all_back.new.core start c.put_all_back.ensures.reached in
    let on = reach_join c.args.core.now c.put_all_back.new.core c.run_jobs.new.core waited c.run_jobs.ensures.reached in
    reach_join c.args.core.now c.run_jobs.new.core c.publish.new.self on (reach_one c.run_jobs.new.core c.publish.new.self (publishes 0 c.publish.result) c.publish.ensures)

pub returns-clause-published : goal.returns-clause-published
returns-clause-published g c =
    let begun = begun_open c.args.core.now c.begin.new.self c.in_ok-begin.field-0 c.in_ok-begin.ensures.step c.in_default.not-Nothing in
    let start = reach_one c.args.core.now c.begin.new.self (begins c.in_ok-begin.field-0) c.in_ok-begin.ensures.step in
    let back = stays_open c.begin.new.self c.put_all_back.new.core c.put_all_back.ensures.same in
    let ran = stays_join c.begin.new.self c.put_all_back.new.core c.run_jobs.new.core back (stays_open c.put_all_back.new.core c.run_jobs.new.core c.run_jobs.ensures.same) in
    let waited = reach_join c.args.core.now c.begin.new.self c.put_all_back.new.core start c.put_all_back.ensures.reached in
    let on = reach_join c.args.core.now c.put_all_back.new.core c.run_jobs.new.core waited c.run_jobs.ensures.reached in
    let end = ended c.run_jobs.new.core c.publish.new.self 0 c.publish.result c.publish.ensures (ran.is_open begun.0) c.in_ok-run_jobs.ensures.done in
    only_after c.args.core.now c.run_jobs.new.core c.publish.new.self (ran.plan ∙ begun.1) (ran.history ∙ begun.2) end.2

pub returns-clause-ended : goal.returns-clause-ended
returns-clause-ended g c =
    let begun = begun_open c.args.core.now c.begin.new.self c.in_ok-begin.field-0 c.in_ok-begin.ensures.step c.in_default.not-Nothing in
    let start = reach_one c.args.core.now c.begin.new.self (begins c.in_ok-begin.field-0) c.in_ok-begin.ensures.step in
    let back = stays_open c.begin.new.self c.put_all_back.new.core c.put_all_back.ensures.same in
    let ran = stays_join c.begin.new.self c.put_all_back.new.core c.run_jobs.new.core back (stays_open c.put_all_back.new.core c.run_jobs.new.core c.run_jobs.ensures.same) in
    let waited = reach_join c.args.core.now c.begin.new.self c.put_all_back.new.core start c.put_all_back.ensures.reached in
    let on = reach_join c.args.core.now c.put_all_back.new.core c.run_jobs.new.core waited c.run_jobs.ensures.reached in
    let end = ended c.run_jobs.new.core c.publish.new.self 0 c.publish.result c.publish.ensures (ran.is_open begun.0) c.in_ok-run_jobs.ensures.done in
    record { published = end.0 ∙ ran.front ∙ begun.3; closed = end.1 }

pub returns-clause-steps : goal.returns-clause-steps
returns-clause-steps g c =
    let begun = begun_open c.args.core.now c.begin.new.self c.in_ok-begin.field-0 c.in_ok-begin.ensures.step c.in_default.not-Nothing in
    let start = reach_one c.args.core.now c.begin.new.self (begins c.in_ok-begin.field-0) c.in_ok-begin.ensures.step in
    let back = stays_open c.begin.new.self c.put_all_back.new.core c.put_all_back.ensures.same in
    let touched = left_touched c.put_all_back.new.core c.stays_sound.ensures (back.is_open begun.0) in
    let same = steps_as c.args.core.now c.put_all_back.new.core (next_front c.args.core.now) (back.plan ∙ begun.1) (back.history ∙ begun.2) (back.front ∙ begun.3) in
    omega (arith, c.run_jobs.ensures.steps, touched, same)

pub returns-in_err-begin-clause-wanting : goal.returns-in_err-begin-clause-wanting
returns-in_err-begin-clause-wanting g c = at_err (¬ IsFinished c.args.core.now) c.from_residual.result (more_unfinished c.args.core.now c.in_err-begin.ensures.memory.0)

pub returns-in_err-begin-clause-back : goal.returns-in_err-begin-clause-back
returns-in_err-begin-clause-back g c =
    at_err (NoMoreOut (jobs_now c.args.core.now) (jobs_now c.begin.new.self)) c.from_residual.result (fewer_same c.args.core.now c.begin.new.self c.in_err-begin.ensures.memory.1)

pub returns-in_err-put_all_back-clause-wanting : goal.returns-in_err-put_all_back-clause-wanting
returns-in_err-put_all_back-clause-wanting g c =
    at_err (¬ IsFinished c.args.core.now) c.from_residual-in_err-put_all_back.result (begun_unfinished c.args.core.now c.begin.new.self c.in_ok-begin.field-0 c.in_ok-begin.ensures.step c.in_default.not-Nothing)

pub returns-in_err-put_all_back-clause-back : goal.returns-in_err-put_all_back-clause-back
returns-in_err-put_all_back-clause-back g c = at_err (NoMoreOut (jobs_now c.args.core.now) (jobs_now c.put_all_back.new.core)) c.from_residual-in_err-put_all_back.result (λ item was.
    c.in_err-put_all_back.ensures.fewer item (begun_fewer c.args.core.now c.begin.new.self c.in_ok-begin.field-0 c.in_ok-begin.ensures.step item was))

pub returns-in_err-run_jobs-clause-wanting : goal.returns-in_err-run_jobs-clause-wanting
returns-in_err-run_jobs-clause-wanting g c =
    at_err (¬ IsFinished c.args.core.now) c.from_residual-in_err-run_jobs.result (begun_unfinished c.args.core.now c.begin.new.self c.in_ok-begin.field-0 c.in_ok-begin.ensures.step c.in_default.not-Nothing)

pub returns-in_err-run_jobs-clause-back : goal.returns-in_err-run_jobs-clause-back
returns-in_err-run_jobs-clause-back g c =
    at_err (NoMoreOut (jobs_now c.args.core.now) (jobs_now c.run_jobs.new.core)) c.from_residual-in_err-run_jobs.result (λ item was. c.in_err-run_jobs.ensures.back item)
