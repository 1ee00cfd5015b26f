use Rattle.std.proofs.Common.{◌≡◌, ◌∙◌, codes, sym, true, false}
use Rattle.command_words.specs.Command.{words_in}
use Rattle.command_words.specs.LiveWords.{LiveForm}
use Rattle.command_words.specs.Words.{begins_by}
use Rattle.command_words.proofs.Callers.{live_unnamed}
use Rattle.command_words.proofs.Trials.{trial_lived, trial_unnamed}
use Rattle.qna_live.specs.Live.{IsLiveEnd}
use Rattle.qna_cli.proofs.Branches.{batch_not_live, check_no_form, check_not_live, live_no_form, never_live, never_trial, not_trial, trial_no_form}
use Rattle.qna_cli.proofs.command.run.Goals as goal

pub returns-then-names-clause-usage : goal.returns-then-names-clause-usage
returns-then-names-clause-usage g c = λ is.
    check_no_form (words_in c.args.words.now) (sym c.names.ensures ∙ c.if-names.true) (c.run_check.ensures.usage is)

pub returns-then-names-clause-lived : goal.returns-then-names-clause-lived
returns-then-names-clause-lived g c =
    check_not_live (λ (form : LiveForm). IsLiveEnd (g.C.Cabinet.shelves c.args.cabinet.now)
    (g.C.Cabinet.shelves c.run_check.new.cabinet) (g.K.Sink.paper c.args.report.now)
    (g.K.Sink.paper c.run_check.new.report) form c.run_check.result) (words_in c.args.words.now)
    (sym c.names.ensures ∙ c.if-names.true)

pub returns-then-names-clause-tried : goal.returns-then-names-clause-tried
returns-then-names-clause-tried g c = λ form is.
    absurd (never_trial (words_in c.args.words.now) form
    (not_trial (words_in c.args.words.now) (sym c.names.ensures ∙ c.if-names.true)) is)

pub returns-then-names-clause-fileless : goal.returns-then-names-clause-fileless
returns-then-names-clause-fileless g c = λ form is.
    absurd (never_trial (words_in c.args.words.now) form
    (not_trial (words_in c.args.words.now) (sym c.names.ensures ∙ c.if-names.true)) is)

pub returns-then-names-2-clause-usage : goal.returns-then-names-2-clause-usage
returns-then-names-2-clause-usage g c = λ is.
    live_no_form (words_in c.args.words.now) (sym c.names-2.ensures ∙ c.if-names-2.true) (c.run_live.ensures.usage is)

pub returns-then-names-2-clause-tried : goal.returns-then-names-2-clause-tried
returns-then-names-2-clause-tried g c = λ form is.
    absurd (never_trial (words_in c.args.words.now) form
    (trial_lived (words_in c.args.words.now) (sym c.names-2.ensures ∙ c.if-names-2.true)) is)

pub returns-then-names-2-clause-fileless : goal.returns-then-names-2-clause-fileless
returns-then-names-2-clause-fileless g c = λ form is.
    absurd (never_trial (words_in c.args.words.now) form
    (trial_lived (words_in c.args.words.now) (sym c.names-2.ensures ∙ c.if-names-2.true)) is)

pub returns-then-names-3-clause-usage : goal.returns-then-names-3-clause-usage
returns-then-names-3-clause-usage g c = λ is.
    trial_no_form (words_in c.args.words.now) (sym c.names.ensures ∙ c.if-names.false)
    (sym c.names-2.ensures ∙ c.if-names-2.false) (sym c.names-3.ensures ∙ c.if-names-3.true)
    (c.run_trial.ensures.usage is)

pub returns-then-names-3-clause-lived : goal.returns-then-names-3-clause-lived
returns-then-names-3-clause-lived g c = λ form is.
    absurd (never_live (words_in c.args.words.now) form
    (live_unnamed (words_in c.args.words.now) (sym c.names-2.ensures ∙ c.if-names-2.false)) is)

pub returns-clause-lived : goal.returns-clause-lived
returns-clause-lived g c =
    batch_not_live (λ (form : LiveForm). IsLiveEnd (g.C.Cabinet.shelves c.args.cabinet.now)
    (g.C.Cabinet.shelves c.run_batch.new.cabinet) (g.K.Sink.paper c.args.report.now)
    (g.K.Sink.paper c.run_batch.new.report) form c.run_batch.result) (words_in c.args.words.now)
    (sym c.names-2.ensures ∙ c.if-names-2.false)

pub returns-clause-tried : goal.returns-clause-tried
returns-clause-tried g c = λ form is.
    absurd (never_trial (words_in c.args.words.now) form
    (trial_unnamed (words_in c.args.words.now) (sym c.names-3.ensures ∙ c.if-names-3.false)) is)

pub returns-clause-fileless : goal.returns-clause-fileless
returns-clause-fileless g c = λ form is.
    absurd (never_trial (words_in c.args.words.now) form
    (trial_unnamed (words_in c.args.words.now) (sym c.names-3.ensures ∙ c.if-names-3.false)) is)
