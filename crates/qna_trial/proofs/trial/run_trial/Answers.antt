use Rattle.std.proofs.Common.{◌≡◌, ◌∙◌, Some, sym}
use Rattle.command_words.specs.Command.{words_in}
use Rattle.command_words.specs.TrialWords.{TrialForm, trial_form, trial_view}
use Rattle.command_words.specs.Words.{plain_view}
use Rattle.command_words.proofs.Trials.{trial_form_is, trial_form_none}
use Rattle.qna_trial.specs.TrialEnd.{IsTrialEnd}
use Rattle.qna_trial.proofs.Ends.{formless, not_usage, on_said}
use Rattle.qna_trial.proofs.trial.run_trial.Goals as goal

pub returns-in-Ok-None-clause-usage : goal.returns-in-Ok-None-clause-usage
returns-in-Ok-None-clause-usage g c = λ is.
    trial_form_none (words_in c.args.words.now) (rw c.in-Ok-None.field-0-is at c.in-Ok-None.ensures.read)

pub returns-in-Ok-None-clause-ends : goal.returns-in-Ok-None-clause-ends
returns-in-Ok-None-clause-ends g c =
    formless (words_in c.args.words.now) (λ (form : TrialForm). IsTrialEnd (g.K.Sink.paper c.args.report.now) (g.K.Sink.paper c.tell_usage.new.report) form c.tell_usage.result)
    (trial_form_none (words_in c.args.words.now) (rw c.in-Ok-None.field-0-is at c.in-Ok-None.ensures.read))

pub returns-in-Ok-Some-trial_words-clause-usage : goal.returns-in-Ok-Some-trial_words-clause-usage
returns-in-Ok-Some-trial_words-clause-usage g c = λ is. absurd (not_usage _ _ _ _ c.trial.ensures is)

pub returns-in-Ok-Some-trial_words-clause-form : goal.returns-in-Ok-Some-trial_words-clause-form
returns-in-Ok-Some-trial_words-clause-form g c = λ none.
    let said : trial_form (words_in c.args.words.now) ≡ Some (trial_view c.in-Ok-Some-trial_words.said) =
    trial_form_is (words_in c.args.words.now) (plain_view c.in-Ok-Some.plain) (rw c.in-Ok-Some.field-0-is at c.in-Ok-Some.ensures.read)
    ∙ sym (rw c.in-Ok-Some-trial_words.field-0-is at c.in-Ok-Some-trial_words.ensures.read) in
    absurd (let never = sym said ∙ none in cc)

pub returns-in-Ok-Some-trial_words-clause-quiet : goal.returns-in-Ok-Some-trial_words-clause-quiet
returns-in-Ok-Some-trial_words-clause-quiet g c = λ none is.
    let said : trial_form (words_in c.args.words.now) ≡ Some (trial_view c.in-Ok-Some-trial_words.said) =
    trial_form_is (words_in c.args.words.now) (plain_view c.in-Ok-Some.plain) (rw c.in-Ok-Some.field-0-is at c.in-Ok-Some.ensures.read)
    ∙ sym (rw c.in-Ok-Some-trial_words.field-0-is at c.in-Ok-Some-trial_words.ensures.read) in
    absurd (let never = sym said ∙ none in cc)

pub returns-in-Ok-Some-trial_words-clause-told : goal.returns-in-Ok-Some-trial_words-clause-told
returns-in-Ok-Some-trial_words-clause-told g c = λ is. absurd (not_usage _ _ _ _ c.trial.ensures is)

pub returns-in-Ok-Some-trial_words-clause-ends : goal.returns-in-Ok-Some-trial_words-clause-ends
returns-in-Ok-Some-trial_words-clause-ends g c =
    let said : trial_form (words_in c.args.words.now) ≡ Some (trial_view c.in-Ok-Some-trial_words.said) =
    trial_form_is (words_in c.args.words.now) (plain_view c.in-Ok-Some.plain) (rw c.in-Ok-Some.field-0-is at c.in-Ok-Some.ensures.read)
    ∙ sym (rw c.in-Ok-Some-trial_words.field-0-is at c.in-Ok-Some-trial_words.ensures.read) in
    on_said (words_in c.args.words.now) (trial_view c.in-Ok-Some-trial_words.said)
    (λ (form : TrialForm). IsTrialEnd (g.K.Sink.paper c.args.report.now) (g.K.Sink.paper c.trial.new.report) form c.trial.result) said c.trial.ensures

pub returns-in-Ok-None-trial_words-clause-usage : goal.returns-in-Ok-None-trial_words-clause-usage
returns-in-Ok-None-trial_words-clause-usage g c = λ is.
    trial_form_is (words_in c.args.words.now) (plain_view c.in-Ok-Some.plain) (rw c.in-Ok-Some.field-0-is at c.in-Ok-Some.ensures.read)
    ∙ sym (rw c.in-Ok-None-trial_words.field-0-is at c.in-Ok-None-trial_words.ensures.read)

pub returns-in-Ok-None-trial_words-clause-ends : goal.returns-in-Ok-None-trial_words-clause-ends
returns-in-Ok-None-trial_words-clause-ends g c =
    formless (words_in c.args.words.now)
    (λ (form : TrialForm). IsTrialEnd (g.K.Sink.paper c.args.report.now) (g.K.Sink.paper c.tell_usage-in-Ok-None-trial_words.new.report) form c.tell_usage-in-Ok-None-trial_words.result)
    (trial_form_is (words_in c.args.words.now) (plain_view c.in-Ok-Some.plain) (rw c.in-Ok-Some.field-0-is at c.in-Ok-Some.ensures.read)
    ∙ sym (rw c.in-Ok-None-trial_words.field-0-is at c.in-Ok-None-trial_words.ensures.read))
