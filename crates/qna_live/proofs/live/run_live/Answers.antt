use Rattle.std.proofs.Common.{◌≡◌, ◌∙◌, ℕ, List, None, Some, sym}
use Rattle.command_words.specs.Command.{words_in}
use Rattle.command_words.specs.LiveWords.{LiveForm, form_of_plain, live_form}
use Rattle.command_words.specs.Views.{live_view}
use Rattle.command_words.specs.Words.{plain_of, plain_view}
use Rattle.qna_live.specs.Live.{IsLiveEnd}
use Rattle.qna_live.proofs.Plans.{formless, no-form, not-usage, on-said, said-form, unsaid-form}
use Rattle.qna_live.proofs.live.run_live.Goals as goal

pub returns-in-Ok-None-clause-usage : goal.returns-in-Ok-None-clause-usage
returns-in-Ok-None-clause-usage g c = λ is. no-form (words_in c.args.words.now) (sym (rw c.in-Ok-None.field-0-is at c.in-Ok-None.ensures.read))

pub returns-in-Ok-None-clause-ends : goal.returns-in-Ok-None-clause-ends
returns-in-Ok-None-clause-ends g c =
    formless (words_in c.args.words.now) (λ (form : LiveForm). IsLiveEnd (g.C.Cabinet.shelves c.args.cabinet.now) (g.C.Cabinet.shelves c.args.cabinet.now) (g.K.Sink.paper c.args.report.now) (g.K.Sink.paper c.tell_usage.new.report) form c.tell_usage.result)
    (no-form (words_in c.args.words.now) (sym (rw c.in-Ok-None.field-0-is at c.in-Ok-None.ensures.read)))

pub returns-in-Ok-Some-live_words-clause-usage : goal.returns-in-Ok-Some-live_words-clause-usage
returns-in-Ok-Some-live_words-clause-usage g c = λ is. absurd (not-usage _ _ _ _ _ _ c.live.ensures is)

pub returns-in-Ok-Some-live_words-clause-form : goal.returns-in-Ok-Some-live_words-clause-form
returns-in-Ok-Some-live_words-clause-form g c = λ none.
    let said = said-form (words_in c.args.words.now) (plain_view c.in-Ok-Some.plain) (live_view c.in-Ok-Some-live_words.said) (rw c.in-Ok-Some.field-0-is at c.in-Ok-Some.ensures.read) (rw c.in-Ok-Some-live_words.field-0-is at c.in-Ok-Some-live_words.ensures.read) in
    absurd (let no = sym said ∙ none in cc)

pub returns-in-Ok-Some-live_words-clause-untouched : goal.returns-in-Ok-Some-live_words-clause-untouched
returns-in-Ok-Some-live_words-clause-untouched g c = λ none.
    let said = said-form (words_in c.args.words.now) (plain_view c.in-Ok-Some.plain) (live_view c.in-Ok-Some-live_words.said) (rw c.in-Ok-Some.field-0-is at c.in-Ok-Some.ensures.read) (rw c.in-Ok-Some-live_words.field-0-is at c.in-Ok-Some-live_words.ensures.read) in
    absurd (let no = sym said ∙ none in cc)

pub returns-in-Ok-Some-live_words-clause-quiet : goal.returns-in-Ok-Some-live_words-clause-quiet
returns-in-Ok-Some-live_words-clause-quiet g c = λ none is.
    let said = said-form (words_in c.args.words.now) (plain_view c.in-Ok-Some.plain) (live_view c.in-Ok-Some-live_words.said) (rw c.in-Ok-Some.field-0-is at c.in-Ok-Some.ensures.read) (rw c.in-Ok-Some-live_words.field-0-is at c.in-Ok-Some-live_words.ensures.read) in
    absurd (let no = sym said ∙ none in cc)

pub returns-in-Ok-Some-live_words-clause-told : goal.returns-in-Ok-Some-live_words-clause-told
returns-in-Ok-Some-live_words-clause-told g c = λ is. absurd (not-usage _ _ _ _ _ _ c.live.ensures is)

pub returns-in-Ok-Some-live_words-clause-ends : goal.returns-in-Ok-Some-live_words-clause-ends
returns-in-Ok-Some-live_words-clause-ends g c =
    let said = said-form (words_in c.args.words.now) (plain_view c.in-Ok-Some.plain) (live_view c.in-Ok-Some-live_words.said) (rw c.in-Ok-Some.field-0-is at c.in-Ok-Some.ensures.read) (rw c.in-Ok-Some-live_words.field-0-is at c.in-Ok-Some-live_words.ensures.read) in
    on-said (words_in c.args.words.now) (live_view c.in-Ok-Some-live_words.said) (λ (form : LiveForm). IsLiveEnd (g.C.Cabinet.shelves c.args.cabinet.now) (g.C.Cabinet.shelves c.live.new.cabinet) (g.K.Sink.paper c.args.report.now) (g.K.Sink.paper c.live.new.report) form c.live.result) said c.live.ensures

pub returns-in-Ok-None-live_words-clause-usage : goal.returns-in-Ok-None-live_words-clause-usage
returns-in-Ok-None-live_words-clause-usage g c = λ is.
    unsaid-form (words_in c.args.words.now) (plain_view c.in-Ok-Some.plain) (rw c.in-Ok-Some.field-0-is at c.in-Ok-Some.ensures.read) (rw c.in-Ok-None-live_words.field-0-is at c.in-Ok-None-live_words.ensures.read)

pub returns-in-Ok-None-live_words-clause-ends : goal.returns-in-Ok-None-live_words-clause-ends
returns-in-Ok-None-live_words-clause-ends g c =
    formless (words_in c.args.words.now) (λ (form : LiveForm). IsLiveEnd (g.C.Cabinet.shelves c.args.cabinet.now) (g.C.Cabinet.shelves c.args.cabinet.now) (g.K.Sink.paper c.args.report.now) (g.K.Sink.paper c.tell_usage-in-Ok-None-live_words.new.report) form c.tell_usage-in-Ok-None-live_words.result)
    (unsaid-form (words_in c.args.words.now) (plain_view c.in-Ok-Some.plain) (rw c.in-Ok-Some.field-0-is at c.in-Ok-Some.ensures.read) (rw c.in-Ok-None-live_words.field-0-is at c.in-Ok-None-live_words.ensures.read))
