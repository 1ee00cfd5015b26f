-- What a line is answered, from what the office's calls say.
use Rattle.std.proofs.Common.{◌≡◌, ◌∙◌, ap, sym, refl, subst, inl, inr, ℕ, ◌≤◌, Bool, true, false, cond, ◌&&◌}
use Rattle.std.proofs.Common.{List}
use Rattle.std.proofs.Common.{length, take, Option, Some, None, Result, Ok, Err}
use Rattle.std.specs.Prelude.{codes, decimal, not, slice_get}
use Rattle.qna_base.specs.declared.Memory.{Memory}
use Rattle.series_tables.specs.Plan.{PlanShape, item_with_name}
use Rattle.series_tables.specs.declared.input.Input.{Input}
use Rattle.line_form.specs.Fields.{record_of}
use Rattle.line_form.specs.Lines.{TextLine, is_comment}
use Rattle.input_rules.specs.Judgement.{judgement, leaf_with_name}
use Rattle.input_rules.specs.Lines.{cause_of, cause_text}
use Rattle.input_rules.specs.Requests.{Asked, SpelledInput, input, release, release_of, certificate_of, sync}
use Rattle.input_rules.specs.Requests.{fields_of_line, fields_or_form, meaning_of, meaning_of_fields, request_of}
use Rattle.input_rules.specs.Requests.{request_or_form}
use Rattle.input_rules.specs.declared.judging.Refusal.{Refusal}
use Rattle.input_rules.specs.declared.lines.Cause.{Cause}
use Rattle.input_rules.specs.declared.lines.Cause.TheVariants.{Form, Full, Long, Unknown}
use Rattle.node_compile.specs.Release.{compilation}
use Rattle.node_compile.specs.Table.{Table}
use Rattle.release_print.specs.Certificate.{certificate_text}
use Rattle.release_print.specs.Part.{Appends}
use Rattle.release_print.specs.Release.{node_text, release_text}
use Rattle.qna_parts.specs.StatusLine.{named_line}
use Rattle.accounts_history.specs.History.{IsLawful, front_of, journal, most_inputs}
use Rattle.accounts_history.specs.declared.entry.Entry.{Entry}
use Rattle.office.specs.Calls.{ShowsRelease, ShowsTable}
use Rattle.office.specs.Holds.{Known}
use Rattle.office.specs.Seen.{MadeNothing, SentNothing, SentOne, released}
use Rattle.office.proofs.Seen.{made_sent}
use Rattle.compile_workers.specs.Served.{certificate_block, inputs_in, item_block, release_block, text_or_none}
use Rattle.compile_workers.specs.Answering.{AnswersLine, reached}
use Rattle.compile_workers.specs.Serving.{Asks, IsRefused}
use Rattle.compile_workers.specs.Transcript.{refused, accepted, shown, item_shown, certificate_shown}
use Rattle.compile_workers.specs.Transcript.{AnswersInput, AnswersName, HasNoneAfter, question_of}
use Rattle.compile_workers.proofs.Steps.{accepted_more, answered_grows, block_more, refused_more, synced_more}
use Rattle.compile_workers.proofs.Waiting.{answers_by}

-- ---- blocks

-- the release that a pass was shown is the block of its front
pub release_is : (plan : PlanShape) (pass : Known) (front : ℕ) (tables : List Table) → pass.label ≡ Some plan
    → ShowsRelease pass front tables
    → release_text plan front tables ≡ release_block plan (inputs_in (journal pass.seen)) front
unfolding release_block
release_is plan pass front tables label shows =
    let same : tables ≡ released plan pass.seen = shows.1 plan label in
    let first : take (front_of pass.seen) (inputs_in (journal pass.seen)) ≡ take front (inputs_in (journal pass.seen)) =
    ap (λ (k : ℕ). take k (inputs_in (journal pass.seen))) (sym shows.0) in
    ap (release_text plan front) (same ∙ ap (compilation plan) first)

-- the table that a pass was shown stands in the compilation up to its front
table_is : (plan : PlanShape) (pass : Known) (item front : ℕ) (table : Table) → pass.label ≡ Some plan
    → ShowsTable pass item front table
    → slice_get (compilation plan (take front (inputs_in (journal pass.seen)))) item ≡ Some table
table_is plan pass item front table label shows =
    ap (λ (k : ℕ). slice_get (compilation plan (take k (inputs_in (journal pass.seen)))) item) shows.0
    ∙ shows.1 plan label

-- and the block of an item is that of its table
pub item_is : (plan : PlanShape) (pass : Known) (item front : ℕ) (table : Table) → pass.label ≡ Some plan
    → ShowsTable pass item front table
    → node_text plan front item table ≡ item_block plan (inputs_in (journal pass.seen)) front item
unfolding item_block
item_is plan pass item front table label shows =
    sym (ap (text_or_none (node_text plan front item)) (table_is plan pass item front table label shows))

-- and so is the certificate of a leaf
pub certificate_is : (plan : PlanShape) (pass : Known) (leaf front : ℕ) (table : Table) → pass.label ≡ Some plan
    → ShowsTable pass leaf front table
    → certificate_text plan front leaf table ≡ certificate_block plan (inputs_in (journal pass.seen)) front leaf
unfolding certificate_block
certificate_is plan pass leaf front table label shows =
    sym (ap (text_or_none (certificate_text plan front leaf)) (table_is plan pass leaf front table label shows))

-- ---- answers

module _ (plan : PlanShape) (party : ℕ) (line : TextLine) (old new : List ℕ) (own : ℕ) (before seen : List Entry)
    (said : Result (Unit {0}) Memory) where
  -- the published front
  pub serve_synced : (front : ℕ) → IsLawful plan seen → SentNothing party before seen → Asks plan line sync
      → front ≡ front_of seen → own ≤ front → Appends said old new (named_line (codes "synced") (decimal front))
      → AnswersLine plan party line (reached old own before) (reached new own seen) said
  serve_synced front lawful grew asks front_is covers appends =
      answers_by plan party line (reached old own before) (reached new own seen)
      (named_line (codes "synced") (decimal front)) said
      (λ lines text s. synced_more plan party lines line text own front seen asks lawful front_is covers
      (answered_grows plan party lines text own before seen lawful grew s))
      appends

  -- an input that is accepted
  pub serve_accepted : (s : SpelledInput) (i : Input) (number : ℕ) → IsLawful plan seen
      → SentOne party i number before seen → Asks plan line (input s)
      → judgement plan s.kind s.name s.period s.value ≡ Ok i
      → Appends said old new (named_line (codes "ok") (decimal number))
      → AnswersLine plan party line (reached old own before) (reached new number seen) said
  serve_accepted s i number lawful one asks judged appends =
      answers_by plan party line (reached old own before) (reached new number seen)
      (named_line (codes "ok") (decimal number)) said
      (λ lines text h. accepted_more plan party lines line text own number i before seen (Ok (input s)) asks
      (λ at above next. subst
      (λ (j : Result Input Refusal). AnswersInput party (journal seen) at j (accepted number)) (sym judged)
      (inl (number, refl, above, next)))
      lawful one h)
      appends

  -- an input for which the journal has no room
  pub serve_full : (s : SpelledInput) (i : Input) → IsLawful plan seen → SentNothing party before seen
      → length (journal seen) ≡ most_inputs → Asks plan line (input s)
      → judgement plan s.kind s.name s.period s.value ≡ Ok i
      → Appends said old new (named_line (codes "no") (cause_text Full))
      → AnswersLine plan party line (reached old own before) (reached new own seen) said
  serve_full s i lawful grew full asks judged appends =
      answers_by plan party line (reached old own before) (reached new own seen)
      (named_line (codes "no") (cause_text Full)) said
      (λ lines text h. refused_more plan party lines line text own seen (Ok (input s)) Full asks
      (λ at is none. subst
      (λ (j : Result Input Refusal). AnswersInput party (journal seen) at j (refused Full)) (sym judged)
      (inr (refl, full, subst (λ (k : ℕ). HasNoneAfter party k (journal seen)) (sym is) none)))
      (answered_grows plan party lines text own before seen lawful grew h))
      appends

  -- a whole release
  pub serve_release : (front : ℕ) → IsLawful plan seen → MadeNothing party before seen → Asks plan line release
      → front ≡ front_of seen → Appends said old new (release_block plan (inputs_in (journal seen)) front)
      → AnswersLine plan party line (reached old own before) (reached new own seen) said
  serve_release front lawful made asks front_is appends =
      answers_by plan party line (reached old own before) (reached new own seen)
      (release_block plan (inputs_in (journal seen)) front) said
      (λ lines text h. block_more plan party lines line text own front seen (Ok release) (shown front) asks
      (λ at may. (front, refl, may)) (λ at. refl) lawful front_is
      (answered_grows plan party lines text own before seen lawful (made_sent party before seen made) h))
      appends

  -- the block of an item
  pub serve_item : (name : List ℕ) (item front : ℕ) → IsLawful plan seen → MadeNothing party before seen
      → Asks plan line (release_of name) → item_with_name plan name ≡ Some item → front ≡ front_of seen
      → Appends said old new (item_block plan (inputs_in (journal seen)) front item)
      → AnswersLine plan party line (reached old own before) (reached new own seen) said
  serve_item name item front lawful made asks named front_is appends =
      answers_by plan party line (reached old own before) (reached new own seen)
      (item_block plan (inputs_in (journal seen)) front item) said
      (λ lines text h. block_more plan party lines line text own front seen (Ok (release_of name))
      (item_shown front item)
      asks
      (λ at may. subst
      (λ (o : Option ℕ). AnswersName (journal seen) at o item_shown (item_shown front item)) (sym named)
      (front, refl, may))
      (λ at. refl) lawful front_is
      (answered_grows plan party lines text own before seen lawful (made_sent party before seen made) h))
      appends

  -- the certificate of a leaf
  pub serve_certificate : (name : List ℕ) (leaf front : ℕ) → IsLawful plan seen → MadeNothing party before seen
      → Asks plan line (certificate_of name) → leaf_with_name plan name ≡ Some leaf → front ≡ front_of seen
      → Appends said old new (certificate_block plan (inputs_in (journal seen)) front leaf)
      → AnswersLine plan party line (reached old own before) (reached new own seen) said
  serve_certificate name leaf front lawful made asks named front_is appends =
      answers_by plan party line (reached old own before) (reached new own seen)
      (certificate_block plan (inputs_in (journal seen)) front leaf) said
      (λ lines text h. block_more plan party lines line text own front seen (Ok (certificate_of name))
      (certificate_shown front leaf) asks
      (λ at may. subst
      (λ (o : Option ℕ). AnswersName (journal seen) at o certificate_shown (certificate_shown front leaf))
      (sym named) (front, refl, may))
      (λ at. refl) lawful front_is
      (answered_grows plan party lines text own before seen lawful (made_sent party before seen made) h))
      appends

-- a line that is refused
pub serve_refusal : (plan : PlanShape) (party : ℕ) (line : TextLine) (old new : List ℕ) (own : ℕ) (seen : List Entry)
    (said : Result (Unit {0}) Memory) (cause : Cause) → IsRefused plan line cause
    → Appends said old new (named_line (codes "no") (cause_text cause))
    → AnswersLine plan party line (reached old own seen) (reached new own seen) said
serve_refusal plan party line old new own seen said cause refusal appends =
    answers_by plan party line (reached old own seen) (reached new own seen)
    (named_line (codes "no") (cause_text cause))
    said
    (λ lines text h. refused_more plan party lines line text own seen refusal.0 cause refusal.1
    (λ at is none. refusal.2 party (journal seen) at) h)
    appends

-- ---- refusals, whatever the journal

-- no item has the name, or no leaf
pub refused_item : (plan : PlanShape) (line : TextLine) (name : List ℕ) → Asks plan line (release_of name)
    → item_with_name plan name ≡ None → IsRefused plan line Unknown
refused_item plan line name asks none = (
  Ok (release_of name),
  asks,
  λ party sent at. subst (λ (o : Option ℕ). AnswersName sent at o item_shown (refused Unknown)) (sym none) refl,
)

-- no leaf has the name
pub refused_leaf : (plan : PlanShape) (line : TextLine) (name : List ℕ) → Asks plan line (certificate_of name)
    → leaf_with_name plan name ≡ None → IsRefused plan line Unknown
refused_leaf plan line name asks none = (
  Ok (certificate_of name),
  asks,
  λ party sent at. subst (λ (o : Option ℕ). AnswersName sent at o certificate_shown (refused Unknown)) (sym none) refl,
)

-- the input is refused
pub refused_input : (plan : PlanShape) (line : TextLine) (s : SpelledInput) (why : Refusal) → Asks plan line (input s)
    → judgement plan s.kind s.name s.period s.value ≡ Err why → IsRefused plan line (cause_of why)
refused_input plan line s why asks judged = (
  Ok (input s),
  asks,
  λ party sent at. subst
      (λ (j : Result Input Refusal). AnswersInput party sent at j (refused (cause_of why))) (sym judged) refl,
)

-- the line has none of the forms
refused_form : (plan : PlanShape) (line : TextLine) (cause : Cause) → meaning_of plan.start line ≡ Err cause
    → IsRefused plan line cause
refused_form plan line cause is = (Err cause, ap question_of is, λ party sent at. refl)

-- no record is read of the line
pub refused_fields : (plan : PlanShape) (line : TextLine) (cause : Cause) → fields_of_line line ≡ Err cause
    → IsRefused plan line cause
refused_fields plan line cause is = refused_form plan line cause (ap (meaning_of_fields plan.start) is)

-- the fields have none of the forms
pub refused_no_form : (plan : PlanShape) (line : TextLine) (fields : List (List ℕ))
    → fields_of_line line ≡ Ok (Some fields) → request_of plan.start fields ≡ None → IsRefused plan line Form
refused_no_form plan line fields is none =
    refused_form plan line Form (ap (meaning_of_fields plan.start) is ∙ ap request_or_form none)

-- a long line is refused for that
pub long_fields : (line : TextLine) → line.long ≡ true → fields_of_line line ≡ Err Long
long_fields line long = by line.long long
  where
    by : (b : Bool) → b ≡ true
        → cond (not b && is_comment line.text) (Ok None) (cond b (Err Long) (fields_or_form (record_of line.text)))
        ≡ Err Long
    by true is = refl
    by false is = absurd (cc is)

-- what a line asks for by its fields
pub asks_by : (plan : PlanShape) (line : TextLine) (fields : List (List ℕ)) (asked : Asked)
    → fields_of_line line ≡ Ok (Some fields) → request_of plan.start fields ≡ Some asked → Asks plan line asked
asks_by plan line fields asked is some =
    ap (λ (m : Result (Option (List (List ℕ))) Cause). question_of (meaning_of_fields plan.start m)) is
    ∙ ap (λ (o : Option Asked). question_of (request_or_form o)) some

-- a line of no record asks for nothing
pub asks_nothing : (plan : PlanShape) (line : TextLine) → fields_of_line line ≡ Ok None
    → question_of (meaning_of plan.start line) ≡ None
asks_nothing plan line is =
    ap (λ (m : Result (Option (List (List ℕ))) Cause). question_of (meaning_of_fields plan.start m)) is
