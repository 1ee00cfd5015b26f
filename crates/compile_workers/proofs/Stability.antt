-- What a desk is answered over a journal stays lawful when the journal grows by what others send.
use Rattle.std.proofs.Common.{◌≡◌, ◌∙◌, ap, sym, refl, subst, ⊎_elim, inl, inr, ℕ, ◌≤◌, List, [], ◌∷◌}
use Rattle.std.proofs.Common.{◌++◌, length, take, Option, Some, None, Result, Ok, Err, arith, append_assoc}
use Rattle.std.proofs.Common.{append-nil, length-append}
use Rattle.std.specs.Prelude.{slice_get}
use Rattle.std.proofs.lemmas.List.{map-append, take-append-le, nil_from_length}
use Rattle.series_tables.specs.Plan.{PlanShape, item_with_name}
use Rattle.series_tables.specs.declared.input.Input.{Input}
use Rattle.line_form.specs.Lines.{TextLine}
use Rattle.input_rules.specs.Judgement.{judgement, leaf_with_name}
use Rattle.input_rules.specs.Requests.{Asked, input, release, release_of, certificate_of, sync}
use Rattle.input_rules.specs.declared.lines.Cause.{Cause}
use Rattle.input_rules.specs.declared.judging.Refusal.{Refusal}
use Rattle.accounts_history.specs.History.{Sent, most_inputs}
use Rattle.node_compile.specs.Release.{compilation}
use Rattle.release_print.specs.Certificate.{certificate_text}
use Rattle.release_print.specs.Release.{node_text, release_text}
use Rattle.compile_workers.specs.Laws.{IsOthers}
use Rattle.compile_workers.specs.Served.{IsPartlyServed, IsServed, answer_text, answers_text, inputs_in}
use Rattle.compile_workers.specs.Served.{certificate_block, item_block, release_block, text_or_none}
use Rattle.compile_workers.specs.Transcript.{Answer, refused, accepted, shown, item_shown, certificate_shown, synced}
use Rattle.compile_workers.specs.Transcript.{Answers, AnswersAll, AnswersAsked, AnswersInput, AnswersName}
use Rattle.compile_workers.specs.Transcript.{HasNoneAfter, IsInSync, IsNext, MayBeShown, Standing}
use Rattle.compile_workers.specs.Transcript.{after, after_all, at_first, questions}
use Rattle.compile_workers.proofs.Journals.{length-inputs_in, none_stays}

-- the next input of a party stays the next one
pub next_stays : (party : ℕ) (i : Input) (own number : ℕ) (journal later : List Sent)
    → IsNext party i own number journal → IsNext party i own number (journal ++ later)
next_stays party i own number journal later next = record {
  before = next.before;
  later = next.later ++ later;
  stands = ap (λ (w : List Sent). w ++ later) next.stands
      ∙ append_assoc next.before (record { party = party; input = i } ∷ next.later) later;
  counted = next.counted;
  above = next.above;
  none_between = next.none_between;
}

module _ (journal later : List Sent) where
  -- a number within a journal is within a longer one
  longer : (number : ℕ) → number ≤ length journal → number ≤ length (journal ++ later)
  longer number within = omega (arith, within, length-append journal later)

  -- a front that may be shown may be shown over a longer journal
  shown_stays : (at : Standing) (front : ℕ) → MayBeShown at front journal → MayBeShown at front (journal ++ later)
  shown_stays at front may = record { no_older = may.no_older; exists = longer front may.exists; near = may.near }

  -- a front up to which all is published stays one
  synced_stays : (at : Standing) (front : ℕ) → IsInSync at front journal → IsInSync at front (journal ++ later)
  synced_stays at front is = record {
    no_older = is.no_older;
    published = is.published;
    exists = longer front is.exists;
  }

  -- the answer to a question for an item or a leaf stays one
  name_stays : (at : Standing) (item : Option ℕ) (block : ℕ → ℕ → Answer) (answer : Answer)
      → AnswersName journal at item block answer → AnswersName (journal ++ later) at item block answer
  name_stays at None block answer is = is
  name_stays at (Some item) block answer is = (is.0, is.1, shown_stays at is.0 is.2)

module _ (plan : PlanShape) (party : ℕ) (journal later : List Sent)
    (few : length (journal ++ later) ≤ most_inputs) where
  -- a full journal doesn't grow
  full_stays : (own : ℕ) → length journal ≡ most_inputs → HasNoneAfter party own journal
      → HasNoneAfter party own (journal ++ later)
  full_stays own full none =
      let nothing : later ≡ [] = nil_from_length later (omega (arith, full, few, length-append journal later)) in
      let same : journal ++ later ≡ journal = ap (λ (w : List Sent). journal ++ w) nothing ∙ append-nil journal in
      subst (λ (w : List Sent). HasNoneAfter party own w) (sym same) none

  -- the answer to an input stays one
  input_stays : (at : Standing) (judged : Result Input Refusal) (answer : Answer)
      → AnswersInput party journal at judged answer → AnswersInput party (journal ++ later) at judged answer
  input_stays at (Err why) answer is = is
  input_stays at (Ok i) answer is = ⊎_elim
      (λ one. inl (one.0, one.1, one.2, next_stays party i at.own one.0 journal later one.3))
      (λ full. inr (full.0, omega (arith, full.1, few, length-append journal later), full_stays at.own full.1 full.2))
      is

  -- the answer to a line of right form stays one
  asked_stays : (at : Standing) (asked : Asked) (answer : Answer)
      → AnswersAsked plan party journal at asked answer → AnswersAsked plan party (journal ++ later) at asked answer
  asked_stays at (input i) answer is = input_stays at (judgement plan i.kind i.name i.period i.value) answer is
  asked_stays at release answer is = (is.0, is.1, shown_stays journal later at is.0 is.2)
  asked_stays at (release_of name) answer is =
      name_stays journal later at (item_with_name plan name) item_shown answer is
  asked_stays at (certificate_of name) answer is =
      name_stays journal later at (leaf_with_name plan name) certificate_shown answer is
  asked_stays at sync answer is = (is.0, is.1, synced_stays journal later at is.0 is.2)

  -- the answer to a line stays one
  answer_stays : (at : Standing) (question : Result Asked Cause) (answer : Answer)
      → Answers plan party journal at question answer → Answers plan party (journal ++ later) at question answer
  answer_stays at (Err cause) answer is = is
  answer_stays at (Ok asked) answer is = asked_stays at asked answer is

  -- the answers to some lines stay theirs
  pub answers_stay : (at : Standing) (questions : List (Result Asked Cause)) (answers : List Answer)
      → AnswersAll plan party journal at questions answers → AnswersAll plan party
      (journal ++ later) at questions answers
  answers_stay at [] [] all = tt
  answers_stay at [] (answer ∷ answers) all = all
  answers_stay at (question ∷ questions) [] all = all
  answers_stay at (question ∷ questions) (answer ∷ answers) all =
      (answer_stays at question answer all.0, answers_stay (after at answer) questions answers all.1)

-- the front of a block, and 0 for another answer
abbrev block_front : Answer → ℕ
block_front (refused cause) = 0
block_front (accepted number) = 0
block_front (shown front) = front
block_front (item_shown front item) = front
block_front (certificate_shown front leaf) = front
block_front (synced front) = 0

-- a block names inputs of the journal
module _ (plan : PlanShape) (party : ℕ) (journal : List Sent) where
  -- what holds of the front of an answer holds of an equal one
  within : (one two : Answer) → one ≡ two → block_front two ≤ length journal → block_front one ≤ length journal
  within one two is le = omega (arith, ap block_front is, le)

  -- the answer to an input is no block
  input_within : (at : Standing) (judged : Result Input Refusal) (answer : Answer)
      → AnswersInput party journal at judged answer → block_front answer ≤ length journal
  input_within at (Err why) answer is = within answer _ is (omega arith)
  input_within at (Ok i) answer is = ⊎_elim
      (λ one. within answer (accepted one.0) one.1 (omega arith)) (λ full. within answer _ full.0 (omega arith)) is

  -- the block of an item or a leaf names inputs of the journal
  name_within : (at : Standing) (item : Option ℕ) (block : ℕ → ℕ → Answer) (answer : Answer)
      → ((front item : ℕ) → block_front (block front item) ≡ front)
      → AnswersName journal at item block answer → block_front answer ≤ length journal
  name_within at None block answer front is = within answer _ is (omega arith)
  name_within at (Some item) block answer front is =
      within answer (block is.0 item) is.1 (omega (arith, front is.0 item, is.2.exists))

  -- a block that answers a line of right form names inputs of the journal
  asked_within : (at : Standing) (asked : Asked) (answer : Answer)
      → AnswersAsked plan party journal at asked answer → block_front answer ≤ length journal
  asked_within at (input i) answer is = input_within at (judgement plan i.kind i.name i.period i.value) answer is
  asked_within at release answer is = within answer (shown is.0) is.1 is.2.exists
  asked_within at (release_of name) answer is =
      name_within at (item_with_name plan name) item_shown answer (λ front item. refl) is
  asked_within at (certificate_of name) answer is =
      name_within at (leaf_with_name plan name) certificate_shown answer (λ front leaf. refl) is
  asked_within at sync answer is = within answer (synced is.0) is.1 (omega arith)

  -- a block that answers a line names inputs of the journal
  answer_within : (at : Standing) (question : Result Asked Cause) (answer : Answer)
      → Answers plan party journal at question answer → block_front answer ≤ length journal
  answer_within at (Err cause) answer is = within answer (refused cause) is (omega arith)
  answer_within at (Ok asked) answer is = asked_within at asked answer is

-- the first so many inputs are the same with more behind them
same_front : (front : ℕ) (inputs more : List Input) → front ≤ length inputs
    → take front inputs ≡ take front (inputs ++ more)
same_front front inputs more le = sym (take-append-le front inputs more le)

-- a block of the first inputs is the same with more behind them
release_stays : (plan : PlanShape) (inputs more : List Input) (front : ℕ) → front ≤ length inputs
    → release_block plan inputs front ≡ release_block plan (inputs ++ more) front
unfolding release_block
release_stays plan inputs more front le =
    ap (λ (is : List Input). release_text plan front (compilation plan is)) (same_front front inputs more le)

-- the block of one item
item_stays : (plan : PlanShape) (inputs more : List Input) (front item : ℕ) → front ≤ length inputs
    → item_block plan inputs front item ≡ item_block plan (inputs ++ more) front item
unfolding item_block
item_stays plan inputs more front item le =
    ap (λ (is : List Input). text_or_none (node_text plan front item) (slice_get (compilation plan is) item))
    (same_front front inputs more le)

-- the certificate of one leaf
certificate_stays : (plan : PlanShape) (inputs more : List Input) (front leaf : ℕ) → front ≤ length inputs
    → certificate_block plan inputs front leaf ≡ certificate_block plan (inputs ++ more) front leaf
unfolding certificate_block
certificate_stays plan inputs more front leaf le =
    ap (λ (is : List Input). text_or_none (certificate_text plan front leaf) (slice_get (compilation plan is) leaf))
    (same_front front inputs more le)

-- the text of an answer is the same with more inputs behind those that it names
text_stays_at : (plan : PlanShape) (inputs more : List Input) (answer : Answer) → block_front answer ≤ length inputs
    → answer_text plan inputs answer ≡ answer_text plan (inputs ++ more) answer
text_stays_at plan inputs more (refused cause) le = refl
text_stays_at plan inputs more (accepted number) le = refl
text_stays_at plan inputs more (shown front) le = release_stays plan inputs more front le
text_stays_at plan inputs more (item_shown front item) le = item_stays plan inputs more front item le
text_stays_at plan inputs more (certificate_shown front leaf) le = certificate_stays plan inputs more front leaf le
text_stays_at plan inputs more (synced front) le = refl

-- the texts of answers stay as they are
pub text_stays : (plan : PlanShape) (party : ℕ) (journal later : List Sent) (at : Standing)
    (questions : List (Result Asked Cause)) (answers : List Answer) → AnswersAll plan party journal at questions answers
    → answers_text plan (inputs_in journal) answers ≡ answers_text plan (inputs_in (journal ++ later)) answers
text_stays plan party journal later at [] [] all = refl
text_stays plan party journal later at [] (answer ∷ answers) all = absurd all
text_stays plan party journal later at (question ∷ questions) [] all = absurd all
text_stays plan party journal later at (question ∷ questions) (answer ∷ answers) all =
    let le : block_front answer ≤ length (inputs_in journal) =
    omega (arith, answer_within plan party journal at question answer all.0, length-inputs_in journal) in
    let joined : inputs_in (journal ++ later) ≡ inputs_in journal ++ inputs_in later =
    map-append (λ (sent : Sent). sent.input) journal later in
    let here : answer_text plan (inputs_in journal) answer ≡ answer_text plan (inputs_in (journal ++ later)) answer =
    text_stays_at plan (inputs_in journal) (inputs_in later) answer le
    ∙ ap (λ (is : List Input). answer_text plan is answer) (sym joined) in
    let rest = text_stays plan party journal later (after at answer) questions answers all.1 in
    ap (λ (w : List ℕ). w ++ answers_text plan (inputs_in journal) answers) here
    ∙ ap (λ (w : List ℕ). answer_text plan (inputs_in (journal ++ later)) answer ++ w) rest

-- the laws
pub served_stays : (plan : PlanShape) (party : ℕ) (lines : List TextLine) (text : List ℕ) (journal later : List Sent)
    → IsOthers party journal later → IsServed plan party lines text journal
    → IsServed plan party lines text (journal ++ later)
served_stays plan party lines text journal later grew served = record {
  answers = served.answers;
  answered = answers_stay plan party journal later grew.few at_first
      (questions plan lines) served.answers served.answered;
  nothing_more =
      none_stays party (after_all at_first served.answers).own journal later grew.others served.nothing_more;
  spelled = served.spelled
      ∙ text_stays plan party journal later at_first (questions plan lines) served.answers served.answered;
}

-- and of the beginning of a transcript
pub part_stays : (plan : PlanShape) (party : ℕ) (lines : List TextLine) (text : List ℕ) (journal later : List Sent)
    → IsOthers party journal later → IsPartlyServed plan party lines text journal
    → IsPartlyServed plan party lines text (journal ++ later)
part_stays plan party lines text journal later grew part = record {
  first = part.first;
  begins_lines = part.begins_lines;
  whole = part.whole;
  served = served_stays plan party part.first part.whole journal later grew part.served;
  begins_text = part.begins_text;
}
