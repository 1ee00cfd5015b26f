-- What a desk is answered, line by line, over a journal. It is this product's own.
use Rattle.std.specs.Prelude.{◌≡◌, ◌⊎◌, ℕ, ◌+◌, ◌≤◌, ◌<◌, ◌==◌, max, List, [], ◌∷◌, ◌++◌, length, drop, filter}
use Rattle.std.specs.Prelude.{Option, Some, None, Result, Ok, Err}
use Rattle.std.specs.List.{filter_map}
use Rattle.series_tables.specs.Plan.{PlanShape, item_with_name}
use Rattle.series_tables.specs.declared.input.Input.{Input}
use Rattle.line_form.specs.Lines.{TextLine}
use Rattle.input_rules.specs.Judgement.{judgement, leaf_with_name}
use Rattle.input_rules.specs.Lines.{cause_of}
use Rattle.input_rules.specs.Requests.{Asked, input, release, release_of, certificate_of, sync, meaning_of}
use Rattle.input_rules.specs.declared.lines.Cause.{Cause}
use Rattle.input_rules.specs.declared.lines.Cause.TheVariants.{Unknown, Full}
use Rattle.input_rules.specs.declared.judging.Refusal.{Refusal}
use Rattle.accounts_history.specs.History.{Sent, most_ahead, most_inputs}

-- an answer to one line: why it is refused; the number of an accepted input; the front of a release, of an item's block
-- or of a leaf's certificate, with the number of the item; or the published front
pub data Answer : Type 0 where
  refused : Cause → Answer
  accepted : ℕ → Answer
  shown : ℕ → Answer
  item_shown : ℕ → ℕ → Answer
  certificate_shown : ℕ → ℕ → Answer
  synced : ℕ → Answer

-- how far a desk was answered: the number of its last accepted input, and the greatest front that it was shown
pub record Standing : Type 0 where
  pub own : ℕ
  pub front : ℕ

-- before the first line
abbrev pub at_first : Standing
at_first = record { own = 0; front = 0 }

-- the standing after one more front was shown
abbrev pub shown_to : Standing → ℕ → Standing
shown_to at front = record { own = at.own; front = max at.front front }

-- the standing after one more answer
abbrev pub after : Standing → Answer → Standing
after at (refused cause) = at
after at (accepted number) = record { own = number; front = at.front }
after at (shown front) = shown_to at front
after at (item_shown front item) = shown_to at front
after at (certificate_shown front leaf) = shown_to at front
after at (synced front) = shown_to at front

-- the standing after some more answers
abbrev pub after_all : Standing → List Answer → Standing
after_all at [] = at
after_all at (answer ∷ answers) = after_all (after at answer) answers

-- what of a journal a party sent
abbrev pub of_party : ℕ → List Sent → List Sent
of_party party journal = filter (λ sent. sent.party == party) journal

-- nothing that the party sent stands in the journal after the first so many
abbrev pub HasNoneAfter : ℕ → ℕ → List Sent → Type 0
HasNoneAfter party number journal = of_party party (drop number journal) ≡ []

-- the party sent this input, which has this number in the journal; it sent nothing else after the one with its last
-- number
pub record IsNext (party : ℕ) (sent : Input) (own number : ℕ) (journal : List Sent) : Type 0 where
  pub before : List Sent
  pub later : List Sent
  pub stands : journal ≡ before ++ record { party = party; input = sent } ∷ later
  pub counted : number ≡ length before + 1
  pub above : own ≤ length before
  pub none_between : HasNoneAfter party own before

-- a release of this front may be shown: it is no older than one that was shown, it names inputs of the journal, and it
-- isn't far behind the desk's own last one
pub record MayBeShown (at : Standing) (front : ℕ) (journal : List Sent) : Type 0 where
  pub no_older : at.front ≤ front
  pub exists : front ≤ length journal
  pub near : at.own ≤ front + most_ahead

-- all that the desk sent is published up to this front
pub record IsInSync (at : Standing) (front : ℕ) (journal : List Sent) : Type 0 where
  pub no_older : at.front ≤ front
  pub published : at.own ≤ front
  pub exists : front ≤ length journal

-- the answer to an input: why it is refused; or it is accepted, with a number above every one that was named to the
-- desk; or the journal is full, and has nothing more of the desk
abbrev pub AnswersInput : ℕ → List Sent → Standing → Result Input Refusal → Answer → Type 0
AnswersInput party journal at (Err why) answer = answer ≡ refused (cause_of why)
AnswersInput party journal at (Ok sent) answer =
    ((number : ℕ) × (answer ≡ accepted number) × (at.front < number) × IsNext party sent at.own number journal)
    ⊎ ((answer ≡ refused Full) × (length journal ≡ most_inputs) × HasNoneAfter party at.own journal)

-- the answer to a question for a release
abbrev pub AnswersRelease : List Sent → Standing → Answer → Type 0
AnswersRelease journal at answer = (front : ℕ) × (answer ≡ shown front) × MayBeShown at front journal

-- the answer to a question for an item, or a leaf, where there is one of the name
abbrev pub AnswersName : List Sent → Standing → Option ℕ → (ℕ → ℕ → Answer) → Answer → Type 0
AnswersName journal at None block answer = answer ≡ refused Unknown
AnswersName journal at (Some item) block answer =
    (front : ℕ) × (answer ≡ block front item) × MayBeShown at front journal

-- the answer to a question for the published front
abbrev pub AnswersSync : List Sent → Standing → Answer → Type 0
AnswersSync journal at answer = (front : ℕ) × (answer ≡ synced front) × IsInSync at front journal

-- the answer to a line of right form
abbrev pub AnswersAsked : PlanShape → ℕ → List Sent → Standing → Asked → Answer → Type 0
AnswersAsked plan party journal at (input i) =
    AnswersInput party journal at (judgement plan i.kind i.name i.period i.value)
AnswersAsked plan party journal at release = AnswersRelease journal at
AnswersAsked plan party journal at (release_of name) = AnswersName journal at (item_with_name plan name) item_shown
AnswersAsked plan party journal at (certificate_of name) =
    AnswersName journal at (leaf_with_name plan name) certificate_shown
AnswersAsked plan party journal at sync = AnswersSync journal at

-- the answer to a line that isn't passed over
abbrev pub Answers : PlanShape → ℕ → List Sent → Standing → Result Asked Cause → Answer → Type 0
Answers plan party journal at (Err cause) answer = answer ≡ refused cause
Answers plan party journal at (Ok asked) answer = AnswersAsked plan party journal at asked answer

-- an answer to each line, in order
abbrev pub AnswersAll : PlanShape → ℕ → List Sent → Standing → List (Result Asked Cause) → List Answer → Type 0
AnswersAll plan party journal at [] [] = Unit {0}
AnswersAll plan party journal at [] (answer ∷ answers) = ⊥
AnswersAll plan party journal at (question ∷ questions) [] = ⊥
AnswersAll plan party journal at (question ∷ questions) (answer ∷ answers) =
    Answers plan party journal at question answer
    × AnswersAll plan party journal (after at answer) questions answers

-- what a line asks for, or why it is refused; none where it is passed over
abbrev pub question_of : Result (Option Asked) Cause → Option (Result Asked Cause)
question_of (Err cause) = Some (Err cause)
question_of (Ok None) = None
question_of (Ok (Some asked)) = Some (Ok asked)

-- what a line of a plan's desk asks for
abbrev pub question_in : PlanShape → TextLine → Option (Result Asked Cause)
question_in plan line = question_of (meaning_of plan.start line)

-- what lines ask for, but for those that are passed over
unfoldable pub questions : PlanShape → List TextLine → List (Result Asked Cause)
questions plan lines = filter_map (question_in plan) lines
