-- How far a desk is served while its lines come. It is this product's own.
use Rattle.std.specs.Prelude.{◌≡◌, ℕ, ◌≤◌, List, ◌++◌, length, Some, Result, Ok, OnOk, IsErrOf}
use Rattle.line_form.specs.Lines.{TextLine, Cutting, IsCutOf, ended_lines, lines_of}
use Rattle.series_tables.specs.Plan.{PlanShape}
use Rattle.input_rules.specs.Requests.{Asked}
use Rattle.input_rules.specs.declared.lines.Cause.{Cause}
use Rattle.qna_edges.specs.Count.{Rose}
use Rattle.qna_edges.specs.Paper.{Paper, WasWritten, grown}
use Rattle.qna_edges.specs.declared.refused.Refused.{Refused}
use Rattle.qna_edges.specs.declared.refused.Refused.TheVariants.{Failed}
use Rattle.accounts_history.specs.History.{Sent, front_of, journal}
use Rattle.accounts_history.specs.declared.entry.Entry.{Entry}
use Rattle.desk_lock.specs.Passes.{IsPassOf, LockName}
use Rattle.office.specs.Holds.{Known}
use Rattle.compile_workers.specs.Served.{IsPartlyServed, IsServed, answers_text, inputs_in}
use Rattle.compile_workers.specs.Transcript.{Answer, Answers, AnswersAll, HasNoneAfter, Standing, refused}
use Rattle.compile_workers.specs.Transcript.{after_all, at_first, question_in, questions}

-- where a desk stands: what its sink has, the number of its last accepted input, and what its pass has seen
pub record Position : Type 0 where
  pub paper : Paper
  pub own : ℕ
  pub seen : List Entry

abbrev pub position : Paper → ℕ → List Entry → Position
position paper own seen = record { paper = paper; own = own; seen = seen }

-- what an answer says of the sink that it was to be written to: its name stands and no count of its faults fell; that
-- count rose where the device is blamed, and else it stands
pub record IsSaid (old new : Paper) (said : Result (Unit {0}) Refused) : Type 0 where
  pub only : WasWritten old new
  pub failed : IsErrOf said Failed → Rose old.faults new.faults
  pub stands : ¬ IsErrOf said Failed → new.faults ≡ old.faults

-- a text was added to a sink; the counts of what was refused may have risen
pub record HasAdded (old new : Paper) (text : List ℕ) : Type 0 where
  pub added : new ≡ record (grown old text) { faults = new.faults; wants = new.wants }
  pub faults : old.faults ≤ new.faults
  pub wants : old.wants ≤ new.wants

-- the text of the answers to these lines over what was seen: the desk's last accepted input has this number, and it was
-- shown no newer front than is published
pub record IsAnswered (plan : PlanShape) (party : ℕ) (lines : List TextLine) (text : List ℕ) (own : ℕ)
    (seen : List Entry) : Type 0 where
  pub answers : List Answer
  pub answered : AnswersAll plan party (journal seen) at_first (questions plan lines) answers
  pub last : (after_all at_first answers).own ≡ own
  pub known : own ≤ length (journal seen)
  pub published : (after_all at_first answers).front ≤ front_of seen
  pub nothing_more : HasNoneAfter party own (journal seen)
  pub spelled : text ≡ answers_text plan (inputs_in (journal seen)) answers

-- the sink has the whole transcript of these lines behind what it had at first
pub record HasServed (plan : PlanShape) (party : ℕ) (lines : List TextLine) (origin : Paper) (at : Position)
    : Type 0 where
  pub text : List ℕ
  pub served : IsAnswered plan party lines text at.own at.seen
  pub written : at.paper ≡ grown origin text

-- the sink has the whole transcript of these lines over a journal behind what it had at first
pub record HasWhole (plan : PlanShape) (party : ℕ) (lines : List TextLine) (origin paper : Paper)
    (sent : List Sent) : Type 0 where
  pub text : List ℕ
  pub served : IsServed plan party lines text sent
  pub written : paper ≡ grown origin text

-- the sink has the beginning of the transcript of the first of these lines over a journal behind what it had at first
pub record HasPart (plan : PlanShape) (party : ℕ) (lines : List TextLine) (origin paper : Paper) (sent : List Sent)
    : Type 0 where
  pub text : List ℕ
  pub served : IsPartlyServed plan party lines text sent
  pub written : HasAdded origin paper text

-- some more lines were answered, whatever came before: all of them at success, and else a part
abbrev pub Serves : PlanShape → ℕ → List TextLine → Position → Position → Result (Unit {0}) Refused → Type 0
Serves plan party more old new said =
    (lines : List TextLine) (origin : Paper) → HasServed plan party lines origin old
    → OnOk said (HasServed plan party (lines ++ more) origin new)
    × HasPart plan party (lines ++ more) origin new.paper (journal new.seen)

-- the line asks for this
abbrev pub Asks : PlanShape → TextLine → Asked → Type 0
Asks plan line asked = question_in plan line ≡ Some (Ok asked)

-- the line is refused for this cause, whatever the journal
abbrev pub IsRefused : PlanShape → TextLine → Cause → Type 0
IsRefused plan line cause =
    (question : Result Asked Cause) × (question_in plan line ≡ Some question)
    × ((party : ℕ) (sent : List Sent) (at : Standing) → Answers plan party sent at question (refused cause))

-- a pass with which a desk can be served: its last accepted input stands in what the pass has seen
pub record IsServing (lock : LockName) (plan : PlanShape) (own : ℕ) (pass : Known) : Type 0 where
  pub pass_of : IsPassOf lock pass
  pub label : pass.label ≡ Some plan
  pub known : own ≤ length (journal pass.seen)

-- the lines that line feeds end in the beginning of a desk's input were answered, and none waits
pub record IsServedUpTo (plan : PlanShape) (party : ℕ) (origin : Paper) (lines : Cutting) (at : Position)
    (stream : List ℕ) : Type 0 where
  pub cut : IsCutOf lines stream (ended_lines stream)
  pub served : HasServed plan party (ended_lines stream) origin at

-- the lines that a piece of an input ends were answered
abbrev pub ServesPiece : PlanShape → ℕ → Cutting → Cutting → Position → Position → List ℕ
    → Result (Unit {0}) Refused → Type 0
ServesPiece plan party before after old new piece said =
    (stream : List ℕ) (origin : Paper) → IsServedUpTo plan party origin before old stream
    → OnOk said (IsServedUpTo plan party origin after new (stream ++ piece))
    × HasPart plan party (ended_lines (stream ++ piece)) origin new.paper (journal new.seen)

-- the last line of an input was answered, which no line feed ends
abbrev pub ServesEnd : PlanShape → ℕ → Cutting → Position → Position → Result (Unit {0}) Refused → Type 0
ServesEnd plan party before old new said =
    (stream : List ℕ) (origin : Paper) → IsServedUpTo plan party origin before old stream
    → OnOk said (HasServed plan party (lines_of stream) origin new)
    × HasPart plan party (lines_of stream) origin new.paper (journal new.seen)
