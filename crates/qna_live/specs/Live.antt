-- What `live` leaves, and why it ended as it did.
use Rattle.std.specs.Prelude.{◌≡◌, ◌⊎◌, ℕ, ◌+◌, ◌-◌, ◌≤◌, IsTrue, List, [], ◌∷◌, length, take}
use Rattle.std.specs.Prelude.{IsSome, IsSomeAnd, Ok, Some}
use Rattle.qna_edges.specs.Count.{Rose}
use Rattle.qna_edges.specs.Paper.{BreaksOff, Paper, grown}
use Rattle.qna_edges.specs.Shelves.{IsReadOnce, Shelves}
use Rattle.qna_edges.specs.declared.status.Status.{Status}
use Rattle.qna_edges.specs.declared.status.Status.TheVariants.{Done, Memory, ReadFault, TooMuch, WriteFault}
use Rattle.line_form.specs.Lines.{ended_lines, lines_of}
use Rattle.series_tables.specs.Plan.{PlanShape, plan_of}
use Rattle.accounts_history.specs.History.{IsLawful, Sent, inputs_of, journal}
use Rattle.accounts_history.specs.declared.entry.Entry.{Entry}
use Rattle.release_print.specs.Journal.{journal_text}
use Rattle.qna_parts.specs.Command.{StopsAtPlan, plan_limit}
use Rattle.qna_parts.specs.CommandEnd.{HoldsPart}
use Rattle.qna_parts.specs.Intake.{most_bytes}
use Rattle.qna_parts.specs.Trace.{IsCreatedOnce, IsReadWhole, OnText, Passes, Trace, trace_of}
use Rattle.compile_workers.specs.DeskEnd.{Ends}
use Rattle.compile_workers.specs.Parties.{AreOfDesks, AreServed}
use Rattle.compile_workers.specs.Release.{release_of}
use Rattle.compile_workers.specs.Served.{IsPartlyServed, IsServed}
use Rattle.compile_workers.specs.declared.desk.DeskEnd.{DeskEnd}
use Rattle.compile_workers.specs.declared.desk.DeskEnd.TheVariants.{Ended, Memory as Wanting}
use Rattle.compile_workers.specs.declared.desk.DeskEnd.TheVariants.{ReadFault as Unread, TooMuch as TooLong}
use Rattle.compile_workers.specs.declared.desk.DeskEnd.TheVariants.{WriteFault as Unwritten}
use Rattle.command_words.specs.LiveWords.{LiveForm, live_form}
use Rattle.command_words.specs.Views.{names_in}
use Rattle.qna_live.specs.Opening.{DeskTraces, EndsUnserved, IsNoneOf, traces_of}

-- where the cabinet tells it, something stands under a name now, of which P holds
abbrev pub Holds : Trace → (List ℕ → Type 0) → Type 0
Holds file P = IsTrue file.tells → IsSomeAnd file.new.file P

-- ---- one desk

-- a file was opened once, and only read
abbrev pub IsOpenedOnce : Trace → Type 0
IsOpenedOnce file =
    file.new ≡ record file.old { reads = file.new.reads; sources = file.old.sources + 1; rest = file.new.rest }

-- a desk was served from its input's file into its output's, over a journal, and this was its end
pub record IsDeskServed (plan : PlanShape) (party : ℕ) (desk : DeskTraces) (end : DeskEnd) (sent : List Sent)
    : Type 0 where
  -- at its end the whole input was read, and its whole transcript stands in the output
  pub whole : end ≡ Ended → OnText desk.input (λ text. Holds desk.output (λ answers.
      IsServed plan party (lines_of text) answers sent))
  pub taken : end ≡ Ended → IsReadWhole most_bytes desk.input
  -- whatever its end, the beginning of a transcript of its first lines stands there
  pub part : OnText desk.input (λ text. Holds desk.output (λ answers.
      IsPartlyServed plan party (lines_of text) answers sent))
  -- where a read failed, the whole transcript of the lines that line feeds ended until then
  pub read : end ≡ Unread → OnText desk.input (λ text. Holds desk.output (λ answers.
      IsServed plan party (ended_lines (take (length text - desk.input.new.rest) text)) answers sent))
  -- past the limit, that of the lines that line feeds end within the limit
  pub passed : end ≡ TooLong → OnText desk.input (λ text.
      Passes most_bytes 65536 (length text) desk.input.new.rest)
  pub passed_whole : end ≡ TooLong → OnText desk.input (λ text. Holds desk.output (λ answers.
      IsServed plan party (ended_lines (take most_bytes text)) answers sent))
  -- at no other end is it passed
  pub within : ¬ (end ≡ TooLong) → OnText desk.input (λ text. length text ≤ most_bytes + desk.input.new.rest)
  -- only a file of the desk's own is blamed, and the first failure of one ends the desk
  pub read_failed : end ≡ Unread → Rose desk.input.old.reads desk.input.new.reads
  pub write_failed : end ≡ Unwritten → Rose desk.output.old.writes desk.output.new.writes
  pub read_stands : ¬ (end ≡ Unread) → desk.input.new.reads ≡ desk.input.old.reads
  pub write_stands : ¬ (end ≡ Unwritten) → desk.output.new.writes ≡ desk.output.old.writes
  -- the input stood there and was only read, and the output was created
  pub stood : IsTrue desk.input.tells → IsSome desk.input.old.file
  pub opened : IsOpenedOnce desk.input
  pub created : IsCreatedOnce desk.output

-- the desks from one on were served, and ended so
abbrev pub AreDesksServed : PlanShape → List Sent → ℕ → List DeskTraces → List DeskEnd → Type 0
AreDesksServed plan sent party [] [] = Unit {0}
AreDesksServed plan sent party (desk ∷ desks) (end ∷ ends) =
    IsDeskServed plan party desk end sent × AreDesksServed plan sent (party + 1) desks ends
AreDesksServed plan sent party [] (end ∷ ends) = ⊥
AreDesksServed plan sent party (desk ∷ desks) [] = ⊥

-- ---- the status

-- the status of a desk's end
abbrev pub status_of_end : DeskEnd → Status
status_of_end Ended = Done
status_of_end Unread = ReadFault
status_of_end Unwritten = WriteFault
status_of_end TooLong = TooMuch
status_of_end Wanting = Memory

-- the first of two statuses that isn't `Done`
abbrev pub first_fault : Status → Status → Status
first_fault Done second = second
first_fault first second = first

-- the status of the first desk that didn't end well
abbrev pub status_of_ends : List DeskEnd → Status
status_of_ends [] = Done
status_of_ends (end ∷ ends) = first_fault (status_of_end end) (status_of_ends ends)

-- the status of a whole run: that of the desks, of the memory that all share, of the journal, and of the report
abbrev pub status_of_run : List DeskEnd → Status → Status → Status → Status
status_of_run ends shared written reported =
    first_fault (status_of_ends ends) (first_fault shared (first_fault written reported))

-- ---- the journal and the report

-- the journal's file holds the journal's text; or a write was refused, and it holds a beginning of it, but not all; or
-- memory was wanting, and it holds nothing or such a beginning
pub record IsJournalKept (text : List ℕ) (file : Trace) (written : Status) : Type 0 where
  pub whole : written ≡ Done → IsTrue file.tells → file.new.file ≡ Some text
  pub cut : written ≡ WriteFault → IsTrue file.tells → HoldsPart file.new.file text
  pub wanting : written ≡ Memory → IsTrue file.tells → (file.new.file ≡ Some []) ⊎ HoldsPart file.new.file text
  pub failed : written ≡ WriteFault → Rose file.old.writes file.new.writes
  pub stands : (written ≡ Done) ⊎ (written ≡ Memory) → file.new.writes ≡ file.old.writes
  pub ends : (written ≡ Done) ⊎ ((written ≡ WriteFault) ⊎ (written ≡ Memory))
  pub created : IsCreatedOnce file

-- a text was to be written: all of it was; or a write was refused, and a beginning of it was, but not all; or memory
-- was wanting, and nothing of it or such a beginning was
pub record IsTextWritten (text : List ℕ) (old new : Paper) (status : Status) : Type 0 where
  pub whole : status ≡ Done → new ≡ grown old text
  pub cut : status ≡ WriteFault → BreaksOff old new text
  pub wanting : status ≡ Memory → (new ≡ old) ⊎ BreaksOff old new text
  pub failed : status ≡ WriteFault → Rose old.faults new.faults
  pub stands : (status ≡ Done) ⊎ (status ≡ Memory) → new.faults ≡ old.faults
  pub ends : (status ≡ Done) ⊎ ((status ≡ WriteFault) ⊎ (status ≡ Memory))

-- the release of all inputs of a history
abbrev pub whole_release : PlanShape → List Entry → List ℕ
whole_release plan history = release_of plan (inputs_of history)

-- ---- ends

-- with this plan `live` served its desks: there is one history, lawful under the plan, whose inputs are of the desks;
-- over its journal each desk was served; it stands in the journal's file, and the release of it in the report; and the
-- status is the first of those that isn't `Done`
pub record EndsServed (plan : PlanShape) (desks : List DeskTraces) (kept : Trace) (before after : Paper)
    (status : Status) : Type 0 where
  pub history : List Entry
  pub lawful : IsLawful plan history
  pub senders : AreOfDesks (length desks) (journal history)
  pub ended : List DeskEnd
  pub served : AreDesksServed plan (journal history) 1 desks ended
  pub shared : Status
  pub shared_is : (shared ≡ Done) ⊎ (shared ≡ Memory)
  pub written : Status
  pub journaled : IsJournalKept (journal_text plan history) kept written
  pub reported : Status
  pub told : IsTextWritten (whole_release plan history) before after reported
  pub status_is : status ≡ status_of_run ended shared written reported

-- no file but those that the words name was touched, the plan's was only read, and as many are out
pub record OnlyLive (old new : Shelves) (form : LiveForm) : Type 0 where
  pub others : (name : List ℕ) → IsNoneOf name (names_in form) → new.under name ≡ old.under name
  pub planned : IsReadOnce (old.under form.plan) (new.under form.plan)
  pub tells : new.tells ≡ old.tells
  pub out : new.out ≡ old.out

-- with this plan, `live` ended so
abbrev pub EndsWith : PlanShape → Shelves → Shelves → Paper → Paper → LiveForm → Status → Type 0
EndsWith plan old new before after form status =
    EndsUnserved (traces_of old new form.desks) (trace_of old new form.journal) before after status
    ⊎ EndsServed plan (traces_of old new form.desks) (trace_of old new form.journal) before after status

-- there is a plan, that which its file spells, and with it `live` ended as it says
pub record GoesLive (old new : Shelves) (before after : Paper) (form : LiveForm) (status : Status) : Type 0 where
  pub shape : PlanShape
  pub spelled : OnText (trace_of old new form.plan) (λ text. plan_of text ≡ Ok shape)
  pub read : IsReadWhole plan_limit (trace_of old new form.plan)
  pub ends : EndsWith shape old new before after form status
  pub only : OnlyLive old new form

-- `live` with these words took the cabinet and the report from the old to the new, and ended with this status
abbrev pub IsLiveEnd : Shelves → Shelves → Paper → Paper → LiveForm → Status → Type 0
IsLiveEnd old new before after form status =
    StopsAtPlan old new before after form.plan status ⊎ GoesLive old new before after form status

-- P holds of the form, where the words are of the command `live`
abbrev pub OnLive : List (List ℕ) → (LiveForm → Type 0) → Type 0
OnLive words P = (form : LiveForm) → live_form words ≡ Some form → P form
