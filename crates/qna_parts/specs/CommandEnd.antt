-- How a command ends that makes a text of a plan and an input.
use Rattle.std.specs.Prelude.{◌≡◌, ◌≤◌, ◌<◌, ◌⊎◌, ℕ, ◌+◌, ◌-◌, Bool, true, false, List, length, take, codes}
use Rattle.std.specs.Prelude.{Option, Some}
use Rattle.qna_edges.specs.Count.{Rose}
use Rattle.qna_edges.specs.Paper.{Paper, grown, BreaksOff, Writes}
use Rattle.qna_edges.specs.declared.status.Status.{Status}
use Rattle.qna_edges.specs.declared.status.Status.TheVariants.{Done, Memory, OpenFault, ReadFault, WriteFault, TooMuch}
use Rattle.series_tables.specs.Plan.{PlanShape}
use Rattle.input_rules.specs.Accepted.{accepted}
use Rattle.qna_parts.specs.Intake.{most_bytes, refusals_text, ended_refusals_text}
use Rattle.qna_parts.specs.Making.{Making}
use Rattle.qna_parts.specs.Report.{ReportsFirst, ReportsThen, WritesBoth}
use Rattle.qna_parts.specs.StatusLine.{named_line}
use Rattle.qna_parts.specs.Trace.{Trace, OnText, IsReadWhole, IsUnfailed, IsUnopened, Passes, IsNotCreated}
use Rattle.qna_parts.specs.Trace.{IsCreatedOnce, IsEmptied}

-- a file holds a beginning of a text, but not all of it
unfoldable pub HoldsPart : Option (List ℕ) → List ℕ → Type 0
HoldsPart file text = (k : ℕ) × (k < length text) × (file ≡ Some (take k text))

-- at the end of all, the output holds what is made of the accepted inputs, the report has each refused line, the input
-- was read to its end, and nothing failed
pub record EndsWhole (made : Making) (plan : PlanShape) (input output : Trace) (before after : Paper) : Type 0 where
  pub written : OnText input (λ text. output.new.file ≡ Some (made plan (accepted plan text)))
  pub reported : OnText input (λ text. after ≡ grown before (refusals_text plan text))
  pub read : IsReadWhole most_bytes input
  pub created : IsCreatedOnce output
  pub unfailed : output.new.writes ≡ output.old.writes
  pub unreported : after.faults ≡ before.faults

-- the input can't be opened: its name is reported, nothing was read, and the output is as it was
pub record InputUnopened (input output : Trace) (before after : Paper) : Type 0 where
  pub unopened : IsUnopened input
  pub told : Writes before after (named_line (codes "open") input.name)
  pub untouched : output.new ≡ output.old

-- the output can't be created: its name is reported, and nothing of the input, which was opened before, was read
pub record OutputUncreated (input output : Trace) (before after : Paper) : Type 0 where
  pub rose : Rose output.old.creates output.new.creates
  pub told : Writes before after (named_line (codes "open") output.name)
  pub uncreated : IsNotCreated output
  pub unread : OnText input (λ text. input.new.rest ≡ length text)

-- the input can't be read: the output is empty, and the report has each refused line that a line feed ends among the
-- bytes taken, and then the input's name
pub record InputUnread (plan : PlanShape) (input output : Trace) (before after : Paper) : Type 0 where
  pub rose : Rose input.old.reads input.new.reads
  pub told : OnText input (λ text. ReportsThen before after
      (ended_refusals_text plan (take (length text - input.new.rest) text)) (named_line (codes "read") input.name))
  pub within : OnText input (λ text. length text ≤ most_bytes + input.new.rest)
  pub emptied : IsEmptied output

-- the input has more bytes than its limit, of which no more than a piece was read: the output is empty, and of the
-- report were to be written each refused line that a line feed ends within the limit, and then the input's name
pub record InputTooLong (plan : PlanShape) (input output : Trace) (before after : Paper) : Type 0 where
  pub passed : OnText input (λ text. Passes most_bytes 65536 (length text) input.new.rest)
  pub told : OnText input (λ text. WritesBoth before after
      (ended_refusals_text plan (take most_bytes text)) (named_line (codes "toomuch") input.name))
  pub emptied : IsEmptied output

-- the report can't be written: it is broken off within the refused lines, and the output is empty
pub record ReportUnwritten (plan : PlanShape) (input output : Trace) (before after : Paper) : Type 0 where
  pub rose : Rose before.faults after.faults
  pub told : OnText input (λ text. BreaksOff before after (refusals_text plan text))
  pub within : OnText input (λ text. length text ≤ most_bytes + input.new.rest)
  pub emptied : IsEmptied output

-- the output can't be written: it holds a beginning of what is made of the accepted inputs, but not all, and the report
-- has each refused line, and then the output's name
pub record OutputUnwritten (made : Making) (plan : PlanShape) (input output : Trace) (before after : Paper)
    : Type 0 where
  pub rose : Rose output.old.writes output.new.writes
  pub told : OnText input (λ text.
      ReportsThen before after (refusals_text plan text) (named_line (codes "write") output.name))
  pub held : OnText input (λ text. HoldsPart output.new.file (made plan (accepted plan text)))
  pub read : IsReadWhole most_bytes input
  pub created : IsCreatedOnce output

-- memory is wanting, and nothing failed: the report has the first refused lines, and the output is as it was, or was
-- created once and holds nothing, or a beginning of what is made of the accepted inputs, but not all
pub record WantsMemory (made : Making) (plan : PlanShape) (input output : Trace) (before after : Paper) : Type 0 where
  pub unread : IsUnfailed input
  pub unwritten : IsUnfailed output
  pub unreported : after.faults ≡ before.faults
  pub told : OnText input (λ text. ReportsFirst plan before after text)
  pub held : (output.new ≡ output.old) ⊎ (IsEmptied output
      ⊎ (IsCreatedOnce output × OnText input (λ text. HoldsPart output.new.file (made plan (accepted plan text)))))

-- how a command can end once its input and its output are there
abbrev pub ends_a_transfer : Status → Bool
ends_a_transfer Done = true
ends_a_transfer Memory = true
ends_a_transfer ReadFault = true
ends_a_transfer WriteFault = true
ends_a_transfer TooMuch = true
ends_a_transfer other = false

-- how it can end once its plan is known
abbrev pub ends_with_plan : Status → Bool
ends_with_plan OpenFault = true
ends_with_plan other = ends_a_transfer other

-- with this plan, a command ended so
pub record EndsWithPlan (made : Making) (plan : PlanShape) (input output : Trace) (before after : Paper)
    (status : Status) : Type 0 where
  pub done : status ≡ Done → EndsWhole made plan input output before after
  pub open_fault : status ≡ OpenFault →
      InputUnopened input output before after ⊎ OutputUncreated input output before after
  pub read_fault : status ≡ ReadFault → InputUnread plan input output before after
  pub too_much : status ≡ TooMuch → InputTooLong plan input output before after
  pub write_fault : status ≡ WriteFault →
      ReportUnwritten plan input output before after ⊎ OutputUnwritten made plan input output before after
  pub memory : status ≡ Memory → WantsMemory made plan input output before after
  pub ends : ends_with_plan status ≡ true
