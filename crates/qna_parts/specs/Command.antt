-- A command that makes a text of a plan's file and an input's, and writes it to an output.
use Rattle.std.specs.Prelude.{◌≡◌, ◌≢◌, ◌≤◌, ◌⊎◌, ℕ, Bool, true, false, List, length, Some, IsTrue, Result}
use Rattle.std.specs.Prelude.{Ok, Err, is_ok}
use Rattle.qna_edges.specs.Count.{Rose}
use Rattle.qna_edges.specs.Paper.{Paper, Writes}
use Rattle.qna_edges.specs.Shelves.{Shelves, IsReadOnce, OnlyRead}
use Rattle.qna_edges.specs.declared.status.Status.{Status}
use Rattle.qna_edges.specs.declared.status.Status.TheVariants.{Done, Memory, PlanFault, OpenFault, ReadFault, TooMuch}
use Rattle.series_tables.specs.Plan.{PlanShape, PlanRefusal, plan_of}
use Rattle.qna_parts.specs.Intake.{most_bytes}
use Rattle.qna_parts.specs.Making.{Making}
use Rattle.qna_parts.specs.StatusLine.{plan_line}
use Rattle.qna_parts.specs.Trace.{trace_of, OnText, IsReadWhole, IsUnfailed, IsNotCreated, IsCreatedOnce, EndsUnread}
use Rattle.qna_parts.specs.CommandEnd.{EndsWithPlan}

-- the most bytes of a plan
abbrev pub plan_limit : ℕ
plan_limit = 1048576

-- P holds of the refusal with which a reading of a plan ended
abbrev pub OnRefused : Result PlanShape PlanRefusal → (PlanRefusal → Type 0) → Type 0
OnRefused (Ok plan) P = ⊥
OnRefused (Err refusal) P = P refusal

-- of two files one was only opened and read, once at most, and one created, once at most; no other was touched, and as
-- many are out
pub record OnlyBetween (old new : Shelves) (input output : List ℕ) : Type 0 where
  pub others : (n : List ℕ) → n ≢ input → n ≢ output → new.under n ≡ old.under n
  pub read : IsReadOnce (old.under input) (new.under input)
  pub written : IsNotCreated (trace_of old new output) ⊎ IsCreatedOnce (trace_of old new output)
  pub tells : new.tells ≡ old.tells
  pub out : new.out ≡ old.out

-- of three files two were only opened and read, once at most, and one created, once at most; no other was touched, and
-- as many are out
pub record OnlyCommand (old new : Shelves) (plan input output : List ℕ) : Type 0 where
  pub others : (n : List ℕ) → n ≢ plan → n ≢ input → n ≢ output → new.under n ≡ old.under n
  pub planned : IsReadOnce (old.under plan) (new.under plan)
  pub read : IsReadOnce (old.under input) (new.under input)
  pub written : IsNotCreated (trace_of old new output) ⊎ IsCreatedOnce (trace_of old new output)
  pub tells : new.tells ≡ old.tells
  pub out : new.out ≡ old.out

-- how a command can end before its plan is known
abbrev pub ends_at_plan : Status → Bool
ends_at_plan Memory = true
ends_at_plan PlanFault = true
ends_at_plan OpenFault = true
ends_at_plan ReadFault = true
ends_at_plan TooMuch = true
ends_at_plan other = false

-- the plan stopped a command: its file wasn't read to its end, or spells no plan, or memory was wanting before; nothing
-- else was touched
pub record StopsAtPlan (old new : Shelves) (before after : Paper) (plan : List ℕ) (status : Status) : Type 0 where
  pub unread : EndsUnread plan_limit (trace_of old new plan) before after status
  pub refused : status ≡ PlanFault → OnText (trace_of old new plan) (λ spelled.
      OnRefused (plan_of spelled) (λ refusal. Writes before after (plan_line refusal)))
  pub read : status ≡ PlanFault → IsReadWhole plan_limit (trace_of old new plan)
  pub memory : status ≡ Memory → (after ≡ before) × IsUnfailed (trace_of old new plan)
  pub ends : ends_at_plan status ≡ true
  pub only : OnlyRead old new plan

-- there is a plan, that which its file spells and which was read to its end, and with it a command ended as it says
pub record GoesPastPlan (made : Making) (old new : Shelves) (before after : Paper) (plan input output : List ℕ)
    (status : Status) : Type 0 where
  pub shape : PlanShape
  pub spelled : OnText (trace_of old new plan) (λ text. plan_of text ≡ Ok shape)
  pub read : IsReadWhole plan_limit (trace_of old new plan)
  pub ends : EndsWithPlan made shape (trace_of old new input) (trace_of old new output) before after status
  pub only : OnlyCommand old new plan input output

-- a command with this plan, input and output took the cabinet and the report from the old to the new, and ended with
-- this status
abbrev pub IsCommandEnd : Making → Shelves → Shelves → Paper → Paper → List ℕ → List ℕ → List ℕ → Status → Type 0
IsCommandEnd made old new before after plan input output status =
    StopsAtPlan old new before after plan status ⊎ GoesPastPlan made old new before after plan input output status

-- no count of the files that the command names rose, nor the report's
pub record NoCountRose (old new : Shelves) (before after : Paper) (plan input output : List ℕ) : Type 0 where
  pub plan_opened : ¬ Rose (old.under plan).opens (new.under plan).opens
  pub input_opened : ¬ Rose (old.under input).opens (new.under input).opens
  pub output_created : ¬ Rose (old.under output).creates (new.under output).creates
  pub plan_read : ¬ Rose (old.under plan).reads (new.under plan).reads
  pub input_read : ¬ Rose (old.under input).reads (new.under input).reads
  pub output_written : ¬ Rose (old.under output).writes (new.under output).writes
  pub reported : ¬ Rose before.faults after.faults

-- where no count rose, the plan is right and both files are within their limits, the end is whole or for want of memory
abbrev pub Completes : Shelves → Shelves → Paper → Paper → List ℕ → List ℕ → List ℕ → Status → Type 0
Completes old new before after plan input output status =
    (spelled text : List ℕ) → IsTrue old.tells
    → (old.under plan).file ≡ Some spelled → (old.under input).file ≡ Some text
    → is_ok (plan_of spelled) ≡ true → length spelled ≤ plan_limit → length text ≤ most_bytes
    → NoCountRose old new before after plan input output
    → (status ≡ Done) ⊎ (status ≡ Memory)

-- every end of such a command does so
abbrev pub CommandsComplete : Making → Type 0
CommandsComplete made =
    (old new : Shelves) (before after : Paper) (plan input output : List ℕ) (status : Status)
    → IsCommandEnd made old new before after plan input output status
    → Completes old new before after plan input output status
