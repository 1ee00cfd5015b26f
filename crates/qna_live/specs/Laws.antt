-- What the ends of `live` are worth.
use Rattle.std.specs.Prelude.{◌≡◌, ◌⊎◌, ℕ, ◌≤◌, ◌<◌, Bool, true, false, IsTrue, List, [], ◌∷◌, length, Ok, Some, is_ok}
use Rattle.qna_edges.specs.Count.{Rose}
use Rattle.qna_edges.specs.Paper.{Paper, grown}
use Rattle.qna_edges.specs.Shelves.{CreateRose, OnFile, OpenRose, ReadRose, Shelves, WriteRose}
use Rattle.qna_edges.specs.declared.status.Status.{Status}
use Rattle.qna_edges.specs.declared.status.Status.TheVariants.{CheckNo, Done, Memory, OpenFault, PlanFault, ReadFault}
use Rattle.qna_edges.specs.declared.status.Status.TheVariants.{TooMuch, Usage, WriteFault}
use Rattle.series_tables.specs.Plan.{PlanShape, plan_of}
use Rattle.input_rules.specs.Accepted.{accepted}
use Rattle.accounts_history.specs.History.{inputs_of}
use Rattle.qna_parts.specs.Command.{plan_limit}
use Rattle.qna_parts.specs.Intake.{most_bytes}
use Rattle.qna_parts.specs.Trace.{Trace}
use Rattle.compile_workers.specs.Release.{release_of}
use Rattle.compile_workers.specs.declared.desk.DeskEnd.TheVariants.{Ended}
use Rattle.command_words.specs.LiveWords.{DeskFiles, LiveForm}
use Rattle.qna_live.specs.Live.{EndsServed, IsLiveEnd}
use Rattle.qna_live.specs.Opening.{DeskTraces}

-- P holds of one of the desks
abbrev pub IsOfOne : (DeskFiles → Type 0) → List DeskFiles → Type 0
IsOfOne P [] = ⊥
IsOfOne P (desk ∷ desks) = P desk ⊎ IsOfOne P desks

-- P holds of each of the desks
abbrev pub IsOfEach : (DeskFiles → Type 0) → List DeskFiles → Type 0
IsOfEach P [] = Unit {0}
IsOfEach P (desk ∷ desks) = P desk × IsOfEach P desks

-- how `live` can end with words of its form
abbrev pub ends_a_live : Status → Bool
ends_a_live Usage = false
ends_a_live CheckNo = false
ends_a_live other = true

-- the file of a name has more bytes than a limit
abbrev pub IsTooLong : ℕ → Shelves → List ℕ → Type 0
IsTooLong limit old name = OnFile old name (λ text. limit < length text)

-- each end but `Done` and `Memory` has its cause in a file that the words name, or in the report: a fault by the count
-- of that file, and the others by what stands in it
pub record HasCause (old new : Shelves) (before after : Paper) (form : LiveForm) (status : Status) : Type 0 where
  pub ends : ends_a_live status ≡ true
  pub plan_fault : status ≡ PlanFault → OnFile old form.plan (λ spelled. is_ok (plan_of spelled) ≡ false)
  pub open_fault : status ≡ OpenFault → OpenRose old new form.plan ⊎ (CreateRose old new form.journal
      ⊎ IsOfOne (λ desk. OpenRose old new desk.input ⊎ CreateRose old new desk.output) form.desks)
  pub read_fault : status ≡ ReadFault →
      ReadRose old new form.plan ⊎ IsOfOne (λ desk. ReadRose old new desk.input) form.desks
  pub write_fault : status ≡ WriteFault → WriteRose old new form.journal ⊎ (Rose before.faults after.faults
      ⊎ IsOfOne (λ desk. WriteRose old new desk.output) form.desks)
  pub too_much : status ≡ TooMuch →
      IsTooLong plan_limit old form.plan ⊎ IsOfOne (λ desk. IsTooLong most_bytes old desk.input) form.desks

-- every end of `live` has such a cause
abbrev pub LiveHasCauses : Type 0
LiveHasCauses =
    (old new : Shelves) (before after : Paper) (form : LiveForm) (status : Status)
    → IsLiveEnd old new before after form status → HasCause old new before after form status

-- no count of a desk's files rose, and its input is within the limit
pub record IsQuietDesk (old new : Shelves) (desk : DeskFiles) : Type 0 where
  pub opened : ¬ OpenRose old new desk.input
  pub created : ¬ CreateRose old new desk.output
  pub read : ¬ ReadRose old new desk.input
  pub written : ¬ WriteRose old new desk.output
  pub stands : (text : List ℕ) × ((old.under desk.input).file ≡ Some text) × (length text ≤ most_bytes)

-- no count of the files that the words name rose, nor the report's; and each desk's input is within its limit
pub record IsQuiet (old new : Shelves) (before after : Paper) (form : LiveForm) : Type 0 where
  pub plan_opened : ¬ OpenRose old new form.plan
  pub plan_read : ¬ ReadRose old new form.plan
  pub journal_created : ¬ CreateRose old new form.journal
  pub journal_written : ¬ WriteRose old new form.journal
  pub reported : ¬ Rose before.faults after.faults
  pub desks : IsOfEach (IsQuietDesk old new) form.desks

-- where no count rose, the plan is right and all files are within their limits, the end is whole or for want of memory
abbrev pub LiveCompletes : Type 0
LiveCompletes =
    (old new : Shelves) (before after : Paper) (form : LiveForm) (status : Status) (spelled : List ℕ)
    → IsLiveEnd old new before after form status → IsTrue old.tells → (old.under form.plan).file ≡ Some spelled
    → is_ok (plan_of spelled) ≡ true → length spelled ≤ plan_limit → IsQuiet old new before after form
    → (status ≡ Done) ⊎ (status ≡ Memory)

-- where one desk alone was served and ended at its input's end, the inputs of the journal are those that are accepted
-- of its input
abbrev pub DeskSends : Type 0
DeskSends =
    (plan : PlanShape) (desk : DeskTraces) (kept : Trace) (before after : Paper) (status : Status) (text : List ℕ)
    → (served : EndsServed plan (desk ∷ []) kept before after status) → served.ended ≡ Ended ∷ []
    → IsTrue desk.input.tells → IsTrue desk.output.tells → desk.input.old.file ≡ Some text
    → inputs_of served.history ≡ accepted plan text

-- so where `live` with one desk ends with `Done`, the report is the release of all accepted inputs of the desk's input,
-- which is what `batch` writes of it
abbrev pub LiveBatches : Type 0
LiveBatches =
    (old new : Shelves) (before after : Paper) (form : LiveForm) (desk : DeskFiles) (spelled text : List ℕ)
    → IsLiveEnd old new before after form Done → form.desks ≡ desk ∷ []
    → IsTrue old.tells → (old.under form.plan).file ≡ Some spelled → (old.under desk.input).file ≡ Some text
    → (shape : PlanShape) × (plan_of spelled ≡ Ok shape)
    × (after ≡ grown before (release_of shape (accepted shape text)))
