-- What `batch` leaves, and why it ended as it did.
use Rattle.std.specs.Prelude.{◌≡◌, ℕ, IsTrue, List, Some, Ok}
use Rattle.qna_edges.specs.Paper.{Paper, grown}
use Rattle.qna_edges.specs.Shelves.{Shelves}
use Rattle.qna_edges.specs.declared.status.Status.{Status}
use Rattle.qna_edges.specs.declared.status.Status.TheVariants.{Done}
use Rattle.series_tables.specs.Plan.{PlanShape, plan_of}
use Rattle.input_rules.specs.Accepted.{accepted}
use Rattle.qna_parts.specs.Intake.{refusals_text}
use Rattle.qna_parts.specs.Command.{IsCommandEnd, CommandsComplete}
use Rattle.qna_laws.specs.Releases.{IsCertified}
use Rattle.compile_workers.specs.Release.{release_of}

-- `batch` with this plan, input and output took the cabinet and the report from the old to the new, and ended with this
-- status: it is the command that makes the release
abbrev pub IsBatchEnd : Shelves → Shelves → Paper → Paper → List ℕ → List ℕ → List ℕ → Status → Type 0
IsBatchEnd = IsCommandEnd release_of

-- where `batch` ends with `Done` and the cabinet tells its bytes, the plan's text spells a plan, the output holds the
-- release of all accepted inputs, compiled from scratch, the report has the line of each refused one, and the release
-- is worth what every release is
abbrev pub BatchesRelease : Type 0
BatchesRelease =
    (old new : Shelves) (before after : Paper) (plan input output : List ℕ) (spelled text : List ℕ)
    → IsBatchEnd old new before after plan input output Done
    → IsTrue old.tells → (old.under plan).file ≡ Some spelled → (old.under input).file ≡ Some text
    → (shape : PlanShape) × (plan_of spelled ≡ Ok shape)
    × ((new.under output).file ≡ Some (release_of shape (accepted shape text)))
    × (after ≡ grown before (refusals_text shape text)) × IsCertified shape text

-- where no count rose, the plan is right and both files are within their limits, every end of `batch` is whole or for
-- want of memory
abbrev pub BatchesComplete : Type 0
BatchesComplete = CommandsComplete release_of
