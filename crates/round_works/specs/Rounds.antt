-- A round over some inputs as its callers see it: its front and where its jobs stand, what opens it, and what a call
-- does to it. It is this product's own.
use Rattle.std.specs.Prelude.{◌≡◌, ℕ, ◌<◌, Bool, IsTrue, IsFalse, List, All, map, length}
use Rattle.std.specs.Prelude.{slice_get, slice_set, Option, Some, None}
use Rattle.std.specs.declared.alloc.Global.{Global}
use Rattle.std.specs.declared.sync.Arc.{Arc}
use Rattle.series_tables.specs.Cells.{Rows, cell}
use Rattle.series_tables.specs.Fits.{FitsPlan}
use Rattle.series_tables.specs.LastValue.{last_value}
use Rattle.series_tables.specs.Plan.{PlanShape}
use Rattle.series_tables.specs.declared.input.Input.{Input}
use Rattle.series_tables.specs.declared.input.Kind.{Kind}
use Rattle.node_compile.specs.Release.{compilation}
use Rattle.node_compile.specs.declared.table.NodeTable.{NodeTable}
use Rattle.dirty_plan.specs.Round.{is_ready, opened_jobs, state_of}
use Rattle.dirty_plan.specs.Touched.{is_touched}
use Rattle.dirty_plan.specs.declared.job.JobState.{JobState}
use Rattle.dirty_plan.specs.declared.job.JobState.TheVariants.{Out}
use Rattle.round_works.specs.Jobs.{ItemJob, job_in, job_after}
use Rattle.round_works.specs.Making.{AreParts}
use Rattle.round_works.specs.Tables.{shared_table}
use Rattle.round_works.specs.declared.round.OpenRound.{OpenRound}
use Rattle.round_works.specs.declared.work.Job.{Job}

-- up to which input a round goes, and where the job of each item stands
pub record Round : Type 0 where
  pub front : ℕ
  pub jobs : List JobState

abbrev pub round_in : OpenRound → Round
round_in round = record { front = round.front; jobs = round.jobs.jobs }

-- the round that opens at a front: a job for each touched item, all waiting
abbrev pub opened : PlanShape → ℕ → (ℕ → Bool) → Round
opened plan front is_named = record { front = front; jobs = opened_jobs plan is_named }

-- the round with the job of an item elsewhere
abbrev pub with_job : Round → ℕ → JobState → Round
with_job round item state = record { front = round.front; jobs = slice_set round.jobs item state }

-- a round is that of a plan over these inputs: each of its jobs is made from what the item has after them
abbrev pub IsRoundOver : PlanShape → List Input → OpenRound → Type 0
IsRoundOver plan inputs round = AreParts plan inputs round.front round.jobs round.kept.items round.ready.items

-- what a round over these inputs opens with: their number, tables with their last values, which leaves are named since
-- the shown tables, and for each item that isn't touched since then the table that it has after them
pub record IsOpening (plan : PlanShape) (inputs : List Input) (front : ℕ) (rows : Rows) (is_named : ℕ → Bool)
    (shown : List (Arc NodeTable Global)) : Type 0 where
  pub whole : front ≡ length inputs
  pub fits : All (FitsPlan plan) inputs
  pub values : (kind : Kind) (leaf period : ℕ) → cell rows kind leaf period ≡ last_value inputs kind leaf period
  pub clean : (item : ℕ) → item < length plan.names → IsFalse (is_touched plan is_named item) →
      slice_get (map shared_table shown) item ≡ slice_get (compilation plan inputs) item

-- there are inputs with which it opens
abbrev pub CanOpen : PlanShape → ℕ → Rows → (ℕ → Bool) → List (Arc NodeTable Global) → Type 0
CanOpen plan front rows is_named shown = (inputs : List Input) × IsOpening plan inputs front rows is_named shown

-- a job is out in a round over these inputs
abbrev pub IsOut : PlanShape → List Input → Round → ItemJob → Type 0
IsOut plan inputs round job = (state_of round.jobs job.item ≡ Out) × (job ≡ job_after plan inputs job.item)

-- a job is out in a round that is a plan's over some inputs
abbrev pub IsOutIn : PlanShape → OpenRound → ItemJob → Type 0
IsOutIn plan round job =
    (inputs : List Input) × (IsRoundOver plan inputs round × IsOut plan inputs (round_in round) job)

-- no job is ready, and nothing changed; or a job that is ready is handed out, and is out from then on
abbrev pub HandsOut : PlanShape → List Input → Round → Option Job → Round → Type 0
HandsOut plan inputs old None new =
    ((item : ℕ) → item < length old.jobs → IsFalse (is_ready plan.parents old.jobs item)) × (new ≡ old)
HandsOut plan inputs old (Some job) new =
    IsTrue (is_ready plan.parents old.jobs job.node) × (job_in job ≡ job_after plan inputs job.node)
    × (new ≡ with_job old job.node Out)

-- a copy of an item's job that is out, or none where it isn't
abbrev pub IsCopyOut : PlanShape → List Input → Round → ℕ → Option Job → Type 0
IsCopyOut plan inputs round item None = ¬ (state_of round.jobs item ≡ Out)
IsCopyOut plan inputs round item (Some job) =
    (state_of round.jobs item ≡ Out) × (job_in job ≡ job_after plan inputs item)
