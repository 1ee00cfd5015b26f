-- The works with which a round opens: of an inner item the sum of its children without a job, as they are shown.
use Rattle.std.specs.Prelude.{◌≡◌, ℕ, ◌<◌, ◌≤◌, Bool, IsTrue, not, ◌&&◌, List, All, map, length}
use Rattle.std.specs.Prelude.{slice_get, slice_index_or, Option, Some, None}
use Rattle.std.specs.declared.alloc.Global.{Global}
use Rattle.std.specs.declared.sync.Arc.{Arc}
use Rattle.series_tables.specs.Cells.{Rows, cell}
use Rattle.series_tables.specs.Fits.{FitsPlan}
use Rattle.series_tables.specs.LastValue.{last_value}
use Rattle.series_tables.specs.Plan.{PlanShape, is_parent}
use Rattle.series_tables.specs.declared.input.Input.{Input}
use Rattle.series_tables.specs.declared.input.Kind.{Kind}
use Rattle.node_compile.specs.declared.table.NodeTable.{NodeTable}
use Rattle.dirty_plan.specs.Round.{is_job, state_of}
use Rattle.dirty_plan.specs.declared.job.JobState.{JobState}
use Rattle.dirty_plan.specs.declared.job.JobState.TheVariants.{Clean, Waiting}
use Rattle.round_works.specs.Making.{IsPartWork, work_at}
use Rattle.round_works.specs.Tables.{shared_table}
use Rattle.round_works.specs.Works.{table_after}
use Rattle.round_works.specs.declared.work.Work.{Work}

-- what is shown for the items without a job is what they have after these inputs, and every job waits
pub record ShowsOthers (plan : PlanShape) (inputs : List Input) (jobs : List JobState)
    (shown : List (Arc NodeTable Global)) : Type 0 where
  pub fits : All (FitsPlan plan) inputs
  pub items : length jobs ≡ length plan.parents
  pub waiting : (item : ℕ) → IsTrue (is_job (state_of jobs item)) → state_of jobs item ≡ Waiting
  pub others : (item : ℕ) → item < length plan.names → state_of jobs item ≡ Clean →
      slice_get (map shared_table shown) item ≡ Some (table_after plan inputs item)

-- and tables have the last values of these inputs
pub record IsBeginning (plan : PlanShape) (inputs : List Input) (rows : Rows) (jobs : List JobState)
    (shown : List (Arc NodeTable Global)) : Type 0 where
  pub values : (kind : Kind) (leaf period : ℕ) → cell rows kind leaf period ≡ last_value inputs kind leaf period
  pub shows : ShowsOthers plan inputs jobs shown

-- there are inputs of which it is so
abbrev pub CanShow : PlanShape → List JobState → List (Arc NodeTable Global) → Type 0
CanShow plan jobs shown = (inputs : List Input) × ShowsOthers plan inputs jobs shown

abbrev pub CanBegin : PlanShape → Rows → List JobState → List (Arc NodeTable Global) → Type 0
CanBegin plan rows jobs shown = (inputs : List Input) × IsBeginning plan inputs rows jobs shown

-- whether an item is a child of another and has no job
abbrev pub is_other_child : PlanShape → List JobState → ℕ → ℕ → Bool
is_other_child plan jobs item child =
    is_parent item (slice_index_or plan.parents child None) && not (is_job (state_of jobs child))

-- an item with a job has a work
abbrev pub IsFirstWork : PlanShape → List Input → List JobState → ℕ → Option Work → Type 0
IsFirstWork plan inputs jobs item work = state_of jobs item ≡ Waiting → IsPartWork plan inputs jobs item work

-- and so have all
abbrev pub AreFirstWorks : PlanShape → List Input → List JobState → List (Option Work) → Type 0
AreFirstWorks plan inputs jobs works = (item : ℕ) → IsFirstWork plan inputs jobs item (work_at works item)

-- there is one for each item of a plan, of which there are at most 512
pub record IsOnePerItem (plan : PlanShape) (count : ℕ) : Type 0 where
  pub names : count ≡ length plan.names
  pub parents : count ≡ length plan.parents
  pub few : count ≤ 512
