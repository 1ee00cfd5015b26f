-- A round's jobs, one for each touched item. A job can be taken once no child of its item has an unfinished job. It is
-- this product's own.
use Rattle.std.specs.Prelude.{ℕ, suc, ◌<◌, Bool, true, false, not, ◌&&◌, if◌then◌else◌, IsTrue, IsFalse, List}
use Rattle.std.specs.Prelude.{map, drop, slice_index_or, slice_set, count_by, Option, Some, None}
use Rattle.std.specs.List.{list_any}
use Rattle.series_tables.specs.Plan.{PlanShape}
use Rattle.series_tables.specs.Tree.{of_children}
use Rattle.dirty_plan.specs.Touched.{is_touched, items_of}
use Rattle.dirty_plan.specs.declared.job.JobState.{JobState}
use Rattle.dirty_plan.specs.declared.job.JobState.TheVariants.{Clean, Waiting, Out, Done}

-- the parents of a plan's items, and for each item where its job stands
pub record RoundShape : Type 0 where
  pub parents : List (Option ℕ)
  pub jobs : List JobState

-- where the job of a number stands; a number that is no item's has none
abbrev pub state_of : List JobState → ℕ → JobState
state_of jobs item = slice_index_or jobs item Clean

-- whether an item has a job
abbrev pub is_job : JobState → Bool
is_job Clean = false
is_job Waiting = true
is_job Out = true
is_job Done = true

-- whether an item's job waits
abbrev pub is_waiting : JobState → Bool
is_waiting Clean = false
is_waiting Waiting = true
is_waiting Out = false
is_waiting Done = false

-- whether an item has a job that isn't done
abbrev pub is_unfinished : JobState → Bool
is_unfinished Clean = false
is_unfinished Waiting = true
is_unfinished Out = true
is_unfinished Done = false

-- the same of an item among all
abbrev pub is_left : List JobState → ℕ → Bool
is_left jobs item = is_unfinished (state_of jobs item)

-- how many jobs there are
abbrev pub job_count : List JobState → ℕ
job_count jobs = count_by is_job jobs

-- of what each item has, that of the children of one item, which all stand behind it
abbrev pub children_of : {X : Type 0} → List (Option ℕ) → ℕ → List X → List X
children_of parents item xs = of_children item (drop (suc item) parents) (drop (suc item) xs)

-- whether some child of an item has an unfinished job
abbrev pub has_unfinished_child : List (Option ℕ) → List JobState → ℕ → Bool
has_unfinished_child parents jobs item = list_any is_unfinished (children_of parents item jobs)

-- whether an item's job waits and no child of the item has an unfinished job
abbrev pub is_ready : List (Option ℕ) → List JobState → ℕ → Bool
is_ready parents jobs item = is_waiting (state_of jobs item) && not (has_unfinished_child parents jobs item)

-- whether some child of an item is touched
abbrev pub has_touched_child : PlanShape → (ℕ → Bool) → ℕ → Bool
has_touched_child plan is_named item =
    list_any (is_touched plan is_named) (children_of plan.parents item (items_of plan))

-- the round where the job of an item stands elsewhere
abbrev pub with_state : RoundShape → ℕ → JobState → RoundShape
with_state round item state = record { parents = round.parents; jobs = slice_set round.jobs item state }

-- the jobs of a round that begins: one for each touched item, all waiting
abbrev pub first_state : Bool → JobState
first_state touched = if touched then Waiting else Clean

unfoldable pub opened_jobs : PlanShape → (ℕ → Bool) → List JobState
opened_jobs plan is_named = map (λ item. first_state (is_touched plan is_named item)) (items_of plan)

-- the round that begins, with these jobs
abbrev pub opened_round : PlanShape → (ℕ → Bool) → RoundShape
opened_round plan is_named = record { parents = plan.parents; jobs = opened_jobs plan is_named }

-- whether the item of a number has its flag set
abbrev pub has_flag : List Bool → ℕ → Bool
has_flag flags item = slice_index_or flags item false

-- the jobs once a parent, where there is one, is known to have a job
abbrev pub marked : Option ℕ → List JobState → List JobState
marked None jobs = jobs
marked (Some parent) jobs = slice_set jobs parent Waiting

-- an item is the least of so many that passes a test
pub record IsLeastItem (test : ℕ → Bool) (count item : ℕ) : Type 0 where
  pub within : item < count
  pub passes : IsTrue (test item)
  pub least : (before : ℕ) → before < item → IsFalse (test before)

-- the least of so many items that passes a test, or none where none of them does
abbrev pub IsLeast : (ℕ → Bool) → ℕ → Option ℕ → Type 0
IsLeast test count None = (item : ℕ) → item < count → IsFalse (test item)
IsLeast test count (Some item) = IsLeastItem test count item
