-- What a round keeps beside the states of its jobs: two copies of each touched item's work, one to hand out and one to
-- compare with what comes back. A sum is in the making while a child of its item has an unfinished job.
use Rattle.std.specs.Prelude.{◌≡◌, ℕ, suc, ◌-◌, ◌≤◌, not, ◌&&◌, IsTrue, IsFalse, if◌then◌else◌, List, [], ◌∷◌, All}
use Rattle.std.specs.Prelude.{map, drop, length, slice_index_or, Option, Some, None}
use Rattle.std.specs.List.{list_any, range_with_len}
use Rattle.aggregate_tree.specs.Sum.{Sum}
use Rattle.aggregate_tree.specs.Tallies.{IsSumOf}
use Rattle.price_base.specs.declared.Cell.{Cell}
use Rattle.series_tables.specs.Fits.{FitsPlan}
use Rattle.series_tables.specs.Plan.{PlanShape, is_leaf, is_parent}
use Rattle.series_tables.specs.declared.input.Input.{Input}
use Rattle.dirty_plan.specs.Round.{RoundShape, has_unfinished_child, is_unfinished, state_of}
use Rattle.dirty_plan.specs.declared.job.JobState.{JobState}
use Rattle.dirty_plan.specs.declared.job.JobState.TheVariants.{Waiting, Out}
use Rattle.round_works.specs.Works.{table_after, work_after, work_in}
use Rattle.round_works.specs.declared.work.Work.{Work}
use Rattle.round_works.specs.declared.work.Work.TheVariants.{Leaf, Inner}

-- the work that is kept for an item, or none
abbrev pub work_at : List (Option Work) → ℕ → Option Work
work_at works item = slice_index_or works item None

-- of what each of some items has, whose parents and states these are, that of the children of one item that have no
-- unfinished job
abbrev pub settled : {X : Type 0} → ℕ → List (Option ℕ) → List JobState → List X → List X
settled item [] jobs xs = []
settled item (parent ∷ parents) [] xs = []
settled item (parent ∷ parents) (job ∷ jobs) [] = []
settled item (parent ∷ parents) (job ∷ jobs) (x ∷ xs) =
    if is_parent item parent && not (is_unfinished job) then x ∷ settled item parents jobs xs
    else settled item parents jobs xs

-- the same of the children that stand from one item on, of what is made of each
abbrev pub settled_from : {X : Type 0} → PlanShape → List JobState → (ℕ → X) → ℕ → ℕ → List X
settled_from plan jobs f item first =
    settled item (drop first plan.parents) (drop first jobs)
    (map f (range_with_len first (length plan.parents - first)))

-- the cells of values, and of volumes, that an item has after these inputs
abbrev pub values_after : PlanShape → List Input → ℕ → List Cell
values_after plan inputs item = (table_after plan inputs item).value

abbrev pub volumes_after : PlanShape → List Input → ℕ → List Cell
volumes_after plan inputs item = (table_after plan inputs item).prev

-- a sum is that of an item's settled children from one item on, each with its table after these inputs
pub record IsSumFrom (plan : PlanShape) (inputs : List Input) (jobs : List JobState) (item first : ℕ)
    (sum : Sum) : Type 0 where
  pub room : length sum.value ≡ 256
  pub room_prev : length sum.prev ≡ 256
  pub count : sum.children ≡ length (settled_from plan jobs (values_after plan inputs) item first)
  pub value : IsSumOf (settled_from plan jobs (values_after plan inputs) item first) sum.value
  pub prev : IsSumOf (settled_from plan jobs (volumes_after plan inputs) item first) sum.prev

-- an item is no leaf: an item behind it has it as its parent
abbrev pub IsInner : PlanShape → ℕ → Type 0
IsInner plan item =
    IsFalse (is_leaf plan item) × IsTrue (list_any (is_parent item) (drop (suc item) plan.parents))

-- a work of an item is that after these inputs, as far as the item's children have no unfinished job
abbrev pub IsPartWork : PlanShape → List Input → List JobState → ℕ → Option Work → Type 0
IsPartWork plan inputs jobs item None = ⊥
IsPartWork plan inputs jobs item (Some (Leaf input)) = work_in (Leaf input) ≡ work_after plan inputs item
IsPartWork plan inputs jobs item (Some (Inner sum)) =
    IsInner plan item × IsSumFrom plan inputs jobs item (suc item) sum

-- a work of an item is whole: it is that after these inputs
abbrev pub IsWholeWork : PlanShape → List Input → ℕ → Option Work → Type 0
IsWholeWork plan inputs item None = ⊥
IsWholeWork plan inputs item (Some work) = work_in work ≡ work_after plan inputs item

-- both copies of an item's work pass
abbrev pub BothPass : (Option Work → Type 0) → List (Option Work) → List (Option Work) → ℕ → Type 0
BothPass P kept ready item = P (work_at kept item) × P (work_at ready item)

-- the two copies of the works of a round over these inputs
pub record AreWorks (plan : PlanShape) (inputs : List Input) (jobs : List JobState)
    (kept ready : List (Option Work)) : Type 0 where
  -- an item waits while a child has an unfinished job, and its works are in the making
  pub waits : (item : ℕ) → IsTrue (has_unfinished_child plan.parents jobs item) → state_of jobs item ≡ Waiting
  pub in_making : (item : ℕ) → IsTrue (has_unfinished_child plan.parents jobs item) →
      BothPass (IsPartWork plan inputs jobs item) kept ready item
  -- from then on they are whole, the one to hand out until it is out
  pub waiting : (item : ℕ) → state_of jobs item ≡ Waiting → IsFalse (has_unfinished_child plan.parents jobs item) →
      BothPass (IsWholeWork plan inputs item) kept ready item
  pub out : (item : ℕ) → state_of jobs item ≡ Out → IsWholeWork plan inputs item (work_at kept item)

-- the parts of a round of a plan over these inputs
pub record AreParts (plan : PlanShape) (inputs : List Input) (front : ℕ) (round : RoundShape)
    (kept ready : List (Option Work)) : Type 0 where
  pub whole : front ≡ length inputs
  pub fits : All (FitsPlan plan) inputs
  pub few : length plan.parents ≤ 512
  pub named : length plan.parents ≡ length plan.names
  pub parents : round.parents ≡ plan.parents
  pub items : length round.jobs ≡ length plan.parents
  pub works : AreWorks plan inputs round.jobs kept ready
