-- Which inputs tables have room for, and which fit a plan.
use Rattle.std.specs.Prelude.{ℕ, ◌<◌, ◌≤ℤ◌, IsTrue, length}
use Rattle.series_tables.specs.declared.input.Input.{Input}
use Rattle.series_tables.specs.LastValue.{periods_of, least_of, most_of}
use Rattle.series_tables.specs.Plan.{PlanShape, is_leaf}

-- tables of so many items have room for an input: it names one of the items, a period of the plan's years, and a value
-- in its kind's range
pub record HasRoom (items : ℕ) (input : Input) : Type 0 where
  pub item : input.leaf < items
  pub period : input.period < periods_of input.kind
  pub least : least_of input.kind ≤ℤ input.value
  pub most : input.value ≤ℤ most_of input.kind

-- an input fits a plan: there is room for it in tables of the plan's items, and its item is a leaf
pub record FitsPlan (plan : PlanShape) (input : Input) : Type 0 where
  pub room : HasRoom (length plan.names) input
  pub leaf : IsTrue (is_leaf plan input.leaf)
