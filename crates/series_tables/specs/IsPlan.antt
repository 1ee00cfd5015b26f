-- What every plan keeps, and the plan of its parts.
use Rattle.std.specs.Prelude.{◌≡◌, ℕ, ◌<◌, ◌≤◌, List, Option, length, map}
use Rattle.series_tables.specs.declared.item.Item.{Item}
use Rattle.series_tables.specs.Items.{AreNames, AreBackward}
use Rattle.series_tables.specs.Plan.{PlanShape}

-- a first year from 1900 to 2200, a reference year of its 64, and at most 512 items: their names are names and differ,
-- and each parent stands before its children
pub record IsPlan (plan : PlanShape) : Type 0 where
  pub first : 1900 ≤ plan.start
  pub last : plan.start ≤ 2200
  pub reference : plan.reference < 64
  pub few : length plan.names ≤ 512
  pub names : AreNames plan.names
  pub parented : length plan.parents ≡ length plan.names
  pub parents : AreBackward plan.parents

-- the names of items, and the numbers of their parents
abbrev pub names_of : List Item → List (List ℕ)
names_of items = map (λ item. item.name.items) items

abbrev pub parents_of : List Item → List (Option ℕ)
parents_of items = map (λ item. item.parent) items

-- the plan of a first year, a reference year counted from it, and items
abbrev pub plan_with : ℕ → ℕ → List Item → PlanShape
plan_with start reference items =
    record { start = start; reference = reference; names = names_of items; parents = parents_of items }
