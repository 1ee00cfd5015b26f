-- The plan of a trial: a tree of so many items over so many years (this product's own).
use Rattle.std.specs.Prelude.{ℕ, ◌+◌, ◌-◌, ◌/◌, ◌%◌, ◌==◌, List, [], ◌∷◌, map, Option, Some, None, if◌then◌else◌}
use Rattle.std.specs.List.{range_with_len}
use Rattle.series_tables.specs.Plan.{PlanShape}

-- the name of an item: `N` and the three digits of its number
abbrev pub trial_name : ℕ → List ℕ
trial_name number = 78 ∷ (48 + number / 100 % 10) ∷ (48 + number / 10 % 10) ∷ (48 + number % 10) ∷ []

-- the number of its parent: the items behind the first one are its children and those of the others, four by four
abbrev pub trial_parent : ℕ → Option ℕ
trial_parent number = if number == 0 then None else Some ((number - 1) / 4)

-- the names and the parents of so many items
abbrev pub trial_names : ℕ → List (List ℕ)
trial_names items = map trial_name (range_with_len 0 items)

abbrev pub trial_parents : ℕ → List (Option ℕ)
trial_parents items = map trial_parent (range_with_len 0 items)

-- the plan: the first year is 2000, and the reference year the middle one of the trial's years, the earlier one where
-- two are
unfoldable pub plan_of_trial : ℕ → ℕ → PlanShape
plan_of_trial items years = record {
  start = 2000;
  reference = (years - 1) / 2;
  names = trial_names items;
  parents = trial_parents items;
}
