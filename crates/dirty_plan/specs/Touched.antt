-- What new inputs touch: the leaves that they name, and every item above one of these. It is this product's own.
use Rattle.std.specs.Prelude.{ℕ, ◌==◌, Bool, IsTrue, List, length, take, drop, count_by}
use Rattle.std.specs.List.{list_any, range_with_len}
use Rattle.series_tables.specs.Plan.{PlanShape, is_leaf}
use Rattle.series_tables.specs.Tree.{leaves_under}
use Rattle.series_tables.specs.declared.input.Input.{Input}

-- an item is touched where a leaf under it is named; the one leaf under a leaf is the leaf itself
abbrev pub is_touched : PlanShape → (ℕ → Bool) → ℕ → Bool
is_touched plan is_named item = list_any is_named (leaves_under plan item)

-- only leaves are named
abbrev pub NamesLeaves : PlanShape → (ℕ → Bool) → Type 0
NamesLeaves plan is_named = (item : ℕ) → IsTrue (is_named item) → IsTrue (is_leaf plan item)

-- the items of a plan, and how many of them are touched
abbrev pub items_of : PlanShape → List ℕ
items_of plan = range_with_len 0 (length plan.parents)

abbrev pub touched_count : PlanShape → (ℕ → Bool) → ℕ
touched_count plan is_named = count_by (is_touched plan is_named) (items_of plan)

-- whether some of these inputs name a leaf
abbrev pub names_leaf : List Input → ℕ → Bool
names_leaf inputs leaf = list_any (λ input. input.leaf == leaf) inputs

-- the inputs from one front to a later one: those behind the first so many, up to the later number
abbrev pub inputs_between : List Input → ℕ → ℕ → List Input
inputs_between inputs front later = drop front (take later inputs)

-- whether the inputs from one front to a later one touch an item
abbrev pub is_touched_between : PlanShape → List Input → ℕ → ℕ → ℕ → Bool
is_touched_between plan inputs front later item = is_touched plan (names_leaf (inputs_between inputs front later)) item
