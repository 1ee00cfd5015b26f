-- How large the figures of a compilation can be (the ranges are this product's own).
use Rattle.std.specs.Prelude.{◌≡◌, ℕ, ◌-◌, ◌^◌, ◌<◌, ℤ, ◌≤ℤ◌, true, List, length, unsigned_abs, Option, Some}
use Rattle.std.specs.List.{All}
use Rattle.annual_overlap.specs.Years.{IsSizedCell}
use Rattle.price_base.specs.declared.Cell.{Cell}
use Rattle.series_tables.specs.Fits.{FitsPlan}
use Rattle.series_tables.specs.LastValue.{last_value, least_of, most_of}
use Rattle.series_tables.specs.Plan.{PlanShape, is_leaf}
use Rattle.series_tables.specs.Tree.{leaves_under}
use Rattle.series_tables.specs.declared.input.Input.{Input}
use Rattle.series_tables.specs.declared.input.Kind.{Kind}
use Rattle.node_compile.specs.Items.{IsKnownItem}
use Rattle.node_compile.specs.Release.{item_table}

-- each value that stands at a kind, leaf and period is one that the kind may have
abbrev pub AreInRange : (Kind → ℕ → ℕ → Option ℤ) → Type 0
AreInRange value_at = (kind : Kind) (leaf period : ℕ) (value : ℤ) →
    value_at kind leaf period ≡ Some value → (least_of kind ≤ℤ value) × (value ≤ℤ most_of kind)

-- the values of a leaf are below 10^24 in size, as numbers and as cells, and its volumes within 10^15
abbrev pub AreBelow : List ℤ → Type 0
AreBelow values = All (λ value. unsigned_abs value < 10 ^ 24) values

abbrev pub AreLeafValues : List Cell → Type 0
AreLeafValues cells = All (IsSizedCell (10 ^ 24 - 1)) cells

abbrev pub AreLeafVolumes : List Cell → Type 0
AreLeafVolumes cells = All (IsSizedCell (10 ^ 15)) cells

-- whatever inputs fit a plan, each item's values are within 10^24 and its volumes within 10^15 times the number of
-- leaves under it
abbrev pub AreItemsSized : Type 0
AreItemsSized = (plan : PlanShape) (inputs : List Input) (item : ℕ) →
    All (FitsPlan plan) inputs → item < length plan.parents →
    IsKnownItem (length (leaves_under plan item)) (item_table (last_value inputs) plan item)

-- and the values of a leaf are below 10^24
abbrev pub AreLeavesSized : Type 0
AreLeavesSized = (plan : PlanShape) (inputs : List Input) (leaf : ℕ) →
    All (FitsPlan plan) inputs → is_leaf plan leaf ≡ true →
    AreLeafValues (item_table (last_value inputs) plan leaf).value
