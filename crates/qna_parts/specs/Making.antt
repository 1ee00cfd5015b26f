-- What a command makes of a plan and of accepted inputs.
use Rattle.std.specs.Prelude.{◌≡◌, ℕ, List}
use Rattle.series_tables.specs.Plan.{PlanShape}
use Rattle.series_tables.specs.Cells.{Rows, cell}
use Rattle.series_tables.specs.LastValue.{last_value}
use Rattle.series_tables.specs.declared.input.Input.{Input}
use Rattle.series_tables.specs.declared.input.Kind.{Kind}

-- the text that is made of a plan and a list of accepted inputs
abbrev pub Making : Type 0
Making = PlanShape → List Input → List ℕ

-- the tables hold the last value of each kind, leaf and period of these inputs
abbrev pub HoldsLast : Rows → List Input → Type 0
HoldsLast rows given = (kind : Kind) (leaf period : ℕ) → cell rows kind leaf period ≡ last_value given kind leaf period
