-- The release of a list of inputs.
use Rattle.std.specs.Prelude.{ℕ, List, length}
use Rattle.series_tables.specs.Plan.{PlanShape}
use Rattle.series_tables.specs.declared.input.Input.{Input}
use Rattle.node_compile.specs.Release.{compilation}
use Rattle.release_print.specs.Release.{release_text}

-- the release of all inputs of a list: its number is that of the inputs, and each item is compiled from scratch
unfoldable pub release_of : PlanShape → List Input → List ℕ
release_of plan inputs = release_text plan (length inputs) (compilation plan inputs)
