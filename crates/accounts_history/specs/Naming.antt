-- Flags for the leaves that inputs name.
use Rattle.std.specs.Prelude.{◌≡◌, ℕ, Bool, List}
use Rattle.series_tables.specs.declared.input.Input.{Input}
use Rattle.dirty_plan.specs.Round.{has_flag}
use Rattle.dirty_plan.specs.Touched.{names_leaf}

-- a flag is set for each leaf that some of these inputs name, and for no other
abbrev pub AreNamed : List Bool → List Input → Type 0
AreNamed flags inputs = (leaf : ℕ) → has_flag flags leaf ≡ names_leaf inputs leaf
