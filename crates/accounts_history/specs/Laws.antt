-- What a lawful history is worth.
use Rattle.std.specs.Prelude.{ℕ, ◌+◌, ◌≤◌, List, length, All}
use Rattle.series_tables.specs.Fits.{FitsPlan}
use Rattle.series_tables.specs.Plan.{PlanShape}
use Rattle.accounts_history.specs.History.{front_of, inputs_of, journal, most_ahead, most_inputs}
use Rattle.accounts_history.specs.declared.entry.Entry.{Entry}

-- a history is within its bounds: its inputs fit the plan, they aren't too many, the front is at most their number and
-- not too far below it, and there are at most as many entries as the two come to, since each raises one of them
pub record IsWithinBounds (plan : PlanShape) (history : List Entry) : Type 0 where
  pub fit : All (FitsPlan plan) (inputs_of history)
  pub few : length (journal history) ≤ most_inputs
  pub accepted : front_of history ≤ length (journal history)
  pub near : length (journal history) ≤ front_of history + most_ahead
  pub short : length history ≤ length (journal history) + front_of history
