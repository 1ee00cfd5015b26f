-- Words of the tests: tables of some inputs, and a round over some.
use Rattle.std.specs.Prelude.{◌≡◌, ℕ, List, All, length}
use Rattle.series_tables.specs.Cells.{Rows, cell}
use Rattle.series_tables.specs.Fits.{FitsPlan}
use Rattle.series_tables.specs.LastValue.{last_value}
use Rattle.series_tables.specs.Plan.{PlanShape}
use Rattle.series_tables.specs.declared.input.Input.{Input}
use Rattle.series_tables.specs.declared.input.Kind.{Kind}
use Rattle.round_works.specs.Rounds.{IsRoundOver}
use Rattle.round_works.specs.declared.round.OpenRound.{OpenRound}

-- tables have the last values of these inputs, which are so many and fit a plan
pub record HasSent (plan : PlanShape) (inputs : List Input) (count : ℕ) (rows : Rows) : Type 0 where
  pub whole : count ≡ length inputs
  pub fits : All (FitsPlan plan) inputs
  pub values : (kind : Kind) (leaf period : ℕ) → cell rows kind leaf period ≡ last_value inputs kind leaf period

-- tables have those of some inputs
abbrev pub WasSent : PlanShape → ℕ → Rows → Type 0
WasSent plan count rows = (inputs : List Input) × HasSent plan inputs count rows

-- a round is a plan's over some inputs
abbrev pub IsDriven : PlanShape → OpenRound → Type 0
IsDriven plan round = (inputs : List Input) × IsRoundOver plan inputs round
