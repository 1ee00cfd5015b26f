-- Two inputs that fit a plan.
use Rattle.std.proofs.Common.{ℕ, zero, suc, List, [], ◌∷◌, arith}
use Rattle.std.specs.List.{All}
use Rattle.series_tables.specs.Fits.{FitsPlan}
use Rattle.series_tables.specs.Plan.{PlanShape}
use Rattle.series_tables.specs.declared.input.Input.{Input}

pub two_fit : (plan : PlanShape) (first second : Input) → FitsPlan plan first → FitsPlan plan second → All (FitsPlan plan) (first ∷ second ∷ [])
two_fit plan first second one two zero d below = one
two_fit plan first second one two (suc zero) d below = two
two_fit plan first second one two (suc (suc k)) d below = absurd (omega arith)
