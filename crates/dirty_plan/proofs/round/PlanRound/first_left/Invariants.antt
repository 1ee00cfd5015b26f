use Rattle.std.proofs.Common.{◌≡◌, ◌<◌, ℕ, false}
use Rattle.dirty_plan.specs.Round.{is_left}
use Rattle.dirty_plan.proofs.round.PlanRound.first_left.Given as goal

abbrev pub invariant-loop-item : goal.invariant-loop-item
invariant-loop-item l = (before : ℕ) → before < l.item → is_left l.self-inside.jobs.items before ≡ false
