use Rattle.std.proofs.Common.{◌≡◌, ◌<◌, ℕ, false}
use Rattle.dirty_plan.specs.Round.{is_ready as is_ready_of}
use Rattle.dirty_plan.proofs.round.PlanRound.ready.Given as goal

abbrev pub invariant-loop-item : goal.invariant-loop-item
invariant-loop-item l = (before : ℕ) → before < l.item → is_ready_of l.self-inside.parents.items l.self-inside.jobs.items before ≡ false
