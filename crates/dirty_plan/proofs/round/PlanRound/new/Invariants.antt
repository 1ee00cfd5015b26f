use Rattle.dirty_plan.specs.Round.{has_flag}
use Rattle.dirty_plan.proofs.Marks.{AreMarked}
use Rattle.dirty_plan.proofs.round.PlanRound.new.Given as goal

abbrev pub invariant-loop-item : goal.invariant-loop-item
invariant-loop-item l = AreMarked l.plan (has_flag l.touched) l.item l.jobs.items
