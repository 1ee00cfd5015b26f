use Rattle.std.proofs.Common.{◌≡◌, take}
use Rattle.dirty_plan.proofs.marking.parents_of.Given as goal

abbrev pub invariant-loop-item : goal.invariant-loop-item
invariant-loop-item l = l.parents.items ≡ take l.item l.plan.parents
