use Rattle.std.proofs.Common.{◌≡◌, length}
use Rattle.dirty_plan.specs.Round.{has_flag}
use Rattle.dirty_plan.specs.Touched.{NamesLeaves}
use Rattle.core_tests.proofs.rounds.flags_of.Given as goal

abbrev pub invariant-loop-item : goal.invariant-loop-item
invariant-loop-item l = (length l.flags.items ≡ l.item-counter) × NamesLeaves l.plan (has_flag l.flags.items)
