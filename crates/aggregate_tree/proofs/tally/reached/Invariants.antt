use Rattle.std.proofs.Common.{◌≡◌, ℕ, ◌<◌, get_or, true}
use Rattle.aggregate_tree.specs.Tallies.{no_tally, is_reached}
use Rattle.aggregate_tree.proofs.tally.reached.Given as goal

abbrev pub invariant-loop-quarters : goal.invariant-loop-quarters
invariant-loop-quarters l = (k : ℕ) → k < l.quarters → is_reached (get_or l.tallies k no_tally) ≡ true
