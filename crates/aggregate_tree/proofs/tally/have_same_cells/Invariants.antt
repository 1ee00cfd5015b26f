use Rattle.std.proofs.Common.{◌≡◌, ℕ, ◌<◌, get_or}
use Rattle.aggregate_tree.specs.Tallies.{no_tally, cell_of}
use Rattle.aggregate_tree.proofs.tally.have_same_cells.Given as goal

abbrev pub invariant-loop-quarter : goal.invariant-loop-quarter
invariant-loop-quarter l = (k : ℕ) → k < l.quarter → cell_of (get_or l.one k no_tally) ≡ cell_of (get_or l.other k no_tally)
