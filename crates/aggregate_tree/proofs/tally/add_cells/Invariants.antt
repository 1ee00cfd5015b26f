use Rattle.std.proofs.Common.{◌≡◌, ℕ, ◌<◌, ◌≤◌, get_or}
use Rattle.std.specs.Prelude.{slice_get}
use Rattle.aggregate_tree.specs.Tallies.{no_tally, with_cell}
use Rattle.aggregate_tree.proofs.tally.add_cells.Given as goal

abbrev pub invariant-loop-t : goal.invariant-loop-t
invariant-loop-t l = record {
  written : (k : ℕ) → k < l.t → get_or l.tallies k no_tally ≡ with_cell (slice_get l.cells k) (get_or l.fn.tallies k no_tally);
  kept : (k : ℕ) → l.t ≤ k → get_or l.tallies k no_tally ≡ get_or l.fn.tallies k no_tally;
}
