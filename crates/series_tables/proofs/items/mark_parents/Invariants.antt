use Rattle.std.proofs.Common.{◌≡◌, ◌<◌, ℕ, not, false, length, take, slice_index_or}
use Rattle.std.specs.List.{list_any}
use Rattle.series_tables.specs.Plan.{is_parent}
use Rattle.series_tables.proofs.items.mark_parents.Given as goal

abbrev pub invariant-loop-node : goal.invariant-loop-node
invariant-loop-node l =
    (length l.flags ≡ length l.parents)
    × ((k : ℕ) → k < length l.parents → slice_index_or l.flags k false ≡ not (list_any (is_parent k) (take l.node l.parents)))
