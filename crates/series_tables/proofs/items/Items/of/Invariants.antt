use Rattle.std.proofs.Common.{◌≡◌, take}
use Rattle.series_tables.specs.IsPlan.{names_of, parents_of}
use Rattle.series_tables.proofs.items.Items.of.Given as goal

-- the items so far
abbrev pub invariant-loop-item : goal.invariant-loop-item
invariant-loop-item l =
    (l.made.names ≡ take l.item-index (names_of l.items)) × (l.made.parents ≡ take l.item-index (parents_of l.items))
