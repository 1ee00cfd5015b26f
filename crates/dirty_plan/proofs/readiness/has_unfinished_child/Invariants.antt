use Rattle.std.proofs.Common.{◌≡◌, ◌≤◌, suc, drop}
use Rattle.std.specs.List.{list_any}
use Rattle.series_tables.specs.Tree.{of_children}
use Rattle.dirty_plan.specs.Round.{is_unfinished as is_unfinished_of}
use Rattle.dirty_plan.proofs.readiness.has_unfinished_child.Given as goal

abbrev pub invariant-loop-child : goal.invariant-loop-child
invariant-loop-child l =
    (suc l.item ≤ l.child)
    × (l.found ≡ list_any is_unfinished_of (of_children l.item (drop l.child l.parents) (drop l.child l.jobs)))
