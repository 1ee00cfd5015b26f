use Rattle.std.proofs.Common.{◌≤◌, ◌-◌, ◌^◌, length, map, take, drop, reverse}
use Rattle.node_compile.specs.Items.{IsSumBehind, node_value, node_prev}
use Rattle.node_compile.proofs.release.sum_of_children.Given as goal

abbrev pub invariant-loop-place : goal.invariant-loop-place
invariant-loop-place l =
    IsSumBehind (10 ^ 24) l.item (length l.plan.names - l.place) (drop (length l.plan.names - l.place) l.plan.parents) (reverse (take l.place (map node_value l.behind))) l.sum.value
    × IsSumBehind (10 ^ 15) l.item (length l.plan.names - l.place) (drop (length l.plan.names - l.place) l.plan.parents) (reverse (take l.place (map node_prev l.behind))) l.sum.prev
    × (l.sum.children ≤ l.place)
