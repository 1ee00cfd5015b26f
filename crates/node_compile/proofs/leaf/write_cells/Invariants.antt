use Rattle.std.proofs.Common.{◌≡◌, ◌++◌, take, drop, map}
use Rattle.price_base.specs.declared.Cell.TheVariants.{Value}
use Rattle.node_compile.proofs.leaf.write_cells.Given as goal

-- the cells that are written, and the values that are left
abbrev pub invariant-loop-t : goal.invariant-loop-t
invariant-loop-t l = take l.t l.out ++ map Value (drop l.t l.values) ≡ map Value l.values
