use Rattle.std.proofs.Common.{◌≡◌, ◌++◌, drop}
use Rattle.node_compile.specs.Leaf.{places_from}
use Rattle.node_compile.proofs.years.years_of.Given as goal

-- the years so far, and those of the cells that are left, are those of all
abbrev pub invariant-loop-year : goal.invariant-loop-year
invariant-loop-year l = l.years.items ++ places_from l.year (drop l.year l.bench) ≡ places_from 0 l.bench
