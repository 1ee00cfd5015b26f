use Rattle.denton_parts.specs.Years.{years_in}
use Rattle.node_compile.proofs.Filling.{IsFilledTo}
use Rattle.node_compile.proofs.quarters.write_values.Given as goal

-- the values are written up to the year
abbrev pub invariant-loop-y : goal.invariant-loop-y
invariant-loop-y l = IsFilledTo l.scale (years_in l.years l.parts) l.u l.ind l.out l.y
