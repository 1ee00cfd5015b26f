use Rattle.std.proofs.Common.{◌≡◌, ◌≤◌}
use Rattle.denton_parts.specs.Scale.{greatest_up_to}
use Rattle.denton_parts.proofs.Scales.{parts_fit}
use Rattle.denton_parts.proofs.scale.scale_of.Given as goal

-- the scale is among the numbers up to the one that is tried
abbrev pub invariant-loop-scale : goal.invariant-loop-scale
invariant-loop-scale l = record {
  most : l.scale ≤ 15;
  value : greatest_up_to l.scale (parts_fit l.parts) ≡ greatest_up_to 15 (parts_fit l.parts);
}

abbrev pub decreases-loop-scale : goal.decreases-loop-scale
decreases-loop-scale l = l.scale
