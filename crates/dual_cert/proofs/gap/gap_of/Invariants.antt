use Rattle.std.proofs.Common.{◌≡◌, ◌-◌, ◌*◌, ◌^◌, pos, ◌+ℤ◌, ◌*ℤ◌, ◌≤ℤ◌, drop, get_or}
use Rattle.denton_parts.specs.Changes.{changes}
use Rattle.denton_parts.specs.Gap.{gap_from, gap_by}
use Rattle.denton_parts.specs.Years.{years_in}
use Rattle.dual_cert.specs.Parts.{AreBoundsOf, AreEnded, AreWithin}
use Rattle.dual_cert.proofs.gap.gap_of.Given as goal

-- what has been added and what is to come are the whole gap, and the quarter before is kept, with how many of the years
-- end before it
abbrev pub invariant-loop-t : goal.invariant-loop-t
invariant-loop-t l = record {
  total : l.gap +ℤ gap_from l.unit (get_or l.ind (l.t - 1) 0) (get_or l.x (l.t - 1) (pos 0)) (drop l.t l.ind)
      (drop l.t l.x) (drop l.t (changes (years_in l.years l.parts) l.u l.ind))
      ≡ gap_by l.unit l.ind l.x (changes (years_in l.years l.parts) l.u l.ind);
  bounds : AreBoundsOf (l.unit *ℤ get_or l.x (l.t - 1) (pos 0)) (pos (get_or l.ind (l.t - 1) 0)) l.before;
  size : AreWithin (10 ^ 16) l.before;
  ended : AreEnded l.years l.ended (l.t - 1);
  least : pos 0 ≤ℤ l.gap;
  most : l.gap ≤ℤ pos (l.t * 10 ^ 33);
}
