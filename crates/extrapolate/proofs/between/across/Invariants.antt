use Rattle.std.proofs.Common.{◌≡◌, ◌^◌, ◌++◌, pos, take, drop, length, suc, get_or}
use Rattle.denton_parts.specs.Level.{ratio_floor}
use Rattle.denton_parts.specs.Years.{year_in}
use Rattle.extrapolate.specs.Carried.{stepped}
use Rattle.extrapolate.proofs.between.across.Given as goal

-- the ratios on the two sides, in units of 1 over the unit; and the values that are written, with those that are left
abbrev pub invariant-loop-t : goal.invariant-loop-t
invariant-loop-t l = record {
  from : l.from ≡ ratio_floor l.scale (year_in 0 l.left) (get_or l.fn.u 0 (pos 0)) (get_or l.fn.u 1 (pos 0)) 3;
  to : l.to ≡ ratio_floor l.scale (year_in 0 l.right) (get_or l.fn.u 1 (pos 0)) (get_or l.fn.u 2 (pos 0)) 0;
  unit : l.unit ≡ pos (10 ^ l.scale);
  values : take l.t l.out ++ stepped l.scale l.from l.to (suc (length l.rest)) (suc l.t) (drop l.t l.rest)
      ≡ stepped l.scale l.from l.to (suc (length l.rest)) 1 l.rest;
}
