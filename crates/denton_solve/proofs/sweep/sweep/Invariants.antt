use Rattle.std.proofs.Common.{◌≡◌, ◌↔◌, ◌+◌, ◌*◌, ◌^◌, ◌≤◌, ◌++◌, ◌∷◌, pos, take, drop, get_or, unsigned_abs, IsTrue}
use Rattle.denton_parts.specs.Level.{ratio_floor}
use Rattle.denton_parts.specs.Years.{year_in, years_apart}
use Rattle.denton_parts.specs.declared.year.YearPart.{YearPart}
use Rattle.denton_solve.specs.Sweeps.{first_of, sweep_after, sweep_of}
use Rattle.denton_solve.proofs.sweep.sweep.Given as goal

-- what is done and what is to come are the whole sweep, the ratio with which the year before the joint ends is kept,
-- and the tests say whether the new row is so far the one that is read, and the one that stood there before
abbrev pub invariant-loop-y : goal.invariant-loop-y
invariant-loop-y g l = record {
  done : take l.y l.into ++ sweep_after l.scale (get_or (pos 0 ∷ l.from) l.y (pos 0))
      (drop l.y (years_apart 0 l.miss l.parts)) (drop l.y l.from)
      ≡ sweep_of l.scale (years_apart 0 l.miss l.parts) l.from;
  ends : (other : YearPart) → l.last
      ≡ ratio_floor l.scale (year_in 0 (get_or l.parts l.y other)) (get_or (pos 0 ∷ l.from) l.y (pos 0))
      (first_of (drop l.y l.from)) 3;
  size : unsigned_abs l.last ≤ 7 * 10 ^ 15;
  still : IsTrue l.still ↔ (take l.y l.into ≡ take l.y l.from);
  back : IsTrue l.back → l.into ≡ l.initial.into;
  count : l.steps ≡ l.initial.steps + l.y;
}
