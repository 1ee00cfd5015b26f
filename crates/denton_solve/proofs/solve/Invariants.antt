use Rattle.std.proofs.Common.{◌≡◌, ◌+◌, ◌*◌, ◌⊎◌, length}
use Rattle.denton_parts.specs.Years.{years_apart}
use Rattle.denton_solve.specs.Conditions.{AreMultipliers}
use Rattle.denton_solve.specs.Sweeps.{swept, sweep_of}
use Rattle.denton_solve.proofs.Pairs.{AreMoving}
use Rattle.denton_solve.proofs.solve.Given as goal

-- the pairs of sweeps that were made, each of which moved a multiplier, and the sweep between
abbrev pub invariant-loop-pair : goal.invariant-loop-pair
invariant-loop-pair g l = record {
  made : l.u ≡ swept l.scale (years_apart 0 l.miss l.parts) (2 * l._pair);
  between : (sweep_of l.scale (years_apart 0 l.miss l.parts) l.row ≡ l.u) ⊎ (l.row ≡ l.u);
  sizes : AreMultipliers l.u;
  moving : AreMoving l.scale (years_apart 0 l.miss l.parts) (2 * l._pair);
  lengths : length l.u + 1 ≡ length l.parts;
  row_length : length l.row + 1 ≡ length l.parts;
  count : l.steps ≡ l.initial.steps + 2 * (l._pair * length l.u);
}
