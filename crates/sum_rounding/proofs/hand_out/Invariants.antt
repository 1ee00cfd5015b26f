use Rattle.std.proofs.Common.{◌≡◌, ◌++◌, take, drop, [], length}
use Rattle.sum_rounding.specs.ShareOut.{units_of, added}
use Rattle.sum_rounding.proofs.hand_out.Given as goal

abbrev pub invariant-loop-quarter : goal.invariant-loop-quarter
invariant-loop-quarter l = record {
  handed : take l.quarter l.out ++ added (drop l.quarter l.floors) (units_of l.left (take l.quarter l.rests) (drop l.quarter l.rests)) ≡ added l.floors (units_of l.left [] l.rests);
  four : length l.out ≡ 4;
}
