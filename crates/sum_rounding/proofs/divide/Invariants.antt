use Rattle.std.proofs.Common.{◌≡◌, ◌++◌, take, drop, map, length}
use Rattle.ratio_arith.specs.Division.{floor_of}
use Rattle.sum_rounding.specs.ShareOut.{remainder_of}
use Rattle.sum_rounding.proofs.divide.Given as goal

abbrev pub invariant-loop-quarter : goal.invariant-loop-quarter
invariant-loop-quarter l = record {
  floors_filled : take l.quarter l.floors ++ map (λ part. floor_of part l.den) (drop l.quarter l.parts) ≡ map (λ part. floor_of part l.den) l.parts;
  rests_filled : take l.quarter l.rests ++ map (λ part. remainder_of part l.den) (drop l.quarter l.parts) ≡ map (λ part. remainder_of part l.den) l.parts;
  four_floors : length l.floors ≡ 4;
  four_rests : length l.rests ≡ 4;
}
