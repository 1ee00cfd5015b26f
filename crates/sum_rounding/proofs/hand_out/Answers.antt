use Rattle.std.proofs.Common.{◌≡◌, ◌+◌, ◌-◌, arith, get_or, pos, ℤ, drop, take, ◌≤◌, ◌^◌, unsigned_abs, length-drop}
use Rattle.std.proofs.lemmas.Int.{to_z-of_z}
use Rattle.std.proofs.lemmas.List.{length-set, take_all}
use Rattle.std.specs.Int.{w128}
use Rattle.sum_rounding.proofs.Steps.{handed, with_unit}
use Rattle.sum_rounding.proofs.hand_out.Goals as goal

pub loop-quarter-preserved : goal.loop-quarter-preserved
loop-quarter-preserved c =
    let same = to_z-of_z w128 c.args.left c.ranges.left in
    let small : unsigned_abs (get_or c.args.floors.now c.loop-quarter.quarter (pos 0)) ≤ 10 ^ 37 = c.requires.small c.loop-quarter.quarter (pos 0) (omega arith) in
    let after : take (4 - (c.loop-quarter.quarter + 1)) (drop (c.loop-quarter.quarter + 1) c.args.rests.now) ≡ drop (c.loop-quarter.quarter + 1) c.args.rests.now = take_all _ _ (simp length-drop (omega arith)) in
    let unit = with_unit (get_or c.args.floors.now c.loop-quarter.quarter (pos 0)) c.unit.result _ small c.unit.ensures.value in
    record {
      handed = rw (unit, c.unit.ensures.value, c.rank-ahead.ensures.value, after, same) (handed c.args.left c.args.floors.now c.args.rests.now c.loop-quarter.out _ c.loop-quarter.quarter (omega arith) (omega arith) (omega arith) (rw same at c.loop-quarter.invariant.handed));
      four = omega (arith, length-set {A = ℤ});
    }
