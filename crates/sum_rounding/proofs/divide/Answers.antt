use Rattle.std.proofs.Common.{rules, arith, get_or, pos, ℤ, FitsSigned, ◌∙◌}
use Rattle.std.proofs.lemmas.Int.{to_z-of_z}
use Rattle.std.proofs.lemmas.List.{length-set}
use Rattle.std.specs.Int.{w128, int_rem_euclid}
use Rattle.ratio_arith.specs.Division.{floor_of}
use Rattle.sum_rounding.specs.ShareOut.{remainder_of}
use Rattle.sum_rounding.proofs.Steps.{filled, filled_all, passed, rem_euclid-remainder}
use Rattle.sum_rounding.proofs.divide.Goals as goal

pub loop-quarter-preserved : goal.loop-quarter-preserved
loop-quarter-preserved c =
    let part : FitsSigned w128 (get_or c.args.parts.now c.loop-quarter.quarter (pos 0)) = search rules in
    let floor : FitsSigned w128 c.floor_div.result = search rules in
    let rest : FitsSigned w128 c.rem_euclid.result = search rules in
    let quotient = passed floor_of _ _ c.floor_div.result part c.ranges.den floor c.floor_div.ensures.value in
    let remainder = passed int_rem_euclid _ _ c.rem_euclid.result part c.ranges.den rest c.rem_euclid.ensures.value ∙ rem_euclid-remainder (get_or c.args.parts.now c.loop-quarter.quarter (pos 0)) c.args.den c.requires.positive in
    let same = to_z-of_z w128 c.args.den c.ranges.den in
    record {
      floors_filled = rw (quotient, same) (filled (λ part. floor_of part c.args.den) c.args.parts.now c.loop-quarter.floors c.loop-quarter.quarter (omega arith) (omega arith) (rw same at c.loop-quarter.invariant.floors_filled));
      rests_filled = rw (remainder, same) (filled (λ part. remainder_of part c.args.den) c.args.parts.now c.loop-quarter.rests c.loop-quarter.quarter (omega arith) (omega arith) (rw same at c.loop-quarter.invariant.rests_filled));
      four_floors = omega (arith, length-set {A = ℤ});
      four_rests = omega (arith, length-set {A = ℤ});
    }

pub returns-clause-floors : goal.returns-clause-floors
returns-clause-floors c =
    let same = to_z-of_z w128 c.args.den c.ranges.den in
    filled_all (λ part. floor_of part c.args.den) c.args.parts.now c.loop-quarter.floors c.loop-quarter.quarter (omega arith) (omega arith) (rw same at c.loop-quarter.invariant.floors_filled)

pub returns-clause-rests : goal.returns-clause-rests
returns-clause-rests c =
    let same = to_z-of_z w128 c.args.den c.ranges.den in
    filled_all (λ part. remainder_of part c.args.den) c.args.parts.now c.loop-quarter.rests c.loop-quarter.quarter (omega arith) (omega arith) (rw same at c.loop-quarter.invariant.rests_filled)
