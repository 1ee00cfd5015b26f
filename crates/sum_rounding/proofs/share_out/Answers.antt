use Rattle.std.proofs.Common.{◌^◌, ◌*◌}
use Rattle.std.proofs.lemmas.Int.{to_z-of_z}
use Rattle.std.specs.Int.{w128}
use Rattle.sum_rounding.specs.ShareOut.{share_of, CanShare}
use Rattle.sum_rounding.proofs.Sizes.{floors_small, sum_small, total_small, difference}
use Rattle.sum_rounding.proofs.Laws.{ranks_share_out}
use Rattle.sum_rounding.proofs.share_out.Goals as goal

pub sum-requires : goal.sum-requires
sum-requires c =
    let floors = rw (to_z-of_z w128 c.args.den c.ranges.den) at c.divide.ensures.floors in
    record { small = rw floors (floors_small c.args.parts.now c.args.den (10 ^ 37) c.requires.positive c.requires.sizes) }

pub overflow_sub-left : goal.overflow_sub-left
overflow_sub-left c =
    let total = total_small c.args.den c.args.total _ (4 * 10 ^ 37) c.requires.positive c.requires.adds_up (sum_small c.args.parts.now (10 ^ 37) c.told-parts c.requires.sizes) in
    (difference c.args.total c.sum.result total c.sum.ensures.small).0

pub hand_out-requires : goal.hand_out-requires
hand_out-requires c =
    let floors = rw (to_z-of_z w128 c.args.den c.ranges.den) at c.divide.ensures.floors in
    record { small = rw floors (floors_small c.args.parts.now c.args.den (10 ^ 37) c.requires.positive c.requires.sizes) }

pub returns-clause-share : goal.returns-clause-share
unfolding share_of
returns-clause-share c =
    let total = total_small c.args.den c.args.total _ (4 * 10 ^ 37) c.requires.positive c.requires.adds_up (sum_small c.args.parts.now (10 ^ 37) c.told-parts c.requires.sizes) in
    let left = (difference c.args.total c.sum.result total c.sum.ensures.small).1 in
    let den = to_z-of_z w128 c.args.den c.ranges.den in
    let floors = rw den at c.divide.ensures.floors in
    let rests = rw den at c.divide.ensures.rests in
    rw (left, c.sum.ensures.value, floors, rests) at c.hand_out.ensures.value

pub returns-clause-relation : goal.returns-clause-relation
returns-clause-relation c =
    let can : CanShare c.args.parts.now c.args.den c.args.total = record { four = c.told-parts; positive = c.requires.positive; adds_up = c.requires.adds_up } in
    rw (returns-clause-share c) (ranks_share_out c.args.parts.now c.args.den c.args.total can)
