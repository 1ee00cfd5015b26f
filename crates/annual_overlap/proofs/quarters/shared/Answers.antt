use Rattle.std.proofs.Common.{arith}
use Rattle.std.proofs.lemmas.Int.{to_z-of_z}
use Rattle.std.specs.Int.{w128}
use Rattle.annual_overlap.proofs.Products.{kept}
use Rattle.annual_overlap.proofs.YearSums.{parts_total}
use Rattle.annual_overlap.proofs.quarters.shared.Goals as goal

pub share_four-requires-clause-adds_up : goal.share_four-requires-clause-adds_up
share_four-requires-clause-adds_up c =
    let level = to_z-of_z w128 c.args.level c.ranges.level in
    let volume = to_z-of_z w128 c.args.volume c.ranges.volume in
    let a = kept c.part_of.result (omega arith) in
    let b = kept c.part_of-2.result (omega arith) in
    let d = kept c.part_of-3.result (omega arith) in
    let e = kept c.part_of-4.result (omega arith) in
    rw (a, b, d, e, volume, level) (parts_total c.args.level c.args.volume c.args.first c.args.second c.args.third c.args.fourth _ _ _ _ c.requires.adds_up
    (rw level at c.part_of.ensures.value) (rw level at c.part_of-2.ensures.value) (rw level at c.part_of-3.ensures.value) (rw level at c.part_of-4.ensures.value))
