use Rattle.std.proofs.Common.{arith}
use Rattle.std.proofs.lemmas.Int.{to_z-of_z}
use Rattle.std.specs.Int.{w128}
use Rattle.ratio_arith.proofs.Linear.{linear}
use Rattle.annual_overlap.proofs.Products.{kept_between, moved_from}
use Rattle.annual_overlap.proofs.levels.times_ratio.Goals as goal

pub returns-clause-point : goal.returns-clause-point
returns-clause-point c =
    let level = to_z-of_z w128 c.args.level c.ranges.level in
    let drift = to_z-of_z w128 c.args.drift c.ranges.drift in
    let over = to_z-of_z w128 c.args.over c.ranges.over in
    let under = to_z-of_z w128 c.args.under c.ranges.under in
    let first = kept_between c.product.result c.product.ensures.sign (omega (arith, linear)) in
    let second = kept_between c.product-2.result c.product-2.ensures.sign (omega (arith, linear)) in
    let up = kept_between c.ceiling.result c.ceiling.ensures.sign (omega (arith, linear)) in
    let next = kept_between c.rounded-next_level.result c.rounded-next_level.ensures.sign (omega (arith, linear)) in
    let wider = kept_between c.one_more-next_drift.result c.one_more-next_drift.ensures.sign (omega (arith, linear)) in
    moved_from c.args.level c.args.drift c.args.over c.args.under c.product.result c.rounded-next_level.result c.product-2.result c.ceiling.result c.one_more-next_drift.result c.within_limits.result
    (rw (level, over) at c.product.ensures.value) (rw (first, under) at c.rounded-next_level.ensures.value) (rw (drift, over) at c.product-2.ensures.value)
    (rw (second, under) at c.ceiling.ensures.value) (rw up at c.one_more-next_drift.ensures.value) (rw (next, wider) at c.within_limits.ensures.point)
