use Rattle.std.proofs.Common.{arith, ◌≡◌, ◌∙◌, to_z, of_z, to_z-of_z}
use Rattle.std.specs.Int.{w128}
use Rattle.denton_parts.specs.Years.{year_in}
use Rattle.denton_solve.proofs.Values.{parts_shared}
use Rattle.denton_solve.proofs.quarters.quarters_of.Goals as goal

pub share_out-requires-clause-adds_up : goal.share_out-requires-clause-adds_up
share_out-requires-clause-adds_up c =
    let den : to_z w128 (of_z w128 c.level_unit.result) ≡ c.level_unit.result = grind (arith, to_z-of_z) in
    let bench : to_z w128 (of_z w128 c.from.result) ≡ c.args.year.now.bench = grind (arith, to_z-of_z) in
    let parts = rw (to_z-of_z c.ranges.left, to_z-of_z c.ranges.right) at c.parts_of.ensures.value in
    parts_shared c.args.scale (year_in 0 c.args.year.now) c.args.left c.args.right _ _ _ parts
    (den ∙ c.level_unit.ensures.value) bench
