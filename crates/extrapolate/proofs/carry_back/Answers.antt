use Rattle.std.proofs.Common.{◌∙◌, ◌≤◌, ◌<◌, ◌^◌, arith, rules, ap, ℤ, pos, length, get_or, FitsSigned}
use Rattle.std.specs.Prelude.{slice_index}
use Rattle.std.proofs.lemmas.Int.{to_z-of_z}
use Rattle.std.specs.Int.{w128}
use Rattle.denton_parts.specs.Level.{level_in}
use Rattle.denton_parts.specs.Years.{year_in}
use Rattle.denton_parts.proofs.Reach.{value_small}
use Rattle.extrapolate.proofs.Carrying.{carried_back_is, carried_back_within}
use Rattle.extrapolate.proofs.carry_back.Goals as goal

pub returns-clause-value : goal.returns-clause-value
returns-clause-value c place =
    let level_fits : FitsSigned w128 c.level-level.result = search rules in
    let unit_fits : FitsSigned w128 c.level_unit-unit.result = search rules in
    let passed = ap (λ (n : ℤ). level_in c.args.scale (year_in place c.args.first.now) (pos 0) n 0)
    (to_z-of_z w128 _ c.ranges.right) in
    carried_back_is c.args.scale (year_in place c.args.first.now) c.args.right _ _ c.args.rest.now
    c.write_at_level.new.out
    (to_z-of_z w128 _ level_fits ∙ c.level-level.ensures.value ∙ passed)
    (to_z-of_z w128 _ unit_fits ∙ c.level_unit-unit.ensures.value) c.write_at_level.ensures

pub returns-clause-reach : goal.returns-clause-reach
returns-clause-reach c t inside =
    let far = carried_back_within c.args.scale (year_in 0 c.args.first.now) c.args.right c.write_at_level.new.out
    c.args.rest.now
    (returns-clause-value c 0) c.requires.scale c.requires.fits c.args.first.now.indicators c.requires.right
    c.requires.indicators t inside in
    omega arith

pub returns-clause-sizes : goal.returns-clause-sizes
returns-clause-sizes c some t inside =
    let far = carried_back_within c.args.scale (year_in 0 c.args.first.now) c.args.right c.write_at_level.new.out
    c.args.rest.now
    (returns-clause-value c 0) c.requires.scale c.requires.fits c.args.first.now.indicators c.requires.right
    c.requires.indicators t inside in
    let place : t < length c.args.rest.now = omega arith in
    let few : slice_index c.args.rest.now t ≤ 10 ^ 9 = (c.requires.indicators t place).1 in
    value_small c.args.scale (slice_index c.args.rest.now t) (get_or c.write_at_level.new.out t (pos 0)) some few far
