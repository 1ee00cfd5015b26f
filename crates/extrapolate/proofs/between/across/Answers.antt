use Rattle.std.proofs.Common.{◌∙◌, ◌≤◌, ◌<◌, ◌*◌, ◌^◌, refl, arith, rules, ℤ, pos, ℕ, suc, length, get_or, to_z, of_z, FitsSigned}
use Rattle.std.specs.Prelude.{slice_index, unsigned_abs}
use Rattle.std.proofs.lemmas.Int.{ints, to_z-of_z}
use Rattle.std.proofs.Math.Nat.{pow-le-pow_right, one-le-pow}
use Rattle.std.specs.Int.{w128}
use Rattle.denton_parts.specs.Years.{year_in}
use Rattle.denton_parts.proofs.Reach.{value_small}
use Rattle.extrapolate.proofs.Stepped.{stepped_next, stepped_all, value_is, across_is, across_within}
use Rattle.extrapolate.proofs.between.across.Goals as goal

pub loop-t-init : goal.loop-t-init
loop-t-init c =
    let small : 10 ^ c.args.scale ≤ 10 ^ 15 = pow-le-pow_right (omega arith) c.requires.scale in
    let before : FitsSigned w128 (get_or c.args.u 0 (pos 0)) = omega (arith, ints) in
    let own : FitsSigned w128 (get_or c.args.u 1 (pos 0)) = omega (arith, ints) in
    let after : FitsSigned w128 (get_or c.args.u 2 (pos 0)) = omega (arith, ints) in
    let from_fits : FitsSigned w128 c.ends_of-from.result.last = omega (arith, ints) in
    let to_fits : FitsSigned w128 c.ends_of-to.result.first = omega (arith, ints) in
    record {
      from = to_z-of_z w128 _ from_fits ∙ simp to_z-of_z at c.ends_of-from.ensures.last;
      to = to_z-of_z w128 _ to_fits ∙ simp to_z-of_z at c.ends_of-to.ensures.first;
      unit = grind (arith, to_z-of_z);
      values = refl;
    }

pub at_ratio-requires-clause-positive : goal.at_ratio-requires-clause-positive
at_ratio-requires-clause-positive c =
    let least : 1 ≤ 10 ^ c.args.scale = one-le-pow c.args.scale 10 (omega arith) in
    rw c.loop-t.invariant.unit (omega (arith, ints))

pub at_ratio-requires-clause-unit : goal.at_ratio-requires-clause-unit
at_ratio-requires-clause-unit c =
    let most : 10 ^ c.args.scale ≤ 10 ^ 15 = pow-le-pow_right (omega arith) c.requires.scale in
    rw c.loop-t.invariant.unit (omega (arith, ints))

pub loop-t-preserved : goal.loop-t-preserved
loop-t-preserved c =
    let h = c.loop-t.invariant in
    let from : ℤ = to_z w128 (of_z w128 c.ends_of-from.result.last) in
    let to : ℤ = to_z w128 (of_z w128 c.ends_of-to.result.first) in
    let steps : ℕ = suc (length c.args.rest.now) in
    let value_fits : FitsSigned w128 c.at_ratio.result = search rules in
    let ratio_fits : FitsSigned w128 c.ratio_at.result = search rules in
    let made = value_is c.args.scale from to (to_z w128 (of_z w128 c.ratio_at.result))
    (to_z w128 (of_z w128 c.from-unit.result)) c.at_ratio.result (slice_index c.args.rest.now c.loop-t.t)
    (length c.args.rest.now) c.loop-t.t (to_z-of_z w128 _ ratio_fits ∙ c.ratio_at.ensures.value) h.unit
    c.at_ratio.ensures in
    record {
      from = h.from;
      to = h.to;
      unit = h.unit;
      values = stepped_next c.args.scale from to steps c.args.rest.now c.loop-t.out _ c.loop-t.t
          (to_z w128 (of_z w128 c.at_ratio.result)) (omega arith) (omega arith) (to_z-of_z w128 _ value_fits ∙ made)
          h.values;
    }

pub returns-clause-value : goal.returns-clause-value
returns-clause-value c here there =
    let h = c.loop-t.invariant in
    let from : ℤ = to_z w128 (of_z w128 c.ends_of-from.result.last) in
    let to : ℤ = to_z w128 (of_z w128 c.ends_of-to.result.first) in
    across_is c.args.scale (year_in here c.args.left.now) (year_in there c.args.right.now) (get_or c.args.u 0 (pos 0))
    (get_or c.args.u 1 (pos 0)) (get_or c.args.u 2 (pos 0)) from to c.args.rest.now c.loop-t.out h.from h.to
    (stepped_all c.args.scale from to (suc (length c.args.rest.now)) c.args.rest.now c.loop-t.out _ c.loop-t.t
    (omega arith) (omega arith) h.values)

-- no value reaches further than 8 * 10^15 times its indicator
within : (c : goal.After-loop-t) (t : ℕ) → t < length c.loop-t.out →
    10 ^ c.args.scale * unsigned_abs (get_or c.loop-t.out t (pos 0)) ≤ 8 * 10 ^ 15 * slice_index c.args.rest.now t
within c =
    across_within c.args.scale (year_in 0 c.args.left.now) (year_in 0 c.args.right.now) (get_or c.args.u 0 (pos 0))
    (get_or c.args.u 1 (pos 0)) (get_or c.args.u 2 (pos 0)) c.loop-t.out c.args.rest.now (returns-clause-value c 0 0)
    c.requires.scale c.requires.left_fits c.requires.right_fits c.args.left.now.indicators c.args.right.now.indicators
    c.requires.before c.requires.own c.requires.after c.requires.indicators

pub returns-clause-reach : goal.returns-clause-reach
returns-clause-reach c t inside = let far = within c t inside in omega arith

pub returns-clause-sizes : goal.returns-clause-sizes
returns-clause-sizes c some t inside =
    let place : t < length c.args.rest.now = omega arith in
    let few : slice_index c.args.rest.now t ≤ 10 ^ 9 = (c.requires.indicators t place).1 in
    value_small c.args.scale (slice_index c.args.rest.now t) (get_or c.loop-t.out t (pos 0)) some few
    (within c t inside)
