use Rattle.std.proofs.Common.{arith, ◌≡◌, ◌+◌, ◌∷◌, ◌++◌, [], ◌-◌, pos, ◌+ℤ◌, ◌≤ℤ◌, FitsSigned, get_or, unsigned_abs, to_z, of_z}
use Rattle.std.specs.Int.{w128}
use Rattle.std.proofs.lemmas.Int.{to_z-of_z}
use Rattle.ratio_arith.proofs.Linear.{linear}
use Rattle.denton_parts.specs.Changes.{changes, no_change}
use Rattle.denton_parts.specs.Ratios.{square}
use Rattle.denton_parts.specs.Gap.{distance_of, gap_by}
use Rattle.denton_parts.specs.Years.{years_in}
use Rattle.dual_cert.specs.Parts.{change_at_quarter}
use Rattle.denton_parts.proofs.Machine.{machine}
use Rattle.dual_cert.proofs.Parts.{length-changes_from, changes-at, some_quarters, places_rise}
use Rattle.dual_cert.proofs.Sizes.{value_reach}
use Rattle.dual_cert.proofs.Steps.{gap_by-first, square_is, total_after, at_least_zero}
use Rattle.dual_cert.proofs.gap.gap_of.Goals as goal

pub ratio_at-before-requires-clause-inside : goal.ratio_at-before-requires-clause-inside
ratio_at-before-requires-clause-inside c =
    let four = some_quarters c.args.years.now c.args.parts.now c.args.ind.now c.requires.placed c.requires.some_year
    c.requires.years in
    omega arith

pub ratio_at-before-requires-clause-indicator : goal.ratio_at-before-requires-clause-indicator
ratio_at-before-requires-clause-indicator c =
    let four = some_quarters c.args.years.now c.args.parts.now c.args.ind.now c.requires.placed c.requires.some_year
    c.requires.years in
    c.requires.quarters.each_indicator 0 (omega arith)

pub loop-t-init : goal.loop-t-init
loop-t-init c =
    let four = some_quarters c.args.years.now c.args.parts.now c.args.ind.now c.requires.placed c.requires.some_year
    c.requires.years in
    let changed = length-changes_from 0 (pos 0) (years_in c.args.years.now c.args.parts.now)
    (c.args.u.now ++ pos 0 ∷ []) c.args.ind.now in
    let first = gap_by-first (to_z w128 (of_z w128 c.power_of_ten-unit.result)) c.args.ind.now c.args.x.now
    (changes (years_in c.args.years.now c.args.parts.now) c.args.u.now c.args.ind.now) (omega arith)
    c.requires.quarters.same_length changed in
    record {
      total = omega (arith, linear);
      bounds = c.ratio_at-before.ensures.bounds;
      size = c.ratio_at-before.ensures.size;
      ended = record { most = omega arith; each = λ y below. absurd (omega arith); next = λ some. omega arith };
      least = omega (arith, linear);
      most = omega (arith, linear);
    }

pub ended_at-ended-requires-clause-rising : goal.ended_at-ended-requires-clause-rising
ended_at-ended-requires-clause-rising c =
    places_rise c.args.years.now c.args.parts.now c.args.ind.now c.requires.placed c.requires.years

pub ratio_at-now-requires-clause-reach : goal.ratio_at-now-requires-clause-reach
ratio_at-now-requires-clause-reach c =
    let value = c.requires.quarters.each_value c.loop-t.t (omega arith) in
    let reach = value_reach c.args.scale (get_or c.args.ind.now c.loop-t.t 0)
    (unsigned_abs (get_or c.args.x.now c.loop-t.t (pos 0))) value in
    grind (arith, to_z-of_z)

-- the step's squared distance
squared : (c : goal.After-squared_distance-gap) → c.squared_distance-gap.result
    ≡ square (distance_of (to_z w128 (of_z w128 c.power_of_ten-unit.result)) (get_or c.args.ind.now (c.loop-t.t - 1) 0)
    (get_or c.args.x.now (c.loop-t.t - 1) (pos 0)) (get_or c.args.ind.now c.loop-t.t 0)
    (get_or c.args.x.now c.loop-t.t (pos 0))
    (get_or (changes (years_in c.args.years.now c.args.parts.now) c.args.u.now c.args.ind.now) c.loop-t.t no_change))
squared c =
    let change = changes-at c.args.years.now c.args.parts.now c.args.u.now c.args.ind.now c.loop-t.t c.requires.placed
    c.requires.joints c.requires.years (omega arith) in
    rw change
    (square_is (to_z w128 (of_z w128 c.power_of_ten-unit.result)) (get_or c.args.ind.now (c.loop-t.t - 1) 0)
    (get_or c.args.x.now (c.loop-t.t - 1) (pos 0)) (get_or c.args.ind.now c.loop-t.t 0)
    (get_or c.args.x.now c.loop-t.t (pos 0))
    (change_at_quarter (years_in c.args.years.now c.args.parts.now) c.args.u.now c.loop-t.t)
    c.loop-t.before c.ratio_at-now.result c.change_at-change.result c.squared_distance-gap.result
    c.loop-t.invariant.bounds c.ratio_at-now.ensures.bounds c.change_at-change.ensures.bounds
    c.squared_distance-gap.ensures.value)

pub loop-t-preserved : goal.loop-t-preserved
loop-t-preserved c =
    let changed = length-changes_from 0 (pos 0) (years_in c.args.years.now c.args.parts.now)
    (c.args.u.now ++ pos 0 ∷ []) c.args.ind.now in
    let least : pos 0 ≤ℤ c.squared_distance-gap.result = at_least_zero _ _ c.squared_distance-gap.ensures.value in
    let fits : FitsSigned w128 (to_z w128 c.loop-t.gap-bits +ℤ c.squared_distance-gap.result) =
    omega (arith, machine) in
    let step = total_after (to_z w128 (of_z w128 c.power_of_ten-unit.result))
    (gap_by (to_z w128 (of_z w128 c.power_of_ten-unit.result)) c.args.ind.now c.args.x.now
    (changes (years_in c.args.years.now c.args.parts.now) c.args.u.now c.args.ind.now))
    (to_z w128 c.loop-t.gap-bits) c.squared_distance-gap.result c.loop-t.t c.args.ind.now c.args.x.now
    (changes (years_in c.args.years.now c.args.parts.now) c.args.u.now c.args.ind.now) (omega arith) (omega arith)
    c.requires.quarters.same_length changed c.loop-t.invariant.total (squared c) in
    let back : c.loop-t.t + 1 - 1 ≡ c.loop-t.t = omega arith in
    record {
      total = grind (arith, to_z-of_z);
      bounds = rw back c.ratio_at-now.ensures.bounds;
      size = c.ratio_at-now.ensures.size;
      ended = rw back c.ended_at-ended.ensures;
      least = omega (arith, machine);
      most = omega (arith, machine);
    }
