use Rattle.std.proofs.Common.{rules, arith, ◌≡◌, ◌+◌, ◌*◌, ℕ, suc, ℤ, List, IsTrue, false, inl, inr, pos, length, replicate, ap, sym, ◌∙◌, subst}
use Rattle.denton_parts.specs.Year.{BenchmarkedYear}
use Rattle.denton_parts.specs.Years.{years_apart, places_apart}
use Rattle.denton_parts.proofs.Places.{parts_in_range}
use Rattle.denton_solve.specs.Conditions.{AreMultipliers, AreScaled}
use Rattle.denton_solve.specs.Sweeps.{sweep_of, no_multipliers}
use Rattle.denton_solve.proofs.Joints.{apart_places, apart_count, multipliers_shift, enough_shift}
use Rattle.denton_solve.proofs.Pairs.{zeros_at, zeros_small, multipliers_of-is, multipliers_found, one_moving, both_moving, enough_least, steps_made, steps_first, steps_second, steps_next, steps_whole}
use Rattle.denton_solve.proofs.Scaled.{scaled, scale_most}
use Rattle.denton_solve.proofs.Settling.{parts_settled}
use Rattle.denton_solve.proofs.Steps.{sweep_of-sizes, iterated-none, iterated-pair, ends_first, ends_second}
use Rattle.denton_solve.proofs.solve.Goals as goal

pub sweep-requires-clause-scale : goal.sweep-requires-clause-scale
sweep-requires-clause-scale g c =
    let places = apart_places 0 c.args.miss.now c.args.parts.now c.requires.between in
    let e = c.requires.scale (places_apart 0 c.args.miss.now) places in
    rw e (scale_most (years_apart 0 c.args.miss.now c.args.parts.now))

pub sweep-requires-clause-scaled : goal.sweep-requires-clause-scaled
sweep-requires-clause-scaled g c =
    let places = apart_places 0 c.args.miss.now c.args.parts.now c.requires.between in
    let e = c.requires.scale (places_apart 0 c.args.miss.now) places in
    subst (λ (k : ℕ). AreScaled k (years_apart 0 c.args.miss.now c.args.parts.now)) (sym e)
    (scaled (years_apart 0 c.args.miss.now c.args.parts.now)
    (parts_in_range (places_apart 0 c.args.miss.now) c.args.parts.now))

pub sweep-requires-clause-sizes : goal.sweep-requires-clause-sizes
sweep-requires-clause-sizes g c = c.loop-pair.invariant.sizes

pub sweep-requires-in-loop-pair-clause-scale : goal.sweep-requires-in-loop-pair-clause-scale
sweep-requires-in-loop-pair-clause-scale g c =
    let places = apart_places 0 c.args.miss.now c.args.parts.now c.requires.between in
    let e = c.requires.scale (places_apart 0 c.args.miss.now) places in
    rw e (scale_most (years_apart 0 c.args.miss.now c.args.parts.now))

pub sweep-requires-in-loop-pair-clause-scaled : goal.sweep-requires-in-loop-pair-clause-scaled
sweep-requires-in-loop-pair-clause-scaled g c =
    let places = apart_places 0 c.args.miss.now c.args.parts.now c.requires.between in
    let e = c.requires.scale (places_apart 0 c.args.miss.now) places in
    subst (λ (k : ℕ). AreScaled k (years_apart 0 c.args.miss.now c.args.parts.now)) (sym e)
    (scaled (years_apart 0 c.args.miss.now c.args.parts.now)
    (parts_in_range (places_apart 0 c.args.miss.now) c.args.parts.now))

pub sweep-requires-in-loop-pair-clause-sizes : goal.sweep-requires-in-loop-pair-clause-sizes
sweep-requires-in-loop-pair-clause-sizes g c =
    let P : List ℤ → Type 0 = λ u. AreMultipliers u in
    subst P (sym c.sweep.ensures.value)
    (sweep_of-sizes c.args.scale (years_apart 0 c.args.miss.now c.args.parts.now) c.loop-pair.u)

pub loop-pair-init : goal.loop-pair-init
loop-pair-init g c =
    let years : List BenchmarkedYear = years_apart 0 c.args.miss.now c.args.parts.now in
    let zeros : c.fill.new.self ≡ replicate (length c.args.u.now) (pos 0) = c.fill.ensures.after (λ y e. e) in
    let spares : c.fill-2.new.self ≡ replicate (length c.split_at_mut-row.result.0.now) (pos 0) =
    c.fill-2.ensures.after (λ y e. e) in
    let same : length c.split_at_mut-row.result.0.now ≡ length c.args.u.now = omega arith in
    let count : length c.args.u.now + 1 ≡ length (years_apart 0 c.args.miss.now c.args.parts.now) =
    omega (arith, apart_count 0 c.args.miss.now c.args.parts.now c.requires.between) in
    record {
      made = zeros_at years c.fill.new.self c.args.u.now count zeros
          ∙ sym (iterated-none (sweep_of c.args.scale years) (no_multipliers years));
      between = inr (spares ∙ ap (λ n. replicate n (pos 0)) same ∙ sym zeros);
      sizes = let P : List ℤ → Type 0 = λ u. AreMultipliers u in
          subst P (sym zeros) (zeros_small (length c.args.u.now));
      moving = λ n h same. omega arith;
      lengths = omega arith;
      row_length = omega arith;
      count = omega arith;
    }

pub loop-pair-preserved : goal.loop-pair-preserved
loop-pair-preserved g c =
    let years : List BenchmarkedYear = years_apart 0 c.args.miss.now c.args.parts.now in
    let f : List ℤ → List ℤ = sweep_of c.args.scale years in
    let P : List ℤ → Type 0 = λ u. AreMultipliers u in
    let same : length c.sweep-in-loop-pair.new.into ≡ length c.loop-pair.u = omega arith in
    let steps = steps_next c.args.steps.now c.loop-pair.steps c.loop-pair._pair (length c.loop-pair.u)
    c.loop-pair.invariant.count in
    record {
      made = iterated-pair f (no_multipliers years) c.loop-pair.u c.sweep.new.into c.sweep-in-loop-pair.new.into
          c.loop-pair._pair c.loop-pair.invariant.made c.sweep.ensures.value c.sweep-in-loop-pair.ensures.value;
      between = inl (sym c.sweep-in-loop-pair.ensures.value);
      sizes = subst P (sym c.sweep-in-loop-pair.ensures.value) (sweep_of-sizes c.args.scale years c.sweep.new.into);
      moving = both_moving c.args.scale years c.loop-pair._pair c.loop-pair.u c.sweep.new.into
          c.sweep-in-loop-pair.new.into c.loop-pair.invariant.moving c.loop-pair.invariant.made c.sweep.ensures.value
          c.sweep-in-loop-pair.ensures.value
          (λ e. let yes = c.sweep.ensures.still e in let no : c.sweep.result ≡ false = search rules in cc)
          (λ e. let yes = c.sweep-in-loop-pair.ensures.still e in
          let no : c.sweep-in-loop-pair.result ≡ false = search rules in cc);
      lengths = omega arith;
      row_length = omega arith;
      count = rw same (omega arith);
    }

pub returns-then-sweep-clause-multipliers : goal.returns-then-sweep-clause-multipliers
returns-then-sweep-clause-multipliers g c = λ first.
    let years : List BenchmarkedYear = years_apart 0 c.args.miss.now c.args.parts.now in
    let yes : IsTrue c.sweep.result = search rules in
    multipliers_found c.args.scale years c.loop-pair.u c.loop-pair._pair (omega arith) c.loop-pair.invariant.made
    (ends_first (sweep_of c.args.scale years) c.loop-pair.u c.loop-pair.row c.sweep.new.into
    c.loop-pair.invariant.between c.sweep.ensures.value (c.sweep.ensures.back yes))
    ∙ multipliers_shift c.args.scale 0 first c.args.miss.now c.args.parts.now c.requires.between

pub returns-then-sweep-clause-sizes : goal.returns-then-sweep-clause-sizes
returns-then-sweep-clause-sizes g c = c.loop-pair.invariant.sizes

pub returns-then-sweep-clause-residuals : goal.returns-then-sweep-clause-residuals
returns-then-sweep-clause-residuals g c = λ first.
    parts_settled c.args.scale first c.args.miss.now c.args.parts.now _ c.requires.between c.requires.scale
    (returns-then-sweep-clause-multipliers g c first)

pub returns-then-sweep-clause-steps : goal.returns-then-sweep-clause-steps
returns-then-sweep-clause-steps g c = λ first sweeps enough.
    let years : List BenchmarkedYear = years_apart 0 c.args.miss.now c.args.parts.now in
    let made = steps_first c.args.steps.now c.loop-pair.steps c.loop-pair._pair (length c.loop-pair.u)
    c.loop-pair.invariant.count in
    let least = enough_least c.args.scale years (2 * c.loop-pair._pair) sweeps (omega arith)
    c.loop-pair.invariant.moving
    (enough_shift c.args.scale first 0 c.args.miss.now c.args.parts.now sweeps c.requires.between enough) in
    steps_made c.args.steps.now c.sweep.new.steps (2 * c.loop-pair._pair + 1) sweeps (length c.loop-pair.u)
    (length c.args.parts.now) (omega arith) (omega arith) (omega arith)

pub returns-then-sweep-2-clause-multipliers : goal.returns-then-sweep-2-clause-multipliers
returns-then-sweep-2-clause-multipliers g c = λ first.
    let years : List BenchmarkedYear = years_apart 0 c.args.miss.now c.args.parts.now in
    let f : List ℤ → List ℤ = sweep_of c.args.scale years in
    let yes : IsTrue c.sweep-in-loop-pair.result = search rules in
    multipliers_found c.args.scale years c.sweep-in-loop-pair.new.into (c.loop-pair._pair + 1) (omega arith)
    (iterated-pair f (no_multipliers years) c.loop-pair.u c.sweep.new.into c.sweep-in-loop-pair.new.into
    c.loop-pair._pair c.loop-pair.invariant.made c.sweep.ensures.value c.sweep-in-loop-pair.ensures.value)
    (ends_second f c.loop-pair.u c.sweep.new.into c.sweep-in-loop-pair.new.into c.sweep.ensures.value
    c.sweep-in-loop-pair.ensures.value (c.sweep-in-loop-pair.ensures.back yes))
    ∙ multipliers_shift c.args.scale 0 first c.args.miss.now c.args.parts.now c.requires.between

pub returns-then-sweep-2-clause-sizes : goal.returns-then-sweep-2-clause-sizes
returns-then-sweep-2-clause-sizes g c =
    let P : List ℤ → Type 0 = λ u. AreMultipliers u in
    subst P (sym c.sweep-in-loop-pair.ensures.value)
    (sweep_of-sizes c.args.scale (years_apart 0 c.args.miss.now c.args.parts.now) c.sweep.new.into)

pub returns-then-sweep-2-clause-residuals : goal.returns-then-sweep-2-clause-residuals
returns-then-sweep-2-clause-residuals g c = λ first.
    parts_settled c.args.scale first c.args.miss.now c.args.parts.now _ c.requires.between c.requires.scale
    (returns-then-sweep-2-clause-multipliers g c first)

pub returns-then-sweep-2-clause-steps : goal.returns-then-sweep-2-clause-steps
returns-then-sweep-2-clause-steps g c = λ first sweeps enough.
    let years : List BenchmarkedYear = years_apart 0 c.args.miss.now c.args.parts.now in
    let made = steps_second c.args.steps.now c.loop-pair.steps c.loop-pair._pair (length c.loop-pair.u)
    c.loop-pair.invariant.count in
    let moving = one_moving c.args.scale years c.loop-pair._pair c.loop-pair.u c.sweep.new.into
    c.loop-pair.invariant.moving c.loop-pair.invariant.made c.sweep.ensures.value
    (λ e. let yes = c.sweep.ensures.still e in let no : c.sweep.result ≡ false = search rules in cc) in
    let least = enough_least c.args.scale years (suc (2 * c.loop-pair._pair)) sweeps (omega arith) moving
    (enough_shift c.args.scale first 0 c.args.miss.now c.args.parts.now sweeps c.requires.between enough) in
    steps_made c.args.steps.now c.sweep-in-loop-pair.new.steps (2 * c.loop-pair._pair + 2) sweeps (length c.loop-pair.u)
    (length c.args.parts.now) (omega arith) (omega arith) (omega arith)

pub returns-clause-multipliers : goal.returns-clause-multipliers
returns-clause-multipliers g c = λ first.
    multipliers_of-is c.args.scale (years_apart 0 c.args.miss.now c.args.parts.now) c.loop-pair.u c.loop-pair._pair
    (omega arith) c.loop-pair.invariant.made
    ∙ multipliers_shift c.args.scale 0 first c.args.miss.now c.args.parts.now c.requires.between

pub returns-clause-sizes : goal.returns-clause-sizes
returns-clause-sizes g c = c.loop-pair.invariant.sizes

pub returns-clause-residuals : goal.returns-clause-residuals
returns-clause-residuals g c = λ first.
    parts_settled c.args.scale first c.args.miss.now c.args.parts.now _ c.requires.between c.requires.scale
    (returns-clause-multipliers g c first)

pub returns-clause-steps : goal.returns-clause-steps
returns-clause-steps g c = λ first sweeps enough.
    let years : List BenchmarkedYear = years_apart 0 c.args.miss.now c.args.parts.now in
    let made = steps_whole c.args.steps.now c.loop-pair.steps c.loop-pair._pair (length c.loop-pair.u)
    c.loop-pair.invariant.count in
    let least = enough_least c.args.scale years 191 sweeps (omega arith)
    (λ n h. c.loop-pair.invariant.moving n (omega arith))
    (enough_shift c.args.scale first 0 c.args.miss.now c.args.parts.now sweeps c.requires.between enough) in
    steps_made c.args.steps.now c.loop-pair.steps (2 * c.loop-pair._pair) sweeps (length c.loop-pair.u)
    (length c.args.parts.now) (omega arith) (omega arith) (omega arith)
