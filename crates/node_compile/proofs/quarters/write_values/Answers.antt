use Rattle.std.proofs.Common.{◌≡◌, ◌∙◌, ◌+◌, ◌*◌, ◌++◌, ◌≤◌, ◌<◌, ◌^◌, ℕ, zero, suc, ℤ, pos, List, ◌∷◌, [], ap, sym, subst, arith, drop, get_or, take, length, to_z, of_z, FitsSigned}
use Rattle.std.proofs.lemmas.Int.{ints, to_z-of_z}
use Rattle.std.specs.Int.{w128}
use Rattle.denton_parts.specs.Year.{BenchmarkedYear, IsMultiplier}
use Rattle.denton_parts.specs.Years.{year_in, years_in}
use Rattle.denton_parts.proofs.Places.{years_in-length, parts_in_range}
use Rattle.denton_solve.specs.Series.{series_of, year_series}
use Rattle.denton_solve.specs.Sweeps.{first_of}
use Rattle.denton_solve.proofs.Scaled.{parts_scale_most, parts_scale_least}
use Rattle.denton_solve.proofs.Steps.{first_of-drop}
use Rattle.denton_solve.proofs.Values.{series_at, series_count}
use Rattle.extrapolate.specs.Carried.{carried_of}
use Rattle.node_compile.specs.Leaf.{run_values}
use Rattle.node_compile.proofs.Behind.{Reach, run_reach}
use Rattle.node_compile.proofs.Filling.{IsFilledTo, nowhere, filled_start, filled_more, filled_end, across_same}
use Rattle.node_compile.proofs.Standing.{places_of, year_shown, part_scaled, parts_small}
use Rattle.node_compile.proofs.Values.{quarters_in_range, values_below}
use Rattle.node_compile.proofs.quarters.write_values.Goals as goal

pub write_before-requires-clause-scale : goal.write_before-requires-clause-scale
write_before-requires-clause-scale c = parts_scale_most c.args.scale c.args.parts.now c.requires.scale

pub write_before-requires-clause-scaled : goal.write_before-requires-clause-scaled
write_before-requires-clause-scaled c =
    part_scaled c.args.scale c.args.parts.now 0 (get_or c.args.years.now 0 0) c.index-parts-0.result (omega arith)
    c.index-parts-0.is c.requires.scale

pub write_before-requires-clause-inside : goal.write_before-requires-clause-inside
write_before-requires-clause-inside c =
    let are = places_of c.args.ind.now c.args.years.now c.args.parts.now c.requires.placed c.requires.years in
    let room = are.whole_years 0 0 (omega arith) in
    omega arith

pub write_year-requires-clause-inside : goal.write_year-requires-clause-inside
write_year-requires-clause-inside c =
    let run : List BenchmarkedYear = years_in c.args.years.now c.args.parts.now in
    let count : length c.args.benchmarked.now ≡ 4 * length run =
    ap (λ (xs : List ℤ). length xs) c.requires.series
    ∙ series_count c.args.scale run c.args.u.now (parts_in_range c.args.years.now c.args.parts.now) in
    let years = years_in-length c.args.years.now c.args.parts.now c.requires.placed in
    omega arith

pub write_year-requires-clause-room : goal.write_year-requires-clause-room
write_year-requires-clause-room c =
    let are = places_of c.args.ind.now c.args.years.now c.args.parts.now c.requires.placed c.requires.years in
    let room = are.whole_years c.loop-y.y 0 (omega arith) in
    let count = c.loop-y.invariant.count in
    omega arith

pub write_between-requires-clause-around : goal.write_between-requires-clause-around
write_between-requires-clause-around c =
    let before : FitsSigned w128 c.multiplier_before.result = omega (arith, ints) in
    let own_range : IsMultiplier (get_or c.args.u.now c.loop-y.y (pos 0)) = c.requires.multipliers c.loop-y.y (omega arith) in
    let own : FitsSigned w128 (get_or c.args.u.now c.loop-y.y (pos 0)) = omega (arith, ints) in
    let after : FitsSigned w128 c.multiplier_after-in-loop-y.result = omega (arith, ints) in
    each _ _ _ (subst IsMultiplier (sym (to_z-of_z w128 _ before)) c.multiplier_before.ensures.size)
    (subst IsMultiplier (sym (to_z-of_z w128 _ own)) own_range)
    (subst IsMultiplier (sym (to_z-of_z w128 _ after)) c.multiplier_after-in-loop-y.ensures.size)
  where
    each : (l m r : ℤ) → IsMultiplier l → IsMultiplier m → IsMultiplier r → (i : ℕ) → i < 3 →
        IsMultiplier (get_or (l ∷ m ∷ r ∷ []) i (pos 0))
    each l m r hl hm hr zero inside = hl
    each l m r hl hm hr (suc zero) inside = hm
    each l m r hl hm hr (suc (suc zero)) inside = hr
    each l m r hl hm hr (suc (suc (suc i))) inside = absurd (omega arith)

pub write_between-requires-clause-scale : goal.write_between-requires-clause-scale
write_between-requires-clause-scale c = parts_scale_most c.args.scale c.args.parts.now c.requires.scale

pub write_between-requires-clause-left_scaled : goal.write_between-requires-clause-left_scaled
write_between-requires-clause-left_scaled c =
    part_scaled c.args.scale c.args.parts.now c.loop-y.y (get_or c.args.years.now c.loop-y.y 0) c.index-parts-y.result
    (omega arith) c.index-parts-y.is c.requires.scale

pub write_between-requires-clause-right_scaled : goal.write_between-requires-clause-right_scaled
write_between-requires-clause-right_scaled c =
    part_scaled c.args.scale c.args.parts.now (c.loop-y.y + 1) (get_or c.args.years.now (c.loop-y.y + 1) 0)
    c.index-parts-y-in-loop-y.result (omega arith) c.index-parts-y-in-loop-y.is c.requires.scale

pub write_between-requires-clause-rising : goal.write_between-requires-clause-rising
write_between-requires-clause-rising c =
    let are = places_of c.args.ind.now c.args.years.now c.args.parts.now c.requires.placed c.requires.years in
    are.rising c.loop-y.y (omega arith)

pub write_between-requires-clause-inside : goal.write_between-requires-clause-inside
write_between-requires-clause-inside c =
    let are = places_of c.args.ind.now c.args.years.now c.args.parts.now c.requires.placed c.requires.years in
    are.whole_years (c.loop-y.y + 1) 0 (omega arith)

pub loop-y-preserved : goal.loop-y-preserved
loop-y-preserved c =
    let k : ℕ = c.args.scale in
    let places : List ℕ = c.args.years.now in
    let run : List BenchmarkedYear = years_in c.args.years.now c.args.parts.now in
    let u : List ℤ = c.args.u.now in
    let y : ℕ = c.loop-y.y in
    let range = parts_in_range c.args.years.now c.args.parts.now in
    let count = years_in-length c.args.years.now c.args.parts.now c.requires.placed in
    let year : BenchmarkedYear = year_in (get_or places y 0) c.index-parts-y.result in
    let next : BenchmarkedYear = year_in (get_or places (y + 1) 0) c.index-parts-y-in-loop-y.result in
    let e_year : year ≡ get_or run y nowhere =
    year_shown places c.args.parts.now y nowhere c.index-parts-y.result c.requires.placed (omega arith)
    c.index-parts-y.is in
    let e_next : next ≡ get_or run (y + 1) nowhere =
    year_shown places c.args.parts.now (y + 1) nowhere c.index-parts-y-in-loop-y.result c.requires.placed (omega arith)
    c.index-parts-y-in-loop-y.is in
    let four : List ℤ = take 4 (drop (4 * y) c.args.benchmarked.now) in
    let e_four : four ≡ year_series k year (get_or (pos 0 ∷ u) y (pos 0)) (first_of (drop y u)) =
    ap (λ (xs : List ℤ). take 4 (drop (4 * y) xs)) c.requires.series
    ∙ series_at k run u y nowhere range (omega arith)
    ∙ ap (λ (at : BenchmarkedYear). year_series k at (get_or (pos 0 ∷ u) y (pos 0)) (first_of (drop y u))) (sym e_year) in
    let before : FitsSigned w128 c.multiplier_before.result = omega (arith, ints) in
    let own_range : IsMultiplier (get_or u y (pos 0)) = c.requires.multipliers y (omega arith) in
    let own : FitsSigned w128 (get_or u y (pos 0)) = omega (arith, ints) in
    let after : FitsSigned w128 c.multiplier_after-in-loop-y.result = omega (arith, ints) in
    let e_across = across_same k year next _ _ _ (get_or (pos 0 ∷ u) y (pos 0)) (first_of (drop y u))
    (first_of (drop (y + 1) u)) _ (to_z-of_z w128 _ before ∙ c.multiplier_before.ensures.value)
    (to_z-of_z w128 _ own ∙ sym (first_of-drop u y))
    (to_z-of_z w128 _ after ∙ c.multiplier_after-in-loop-y.ensures.value) in
    let from : ℕ = 4 * year.place + 4 in
    filled_more k run u c.args.ind.now c.loop-y.out four c.write_year.new.out c.write_between.new.out year next y
    (omega arith) c.requires.years range e_year e_next e_four c.write_year.ensures
    (c.write_between.ensures
    ∙ ap (λ (xs : List ℤ). take from c.write_year.new.out ++ (xs ++ drop (4 * next.place) c.write_year.new.out)) e_across)
    c.loop-y.invariant

pub write_year-requires-2-clause-inside : goal.write_year-requires-2-clause-inside
write_year-requires-2-clause-inside c =
    let run : List BenchmarkedYear = years_in c.args.years.now c.args.parts.now in
    let count : length c.args.benchmarked.now ≡ 4 * length run =
    ap (λ (xs : List ℤ). length xs) c.requires.series
    ∙ series_count c.args.scale run c.args.u.now (parts_in_range c.args.years.now c.args.parts.now) in
    let years = years_in-length c.args.years.now c.args.parts.now c.requires.placed in
    omega arith

pub write_year-requires-2-clause-room : goal.write_year-requires-2-clause-room
write_year-requires-2-clause-room c =
    let are = places_of c.args.ind.now c.args.years.now c.args.parts.now c.requires.placed c.requires.years in
    let room = are.whole_years (length c.args.u.now) 0 (omega arith) in
    let count = c.loop-y.invariant.count in
    omega arith

pub write_behind-requires-clause-scale : goal.write_behind-requires-clause-scale
write_behind-requires-clause-scale c = parts_scale_most c.args.scale c.args.parts.now c.requires.scale

pub write_behind-requires-clause-scaled : goal.write_behind-requires-clause-scaled
write_behind-requires-clause-scaled c =
    part_scaled c.args.scale c.args.parts.now (length c.args.u.now) (get_or c.args.years.now (length c.args.u.now) 0)
    c.index-parts-last.result (omega arith) c.index-parts-last.is c.requires.scale

pub write_behind-requires-clause-inside : goal.write_behind-requires-clause-inside
write_behind-requires-clause-inside c =
    let are = places_of c.args.ind.now c.args.years.now c.args.parts.now c.requires.placed c.requires.years in
    are.whole_years (length c.args.u.now) 0 (omega arith)

pub returns-clause-values : goal.returns-clause-values
returns-clause-values c =
    let k : ℕ = c.args.scale in
    let places : List ℕ = c.args.years.now in
    let run : List BenchmarkedYear = years_in c.args.years.now c.args.parts.now in
    let u : List ℤ = c.args.u.now in
    let y : ℕ = length c.args.u.now in
    let range = parts_in_range c.args.years.now c.args.parts.now in
    let count = years_in-length c.args.years.now c.args.parts.now c.requires.placed in
    let all : c.loop-y.y ≡ y = omega arith in
    let year : BenchmarkedYear = year_in (get_or places y 0) c.index-parts-last.result in
    let e_year : year ≡ get_or run y nowhere =
    year_shown places c.args.parts.now y nowhere c.index-parts-last.result c.requires.placed (omega arith)
    c.index-parts-last.is in
    let four : List ℤ = take 4 (drop (4 * y) c.args.benchmarked.now) in
    let e_four : four ≡ year_series k year (get_or (pos 0 ∷ u) y (pos 0)) (first_of (drop y u)) =
    ap (λ (xs : List ℤ). take 4 (drop (4 * y) xs)) c.requires.series
    ∙ series_at k run u y nowhere range (omega arith)
    ∙ ap (λ (at : BenchmarkedYear). year_series k at (get_or (pos 0 ∷ u) y (pos 0)) (first_of (drop y u))) (sym e_year) in
    let left : FitsSigned w128 c.multiplier_before-left.result = omega (arith, ints) in
    let from : ℕ = 4 * year.place + 4 in
    let passed = ap (λ (z : ℤ). take from c.write_year-2.new.out ++ carried_of k year z (drop from c.args.ind.now))
    (to_z-of_z w128 _ left ∙ c.multiplier_before-left.ensures.value) in
    filled_end k run u c.args.ind.now c.loop-y.out four c.write_year-2.new.out c.write_behind.new.out year y (omega arith)
    c.requires.years range e_year e_four c.write_year-2.ensures (c.write_behind.ensures ∙ passed)
    (subst (λ (n : ℕ). IsFilledTo k run u c.args.ind.now c.loop-y.out n) all c.loop-y.invariant)

pub returns-clause-quarters : goal.returns-clause-quarters
returns-clause-quarters c =
    let run : List BenchmarkedYear = years_in c.args.years.now c.args.parts.now in
    let count = years_in-length c.args.years.now c.args.parts.now c.requires.placed in
    let small = parts_small c.args.scale c.args.years.now c.args.parts.now c.args.u.now c.args.ind.now c.requires.placed
    c.requires.scale c.requires.multipliers c.requires.indicators in
    let reach : Reach c.args.scale c.args.ind.now c.write_behind.new.out =
    subst (λ (xs : List ℤ). Reach c.args.scale c.args.ind.now xs) (sym (returns-clause-values c))
    (run_reach c.args.scale run c.args.u.now c.args.ind.now (omega arith) c.requires.years small) in
    quarters_in_range c.args.scale c.args.ind.now c.write_behind.new.out small.scale c.requires.few c.requires.indicators
    reach

pub returns-clause-sizes : goal.returns-clause-sizes
returns-clause-sizes c =
    let run : List BenchmarkedYear = years_in c.args.years.now c.args.parts.now in
    let count = years_in-length c.args.years.now c.args.parts.now c.requires.placed in
    let small = parts_small c.args.scale c.args.years.now c.args.parts.now c.args.u.now c.args.ind.now c.requires.placed
    c.requires.scale c.requires.multipliers c.requires.indicators in
    let reach : Reach c.args.scale c.args.ind.now c.write_behind.new.out =
    subst (λ (xs : List ℤ). Reach c.args.scale c.args.ind.now xs) (sym (returns-clause-values c))
    (run_reach c.args.scale run c.args.u.now c.args.ind.now (omega arith) c.requires.years small) in
    values_below c.args.scale c.args.ind.now c.write_behind.new.out
    (parts_scale_least c.args.scale c.args.parts.now c.requires.scale) c.requires.indicators reach
