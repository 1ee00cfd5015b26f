use Rattle.std.proofs.Common.{◌≡◌, ◌≤◌, ◌+◌, ◌-◌, ◌*◌, ◌^◌, ◌∙◌, ℕ, ℤ, pos, List, Some, map, length, ap, arith, sym, subst, to_z, of_z, to_z-of_z}
use Rattle.std.specs.Prelude.{slice_index}
use Rattle.std.specs.Int.{w128}
use Rattle.std.specs.List.{All}
use Rattle.std.proofs.lemmas.List.{length-map}
use Rattle.denton_parts.specs.Changes.{changes}
use Rattle.denton_parts.specs.Gap.{gap_by}
use Rattle.denton_parts.specs.Year.{BenchmarkedYear}
use Rattle.denton_parts.specs.Years.{ArePlaces, years_at}
use Rattle.denton_parts.specs.declared.year.YearPart.{YearPart}
use Rattle.denton_solve.specs.Sweeps.{multipliers_of}
use Rattle.price_base.specs.Volumes.{volumes_of}
use Rattle.price_base.specs.declared.Cell.{Cell}
use Rattle.price_base.specs.declared.Cell.TheVariants.{Value}
use Rattle.annual_overlap.specs.Years.{IsSizedCell}
use Rattle.node_compile.specs.Leaf.{run_values, chained_table}
use Rattle.node_compile.specs.Table.{Table}
use Rattle.node_compile.specs.Shape.{IsBenchmarked}
use Rattle.node_compile.proofs.Outcomes.{if_ok}
use Rattle.node_compile.proofs.Runs.{numbers_are}
use Rattle.node_compile.proofs.Sizes.{values_sized, volumes_sized, wider}
use Rattle.node_compile.proofs.Standing.{AreMade, made_apart, made_years, made_scale, made_steps, places_few}
use Rattle.node_compile.proofs.Values.{for_this}
use Rattle.node_compile.proofs.Worth.{table_made}
use Rattle.node_compile.proofs.leaf.benchmarked_table.Goals as goal

pub solved-requires-clause-most : goal.solved-requires-clause-most
solved-requires-clause-most g c =
    let few = places_few (length c.args.ind.items) c.args.years.items c.requires.whole_years in
    let count = rw c.deref-3.ensures.value at c.in_ok-parts.ensures.count in
    rw c.deref-6.ensures.value (omega arith)

pub returns-in_err-u-clause-steps : goal.returns-in_err-u-clause-steps
returns-in_err-u-clause-steps g c sweeps enough =
    let made : AreMade c.args.ind.items c.args.years.items c.args.bench.items c.in_ok-parts.parts.items
    c.in_ok-miss.miss.items = record {
      shown = rw (c.deref.ensures.value, c.deref-2.ensures.value, c.deref-3.ensures.value) at c.in_ok-parts.ensures.years;
      count = rw c.deref-3.ensures.value at c.in_ok-parts.ensures.count;
      apart = rw c.deref-4.ensures.value at c.in_ok-miss.ensures.apart;
    } in
    let scale = made_scale c.args.ind.items c.args.years.items c.args.bench.items c.in_ok-parts.parts.items
    c.in_ok-miss.miss.items c.scale_of-scale.result made c.requires.placed
    (rw c.deref-5.ensures.value at c.scale_of-scale.ensures.value) in
    made_steps c.args.ind.items c.args.years.items c.args.bench.items c.in_ok-parts.parts.items c.in_ok-miss.miss.items
    c.scale_of-scale.result c.args.steps.now c.solved.new.steps sweeps made scale
    (rw (c.deref-6.ensures.value, c.deref-7.ensures.value) at c.solved.ensures.steps) enough

pub values_of-requires-clause-most : goal.values_of-requires-clause-most
values_of-requires-clause-most g c =
    let few = places_few (length c.args.ind.items) c.args.years.items c.requires.whole_years in
    let count = rw c.deref-3.ensures.value at c.in_ok-parts.ensures.count in
    rw c.deref-8.ensures.value (omega arith)

pub values_of-requires-clause-years : goal.values_of-requires-clause-years
values_of-requires-clause-years g c =
    let made : AreMade c.args.ind.items c.args.years.items c.args.bench.items c.in_ok-parts.parts.items
    c.in_ok-miss.miss.items = record {
      shown = rw (c.deref.ensures.value, c.deref-2.ensures.value, c.deref-3.ensures.value) at c.in_ok-parts.ensures.years;
      count = rw c.deref-3.ensures.value at c.in_ok-parts.ensures.count;
      apart = rw c.deref-4.ensures.value at c.in_ok-miss.ensures.apart;
    } in
    rw (c.deref-8.ensures.value, c.deref-9.ensures.value, c.deref-11.ensures.value)
    (made_years c.args.ind.items c.args.years.items c.args.bench.items c.in_ok-parts.parts.items
    c.in_ok-miss.miss.items made c.requires.placed c.requires.whole_years)

pub returns-in_err-values-clause-steps : goal.returns-in_err-values-clause-steps
returns-in_err-values-clause-steps g c sweeps enough =
    let made : AreMade c.args.ind.items c.args.years.items c.args.bench.items c.in_ok-parts.parts.items
    c.in_ok-miss.miss.items = record {
      shown = rw (c.deref.ensures.value, c.deref-2.ensures.value, c.deref-3.ensures.value) at c.in_ok-parts.ensures.years;
      count = rw c.deref-3.ensures.value at c.in_ok-parts.ensures.count;
      apart = rw c.deref-4.ensures.value at c.in_ok-miss.ensures.apart;
    } in
    let scale = made_scale c.args.ind.items c.args.years.items c.args.bench.items c.in_ok-parts.parts.items
    c.in_ok-miss.miss.items c.scale_of-scale.result made c.requires.placed
    (rw c.deref-5.ensures.value at c.scale_of-scale.ensures.value) in
    made_steps c.args.ind.items c.args.years.items c.args.bench.items c.in_ok-parts.parts.items c.in_ok-miss.miss.items
    c.scale_of-scale.result c.args.steps.now c.solved.new.steps sweeps made scale
    (rw (c.deref-6.ensures.value, c.deref-7.ensures.value) at c.in_ok-u.ensures.steps) enough

pub gap_of-gap-requires-clause-years : goal.gap_of-gap-requires-clause-years
gap_of-gap-requires-clause-years g c =
    let made : AreMade c.args.ind.items c.args.years.items c.args.bench.items c.in_ok-parts.parts.items
    c.in_ok-miss.miss.items = record {
      shown = rw (c.deref.ensures.value, c.deref-2.ensures.value, c.deref-3.ensures.value) at c.in_ok-parts.ensures.years;
      count = rw c.deref-3.ensures.value at c.in_ok-parts.ensures.count;
      apart = rw c.deref-4.ensures.value at c.in_ok-miss.ensures.apart;
    } in
    rw (c.deref-12.ensures.value, c.deref-13.ensures.value, c.deref-15.ensures.value)
    (made_years c.args.ind.items c.args.years.items c.args.bench.items c.in_ok-parts.parts.items
    c.in_ok-miss.miss.items made c.requires.placed c.requires.whole_years)

pub returns-in_err-flows-clause-steps : goal.returns-in_err-flows-clause-steps
returns-in_err-flows-clause-steps g c sweeps enough =
    let made : AreMade c.args.ind.items c.args.years.items c.args.bench.items c.in_ok-parts.parts.items
    c.in_ok-miss.miss.items = record {
      shown = rw (c.deref.ensures.value, c.deref-2.ensures.value, c.deref-3.ensures.value) at c.in_ok-parts.ensures.years;
      count = rw c.deref-3.ensures.value at c.in_ok-parts.ensures.count;
      apart = rw c.deref-4.ensures.value at c.in_ok-miss.ensures.apart;
    } in
    let scale = made_scale c.args.ind.items c.args.years.items c.args.bench.items c.in_ok-parts.parts.items
    c.in_ok-miss.miss.items c.scale_of-scale.result made c.requires.placed
    (rw c.deref-5.ensures.value at c.scale_of-scale.ensures.value) in
    made_steps c.args.ind.items c.args.years.items c.args.bench.items c.in_ok-parts.parts.items c.in_ok-miss.miss.items
    c.scale_of-scale.result c.args.steps.now c.solved.new.steps sweeps made scale
    (rw (c.deref-6.ensures.value, c.deref-7.ensures.value) at c.in_ok-u.ensures.steps) enough

pub chained-requires-clause-values : goal.chained-requires-clause-values
chained-requires-clause-values g c =
    let values : c.in_ok-flows.flows.value ≡ map Value c.in_ok-values.values.items =
    c.in_ok-flows.ensures.value ∙ ap (λ (l : List ℤ). map Value l) c.deref-17.ensures.value in
    wider (10 ^ 24 - 1) (10 ^ 27) c.in_ok-flows.flows.value (omega arith)
    (values_sized c.in_ok-values.values.items c.in_ok-flows.flows.value values c.in_ok-values.ensures.sizes)

pub chained-requires-clause-volumes : goal.chained-requires-clause-volumes
chained-requires-clause-volumes g c =
    wider (10 ^ 15) (512 * 10 ^ 15) c.in_ok-flows.flows.prev (omega arith)
    (volumes_sized _ _ _ c.in_ok-flows.ensures.prev)

pub chained-requires-clause-benchmarked : goal.chained-requires-clause-benchmarked
chained-requires-clause-benchmarked g c =
    let as_many : length c.in_ok-flows.flows.value ≡ length c.args.ind.items =
    simp length-map at (ap (λ (l : List Cell). length l) c.in_ok-flows.ensures.value)
    ∙ ap (λ (l : List ℤ). length l) c.deref-17.ensures.value ∙ c.in_ok-values.ensures.quarters.same_length
    ∙ ap (λ (l : List ℕ). length l) c.deref-11.ensures.value in
    for_this _ (λ part. IsBenchmarked part.ind.items part.years.items part.bench.items part.cert.u.items
    c.in_ok-flows.flows.value) (record {
      quarters = sym as_many;
      some_year = subst (λ (n : ℕ). 1 ≤ n) c.requires.placed c.requires.some_year;
      placed = c.requires.placed;
      whole_years = subst (λ (n : ℕ). ArePlaces n c.args.years.items) (sym as_many) c.requires.whole_years;
      joints = c.in_ok-u.ensures.joints ∙ ap (λ (l : List YearPart). length l) c.deref-6.ensures.value
          ∙ c.in_ok-parts.ensures.count ∙ ap (λ (l : List ℤ). length l) c.deref-3.ensures.value;
      numbers = numbers_are _ _ c.in_ok-flows.ensures.value;
    })

pub returns-clause-table : goal.returns-clause-table
returns-clause-table g c =
    let ind : List ℕ = c.args.ind.items in
    let places : List ℕ = c.args.years.items in
    let bench : List ℤ = c.args.bench.items in
    let run : List BenchmarkedYear = years_at ind places bench in
    let k : ℕ = c.scale_of-scale.result in
    let u : List ℤ = c.in_ok-u.u.items in
    let values : List ℤ = c.in_ok-values.values.items in
    let made : AreMade c.args.ind.items c.args.years.items c.args.bench.items c.in_ok-parts.parts.items
    c.in_ok-miss.miss.items = record {
      shown = rw (c.deref.ensures.value, c.deref-2.ensures.value, c.deref-3.ensures.value) at c.in_ok-parts.ensures.years;
      count = rw c.deref-3.ensures.value at c.in_ok-parts.ensures.count;
      apart = rw c.deref-4.ensures.value at c.in_ok-miss.ensures.apart;
    } in
    let scale = made_scale c.args.ind.items c.args.years.items c.args.bench.items c.in_ok-parts.parts.items
    c.in_ok-miss.miss.items c.scale_of-scale.result made c.requires.placed
    (rw c.deref-5.ensures.value at c.scale_of-scale.ensures.value) in
    let multipliers : u ≡ multipliers_of k run =
    rw (c.deref-6.ensures.value, c.deref-7.ensures.value) at (c.in_ok-u.ensures.multipliers (slice_index places 0))
    ∙ ap (λ (years : List BenchmarkedYear). multipliers_of k years)
    (made_apart ind places bench c.in_ok-parts.parts.items c.in_ok-miss.miss.items made) in
    let is : values ≡ run_values k run u ind =
    rw (c.deref-8.ensures.value, c.deref-9.ensures.value, c.deref-10.ensures.value, c.deref-11.ensures.value)
    at c.in_ok-values.ensures.values
    ∙ ap (λ (years : List BenchmarkedYear). run_values k years u ind) made.shown in
    let gap : c.gap_of-gap.result ≡ gap_by (pos (10 ^ k)) ind values (changes run u ind) =
    rw (
      c.deref-12.ensures.value,
      c.deref-13.ensures.value,
      c.deref-14.ensures.value,
      c.deref-15.ensures.value,
      c.deref-16.ensures.value,
    ) at c.gap_of-gap.ensures.value
    ∙ ap (λ (years : List BenchmarkedYear). gap_by (pos (10 ^ k)) ind values (changes years u ind)) made.shown in
    let value : c.in_ok-flows.flows.value ≡ map Value values = rw c.deref-17.ensures.value at c.in_ok-flows.ensures.value in
    let prev : c.in_ok-flows.flows.prev ≡ volumes_of values c.args.prices.now =
    rw c.deref-17.ensures.value at c.in_ok-flows.ensures.prev in
    let table = table_made ind c.args.prices.now places bench c.args.reference.0 k u values c.gap_of-gap.result
    c.in_ok-flows.flows.value c.in_ok-flows.flows.prev c.requires.some_year scale multipliers is gap value prev in
    let least = c.gap_of-gap.ensures.least in
    let most = c.gap_of-gap.ensures.most in
    let kept : to_z w128 (of_z w128 c.gap_of-gap.result) ≡ c.gap_of-gap.result = grind (arith, to_z-of_z) in
    let same = ap (λ (n : ℤ). chained_table (Some (record {
      indicators = ind;
      places = places;
      benchmarks = bench;
      scale = k;
      multipliers = u;
      gap = n;
    })) c.in_ok-flows.flows.value c.in_ok-flows.flows.prev c.args.reference.0) kept in
    if_ok c.chained.result _ _ (λ _ e. e ∙ same ∙ table) c.chained.ensures

pub returns-clause-quarters : goal.returns-clause-quarters
returns-clause-quarters g c =
    let as_many : length c.in_ok-flows.flows.value ≡ length c.args.ind.items =
    simp length-map at (ap (λ (l : List Cell). length l) c.in_ok-flows.ensures.value)
    ∙ ap (λ (l : List ℤ). length l) c.deref-17.ensures.value ∙ c.in_ok-values.ensures.quarters.same_length
    ∙ ap (λ (l : List ℕ). length l) c.deref-11.ensures.value in
    if_ok c.chained.result _ _ (λ table e. ap (λ (t : Table). length t.value) e ∙ as_many) c.chained.ensures

pub returns-clause-value_sizes : goal.returns-clause-value_sizes
returns-clause-value_sizes g c =
    let values : c.in_ok-flows.flows.value ≡ map Value c.in_ok-values.values.items =
    c.in_ok-flows.ensures.value ∙ ap (λ (l : List ℤ). map Value l) c.deref-17.ensures.value in
    let sized = values_sized c.in_ok-values.values.items c.in_ok-flows.flows.value values c.in_ok-values.ensures.sizes in
    if_ok c.chained.result _ _ (λ table e. subst (λ (l : List Cell). All (IsSizedCell (10 ^ 24 - 1)) l)
    (sym (ap (λ (t : Table). t.value) e)) sized) c.chained.ensures

pub returns-clause-volume_sizes : goal.returns-clause-volume_sizes
returns-clause-volume_sizes g c =
    let prev : c.in_ok-flows.flows.prev ≡ volumes_of c.in_ok-values.values.items c.args.prices.now =
    rw c.deref-17.ensures.value at c.in_ok-flows.ensures.prev in
    let sized = volumes_sized c.in_ok-values.values.items c.args.prices.now c.in_ok-flows.flows.prev prev in
    if_ok c.chained.result _ _ (λ table e. subst (λ (l : List Cell). All (IsSizedCell (10 ^ 15)) l)
    (sym (ap (λ (t : Table). t.prev) e)) sized) c.chained.ensures

pub returns-clause-steps : goal.returns-clause-steps
returns-clause-steps g c sweeps enough =
    let made : AreMade c.args.ind.items c.args.years.items c.args.bench.items c.in_ok-parts.parts.items
    c.in_ok-miss.miss.items = record {
      shown = rw (c.deref.ensures.value, c.deref-2.ensures.value, c.deref-3.ensures.value) at c.in_ok-parts.ensures.years;
      count = rw c.deref-3.ensures.value at c.in_ok-parts.ensures.count;
      apart = rw c.deref-4.ensures.value at c.in_ok-miss.ensures.apart;
    } in
    let scale = made_scale c.args.ind.items c.args.years.items c.args.bench.items c.in_ok-parts.parts.items
    c.in_ok-miss.miss.items c.scale_of-scale.result made c.requires.placed
    (rw c.deref-5.ensures.value at c.scale_of-scale.ensures.value) in
    made_steps c.args.ind.items c.args.years.items c.args.bench.items c.in_ok-parts.parts.items c.in_ok-miss.miss.items
    c.scale_of-scale.result c.args.steps.now c.solved.new.steps sweeps made scale
    (rw (c.deref-6.ensures.value, c.deref-7.ensures.value) at c.in_ok-u.ensures.steps) enough
