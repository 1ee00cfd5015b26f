-- Why the figures of a compilation are in range: those of a leaf from what stands at it, and those of an inner item from the leaves under it.
use Rattle.std.proofs.Common.{◌≡◌, ◌∙◌, ap, sym, refl, subst, inl, inr, ℕ, zero, suc, ◌+◌, ◌-◌, ◌*◌, ◌/◌, ◌^◌, ◌<◌, ◌≤◌, ℤ, pos, negsuc, ◌≤ℤ◌, unsigned_abs, Bool, true, false, cond, List, [], ◌∷◌, length, map, drop, get_or, Option, Some, None, arith}
use Rattle.std.specs.Prelude.{◌&&◌, ◌==◌, slice_index, EachIndex}
use Rattle.std.specs.List.{All, AllByRecursion, range_with_len, list_all, list_any}
use Rattle.std.specs.Option.{option_map}
use Rattle.std.proofs.lemmas.Bool.{cases_lt}
use Rattle.std.proofs.lemmas.Int.{ints}
use Rattle.std.proofs.lemmas.List.{get_or_past, length-map, length-replicate}
use Rattle.std.proofs.lemmas.List.Elements.{All-map, All-drop, recursion_from_All}
use Rattle.std.proofs.lemmas.List.FromFn.{length-map-range_with_len}
use Rattle.aggregate_tree.specs.Leaves.{added, cells_at, longest}
use Rattle.annual_overlap.specs.Years.{IsSizedCell}
use Rattle.denton_parts.specs.Scale.{scale_of_years}
use Rattle.denton_parts.specs.Year.{BenchmarkedYear}
use Rattle.denton_parts.specs.Years.{year_at, years_at}
use Rattle.denton_parts.proofs.Scales.{scale_least}
use Rattle.denton_solve.specs.Conditions.{AreMultipliers}
use Rattle.denton_solve.specs.Sweeps.{sweep_of, iterated, no_multipliers, multipliers_of}
use Rattle.denton_solve.proofs.Pairs.{zeros_small}
use Rattle.denton_solve.proofs.Scaled.{scaled, scale_most}
use Rattle.denton_solve.proofs.Steps.{sweep_of-sizes}
use Rattle.price_base.specs.declared.Cell.{Cell}
use Rattle.price_base.specs.declared.Cell.TheVariants.{Missing, Value, NoBase, NoLink, Range}
use Rattle.price_base.specs.Cells.{cell_at, combined, total, is_missing, is_no_base, is_range, IsFlow}
use Rattle.price_base.specs.Volumes.{volume_at, volumes_of}
use Rattle.series_tables.specs.Cells.{cells_from}
use Rattle.series_tables.specs.Fits.{FitsPlan}
use Rattle.series_tables.specs.LastValue.{same_kind, speaks_of, run_from, run_of, last_from, last_value, least_of, most_of}
use Rattle.series_tables.specs.Plan.{PlanShape, is_leaf}
use Rattle.series_tables.specs.Ranges.{IsPositiveInRange, IsBenchmarkOrNone}
use Rattle.series_tables.specs.Tree.{leaves_under}
use Rattle.series_tables.specs.declared.input.Input.{Input}
use Rattle.series_tables.specs.declared.input.Kind.{Kind}
use Rattle.series_tables.specs.declared.input.Kind.TheVariants.{Indicator, Benchmark, Price}
use Rattle.node_compile.specs.Items.{AreItemCells, IsKnownItem}
use Rattle.node_compile.specs.Laws.{MeetsItsBenchmarks, IsWithinItsGap}
use Rattle.node_compile.specs.Leaf.{places_from, present_benchmarks, run_values, table_of_years, leaf_table}
use Rattle.node_compile.specs.Release.{table_of_leaf, inner_table, values_of_leaves, volumes_of_leaves, item_table}
use Rattle.node_compile.specs.Sizes.{AreBelow, AreInRange, AreItemsSized, AreLeavesSized}
use Rattle.node_compile.specs.Table.{Table}
use Rattle.node_compile.proofs.Items.{cells_count}
use Rattle.node_compile.proofs.Leaves.{leaf_values_flow, leaf_volumes_flow}
use Rattle.node_compile.proofs.Behind.{Reach, values_count, values_reach}
use Rattle.node_compile.proofs.Sizes.{values_sized, volumes_sized, missing_sized, wider}
use Rattle.node_compile.proofs.Tree.{cell_sized, leaf_of_itself, sized_everywhere}
use Rattle.node_compile.proofs.Values.{values_below}
use Rattle.node_compile.proofs.Worth.{IsRun, IsWorth, leaf_is_run, years_range, years_from, leaf_worth}

-- ---- the values of a run

-- multipliers are in range after any number of sweeps
swept_small : (k : ℕ) (years : List BenchmarkedYear) (n : ℕ) (u : List ℤ) → AreMultipliers u → AreMultipliers (iterated n (sweep_of k years) u)
unfolding iterated
swept_small k years zero u small = small
swept_small k years (suc n) u small = sweep_of-sizes k years (iterated n (sweep_of k years) u)

pub multipliers_small : (k : ℕ) (years : List BenchmarkedYear) → AreMultipliers (multipliers_of k years)
unfolding multipliers_of
multipliers_small k years = swept_small k years 192 (no_multipliers years) (zeros_small (length years - 1))

-- the values of a run of quarters, with the multipliers of its years at their scale, reach no further than their
-- indicators times 8 * 10^15
pub run_reach : (indicators places : List ℕ) (benchmarks : List ℤ) (place : ℕ) (benchmark : ℤ) →
    IsRun indicators (place ∷ places) (benchmark ∷ benchmarks) →
    let years : List BenchmarkedYear = years_at indicators (place ∷ places) (benchmark ∷ benchmarks) in
    Reach (scale_of_years years) indicators
    (run_values (scale_of_years years) years (multipliers_of (scale_of_years years) years) indicators)
run_reach indicators places benchmarks place benchmark run =
    let year : BenchmarkedYear = year_at indicators place benchmark in
    let later : List BenchmarkedYear = years_at indicators places benchmarks in
    let k : ℕ = scale_of_years (year ∷ later) in
    let range = years_range indicators (place ∷ places) (benchmark ∷ benchmarks) run in
    values_reach k year later (multipliers_of k (year ∷ later)) indicators
    (years_from indicators places benchmarks place benchmark run) (record {
      scale = scale_most (year ∷ later);
      scaled = scaled (year ∷ later) range;
      range = range;
      multipliers = multipliers_small k (year ∷ later);
      each = run.each_indicator;
    })

-- so they are below 10^24 in size
run_small : (indicators places : List ℕ) (benchmarks : List ℤ) (place : ℕ) (benchmark : ℤ) →
    IsRun indicators (place ∷ places) (benchmark ∷ benchmarks) →
    let years : List BenchmarkedYear = years_at indicators (place ∷ places) (benchmark ∷ benchmarks) in
    AreBelow (run_values (scale_of_years years) years (multipliers_of (scale_of_years years) years) indicators)
run_small indicators places benchmarks place benchmark run =
    let years : List BenchmarkedYear = years_at indicators (place ∷ places) (benchmark ∷ benchmarks) in
    values_below (scale_of_years years) indicators _
    (scale_least years (years_range indicators (place ∷ places) (benchmark ∷ benchmarks) run)) run.each_indicator
    (run_reach indicators places benchmarks place benchmark run)

-- ---- the cells of a leaf

-- the values of a leaf are below 10^24
values_of_years_sized : (indicators : List ℕ) (prices : List (Option ℕ)) (reference : ℕ) (places : List ℕ)
    (benchmarks : List ℤ) → IsRun indicators places benchmarks →
    All (IsSizedCell (10 ^ 24 - 1)) (table_of_years indicators prices reference places benchmarks).value
values_of_years_sized indicators prices reference [] benchmarks run =
    missing_sized (10 ^ 24 - 1) (length indicators) _ refl
values_of_years_sized indicators prices reference (place ∷ places) [] run =
    absurd (let same = run.placed in omega arith)
values_of_years_sized indicators prices reference (place ∷ places) (benchmark ∷ benchmarks) run =
    values_sized _ _ refl (run_small indicators places benchmarks place benchmark run)

-- and its volumes within 10^15
volumes_of_years_sized : (indicators : List ℕ) (prices : List (Option ℕ)) (reference : ℕ) (places : List ℕ)
    (benchmarks : List ℤ) → All (IsSizedCell (10 ^ 15)) (table_of_years indicators prices reference places benchmarks).prev
volumes_of_years_sized indicators prices reference [] benchmarks = missing_sized (10 ^ 15) (length indicators) _ refl
volumes_of_years_sized indicators prices reference (place ∷ places) benchmarks = volumes_sized _ prices _ refl

-- there are as many as quarters of the run
values_of_years_count : (indicators : List ℕ) (prices : List (Option ℕ)) (reference : ℕ) (places : List ℕ)
    (benchmarks : List ℤ) → IsRun indicators places benchmarks →
    length (table_of_years indicators prices reference places benchmarks).value ≡ length indicators
values_of_years_count indicators prices reference [] benchmarks run = length-replicate (length indicators) Missing
values_of_years_count indicators prices reference (place ∷ places) [] run =
    absurd (let same = run.placed in omega arith)
values_of_years_count indicators prices reference (place ∷ places) (benchmark ∷ benchmarks) run =
    let years : List BenchmarkedYear = years_at indicators (place ∷ places) (benchmark ∷ benchmarks) in
    let k : ℕ = scale_of_years years in
    length-map (run_values k years (multipliers_of k years) indicators) Value
    ∙ (run_reach indicators places benchmarks place benchmark run).count

volumes_of_years_count : (indicators : List ℕ) (prices : List (Option ℕ)) (reference : ℕ) (places : List ℕ)
    (benchmarks : List ℤ) → IsRun indicators places benchmarks →
    length (table_of_years indicators prices reference places benchmarks).prev ≡ length indicators
unfolding volumes_of
volumes_of_years_count indicators prices reference [] benchmarks run = length-replicate (length indicators) Missing
volumes_of_years_count indicators prices reference (place ∷ places) [] run =
    absurd (let same = run.placed in omega arith)
volumes_of_years_count indicators prices reference (place ∷ places) (benchmark ∷ benchmarks) run =
    let years : List BenchmarkedYear = years_at indicators (place ∷ places) (benchmark ∷ benchmarks) in
    let k : ℕ = scale_of_years years in
    let values : List ℤ = run_values k years (multipliers_of k years) indicators in
    length-map-range_with_len (volume_at values prices) 0 (length values)
    ∙ (run_reach indicators places benchmarks place benchmark run).count

-- the values of a run are in range where each that stands there is
run_range : (value_at : ℕ → Option ℤ) → ((period : ℕ) (value : ℤ) → value_at period ≡ Some value → (pos 1 ≤ℤ value) × (value ≤ℤ pos (10 ^ 9))) → (more from : ℕ) → All IsPositiveInRange (map unsigned_abs (run_from value_at more from))
run_range value_at each zero from = λ t d inside. absurd (omega arith)
run_range value_at each (suc more) from = by_value (value_at from) (each from) (run_range value_at each more (suc from))
  where
    size : (value : ℤ) → (pos 1 ≤ℤ value) × (value ≤ℤ pos (10 ^ 9)) → IsPositiveInRange (unsigned_abs value)
    size (pos n) range = (omega (arith, ints), omega (arith, ints))
    size (negsuc n) range = absurd (omega (arith, ints))

    with_one : (value : ℤ) (values : List ℤ) → IsPositiveInRange (unsigned_abs value) → All IsPositiveInRange (map unsigned_abs values) → All IsPositiveInRange (map unsigned_abs (value ∷ values))
    with_one value values one others zero d inside = one
    with_one value values one others (suc t) d inside = others t d (omega arith)

    by_value : (found : Option ℤ) → ((value : ℤ) → found ≡ Some value → (pos 1 ≤ℤ value) × (value ≤ℤ pos (10 ^ 9))) → All IsPositiveInRange (map unsigned_abs (run_from value_at more (suc from))) →
        All IsPositiveInRange (map unsigned_abs (elim found [ None ↦ [] | Some value ↦ value ∷ run_from value_at more (suc from) ]))
    by_value None range rest = λ t d inside. absurd (omega arith)
    by_value (Some value) range rest = with_one value (run_from value_at more (suc from)) (size value (range value refl)) rest

-- it has at most so many quarters
run_few : (value_at : ℕ → Option ℤ) (more from : ℕ) → length (run_from value_at more from) ≤ more
run_few value_at zero from = omega arith
run_few value_at (suc more) from = by_value (value_at from) (run_few value_at more (suc from))
  where
    by_value : (found : Option ℤ) → length (run_from value_at more (suc from)) ≤ more → length {A = ℤ} (elim found [ None ↦ [] | Some value ↦ value ∷ run_from value_at more (suc from) ]) ≤ suc more
    by_value None rest = omega arith
    by_value (Some value) rest = omega (arith, rest)

-- so are the benchmarks of a number of years
benchmarks_range : (value_at : ℕ → Option ℤ) → ((period : ℕ) (value : ℤ) → value_at period ≡ Some value → (least_of Benchmark ≤ℤ value) × (value ≤ℤ most_of Benchmark)) → (more from : ℕ) → All IsBenchmarkOrNone (cells_from value_at more from)
benchmarks_range value_at each zero from k d inside = absurd (omega arith)
benchmarks_range value_at each (suc more) from zero d inside = each from
benchmarks_range value_at each (suc more) from (suc k) d inside = benchmarks_range value_at each more (suc from) k d (omega arith)

-- what a leaf's table is, from what stands at the leaf
record IsKnownLeaf (table : Table) : Type 0 where
  pub few : length table.value ≤ 256
  pub as_few : length table.prev ≤ 256
  pub below : All (IsSizedCell (10 ^ 24 - 1)) table.value
  pub within : All (IsSizedCell (10 ^ 15)) table.prev
  pub worth : IsWorth table

leaf_known : (value_at : Kind → ℕ → ℕ → Option ℤ) (reference leaf : ℕ) → AreInRange value_at → IsKnownLeaf (table_of_leaf value_at reference leaf)
unfolding leaf_table
leaf_known value_at reference leaf range =
    let run : List ℤ = run_of (value_at Indicator leaf) in
    let indicators : List ℕ = map unsigned_abs run in
    let prices : List (Option ℕ) = map (option_map unsigned_abs) (cells_from (value_at Price leaf) (length run) 0) in
    let bench : List (Option ℤ) = cells_from (value_at Benchmark leaf) (length run / 4) 0 in
    let places : List ℕ = places_from 0 bench in
    let given : List ℤ = present_benchmarks bench in
    let same : length indicators ≡ length run = length-map run unsigned_abs in
    let short : length run ≤ 256 = run_few (value_at Indicator leaf) 256 0 in
    let all : All IsPositiveInRange indicators =
    run_range (value_at Indicator leaf) (λ period value. range Indicator leaf period value) 256 0 in
    let own : All IsBenchmarkOrNone bench =
    benchmarks_range (value_at Benchmark leaf) (λ period value. range Benchmark leaf period value) (length run / 4) 0 in
    let cells : length bench ≡ length indicators / 4 =
    cells_count (value_at Benchmark leaf) (length run / 4) 0 ∙ sym (ap (λ (n : ℕ). n / 4) same) in
    let is : IsRun indicators places given = leaf_is_run indicators bench all own cells in
    record {
      few = omega (arith, values_of_years_count indicators prices reference places given is, same, short);
      as_few = omega (arith, volumes_of_years_count indicators prices reference places given is, same, short);
      below = values_of_years_sized indicators prices reference places given is;
      within = volumes_of_years_sized indicators prices reference places given;
      worth = leaf_worth indicators prices bench reference all own cells;
    }

-- so much is known of its cells
leaf_cells : (most : ℕ) (cells : List Cell) → length cells ≤ 256 → All IsFlow cells → All (IsSizedCell most) cells → AreItemCells most 1 cells
leaf_cells most cells few flows sized = record { few = few; flows = flows; sizes = sized_everywhere (most * 1) cells (wider most (most * 1) cells (omega arith) sized) }

leaf_value_cells : (value_at : Kind → ℕ → ℕ → Option ℤ) (reference leaf : ℕ) → AreInRange value_at → AreItemCells (10 ^ 24) 1 (table_of_leaf value_at reference leaf).value
leaf_value_cells value_at reference leaf range =
    let known = leaf_known value_at reference leaf range in
    leaf_cells (10 ^ 24) _ known.few (leaf_values_flow value_at reference leaf) (wider (10 ^ 24 - 1) (10 ^ 24) _ (omega arith) known.below)

leaf_volume_cells : (value_at : Kind → ℕ → ℕ → Option ℤ) (reference leaf : ℕ) → AreInRange value_at → AreItemCells (10 ^ 15) 1 (table_of_leaf value_at reference leaf).prev
leaf_volume_cells value_at reference leaf range =
    let known = leaf_known value_at reference leaf range in
    leaf_cells (10 ^ 15) _ known.as_few (leaf_volumes_flow value_at reference leaf) known.within

-- ---- the cells of an inner item

-- a cell before others adds at most its size to their sum
total_more : (most least : ℕ) (cell : Cell) (cells : List Cell) → IsSizedCell most cell → unsigned_abs (total cells) ≤ least → unsigned_abs (total (cell ∷ cells)) ≤ most + least
total_more most least (Value value) cells sized rest = let one : unsigned_abs value ≤ most = sized in omega (arith, ints, one, rest)
total_more most least Missing cells sized rest = omega (arith, rest)
total_more most least NoBase cells sized rest = omega (arith, rest)
total_more most least NoLink cells sized rest = omega (arith, rest)
total_more most least Range cells sized rest = omega (arith, rest)

-- the sums of a quarter over lists that belong to leaves
total_sized : (most : ℕ) (cells_of_leaf : ℕ → List Cell) → ((leaf : ℕ) → AreItemCells most 1 (cells_of_leaf leaf)) → (leaves : List ℕ) (t : ℕ) → unsigned_abs (total (cells_at (map cells_of_leaf leaves) t)) ≤ most * length leaves
total_sized most cells_of_leaf each [] t = omega arith
total_sized most cells_of_leaf each (leaf ∷ leaves) t =
    let own : IsSizedCell (most * 1) (cell_at (cells_of_leaf leaf) t) = (each leaf).sizes t in
    let more = total_more (most * 1) (most * length leaves) (cell_at (cells_of_leaf leaf) t) (cells_at (map cells_of_leaf leaves) t) own (total_sized most cells_of_leaf each leaves t) in
    let both : most * 1 + most * length leaves ≡ most * suc (length leaves) = grind arith in
    omega (arith, more, both)

-- they are no longer than the leaves' own
longest_few : (most : ℕ) (cells_of_leaf : ℕ → List Cell) → ((leaf : ℕ) → AreItemCells most 1 (cells_of_leaf leaf)) → (leaves : List ℕ) → longest (map cells_of_leaf leaves) ≤ 256
longest_few most cells_of_leaf each [] = omega arith
longest_few most cells_of_leaf each (leaf ∷ leaves) = omega (arith, (each leaf).few, longest_few most cells_of_leaf each leaves)

-- a sum of cells is no mark of a link
sum_flow : (missing no_base range : Bool) (sum : ℤ) → IsFlow (cond missing Missing (cond no_base NoBase (cond range Range (Value sum))))
sum_flow true no_base range sum e = cc
sum_flow false true range sum e = cc
sum_flow false false true sum e = cc
sum_flow false false false sum e = cc

-- the sums of leaves are known as each leaf's cells are
added_cells : (most : ℕ) (cells_of_leaf : ℕ → List Cell) → ((leaf : ℕ) → AreItemCells most 1 (cells_of_leaf leaf)) → (leaves : List ℕ) → AreItemCells most (length leaves) (added (map cells_of_leaf leaves))
unfolding added
added_cells most cells_of_leaf each leaves =
    let lists : List (List Cell) = map cells_of_leaf leaves in
    record {
      few = omega (arith, length-map-range_with_len (λ t. combined (cells_at lists t)) 0 (longest lists), longest_few most cells_of_leaf each leaves);
      flows = All-map IsFlow (λ t. combined (cells_at lists t)) (range_with_len 0 (longest lists)) (λ k d below.
          let cells : List Cell = cells_at lists (get_or (range_with_len 0 (longest lists)) k d) in
          sum_flow (list_any is_missing cells) (list_any is_no_base cells) (list_any is_range cells) (total cells));
      sizes = sized_everywhere (most * length leaves) (map (λ t. combined (cells_at lists t)) (range_with_len 0 (longest lists)))
          (All-map (IsSizedCell (most * length leaves)) (λ t. combined (cells_at lists t)) (range_with_len 0 (longest lists)) (λ k d below.
          let t : ℕ = get_or (range_with_len 0 (longest lists)) k d in
          let cells : List Cell = cells_at lists t in
          cell_sized (most * length leaves) (list_any is_missing cells) (list_any is_no_base cells) (list_any is_range cells) (total cells) (total_sized most cells_of_leaf each leaves t)));
    }

-- ---- the items of a plan

-- what is known of any item, from what stands at the leaves
pub item_known : (value_at : Kind → ℕ → ℕ → Option ℤ) (plan : PlanShape) (item : ℕ) → AreInRange value_at → item < length plan.parents → IsKnownItem (length (leaves_under plan item)) (item_table value_at plan item)
item_known value_at plan item range inside = by_leaf (is_leaf plan item) refl
  where
    table : Bool → Table
    table b = cond b (table_of_leaf value_at plan.reference item) (inner_table (values_of_leaves value_at plan.reference (leaves_under plan item)) (volumes_of_leaves value_at plan.reference (leaves_under plan item)) plan.reference)

    by_leaf : (b : Bool) → is_leaf plan item ≡ b → IsKnownItem (length (leaves_under plan item)) (table b)
    by_leaf true leaf =
        let worth = (leaf_known value_at plan.reference item range).worth in
        subst (λ (leaves : List ℕ). IsKnownItem (length leaves) (table true)) (sym (leaf_of_itself plan item inside leaf)) (record {
          value = leaf_value_cells value_at plan.reference item range;
          prev = leaf_volume_cells value_at plan.reference item range;
          meets = worth.0;
          within = worth.1;
          limit = worth.2;
        })
    by_leaf false inner = record {
      value = added_cells (10 ^ 24) (λ leaf. (table_of_leaf value_at plan.reference leaf).value) (λ leaf. leaf_value_cells value_at plan.reference leaf range) (leaves_under plan item);
      prev = added_cells (10 ^ 15) (λ leaf. (table_of_leaf value_at plan.reference leaf).prev) (λ leaf. leaf_volume_cells value_at plan.reference leaf range) (leaves_under plan item);
      meets = tt;
      within = tt;
      limit = tt;
    }

-- the values of a leaf are below 10^24
pub leaf_below : (value_at : Kind → ℕ → ℕ → Option ℤ) (plan : PlanShape) (leaf : ℕ) → AreInRange value_at → is_leaf plan leaf ≡ true → All (IsSizedCell (10 ^ 24 - 1)) (item_table value_at plan leaf).value
leaf_below value_at plan leaf range is = rw is (leaf_known value_at plan.reference leaf range).below

-- ---- what was sent last

-- the last value of inputs that fit a plan is one that its kind may have
last_in_range : (plan : PlanShape) (kind : Kind) (leaf period : ℕ) (inputs : List Input) (found : Option ℤ) → AllByRecursion (FitsPlan plan) inputs → ((value : ℤ) → found ≡ Some value → (least_of kind ≤ℤ value) × (value ≤ℤ most_of kind)) →
    (value : ℤ) → last_from found inputs kind leaf period ≡ Some value → (least_of kind ≤ℤ value) × (value ≤ℤ most_of kind)
last_in_range plan kind leaf period [] found fit before value e = before value e
last_in_range plan kind leaf period (input ∷ inputs) found fit before value e =
    last_in_range plan kind leaf period inputs (cond (speaks_of kind leaf period input) (Some input.value) found) fit.1 (by_test (speaks_of kind leaf period input) refl) value e
  where
    of_kind : (one two : Kind) → same_kind one two ≡ true → one ≡ two
    of_kind Indicator Indicator same = refl
    of_kind Benchmark Benchmark same = refl
    of_kind Price Price same = refl
    of_kind Indicator Benchmark same = absurd (let never : false ≡ true = same in cc)
    of_kind Indicator Price same = absurd (let never : false ≡ true = same in cc)
    of_kind Benchmark Indicator same = absurd (let never : false ≡ true = same in cc)
    of_kind Benchmark Price same = absurd (let never : false ≡ true = same in cc)
    of_kind Price Indicator same = absurd (let never : false ≡ true = same in cc)
    of_kind Price Benchmark same = absurd (let never : false ≡ true = same in cc)

    first_part : (one two three : Bool) → (one && two && three) ≡ true → one ≡ true
    first_part true two three all = refl
    first_part false two three all = absurd (let never : false ≡ true = all in cc)

    by_test : (test : Bool) → speaks_of kind leaf period input ≡ test → (value : ℤ) → cond test (Some input.value) found ≡ Some value → (least_of kind ≤ℤ value) × (value ≤ℤ most_of kind)
    by_test true spoken value here =
        let same : input.value ≡ value = cc in
        let own : input.kind ≡ kind = of_kind input.kind kind (first_part (same_kind input.kind kind) (input.leaf == leaf) (input.period == period) spoken) in
        subst (λ (v : ℤ). (least_of kind ≤ℤ v) × (v ≤ℤ most_of kind)) same (subst (λ (k : Kind). (least_of k ≤ℤ input.value) × (input.value ≤ℤ most_of k)) own (fit.0.room.least, fit.0.room.most))
    by_test false spoken value here = before value here

pub fitting_in_range : (plan : PlanShape) (inputs : List Input) → All (FitsPlan plan) inputs → AreInRange (last_value inputs)
fitting_in_range plan inputs fit kind leaf period value e =
    last_in_range plan kind leaf period inputs None (recursion_from_All (FitsPlan plan) inputs fit) (λ v nothing. absurd (let never : ◌≡◌ {A = Option ℤ} None (Some v) = nothing in cc)) value e

-- the law of the sizes
pub items_sized : AreItemsSized
items_sized plan inputs item fit inside = item_known (last_value inputs) plan item (fitting_in_range plan inputs fit) inside

pub leaves_sized : AreLeavesSized
leaves_sized plan inputs leaf fit is = leaf_below (last_value inputs) plan leaf (fitting_in_range plan inputs fit) is
