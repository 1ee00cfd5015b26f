-- Why a leaf's table is true to the values that were sent last.
use Rattle.std.specs.Prelude.{◌≡◌, ◌↔◌, ℕ, ◌+◌, ◌*◌, ◌/◌, ◌-◌, ◌^◌, ◌≤◌, ◌<◌, ℤ, pos, negsuc, ◌+ℤ◌, ◌*ℤ◌, ◌≤ℤ◌, Bool, true, false, if◌then◌else◌, List, [], ◌∷◌, map, length, slice_get, All, Option, Some, None, IsSome, unsigned_abs}
use Rattle.std.specs.List.{range_with_len, AllByRecursion}
use Rattle.std.specs.Option.{option_map}
use Rattle.std.proofs.lemmas.Int.{ints}
use Rattle.std.proofs.Common.{refl, sym, ◌∙◌, ap, arith, zero, suc, get_or, subst}
use Rattle.std.proofs.lemmas.List.{length-map, length-replicate}
use Rattle.std.proofs.lemmas.List.FromFn.{get_or-map-range_with_len, length-map-range_with_len}
use Rattle.std.proofs.lemmas.Option.{get_or_from_slice_get, slice_get_within}
use Rattle.ratio_arith.proofs.Ring.{same_by_ring, var, num, ◌⊕◌, ◌⊗◌}
use Rattle.denton_parts.specs.Benchmarks.{AddsUpTo, MeetsBenchmarks}
use Rattle.denton_parts.specs.Scale.{scale_of_years}
use Rattle.denton_parts.specs.Year.{BenchmarkedYear}
use Rattle.denton_parts.specs.Years.{year_at, years_at}
use Rattle.denton_parts.proofs.Places.{years_at-length, years_at-at}
use Rattle.denton_solve.specs.Sweeps.{multipliers_of}
use Rattle.price_base.specs.declared.Cell.TheVariants.{Value, Missing}
use Rattle.sum_rounding.specs.ShareOut.{sum_of}
use Rattle.annual_overlap.specs.Table.{AreNumbersAddingTo}
use Rattle.annual_overlap.specs.Years.{quarters_in}
use Rattle.series_tables.specs.Cells.{cells_from}
use Rattle.series_tables.specs.LastValue.{run_of}
use Rattle.series_tables.specs.Plan.{PlanShape, is_leaf}
use Rattle.series_tables.specs.Ranges.{IsPositiveInRange, IsBenchmarkOrNone}
use Rattle.series_tables.specs.Tree.{leaves_under}
use Rattle.series_tables.specs.declared.input.Kind.{Kind}
use Rattle.series_tables.specs.declared.input.Kind.TheVariants.{Indicator, Benchmark, Price}
use Rattle.node_compile.specs.Leaf.{places_from, present_benchmarks, run_values, table_of_years, leaf_table}
use Rattle.node_compile.specs.Release.{prices_of, whole_benchmarks, table_of_leaf, inner_table, values_of_leaves, volumes_of_leaves, item_table, item_tables}
use Rattle.node_compile.specs.Sent.{IsBenchmarkOf, IsTrueTo, AreTrueTo}
use Rattle.node_compile.specs.Table.{Table}
use Rattle.node_compile.proofs.Items.{cells_count}
use Rattle.node_compile.proofs.Behind.{values_count, values_meet}
use Rattle.node_compile.proofs.Places.{place_has, place_is}
use Rattle.node_compile.proofs.Worth.{IsRun, leaf_is_run, years_are, years_range, years_from}

-- ---- the benchmarks of the benchmarked years

-- a place of the cells of a number of years
cells_place : (value : ℕ → Option ℤ) (more from y : ℕ) → y < more → get_or (cells_from value more from) y None ≡ value (from + y)
cells_place value zero from y below = absurd (omega arith)
cells_place value (suc more) from zero below = let same : from ≡ from + 0 = omega arith in ap value same
cells_place value (suc more) from (suc y) below = let same : suc from + y ≡ from + suc y = omega arith in cells_place value more (suc from) y (omega arith) ∙ ap value same

-- the same from the first year on
cells_year : (value : ℕ → Option ℤ) (more y : ℕ) → y < more → get_or (cells_from value more 0) y None ≡ value y
cells_year value more y below = let same : 0 + y ≡ y = omega arith in cells_place value more 0 y below ∙ ap value same

-- the places of a run's benchmarked years and the benchmarks beside them
abbrev HasPlace : List ℕ → List ℤ → ℕ → ℤ → Type 0
HasPlace places benchmarks y benchmark =
    (j : ℕ) × (slice_get places j ≡ Some y) × (slice_get benchmarks j ≡ Some benchmark)

-- they are those of the leaf's benchmarked years
benchmarks_are : (value_at : Kind → ℕ → ℕ → Option ℤ) (leaf y : ℕ) (benchmark : ℤ) →
    HasPlace (places_from 0 (whole_benchmarks value_at leaf)) (present_benchmarks (whole_benchmarks value_at leaf)) y benchmark
    ↔ IsBenchmarkOf value_at leaf y benchmark
benchmarks_are value_at leaf y benchmark = (to, from)
  where
    value : ℕ → Option ℤ
    value = value_at Benchmark leaf

    years : ℕ
    years = length (run_of (value_at Indicator leaf)) / 4

    to : HasPlace (places_from 0 (whole_benchmarks value_at leaf)) (present_benchmarks (whole_benchmarks value_at leaf)) y benchmark →
        IsBenchmarkOf value_at leaf y benchmark
    to has =
        let found = place_is (whole_benchmarks value_at leaf) 0 has.0 y benchmark has.1 has.2 in
        let all : length (whole_benchmarks value_at leaf) ≡ length (run_of (value_at Indicator leaf)) / 4 =
        cells_count (value_at Benchmark leaf) (length (run_of (value_at Indicator leaf)) / 4) 0 in
        let inside : y < length (run_of (value_at Indicator leaf)) / 4 = omega arith in
        let none : y - 0 ≡ y = omega arith in
        let here : get_or (whole_benchmarks value_at leaf) y None ≡ Some benchmark = rw none at found.2 in
        let is : value_at Benchmark leaf y ≡ Some benchmark =
        sym (cells_year (value_at Benchmark leaf) (length (run_of (value_at Indicator leaf)) / 4) y inside) ∙ here in
        ((rw is refl, grind arith), is)

    from : IsBenchmarkOf value_at leaf y benchmark →
        HasPlace (places_from 0 (whole_benchmarks value_at leaf)) (present_benchmarks (whole_benchmarks value_at leaf)) y benchmark
    from is =
        let room : 4 * y + 4 ≤ length (run_of (value_at Indicator leaf)) = is.0.1 in
        let inside : y < length (run_of (value_at Indicator leaf)) / 4 = grind arith in
        let found = place_has (whole_benchmarks value_at leaf) 0 y benchmark
        (cells_year (value_at Benchmark leaf) (length (run_of (value_at Indicator leaf)) / 4) y inside ∙ is.1) in
        let same : 0 + y ≡ y = omega arith in
        (found.0, found.1 ∙ ap (λ (n : ℕ). Some n) same, found.2)

-- ---- the values of a year

-- a number as a cell
cell_is : (xs : List ℤ) (t : ℕ) → t < length xs → get_or (map Value xs) t Missing ≡ Value (get_or xs t (pos 0))
cell_is [] t inside = absurd (omega arith)
cell_is (x ∷ xs) zero inside = refl
cell_is (x ∷ xs) (suc t) inside = cell_is xs t (omega arith)

-- the four cells of a year whose values add up are numbers that do
year_meets : (xs : List ℤ) (y : ℕ) (benchmark : ℤ) → AddsUpTo benchmark xs y →
    AreNumbersAddingTo benchmark (quarters_in (map Value xs) y)
year_meets xs y benchmark meets =
    let room : 4 * y + 4 ≤ length xs = meets.0 in
    let first = cell_is xs (4 * y) (omega arith) in
    let second = cell_is xs (4 * y + 1) (omega arith) in
    let third = cell_is xs (4 * y + 2) (omega arith) in
    let fourth = cell_is xs (4 * y + 3) (omega arith) in (
      get_or xs (4 * y) (pos 0) ∷ get_or xs (4 * y + 1) (pos 0) ∷ get_or xs (4 * y + 2) (pos 0)
          ∷ get_or xs (4 * y + 3) (pos 0) ∷ [],
      rw (first, second, third, fourth) refl,
      four (get_or xs (4 * y) (pos 0)) (get_or xs (4 * y + 1) (pos 0)) (get_or xs (4 * y + 2) (pos 0))
          (get_or xs (4 * y + 3) (pos 0)) ∙ meets.1,
    )
  where
    four : (a b c d : ℤ) → sum_of (a ∷ b ∷ c ∷ d ∷ []) ≡ a +ℤ b +ℤ c +ℤ d
    four a b c d =
        let i = var 0 in
        let j = var 1 in
        let k = var 2 in
        let l = var 3 in
        same_by_ring (a ∷ b ∷ c ∷ d ∷ []) (i ⊕ (j ⊕ (k ⊕ (l ⊕ num (pos 0))))) (i ⊕ j ⊕ k ⊕ l) refl

-- so it is in each benchmarked year of a run whose values meet the benchmarks
place_meets : (indicators places : List ℕ) (benchmarks xs : List ℤ) (y : ℕ) (benchmark : ℤ) →
    length places ≡ length benchmarks → MeetsBenchmarks (years_at indicators places benchmarks) (pos 1) xs →
    HasPlace places benchmarks y benchmark → AreNumbersAddingTo benchmark (quarters_in (map Value xs) y)
place_meets indicators places benchmarks xs y benchmark placed met has =
    let j : ℕ = has.0 in
    let inside : j < length benchmarks = slice_get_within benchmarks j benchmark has.2 in
    let place : get_or places j 0 ≡ y = get_or_from_slice_get places j y 0 has.1 in
    let own : get_or benchmarks j (pos 0) ≡ benchmark = get_or_from_slice_get benchmarks j benchmark (pos 0) has.2 in
    let d : BenchmarkedYear = year_at indicators y benchmark in
    let year : get_or (years_at indicators places benchmarks) j d ≡ year_at indicators y benchmark =
    years_at-at indicators places benchmarks j d placed inside
    ∙ ap (λ (p : ℕ). year_at indicators p (get_or benchmarks j (pos 0))) place
    ∙ ap (λ (b : ℤ). year_at indicators y b) own in
    let here : AddsUpTo (pos 1 *ℤ benchmark) xs y = subst
    (λ (at : BenchmarkedYear). AddsUpTo (pos 1 *ℤ at.benchmark) xs at.place) year
    (met j d (omega (arith, years_at-length indicators places benchmarks placed))) in
    year_meets xs y benchmark (here.0, here.1 ∙ once benchmark)
  where
    once : (z : ℤ) → pos 1 *ℤ z ≡ z
    once z = let i = var 0 in same_by_ring (z ∷ []) (num (pos 1) ⊗ i) i refl

-- ---- a leaf's table

-- the run's indicators as whole numbers are the run
run_kept : (run : List ℤ) → AllByRecursion (λ value. (pos 1 ≤ℤ value) × (value ≤ℤ pos (10 ^ 9))) run → map pos (map unsigned_abs run) ≡ run
run_kept [] each = refl
run_kept (pos n ∷ run) each = ap (λ (rest : List ℤ). pos n ∷ rest) (run_kept run each.1)
run_kept (negsuc n ∷ run) each = absurd (omega (arith, ints))

-- and they are in range
run_indicators : (run : List ℤ) → AllByRecursion (λ value. (pos 1 ≤ℤ value) × (value ≤ℤ pos (10 ^ 9))) run →
    All IsPositiveInRange (map unsigned_abs run)
run_indicators [] each t d inside = absurd (omega arith)
run_indicators (value ∷ run) each zero d inside = let own = each.0 in (omega (arith, ints), omega (arith, ints))
run_indicators (value ∷ run) each (suc t) d inside = run_indicators run each.1 t d (omega arith)

-- a value that is there
some_of : (o : Option ℤ) → IsSome o → (value : ℤ) × (o ≡ Some value)
some_of (Some value) is = (value, refl)
some_of None is = absurd (let never : false ≡ true = is in cc)

-- a table of benchmarked years
years_true : (value_at : Kind → ℕ → ℕ → Option ℤ) (leaf : ℕ) (indicators : List ℕ) (prices : List (Option ℕ))
    (reference : ℕ) (places : List ℕ) (benchmarks : List ℤ) → IsRun indicators places benchmarks →
    map pos indicators ≡ run_of (value_at Indicator leaf) →
    ((y : ℕ) (benchmark : ℤ) → HasPlace places benchmarks y benchmark ↔ IsBenchmarkOf value_at leaf y benchmark) →
    IsTrueTo value_at leaf (table_of_years indicators prices reference places benchmarks)
years_true value_at leaf indicators prices reference [] benchmarks run kept are = record {
  quarters = length-replicate (length indicators) Missing ∙ sym (length-map indicators pos) ∙ ap length kept;
  certified = λ y is. absurd (let found = some_of (value_at Benchmark leaf y) is.0 in none y found.0 (is, found.1));
  indicators = tt;
  benchmarks = tt;
  meets = λ y benchmark is. absurd (none y benchmark is);
}
  where
    none : (y : ℕ) (benchmark : ℤ) → IsBenchmarkOf value_at leaf y benchmark → ⊥
    none y benchmark is =
        let has = (are y benchmark).1 is in
        let never : ◌≡◌ {A = Option ℕ} None (Some y) = has.1 in
        cc
years_true value_at leaf indicators prices reference (place ∷ places) [] run kept are =
    absurd (let same = run.placed in omega arith)
years_true value_at leaf indicators prices reference (place ∷ places) (benchmark ∷ benchmarks) run kept are =
    let year : BenchmarkedYear = year_at indicators place benchmark in
    let later : List BenchmarkedYear = years_at indicators places benchmarks in
    let k : ℕ = scale_of_years (year ∷ later) in
    let u : List ℤ = multipliers_of k (year ∷ later) in
    let x : List ℤ = run_values k (year ∷ later) u indicators in
    let range = years_range indicators (place ∷ places) (benchmark ∷ benchmarks) run in
    let met = values_meet k year later u indicators
    (years_are indicators (place ∷ places) (benchmark ∷ benchmarks) run) range in
    record {
      quarters = length-map x Value
          ∙ values_count k year later u indicators (years_from indicators places benchmarks place benchmark run) range
          ∙ sym (length-map indicators pos) ∙ ap length kept;
      certified = λ y is. refl;
      indicators = kept;
      benchmarks = are;
      meets = λ y b is.
          place_meets indicators (place ∷ places) (benchmark ∷ benchmarks) x y b run.placed met ((are y b).1 is);
    }

-- what stands at a leaf is in range: each value of its run is from 1 to 10^9, and each benchmark of its years is within
-- 10^12
pub record IsLeafInRange (value_at : Kind → ℕ → ℕ → Option ℤ) (leaf : ℕ) : Type 0 where
  pub run : AllByRecursion (λ value. (pos 1 ≤ℤ value) × (value ≤ℤ pos (10 ^ 9))) (run_of (value_at Indicator leaf))
  pub benchmarks : All IsBenchmarkOrNone (whole_benchmarks value_at leaf)

-- a leaf's table from what stands at it
leaf_true : (value_at : Kind → ℕ → ℕ → Option ℤ) (reference leaf : ℕ) → IsLeafInRange value_at leaf →
    IsTrueTo value_at leaf (table_of_leaf value_at reference leaf)
unfolding leaf_table
leaf_true value_at reference leaf range =
    let run : List ℤ = run_of (value_at Indicator leaf) in
    let indicators : List ℕ = map unsigned_abs run in
    let bench : List (Option ℤ) = whole_benchmarks value_at leaf in
    let same : length indicators ≡ length run = length-map run unsigned_abs in
    let years : length bench ≡ length indicators / 4 =
    cells_count (value_at Benchmark leaf) (length run / 4) 0 ∙ sym (ap (λ (n : ℕ). n / 4) same) in
    years_true value_at leaf indicators (prices_of value_at leaf) reference (places_from 0 bench)
    (present_benchmarks bench)
    (leaf_is_run indicators bench (run_indicators run range.run) range.benchmarks years) (run_kept run range.run)
    (λ y benchmark. benchmarks_are value_at leaf y benchmark)

-- a place that is there
table_at : (f : ℕ → Table) (n k : ℕ) (table : Table) → slice_get (map f (range_with_len 0 n)) k ≡ Some table → table ≡ f k
table_at f n k table e =
    let inside : k < n = omega (arith, slice_get_within (map f (range_with_len 0 n)) k table e, length-map-range_with_len f 0 n) in
    sym (get_or_from_slice_get (map f (range_with_len 0 n)) k table table e) ∙ get_or-map-range_with_len f 0 n k k table inside (omega arith)

-- the tables of a plan's items are true to what stands at its leaves
pub tables_true : (value_at : Kind → ℕ → ℕ → Option ℤ) (plan : PlanShape) → ((leaf : ℕ) → IsLeafInRange value_at leaf) → AreTrueTo plan value_at (item_tables value_at plan)
tables_true value_at plan range leaf table is e =
    subst (λ (t : Table). IsTrueTo value_at leaf t) (sym (table_at (item_table value_at plan) (length plan.names) leaf table e ∙ chosen (is_leaf plan leaf) is)) (leaf_true value_at plan.reference leaf (range leaf))
  where
    chosen : (b : Bool) → b ≡ true →
        (if b then table_of_leaf value_at plan.reference leaf
        else inner_table (values_of_leaves value_at plan.reference (leaves_under plan leaf)) (volumes_of_leaves value_at plan.reference (leaves_under plan leaf)) plan.reference) ≡ table_of_leaf value_at plan.reference leaf
    chosen true e = refl
    chosen false e = absurd (let never : false ≡ true = e in cc)
