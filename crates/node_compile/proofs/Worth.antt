-- Why a leaf's values meet the benchmarks and are within the gap of its table, and that within its limit.
use Rattle.std.specs.Prelude.{◌≡◌, ℕ, ◌+◌, ◌-◌, ◌*◌, ◌^◌, ◌/◌, ◌≤◌, ℤ, pos, List, [], ◌∷◌, map, length, All, Option, Some, None}
use Rattle.std.proofs.Common.{refl, sym, ◌∙◌, ap, arith, subst}
use Rattle.std.proofs.lemmas.List.{get_or_default}
use Rattle.denton_parts.specs.Benchmarks.{MeetsBenchmarks}
use Rattle.denton_parts.specs.Changes.{changes}
use Rattle.denton_parts.specs.Gap.{gap_by}
use Rattle.denton_parts.specs.Limit.{limit_of}
use Rattle.denton_parts.specs.Ratios.{IsWithinGap}
use Rattle.denton_parts.specs.Scale.{scale_of_years}
use Rattle.denton_parts.specs.Year.{BenchmarkedYear}
use Rattle.denton_parts.specs.Years.{ArePlaces, AreYearsOf, year_at, years_at}
use Rattle.denton_parts.proofs.Places.{AreInRange, run_in_range, years_of_run, years_at-length}
use Rattle.denton_solve.specs.Sweeps.{multipliers_of, IsEnough}
use Rattle.denton_solve.proofs.Pairs.{multipliers_count}
use Rattle.denton_solve.proofs.Scaled.{scaled}
use Rattle.denton_solve.proofs.Settling.{multipliers_settled}
use Rattle.dual_cert.proofs.Whole.{within_gap}
use Rattle.price_base.specs.declared.Cell.{Cell}
use Rattle.price_base.specs.declared.Cell.TheVariants.{Value}
use Rattle.price_base.specs.Volumes.{volumes_of}
use Rattle.series_tables.specs.Ranges.{IsPositiveInRange, IsBenchmarkOrNone}
use Rattle.node_compile.specs.Laws.{numbers_in, MeetsItsBenchmarks, IsWithinItsGap, IsGapWithinLimit, IsTrulyChained}
use Rattle.annual_overlap.proofs.Laws.{chain_within_drift, chain_adds_up}
use Rattle.annual_overlap.specs.Table.{chain_of}
use Rattle.node_compile.specs.Table.{Certificate, Table}
use Rattle.node_compile.specs.Leaf.{AreBenchmarks, AreEnough, benchmarked_years, joints_in, places_from, present_benchmarks, missing, missing_table, certificate_of, run_values, chained_table, table_of_years, leaf_table}
use Rattle.node_compile.proofs.Behind.{AreFrom, AreIndicatorsOf, are_from, values_count, values_meet}
use Rattle.node_compile.proofs.Limits.{run_limited}
use Rattle.node_compile.proofs.Links.{chain_linked}
use Rattle.node_compile.proofs.Places.{places_stand, present_count, present_few, present_each}

-- ---- the years of a run

-- what is known of a run with benchmarked years
pub record IsRun (indicators places : List ℕ) (benchmarks : List ℤ) : Type 0 where
  pub placed : length places ≡ length benchmarks
  pub whole_years : ArePlaces (length indicators) places
  pub each_indicator : AreIndicatorsOf indicators
  pub each_benchmark : AreBenchmarks benchmarks

-- the run of a leaf's input is so
pub leaf_is_run : (indicators : List ℕ) (benchmarks : List (Option ℤ)) → All IsPositiveInRange indicators →
    All IsBenchmarkOrNone benchmarks → length benchmarks ≡ length indicators / 4 →
    IsRun indicators (places_from 0 benchmarks) (present_benchmarks benchmarks)
leaf_is_run indicators benchmarks each_indicator each_benchmark years = record {
  placed = present_count 0 benchmarks;
  whole_years = places_stand benchmarks (length indicators) (omega arith);
  each_indicator = λ t inside. each_indicator t 0 inside;
  each_benchmark = present_each benchmarks each_benchmark;
}

-- its benchmarked years are years of it, and their numbers are in range
pub years_are : (indicators places : List ℕ) (benchmarks : List ℤ) → IsRun indicators places benchmarks →
    AreYearsOf indicators (years_at indicators places benchmarks)
years_are indicators places benchmarks run = years_of_run indicators places benchmarks run.placed run.whole_years

pub years_range : (indicators places : List ℕ) (benchmarks : List ℤ) → IsRun indicators places benchmarks →
    AreInRange (years_at indicators places benchmarks)
years_range indicators places benchmarks run =
    run_in_range indicators places benchmarks run.placed run.whole_years run.each_indicator run.each_benchmark

-- they are so from the first of them on
pub years_from : (indicators places : List ℕ) (benchmarks : List ℤ) (place : ℕ) (benchmark : ℤ) →
    IsRun indicators (place ∷ places) (benchmark ∷ benchmarks) →
    AreFrom (year_at indicators place benchmark) (years_at indicators places benchmarks) indicators
years_from indicators places benchmarks place benchmark run =
    are_from (year_at indicators place benchmark) (years_at indicators places benchmarks) indicators
    (years_are indicators (place ∷ places) (benchmark ∷ benchmarks) run)

-- ---- what a table is worth

-- numbers as cells are the numbers
numbers_kept : (xs : List ℤ) → numbers_in (map Value xs) ≡ xs
numbers_kept [] = refl
numbers_kept (x ∷ xs) = ap (λ (rest : List ℤ). x ∷ rest) (numbers_kept xs)

-- each indicator of a run is above zero
some_each : (indicators : List ℕ) → AreIndicatorsOf indicators → All (λ i. 1 ≤ i) indicators
some_each indicators each t d inside =
    subst (λ (i : ℕ). 1 ≤ i) (sym (get_or_default indicators t d 0 inside)) (each t inside).0

-- a table's values meet its benchmarks and are within its gap, which is within its limit
abbrev pub IsWorth : Table → Type 0
IsWorth table = MeetsItsBenchmarks table × IsWithinItsGap table × IsGapWithinLimit table

table_worth : (indicators : List ℕ) (prices : List (Option ℕ)) (reference : ℕ) (places : List ℕ) (benchmarks : List ℤ) →
    IsRun indicators places benchmarks → IsWorth (table_of_years indicators prices reference places benchmarks)
table_worth indicators prices reference [] benchmarks run = (tt, tt, tt)
table_worth indicators prices reference (place ∷ places) [] run = absurd (let same = run.placed in omega arith)
table_worth indicators prices reference (place ∷ places) (benchmark ∷ benchmarks) run =
    let year : BenchmarkedYear = year_at indicators place benchmark in
    let later : List BenchmarkedYear = years_at indicators places benchmarks in
    let k : ℕ = scale_of_years (year ∷ later) in
    let u : List ℤ = multipliers_of k (year ∷ later) in
    let x : List ℤ = run_values k (year ∷ later) u indicators in
    let gap : ℤ = gap_by (pos (10 ^ k)) indicators x (changes (year ∷ later) u indicators) in
    let are = years_are indicators (place ∷ places) (benchmark ∷ benchmarks) run in
    let range = years_range indicators (place ∷ places) (benchmark ∷ benchmarks) run in
    let meets = values_meet k year later u indicators are range in
    let count = values_count k year later u indicators (are_from year later indicators are) range in
    let joints = multipliers_count k (year ∷ later) (omega arith) in
    let settled = multipliers_settled k (year ∷ later) (λ y other inside. (range y other inside).0)
    (scaled (year ∷ later) range) in
    let within : IsWithinGap indicators (year ∷ later) x gap (pos (10 ^ k)) =
    within_gap indicators (year ∷ later) x u (pos (10 ^ k)) (λ t inside. (run.each_indicator t inside).0) are count
    (omega arith) meets in (
      subst (λ (ns : List ℤ). MeetsBenchmarks (year ∷ later) (pos 1) ns) (sym (numbers_kept x)) meets,
      subst (λ (ns : List ℤ). IsWithinGap indicators (year ∷ later) ns gap (pos (10 ^ k))) (sym (numbers_kept x)) within,
      run_limited k year later u indicators (some_each indicators run.each_indicator)
          (are_from year later indicators are) range (omega arith) settled,
    )

-- so are those of a leaf's table
pub leaf_worth : (indicators : List ℕ) (prices : List (Option ℕ)) (benchmarks : List (Option ℤ)) (reference : ℕ) →
    All IsPositiveInRange indicators → All IsBenchmarkOrNone benchmarks → length benchmarks ≡ length indicators / 4 →
    IsWorth (leaf_table indicators prices benchmarks reference)
unfolding leaf_table
leaf_worth indicators prices benchmarks reference each_indicator each_benchmark years =
    table_worth indicators prices reference (places_from 0 benchmarks) (present_benchmarks benchmarks)
    (leaf_is_run indicators benchmarks each_indicator each_benchmark years)

-- the table of a leaf without a benchmarked year
pub leaf_table_none : (indicators : List ℕ) (prices : List (Option ℕ)) (benchmarks : List (Option ℤ)) (reference : ℕ) →
    places_from 0 benchmarks ≡ [] →
    leaf_table indicators prices benchmarks reference ≡ missing_table (length indicators) reference
unfolding leaf_table
leaf_table_none indicators prices benchmarks reference e =
    ap (λ (places : List ℕ). table_of_years indicators prices reference places (present_benchmarks benchmarks)) e

-- the table of a leaf with benchmarked years
pub leaf_table_is : (indicators : List ℕ) (prices : List (Option ℕ)) (benchmarks : List (Option ℤ)) (reference : ℕ)
    (places : List ℕ) (given : List ℤ) → places ≡ places_from 0 benchmarks → given ≡ present_benchmarks benchmarks →
    table_of_years indicators prices reference places given ≡ leaf_table indicators prices benchmarks reference
unfolding leaf_table
leaf_table_is indicators prices benchmarks reference places given e f =
    ap (λ (ps : List ℕ). table_of_years indicators prices reference ps given) e
    ∙ ap (λ (bs : List ℤ). table_of_years indicators prices reference (places_from 0 benchmarks) bs) f

-- the steps of a leaf's table are those of its run
pub leaf_steps : (indicators copied places : List ℕ) (given : List ℤ) (benchmarks : List (Option ℤ))
    (start now sweeps : ℕ) → copied ≡ indicators → places ≡ places_from 0 benchmarks →
    given ≡ present_benchmarks benchmarks →
    ((s : ℕ) → IsEnough (scale_of_years (years_at copied places given)) (years_at copied places given) s →
    now ≤ start + s * (length given - 1)) → AreEnough indicators benchmarks sweeps →
    now ≤ start + sweeps * joints_in benchmarks
leaf_steps indicators copied places given benchmarks start now sweeps e_copied e_places e_given taken enough =
    let years : years_at copied places given ≡ benchmarked_years indicators benchmarks =
    ap (λ (is : List ℕ). years_at is places given) e_copied ∙ ap (λ (ps : List ℕ). years_at indicators ps given) e_places
    ∙ ap (λ (bs : List ℤ). years_at indicators (places_from 0 benchmarks) bs) e_given in
    subst (λ (bs : List ℤ). now ≤ start + sweeps * (length bs - 1)) e_given
    (taken sweeps (subst (λ (ys : List BenchmarkedYear). IsEnough (scale_of_years ys) ys sweeps) (sym years) enough))

-- the table that is made of a run's years, scale, multipliers, values and gap
pub table_made : (indicators : List ℕ) (prices : List (Option ℕ)) (places : List ℕ) (benchmarks : List ℤ)
    (reference k : ℕ) (u x : List ℤ) (gap : ℤ) (value prev : List Cell) → 1 ≤ length places →
    k ≡ scale_of_years (years_at indicators places benchmarks) →
    u ≡ multipliers_of k (years_at indicators places benchmarks) →
    x ≡ run_values k (years_at indicators places benchmarks) u indicators →
    gap ≡ gap_by (pos (10 ^ k)) indicators x (changes (years_at indicators places benchmarks) u indicators) →
    value ≡ map Value x → prev ≡ volumes_of x prices →
    chained_table (Some (record {
      indicators = indicators;
      places = places;
      benchmarks = benchmarks;
      scale = k;
      multipliers = u;
      gap = gap;
    })) value prev reference ≡ table_of_years indicators prices reference places benchmarks
table_made indicators prices [] benchmarks reference k u x gap value prev some e_k e_u e_x e_gap e_value e_prev =
    absurd (omega arith)
table_made indicators prices (place ∷ places) benchmarks reference k u x gap value prev some e_k e_u e_x e_gap e_value
    e_prev = rw (e_value, e_prev, e_gap, e_x, e_u, e_k) refl

-- a table that has a chain is truly chained
pub table_chained : (leaf : Option Certificate) (value prev : List Cell) (reference : ℕ) → IsTrulyChained reference (chained_table leaf value prev reference)
table_chained leaf value prev reference = record {
  own = refl;
  levels = chain_linked value prev reference;
  near = chain_within_drift (chain_of value prev reference) value prev reference refl;
  quarters = chain_adds_up (chain_of value prev reference) value prev reference refl;
}

-- so is a leaf's
years_chained : (indicators : List ℕ) (prices : List (Option ℕ)) (reference : ℕ) (places : List ℕ) (benchmarks : List ℤ) →
    IsTrulyChained reference (table_of_years indicators prices reference places benchmarks)
years_chained indicators prices reference [] benchmarks =
    table_chained None (missing (length indicators)) (missing (length indicators)) reference
years_chained indicators prices reference (place ∷ places) benchmarks =
    let years : List BenchmarkedYear = years_at indicators (place ∷ places) benchmarks in
    let k : ℕ = scale_of_years years in
    let u : List ℤ = multipliers_of k years in
    let x : List ℤ = run_values k years u indicators in
    table_chained (Some (certificate_of indicators (place ∷ places) benchmarks k u x)) (map Value x)
    (volumes_of x prices) reference

pub leaf_chained : (indicators : List ℕ) (prices : List (Option ℕ)) (benchmarks : List (Option ℤ)) (reference : ℕ) →
    IsTrulyChained reference (leaf_table indicators prices benchmarks reference)
unfolding leaf_table
leaf_chained indicators prices benchmarks reference =
    years_chained indicators prices reference (places_from 0 benchmarks) (present_benchmarks benchmarks)
