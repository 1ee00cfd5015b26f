-- Rows, and the runs that stand in them.
use Rattle.std.proofs.Common.{◌≡◌, ℕ, ℤ, pos, ◌+◌, ◌*◌, ◌/◌, ◌<◌, ◌≤◌, true, List, [], ◌∷◌, length, map, take, drop, Option, Some, None, nat_lt, refl, sym, ap, ◌∙◌, arith, subst, add-zero, zero-add, suc-mul, map-id, suc, get_or, set, replicate, All}
use Rattle.std.specs.Option.{ForSome, option_map}
use Rattle.std.proofs.lemmas.List.{get_or-replicate, length-replicate, length-set, length-take, length-drop, get_or-take, get_or-drop}
use Rattle.std.proofs.lemmas.List.Elements.{All-set, recursion_from_All, All-from_recursion}
use Rattle.std.proofs.lemmas.Bool.{lt-ltb}
use Rattle.std.proofs.Math.Nat.{mul-le-mul_right}
use Rattle.std.specs.List.{AllByRecursion}
use Rattle.series_tables.specs.declared.input.Kind.TheVariants.{Indicator, Benchmark, Price}
use Rattle.series_tables.specs.LastValue.{run_from}
use Rattle.series_tables.specs.Ranges.{AreRows, IsPositiveInRange, IsPositiveOrNone, IsBenchmarkInRange, IsBenchmarkOrNone}
use Rattle.series_tables.specs.Cells.{Rows, at_place, cell, cells_from, present_run, IsInputOf}

-- cells that hold nothing are in any range
pub all_none : {X : Type 0} (P : X → Type 0) (n : ℕ) → All (λ (cell : Option X). ForSome cell P) (replicate n None)
all_none {X} P n k d below x e =
    let nothing : Option X = None in
    let none : get_or (replicate n nothing) k d ≡ nothing = get_or-replicate n k nothing d (omega (arith, length-replicate n nothing)) in
    absurd (different x (sym none ∙ e))
  where
    different : (y : X) → ◌≡◌ {A = Option X} None (Some y) → ⊥
    different y same = cc

-- rows with no value
pub rows_of_none : (items : ℕ) (indicators prices : List (Option ℕ)) (benchmarks : List (Option ℤ)) → items ≤ 512 →
    indicators ≡ replicate (items * 256) None → prices ≡ replicate (items * 256) None → benchmarks ≡ replicate (items * 64) None →
    AreRows items indicators prices benchmarks
rows_of_none items indicators prices benchmarks few i p b = record {
  few = few;
  quarters = rw i (length-replicate (items * 256) None);
  priced = rw p (length-replicate (items * 256) None);
  years = rw b (length-replicate (items * 64) None);
  indicators_in_range = rw i (all_none IsPositiveInRange (items * 256));
  prices_in_range = rw p (all_none IsPositiveInRange (items * 256));
  benchmarks_in_range = rw b (all_none IsBenchmarkInRange (items * 64));
}

-- rows with one more benchmark
pub rows_with_benchmark : (items : ℕ) (indicators prices : List (Option ℕ)) (benchmarks : List (Option ℤ)) (at : ℕ) (value : ℤ) →
    AreRows items indicators prices benchmarks → IsBenchmarkInRange value → AreRows items indicators prices (set benchmarks at (Some value))
rows_with_benchmark items indicators prices benchmarks at value rows within = record {
  few = rows.few;
  quarters = rows.quarters;
  priced = rows.priced;
  years = length-set benchmarks at (Some value) ∙ rows.years;
  indicators_in_range = rows.indicators_in_range;
  prices_in_range = rows.prices_in_range;
  benchmarks_in_range = All-set IsBenchmarkOrNone benchmarks at (Some value) (λ x e. let same : value ≡ x = cc in subst IsBenchmarkInRange same within) rows.benchmarks_in_range;
}

-- the values of a run are in range where those of the row are
pub all_present : (row : List (Option ℕ)) → All IsPositiveOrNone row → All IsPositiveInRange (present_run row)
all_present row all = All-from_recursion IsPositiveInRange (present_run row) (by_cells row (recursion_from_All IsPositiveOrNone row all))
  where
    by_cells : (cells : List (Option ℕ)) → AllByRecursion IsPositiveOrNone cells → AllByRecursion IsPositiveInRange (present_run cells)
    by_cells [] each = tt
    by_cells (None ∷ rest) each = tt
    by_cells (Some value ∷ rest) each = (each.0 value refl, by_cells rest each.1)

-- a run of a row's places is the run by periods
pub run_of_row : (row : List (Option ℕ)) (value_at : ℕ → Option ℤ) (from : ℕ) →
    ((k : ℕ) → k < length row → value_at (from + k) ≡ option_map (λ n. pos n) (get_or row k None)) →
    map (λ n. pos n) (present_run row) ≡ run_from value_at (length row) from
run_of_row [] value_at from same = refl
run_of_row (place ∷ rest) value_at from same =
    by_cell place (subst (λ (at : ℕ). value_at at ≡ option_map (λ n. pos n) place) (add-zero from) (same 0 (omega arith)))
    (run_of_row rest value_at (suc from) (λ k below. subst (λ (at : ℕ). value_at at ≡ option_map (λ n. pos n) (get_or rest k None)) (omega arith) (same (suc k) (omega arith))))
  where
    by_cell : (first : Option ℕ) → value_at from ≡ option_map (λ n. pos n) first → map (λ n. pos n) (present_run rest) ≡ run_from value_at (length rest) (suc from) →
        map (λ n. pos n) (present_run (first ∷ rest)) ≡ run_from value_at (suc (length rest)) from
    by_cell None here later = rw (here, run_from) refl
    by_cell (Some value) here later = rw (here, run_from) (ap (λ values. pos value ∷ values) later)

-- a row's places are the cells by periods
pub cells_of_row : {X : Type 0} (show : Option X → Option ℤ) (row : List (Option X)) (value_at : ℕ → Option ℤ) (from : ℕ) →
    ((k : ℕ) → k < length row → value_at (from + k) ≡ show (get_or row k None)) →
    map show row ≡ cells_from value_at (length row) from
cells_of_row show [] value_at from same = refl
cells_of_row show (place ∷ rest) value_at from same =
    let here : value_at from ≡ show place = subst (λ (at : ℕ). value_at at ≡ show place) (add-zero from) (same 0 (omega arith)) in
    rw here (ap (λ cells. show place ∷ cells)
    (cells_of_row show rest value_at (suc from) (λ k below. subst (λ (at : ℕ). value_at at ≡ show (get_or rest k None)) (omega arith) (same (suc k) (omega arith)))))

-- what stands at a place of a leaf's row
pub place_in_row : {X : Type 0} (rows : List (Option X)) (width leaf items n k : ℕ) → length rows ≡ items * width → leaf < items → n ≤ width → k < n →
    at_place rows width leaf k ≡ get_or (take n (drop (leaf * width) rows)) k None
place_in_row rows width leaf items n k len below few within =
    let inside : nat_lt k width ≡ true = lt-ltb k width (omega arith) in
    rw (inside, get_or-take n (drop (leaf * width) rows) k None within, get_or-drop (leaf * width) rows k None) refl

-- how many places a part of a leaf's row has
pub length_of_row : {X : Type 0} (rows : List X) (width leaf items n : ℕ) → length rows ≡ items * width → leaf < items → n ≤ width →
    length (take n (drop (leaf * width) rows)) ≡ n
length_of_row rows width leaf items n len below few =
    let room : suc leaf * width ≤ items * width = mul-le-mul_right width below in
    let next : suc leaf * width ≡ leaf * width + width = suc-mul leaf width in
    omega (arith, length-take n (drop (leaf * width) rows), length-drop (leaf * width) rows)

-- what a leaf's rows give is its input
pub input_of_rows : (items leaf : ℕ) (indicators prices : List (Option ℕ)) (benchmarks : List (Option ℤ)) →
    AreRows items indicators prices benchmarks → leaf < items → (run : List ℕ) (priced : List (Option ℕ)) (benchmarked : List (Option ℤ)) →
    run ≡ present_run (take 256 (drop (leaf * 256) indicators)) → length run ≤ 256 →
    priced ≡ take (length run) (drop (leaf * 256) prices) → benchmarked ≡ take (length run / 4) (drop (leaf * 64) benchmarks) →
    IsInputOf (λ kind period. cell (record { items = items; indicators = indicators; prices = prices; benchmarks = benchmarks }) kind leaf period) run priced benchmarked
input_of_rows items leaf indicators prices benchmarks rows below run priced benchmarked r few p b =
    let quarters : length (take 256 (drop (leaf * 256) indicators)) ≡ 256 = length_of_row indicators 256 leaf items 256 rows.quarters below (omega arith) in
    let prices_there : length (take (length run) (drop (leaf * 256) prices)) ≡ length run = length_of_row prices 256 leaf items (length run) rows.priced below few in
    let years_there : length (take (length run / 4) (drop (leaf * 64) benchmarks)) ≡ length run / 4 = length_of_row benchmarks 64 leaf items (length run / 4) rows.years below (omega arith) in
    let the_rows : Rows = record { items = items; indicators = indicators; prices = prices; benchmarks = benchmarks } in
    record {
      run = rw r (subst (λ (n : ℕ). map (λ n. pos n) (present_run (take 256 (drop (leaf * 256) indicators))) ≡ run_from (λ period. cell the_rows Indicator leaf period) n 0) quarters
          (run_of_row (take 256 (drop (leaf * 256) indicators)) (λ period. cell the_rows Indicator leaf period) 0
          (λ k within. rw zero-add (ap (option_map (λ n. pos n)) (place_in_row indicators 256 leaf items 256 k rows.quarters below (omega arith) (omega arith))))));
      priced = rw p (subst (λ (n : ℕ). map (option_map (λ n. pos n)) (take (length run) (drop (leaf * 256) prices)) ≡ cells_from (λ period. cell the_rows Price leaf period) n 0) prices_there
          (cells_of_row (option_map (λ n. pos n)) (take (length run) (drop (leaf * 256) prices)) (λ period. cell the_rows Price leaf period) 0
          (λ k within. rw zero-add (ap (option_map (λ n. pos n)) (place_in_row prices 256 leaf items (length run) k rows.priced below few (omega arith))))));
      benchmarked = rw b (subst (λ (n : ℕ). take (length run / 4) (drop (leaf * 64) benchmarks) ≡ cells_from (λ period. cell the_rows Benchmark leaf period) n 0) years_there
          (sym (map-id (take (length run / 4) (drop (leaf * 64) benchmarks))) ∙ cells_of_row (λ x. x) (take (length run / 4) (drop (leaf * 64) benchmarks)) (λ period. cell the_rows Benchmark leaf period) 0
          (λ k within. rw zero-add (place_in_row benchmarks 64 leaf items (length run / 4) k rows.years below (omega arith) (omega arith)))));
    }
