-- The tables of items: from a leaf's input, one more at a time, and the steps that they take.
use Rattle.std.specs.Prelude.{◌≡◌, ℕ, ◌+◌, ◌-◌, ◌*◌, ◌/◌, ◌≤◌, ℤ, pos, List, [], ◌∷◌, map, sum, length, unsigned_abs, true, Option, Some, None}
use Rattle.std.specs.List.{range_with_len}
use Rattle.std.specs.Option.{option_map}
use Rattle.std.proofs.Common.{refl, sym, ◌∙◌, ap, arith, zero, suc, subst}
use Rattle.std.proofs.Math.Path.{fun_ext}
use Rattle.std.proofs.lemmas.List.{length-map}
use Rattle.std.proofs.lemmas.List.FromFn.{length-map-range_with_len}
use Rattle.std.proofs.lemmas.List.Sums.{sum_by-cons}
use Rattle.series_tables.specs.Cells.{cells_from, IsInputOf}
use Rattle.series_tables.specs.LastValue.{run_of, last_value}
use Rattle.series_tables.specs.Plan.{PlanShape, is_leaf}
use Rattle.series_tables.specs.declared.input.Input.{Input}
use Rattle.series_tables.specs.declared.input.Kind.{Kind}
use Rattle.series_tables.specs.declared.input.Kind.TheVariants.{Indicator, Benchmark, Price}
use Rattle.node_compile.specs.Leaf.{joints_in, leaf_table}
use Rattle.node_compile.specs.Release.{joints_of, most_steps, table_of_leaf, item_table, item_tables, compilation}
use Rattle.node_compile.specs.Table.{Table}

-- numbers that are not negative are their sizes
sizes : (indicators : List ℕ) → map unsigned_abs (map (λ n. pos n) indicators) ≡ indicators
sizes [] = refl
sizes (i ∷ indicators) = ap (λ (rest : List ℕ). i ∷ rest) (sizes indicators)

-- the same of numbers or none
price_sizes : (prices : List (Option ℕ)) → map (option_map unsigned_abs) (map (option_map (λ n. pos n)) prices) ≡ prices
price_sizes [] = refl
price_sizes (None ∷ prices) = ap (λ (rest : List (Option ℕ)). None ∷ rest) (price_sizes prices)
price_sizes (Some price ∷ prices) = ap (λ (rest : List (Option ℕ)). Some price ∷ rest) (price_sizes prices)

-- the run of a leaf's input is as long as its indicators
run_count : (value_at : Kind → ℕ → Option ℤ) (indicators : List ℕ) (prices : List (Option ℕ)) (benchmarks : List (Option ℤ)) → IsInputOf value_at indicators prices benchmarks → length indicators ≡ length (run_of (value_at Indicator))
run_count value_at indicators prices benchmarks input = sym (length-map indicators (λ n. pos n)) ∙ ap (λ (run : List ℤ). length run) input.run

-- the benchmarks of a leaf's input are those of its whole years
same_benchmarks : (value_at : Kind → ℕ → Option ℤ) (indicators : List ℕ) (prices : List (Option ℕ)) (benchmarks : List (Option ℤ)) → IsInputOf value_at indicators prices benchmarks → benchmarks ≡ cells_from (value_at Benchmark) (length (run_of (value_at Indicator)) / 4) 0
same_benchmarks value_at indicators prices benchmarks input = input.benchmarked ∙ ap (λ (n : ℕ). cells_from (value_at Benchmark) (n / 4) 0) (run_count value_at indicators prices benchmarks input)

-- the prices of a leaf's input are those of its run's quarters
same_prices : (value_at : Kind → ℕ → Option ℤ) (indicators : List ℕ) (prices : List (Option ℕ)) (benchmarks : List (Option ℤ)) → IsInputOf value_at indicators prices benchmarks → prices ≡ map (option_map unsigned_abs) (cells_from (value_at Price) (length (run_of (value_at Indicator))) 0)
same_prices value_at indicators prices benchmarks input =
    sym (price_sizes prices) ∙ ap (λ (cells : List (Option ℤ)). map (option_map unsigned_abs) cells) (input.priced ∙ ap (λ (n : ℕ). cells_from (value_at Price) n 0) (run_count value_at indicators prices benchmarks input))

-- the table of a leaf's input is its item's
pub input_table : (value_at : Kind → ℕ → ℕ → Option ℤ) (reference item : ℕ) (indicators : List ℕ) (prices : List (Option ℕ)) (benchmarks : List (Option ℤ)) → IsInputOf (λ kind period. value_at kind item period) indicators prices benchmarks → leaf_table indicators prices benchmarks reference ≡ table_of_leaf value_at reference item
input_table value_at reference item indicators prices benchmarks input =
    let run : indicators ≡ map unsigned_abs (run_of (value_at Indicator item)) = sym (sizes indicators) ∙ ap (λ (run : List ℤ). map unsigned_abs run) input.run in
    ap (λ (is : List ℕ). leaf_table is prices benchmarks reference) run
    ∙ ap (λ (ps : List (Option ℕ)). leaf_table (map unsigned_abs (run_of (value_at Indicator item))) ps benchmarks reference) (same_prices (λ kind period. value_at kind item period) indicators prices benchmarks input)
    ∙ ap (λ (bs : List (Option ℤ)). leaf_table (map unsigned_abs (run_of (value_at Indicator item))) (map (option_map unsigned_abs) (cells_from (value_at Price item) (length (run_of (value_at Indicator item))) 0)) bs reference) (same_benchmarks (λ kind period. value_at kind item period) indicators prices benchmarks input)

-- a leaf's own table is its item's
pub leaf_is_item : (value_at : Kind → ℕ → ℕ → Option ℤ) (plan : PlanShape) (item : ℕ) → is_leaf plan item ≡ true → table_of_leaf value_at plan.reference item ≡ item_table value_at plan item
leaf_is_item value_at plan item leaf = rw leaf refl

-- and so are its joints
pub input_joints : (value_at : Kind → ℕ → ℕ → Option ℤ) (plan : PlanShape) (item : ℕ) (indicators : List ℕ) (prices : List (Option ℕ)) (benchmarks : List (Option ℤ)) → is_leaf plan item ≡ true → IsInputOf (λ kind period. value_at kind item period) indicators prices benchmarks
    → joints_in benchmarks ≡ joints_of value_at plan item
input_joints value_at plan item indicators prices benchmarks leaf input = rw leaf (ap joints_in (same_benchmarks (λ kind period. value_at kind item period) indicators prices benchmarks input))

-- the most steps of the items from one on, so many of them
abbrev pub steps_of : (Kind → ℕ → ℕ → Option ℤ) → PlanShape → ℕ → ℕ → ℕ
steps_of value_at plan first count = sum (map (λ item. 192 * joints_of value_at plan item) (range_with_len first count))

-- the steps of the item before them and theirs
pub steps_before : (value_at : Kind → ℕ → ℕ → Option ℤ) (plan : PlanShape) (item count : ℕ) → steps_of value_at plan item (suc count) ≡ 192 * joints_of value_at plan item + steps_of value_at plan (item + 1) count
steps_before value_at plan item count = sum_by-cons (λ n. n) (192 * joints_of value_at plan item) (map (λ i. 192 * joints_of value_at plan i) (range_with_len (item + 1) count))

-- items with some before them take no more steps than with those
steps_from : (value_at : Kind → ℕ → ℕ → Option ℤ) (plan : PlanShape) (first count before start : ℕ) → start + before ≡ first → steps_of value_at plan first count ≤ steps_of value_at plan start (before + count)
steps_from value_at plan first count zero start e =
    let same : start ≡ first = omega arith in
    let none : 0 + count ≡ count = omega arith in
    rw (same, none) (omega arith)
steps_from value_at plan first count (suc before) start e =
    let rest = steps_from value_at plan first count before (start + 1) (omega arith) in
    let own = steps_before value_at plan start (before + count) in
    let more : suc before + count ≡ suc (before + count) = omega arith in
    rw more (omega (arith, rest, own))

-- the items from one on take no more steps than all
pub steps_part : (value_at : Kind → ℕ → ℕ → Option ℤ) (plan : PlanShape) (first count : ℕ) → first + count ≡ length plan.names → steps_of value_at plan first count ≤ most_steps value_at plan
steps_part value_at plan first count whole = subst (λ (n : ℕ). steps_of value_at plan first count ≤ steps_of value_at plan 0 n) whole (steps_from value_at plan first count first 0 (omega arith))

-- one more item takes its own steps
pub steps_more : (value_at : Kind → ℕ → ℕ → Option ℤ) (plan : PlanShape) (start now next item count : ℕ) → now ≤ start + steps_of value_at plan (suc item) count → next ≤ now + 192 * joints_of value_at plan item → next ≤ start + steps_of value_at plan item (suc count)
steps_more value_at plan start now next item count before more =
    let own = steps_before value_at plan item count in
    let next_item : item + 1 ≡ suc item = omega arith in
    let same : steps_of value_at plan (item + 1) count ≡ steps_of value_at plan (suc item) count = ap (λ (n : ℕ). steps_of value_at plan n count) next_item in
    omega (arith, own, same, before, more)

-- one more item leaves the steps within those of all
pub steps_within : (value_at : Kind → ℕ → ℕ → Option ℤ) (plan : PlanShape) (start now next item after count : ℕ) → after ≡ suc item → after + count ≡ length plan.names → now ≤ start + steps_of value_at plan after count → next ≤ now + 192 * joints_of value_at plan item
    → next ≤ start + most_steps value_at plan
steps_within value_at plan start now next item after count e_after whole before more =
    let so_far : now ≤ start + steps_of value_at plan (suc item) count = subst (λ (n : ℕ). now ≤ start + steps_of value_at plan n count) e_after before in
    let one = steps_more value_at plan start now next item count so_far more in
    let part = steps_part value_at plan item (suc count) (omega (arith, e_after, whole)) in
    omega (arith, one, part)

-- what stands at each kind, leaf and period decides the compilation
pub compilation_is : (value_at : Kind → ℕ → ℕ → Option ℤ) (plan : PlanShape) (inputs : List Input) → ((kind : Kind) (leaf period : ℕ) → value_at kind leaf period ≡ last_value inputs kind leaf period) → item_tables value_at plan ≡ compilation plan inputs
unfolding compilation
compilation_is value_at plan inputs same =
    let last : value_at ≡ last_value inputs = fun_ext (λ kind. fun_ext (λ leaf. fun_ext (λ period. same kind leaf period))) in
    ap (λ (at : Kind → ℕ → ℕ → Option ℤ). item_tables at plan) last

-- so many cells are so many
pub cells_count : (at : ℕ → Option ℤ) (n from : ℕ) → length (cells_from at n from) ≡ n
cells_count at zero from = refl
cells_count at (suc n) from = ap suc (cells_count at n (suc from))

-- tables of items are as many as the items
pub tables_count : (value_at : Kind → ℕ → ℕ → Option ℤ) (plan : PlanShape) (tables : List Table) → tables ≡ item_tables value_at plan → length tables ≡ length plan.names
tables_count value_at plan tables same = ap (λ (tables : List Table). length tables) same ∙ length-map-range_with_len (item_table value_at plan) 0 (length plan.names)
