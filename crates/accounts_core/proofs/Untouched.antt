-- An item that no input between two fronts touches has the same table in the compilations of both.
use Rattle.std.proofs.Common.{◌≡◌, ◌∙◌, ap, sym, refl, ℕ, zero, suc, ◌+◌, ◌/◌, ◌≤◌, ◌<◌, ℤ, unsigned_abs, Bool, true, false, ◌&&◌, ◌||◌, cond, List, [], ◌∷◌, ◌++◌, length, map, take, drop, Option, None, Some, arith}
use Rattle.std.specs.Prelude.{◌==◌, IsFalse, slice_get}
use Rattle.std.specs.List.{list_any, range_with_len}
use Rattle.std.specs.Option.{option_map}
use Rattle.std.proofs.Math.Path.{fun_ext}
use Rattle.std.proofs.lemmas.List.{take-append-drop, take-take}
use Rattle.series_tables.specs.Cells.{cells_from}
use Rattle.series_tables.specs.LastValue.{same_kind, speaks_of, last_from, last_value, run_of}
use Rattle.series_tables.specs.Plan.{PlanShape, is_leaf}
use Rattle.series_tables.specs.Tree.{leaves_under}
use Rattle.series_tables.specs.declared.input.Input.{Input}
use Rattle.series_tables.specs.declared.input.Kind.{Kind}
use Rattle.series_tables.specs.declared.input.Kind.TheVariants.{Indicator, Benchmark, Price}
use Rattle.aggregate_tree.specs.Leaves.{added}
use Rattle.price_base.specs.declared.Cell.{Cell}
use Rattle.node_compile.specs.Leaf.{leaf_table}
use Rattle.node_compile.specs.Release.{table_of_leaf, inner_table, item_table, item_tables, compilation, values_of_leaves, volumes_of_leaves}
use Rattle.node_compile.specs.Table.{Table}
use Rattle.node_compile.proofs.Tree.{leaf_of_itself}
use Rattle.dirty_plan.specs.Touched.{names_leaf, inputs_between, is_touched, is_touched_between}

-- the last value of two lists, one after the other
pub last_from-append : (found : Option ℤ) (xs ys : List Input) (kind : Kind) (leaf period : ℕ) → last_from found (xs ++ ys) kind leaf period ≡ last_from (last_from found xs kind leaf period) ys kind leaf period
last_from-append found [] ys kind leaf period = refl
last_from-append found (x ∷ xs) ys kind leaf period = last_from-append (cond (speaks_of kind leaf period x) (Some x.value) found) xs ys kind leaf period

-- inputs that do not name a leaf leave its last values
last_from-unnamed : (found : Option ℤ) (ys : List Input) (kind : Kind) (leaf period : ℕ) → names_leaf ys leaf ≡ false → last_from found ys kind leaf period ≡ found
last_from-unnamed found [] kind leaf period none = refl
last_from-unnamed found (y ∷ ys) kind leaf period none = by_tests (same_kind y.kind kind) (y.leaf == leaf) (y.period == period) none (last_from-unnamed found ys kind leaf period)
  where
    by_tests : (k l p : Bool) → (l || names_leaf ys leaf) ≡ false → (names_leaf ys leaf ≡ false → last_from found ys kind leaf period ≡ found) → last_from (cond (k && l && p) (Some y.value) found) ys kind leaf period ≡ found
    by_tests k true p e rest = absurd (let never : true ≡ false = e in cc)
    by_tests true false p e rest = rest e
    by_tests false false p e rest = rest e

-- a leaf's last values after the first m and after the first n inputs, where none between names it
same_last : (inputs : List Input) (m n leaf : ℕ) → m ≤ n → names_leaf (inputs_between inputs m n) leaf ≡ false → (kind : Kind) → last_value (take m inputs) kind leaf ≡ last_value (take n inputs) kind leaf
same_last inputs m n leaf before none kind = fun_ext (λ period.
    let split : take m (take n inputs) ++ drop m (take n inputs) ≡ take n inputs = take-append-drop m (take n inputs) in
    let first : take m (take n inputs) ≡ take m inputs = take-take m n inputs before in
    sym (last_from-unnamed (last_value (take m inputs) kind leaf period) (drop m (take n inputs)) kind leaf period none)
    ∙ sym (last_from-append None (take m inputs) (drop m (take n inputs)) kind leaf period)
    ∙ ap (λ (l : List Input). last_from None (l ++ drop m (take n inputs)) kind leaf period) (sym first)
    ∙ ap (λ (l : List Input). last_from None l kind leaf period) split)

-- a leaf's table from its three rows
table_of_rows : (ℕ → Option ℤ) → (ℕ → Option ℤ) → (ℕ → Option ℤ) → ℕ → Table
table_of_rows indicators prices benchmarks reference =
    leaf_table (map unsigned_abs (run_of indicators)) (map (option_map unsigned_abs) (cells_from prices (length (run_of indicators)) 0)) (cells_from benchmarks (length (run_of indicators) / 4) 0) reference

rows_are : (value_at : Kind → ℕ → ℕ → Option ℤ) (reference leaf : ℕ) → table_of_leaf value_at reference leaf ≡ table_of_rows (value_at Indicator leaf) (value_at Price leaf) (value_at Benchmark leaf) reference
unfolding table_of_rows
rows_are value_at reference leaf = refl

pub same_leaf : (one two : Kind → ℕ → ℕ → Option ℤ) (reference leaf : ℕ) → ((kind : Kind) → one kind leaf ≡ two kind leaf) → table_of_leaf one reference leaf ≡ table_of_leaf two reference leaf
same_leaf one two reference leaf same =
    rows_are one reference leaf
    ∙ ap (λ (row : ℕ → Option ℤ). table_of_rows row (one Price leaf) (one Benchmark leaf) reference) (same Indicator)
    ∙ ap (λ (row : ℕ → Option ℤ). table_of_rows (two Indicator leaf) row (one Benchmark leaf) reference) (same Price)
    ∙ ap (λ (row : ℕ → Option ℤ). table_of_rows (two Indicator leaf) (two Price leaf) row reference) (same Benchmark)
    ∙ sym (rows_are two reference leaf)

-- what is made of each leaf of a list none of which is named
same_each : {X : Type 0} (one two : ℕ → X) (is_named : ℕ → Bool) (leaves : List ℕ) → list_any is_named leaves ≡ false → ((leaf : ℕ) → is_named leaf ≡ false → one leaf ≡ two leaf) → map one leaves ≡ map two leaves
same_each one two is_named [] none same = refl
same_each {X = X} one two is_named (leaf ∷ leaves) none same = by_test (is_named leaf) refl none (λ all. same_each one two is_named leaves all same)
  where
    by_test : (b : Bool) → is_named leaf ≡ b → (b || list_any is_named leaves) ≡ false → (list_any is_named leaves ≡ false → map one leaves ≡ map two leaves) → map one (leaf ∷ leaves) ≡ map two (leaf ∷ leaves)
    by_test true e all rest = absurd (let never : true ≡ false = all in cc)
    by_test false e all rest = ap (λ (x : X). x ∷ map one leaves) (same leaf e) ∙ ap (λ (xs : List X). two leaf ∷ xs) (rest all)

pub same_item : (one two : Kind → ℕ → ℕ → Option ℤ) (plan : PlanShape) (is_named : ℕ → Bool) (item : ℕ) → item < length plan.parents → is_touched plan is_named item ≡ false
    → ((leaf : ℕ) → is_named leaf ≡ false → (kind : Kind) → one kind leaf ≡ two kind leaf) → item_table one plan item ≡ item_table two plan item
same_item one two plan is_named item inside untouched same = by_leaf (is_leaf plan item) refl
  where
    leaf_same : (leaf : ℕ) → is_named leaf ≡ false → table_of_leaf one plan.reference leaf ≡ table_of_leaf two plan.reference leaf
    leaf_same leaf none = same_leaf one two plan.reference leaf (same leaf none)

    values : values_of_leaves one plan.reference (leaves_under plan item) ≡ values_of_leaves two plan.reference (leaves_under plan item)
    values = same_each (λ leaf. (table_of_leaf one plan.reference leaf).value) (λ leaf. (table_of_leaf two plan.reference leaf).value) is_named (leaves_under plan item) untouched (λ leaf none. ap (λ (t : Table). t.value) (leaf_same leaf none))

    volumes : volumes_of_leaves one plan.reference (leaves_under plan item) ≡ volumes_of_leaves two plan.reference (leaves_under plan item)
    volumes = same_each (λ leaf. (table_of_leaf one plan.reference leaf).prev) (λ leaf. (table_of_leaf two plan.reference leaf).prev) is_named (leaves_under plan item) untouched (λ leaf none. ap (λ (t : Table). t.prev) (leaf_same leaf none))

    own : is_leaf plan item ≡ true → is_named item ≡ false
    own e = by_named (is_named item) (ap (list_any is_named) (sym (leaf_of_itself plan item inside e)) ∙ untouched)
      where
        by_named : (b : Bool) → (b || false) ≡ false → b ≡ false
        by_named true h = h
        by_named false h = refl

    by_leaf : (b : Bool) → is_leaf plan item ≡ b →
        cond b (table_of_leaf one plan.reference item) (inner_table (values_of_leaves one plan.reference (leaves_under plan item)) (volumes_of_leaves one plan.reference (leaves_under plan item)) plan.reference)
        ≡ cond b (table_of_leaf two plan.reference item) (inner_table (values_of_leaves two plan.reference (leaves_under plan item)) (volumes_of_leaves two plan.reference (leaves_under plan item)) plan.reference)
    by_leaf true e = leaf_same item (own e)
    by_leaf false e =
        ap (λ (vs : List (List Cell)). inner_table vs (volumes_of_leaves one plan.reference (leaves_under plan item)) plan.reference) values
        ∙ ap (λ (vs : List (List Cell)). inner_table (values_of_leaves two plan.reference (leaves_under plan item)) vs plan.reference) volumes

-- the table of an item that no input between two fronts touches
pub same_table : (plan : PlanShape) (inputs : List Input) (m n item : ℕ) → m ≤ n → item < length plan.parents → is_touched_between plan inputs m n item ≡ false
    → item_table (last_value (take m inputs)) plan item ≡ item_table (last_value (take n inputs)) plan item
same_table plan inputs m n item before inside untouched =
    same_item (last_value (take m inputs)) (last_value (take n inputs)) plan (names_leaf (inputs_between inputs m n)) item inside untouched (λ leaf none. same_last inputs m n leaf before none)

-- two lists that are made alike at a place have the same there
pub made_alike : {X : Type 0} (one two : ℕ → X) (first count k : ℕ) → one (first + k) ≡ two (first + k) → slice_get (map one (range_with_len first count)) k ≡ slice_get (map two (range_with_len first count)) k
made_alike one two first zero k same = refl
made_alike {X} one two first (suc count) zero same = ap (λ (x : X). Some x) (let e : first + 0 ≡ first = omega arith in ap one (sym e) ∙ same ∙ ap two e)
made_alike one two first (suc count) (suc k) same = made_alike one two (first + 1) count k (let e : first + suc k ≡ first + 1 + k = omega arith in ap one (sym e) ∙ same ∙ ap two e)

-- the law, in the tables' places
pub untouched_stay : (plan : PlanShape) (inputs : List Input) (front later item : ℕ) → front ≤ later → later ≤ length inputs → item < length plan.parents → IsFalse (is_touched_between plan inputs front later item)
    → slice_get (compilation plan (take front inputs)) item ≡ slice_get (compilation plan (take later inputs)) item
unfolding compilation
untouched_stay plan inputs m n item before within inside untouched =
    let same : item_table (last_value (take m inputs)) plan item ≡ item_table (last_value (take n inputs)) plan item = same_table plan inputs m n item before inside untouched in
    let e : 0 + item ≡ item = omega arith in
    made_alike (item_table (last_value (take m inputs)) plan) (item_table (last_value (take n inputs)) plan) 0 (length plan.names) item
    (ap (item_table (last_value (take m inputs)) plan) e ∙ same ∙ ap (item_table (last_value (take n inputs)) plan) (sym e))
