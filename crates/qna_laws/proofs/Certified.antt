-- Accepted inputs are in range, so what is compiled from them meets the benchmarks within the gap.
use Rattle.std.proofs.Common.{◌≡◌, ◌/◌, ℕ, ℤ, pos, ◌≤ℤ◌, Bool, true, false, ◌&&◌, ◌==◌, cond, List, [], ◌∷◌, length, map, get_or, Option, sym, ap, ◌∙◌, unsigned_abs}
use Rattle.std.specs.List.{range_with_len, AllByRecursion}
use Rattle.std.specs.Option.{option_map}
use Rattle.std.proofs.lemmas.List.{length-map}
use Rattle.std.proofs.lemmas.List.Elements.{All-map}
use Rattle.series_tables.specs.Plan.{PlanShape, is_leaf}
use Rattle.series_tables.specs.Tree.{leaves_under}
use Rattle.series_tables.specs.Cells.{cells_from}
use Rattle.series_tables.specs.LastValue.{last_value, run_of}
use Rattle.series_tables.specs.declared.input.Kind.{Kind}
use Rattle.series_tables.specs.declared.input.Kind.TheVariants.{Indicator, Benchmark, Price}
use Rattle.input_rules.specs.Requests.{release}
use Rattle.input_rules.specs.Accepted.{accepted}
use Rattle.input_rules.proofs.AcceptedInputs.{IsOfKind, value_range, run_range, indicators_range, benchmarks_range}
use Rattle.node_compile.specs.Laws.{MeetsItsBenchmarks, IsWithinItsGap, IsGapWithinLimit}
use Rattle.node_compile.specs.Release.{table_of_leaf, inner_table, values_of_leaves, volumes_of_leaves, item_table, compilation}
use Rattle.node_compile.specs.Table.{Table}
use Rattle.node_compile.proofs.Tree.{all_chained}
use Rattle.node_compile.proofs.Sent.{IsLeafInRange, tables_true}
use Rattle.node_compile.proofs.Worth.{IsWorth, leaf_worth}
use Rattle.node_compile.proofs.Items.{cells_count}
use Rattle.qna_laws.specs.Releases.{IsCertified, ReleasesAreCertified}

-- what the table of a leaf of a text is worth
leaf_of_text : (plan : PlanShape) (text : List ℕ) (item : ℕ) →
    IsWorth (table_of_leaf (last_value (accepted plan text)) plan.reference item)
leaf_of_text plan text item =
    let value_at : Kind → ℕ → ℕ → Option ℤ = last_value (accepted plan text) in
    let run : List ℤ = run_of (value_at Indicator item) in
    let years : length (cells_from (value_at Benchmark item) (length run / 4) 0) ≡ length (map unsigned_abs run) / 4 =
    cells_count (value_at Benchmark item) (length run / 4) 0 ∙ sym (ap (λ (n : ℕ). n / 4) (length-map run unsigned_abs)) in
    leaf_worth (map unsigned_abs run) (map (option_map unsigned_abs) (cells_from (value_at Price item) (length run) 0))
    (cells_from (value_at Benchmark item) (length run / 4) 0) plan.reference
    (indicators_range run
    (run_range (value_at Indicator item) (λ period value. value_range plan text Indicator item period value) 256 0))
    (benchmarks_range (value_at Benchmark item)
    (λ period value. value_range plan text Benchmark item period value) (length run / 4) 0)
    years

-- what an item's table is worth: an inner item has no benchmarks of its own
item_worth : (plan : PlanShape) (text : List ℕ) (item : ℕ) →
    IsWorth (item_table (last_value (accepted plan text)) plan item)
item_worth plan text item = by_leaf (is_leaf plan item)
  where
    value_at : Kind → ℕ → ℕ → Option ℤ
    value_at = last_value (accepted plan text)

    table : Bool → Table
    table b = cond b (table_of_leaf value_at plan.reference item)
        (inner_table (values_of_leaves value_at plan.reference (leaves_under plan item))
        (volumes_of_leaves value_at plan.reference (leaves_under plan item)) plan.reference)

    by_leaf : (b : Bool) → IsWorth (table b)
    by_leaf true = leaf_of_text plan text item
    by_leaf false = (tt, tt, tt)

-- what the accepted inputs of a text give for a leaf is in range
leaf_range : (plan : PlanShape) (text : List ℕ) (leaf : ℕ) → IsLeafInRange (last_value (accepted plan text)) leaf
leaf_range plan text leaf =
    let value_at : Kind → ℕ → ℕ → Option ℤ = last_value (accepted plan text) in
    record {
      run = run_range (value_at Indicator leaf)
          (λ period value. value_range plan text Indicator leaf period value) 256 0;
      benchmarks = benchmarks_range (value_at Benchmark leaf)
          (λ period value. value_range plan text Benchmark leaf period value)
          (length (run_of (value_at Indicator leaf)) / 4) 0;
    }

-- every release is certified
pub releases_certified : ReleasesAreCertified
unfolding ReleasesAreCertified IsCertified compilation
releases_certified plan text = (
  tables_true (last_value (accepted plan text)) plan (leaf_range plan text),
  All-map MeetsItsBenchmarks (item_table (last_value (accepted plan text)) plan) (range_with_len 0 (length plan.names))
      (λ k d inside. (item_worth plan text (get_or (range_with_len 0 (length plan.names)) k d)).0),
  All-map IsWithinItsGap (item_table (last_value (accepted plan text)) plan) (range_with_len 0 (length plan.names))
      (λ k d inside. (item_worth plan text (get_or (range_with_len 0 (length plan.names)) k d)).1),
  All-map IsGapWithinLimit (item_table (last_value (accepted plan text)) plan) (range_with_len 0 (length plan.names))
      (λ k d inside. (item_worth plan text (get_or (range_with_len 0 (length plan.names)) k d)).2),
  all_chained (last_value (accepted plan text)) plan,
)
