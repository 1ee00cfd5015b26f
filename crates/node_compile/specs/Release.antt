-- The compilation from scratch: the table of each item, from the last values of what was sent.
use Rattle.std.specs.Prelude.{◌≡◌, ℕ, ◌*◌, ◌/◌, ℤ, List, map, sum, length, if◌then◌else◌, Option, None, Result, IfOk}
use Rattle.std.specs.Prelude.{unsigned_abs}
use Rattle.std.specs.List.{All, range_with_len}
use Rattle.std.specs.Option.{option_map}
use Rattle.aggregate_tree.specs.Leaves.{added}
use Rattle.price_base.specs.declared.Cell.{Cell}
use Rattle.series_tables.specs.Cells.{Rows, cell, cells_from}
use Rattle.series_tables.specs.LastValue.{run_of, last_value}
use Rattle.series_tables.specs.Plan.{PlanShape, is_leaf}
use Rattle.series_tables.specs.Tree.{leaves_under}
use Rattle.series_tables.specs.declared.input.Input.{Input}
use Rattle.series_tables.specs.declared.input.Kind.{Kind}
use Rattle.series_tables.specs.declared.input.Kind.TheVariants.{Indicator, Benchmark, Price}
use Rattle.node_compile.specs.Leaf.{joints_in, leaf_table, chained_table}
use Rattle.node_compile.specs.Table.{Table, node_tables}
use Rattle.node_compile.specs.declared.release.Release.{Release}

-- the prices of the quarters of a leaf's run, and the benchmarks of its whole years
abbrev pub prices_of : (Kind → ℕ → ℕ → Option ℤ) → ℕ → List (Option ℕ)
prices_of value_at leaf =
    map (option_map unsigned_abs) (cells_from (value_at Price leaf) (length (run_of (value_at Indicator leaf))) 0)

abbrev pub whole_benchmarks : (Kind → ℕ → ℕ → Option ℤ) → ℕ → List (Option ℤ)
whole_benchmarks value_at leaf = cells_from (value_at Benchmark leaf) (length (run_of (value_at Indicator leaf)) / 4) 0

-- the table of a leaf, from what stands at each kind, leaf and period: the run of its indicators, the prices of the
-- run's quarters, and the benchmarks of its whole years
abbrev pub table_of_leaf : (Kind → ℕ → ℕ → Option ℤ) → ℕ → ℕ → Table
table_of_leaf value_at reference leaf =
    leaf_table (map unsigned_abs (run_of (value_at Indicator leaf))) (prices_of value_at leaf)
    (whole_benchmarks value_at leaf) reference

-- the table of an inner item: its values and its volumes at previous-year prices are the sums of those of the leaves
-- under it, quarter by quarter, and its chain is that of these sums. Chained volumes are not added up
abbrev pub inner_table : List (List Cell) → List (List Cell) → ℕ → Table
inner_table values volumes reference = chained_table None (added values) (added volumes) reference

-- the values, and the volumes, of some leaves
abbrev pub values_of_leaves : (Kind → ℕ → ℕ → Option ℤ) → ℕ → List ℕ → List (List Cell)
values_of_leaves value_at reference leaves = map (λ leaf. (table_of_leaf value_at reference leaf).value) leaves

abbrev pub volumes_of_leaves : (Kind → ℕ → ℕ → Option ℤ) → ℕ → List ℕ → List (List Cell)
volumes_of_leaves value_at reference leaves = map (λ leaf. (table_of_leaf value_at reference leaf).prev) leaves

-- the table of an item of a plan
abbrev pub item_table : (Kind → ℕ → ℕ → Option ℤ) → PlanShape → ℕ → Table
item_table value_at plan item =
    if is_leaf plan item then table_of_leaf value_at plan.reference item
    else inner_table (values_of_leaves value_at plan.reference (leaves_under plan item))
    (volumes_of_leaves value_at plan.reference (leaves_under plan item)) plan.reference

-- the number of an item's joints: one fewer than its benchmarked years, and none for an inner item
abbrev pub joints_of : (Kind → ℕ → ℕ → Option ℤ) → PlanShape → ℕ → ℕ
joints_of value_at plan item =
    if is_leaf plan item then joints_in (whole_benchmarks value_at item) else 0

-- the most steps that the solver takes for the items of a plan: 192 a joint
abbrev pub most_steps : (Kind → ℕ → ℕ → Option ℤ) → PlanShape → ℕ
most_steps value_at plan = sum (map (λ item. 192 * joints_of value_at plan item) (range_with_len 0 (length plan.names)))

-- the tables of a plan's items
abbrev pub item_tables : (Kind → ℕ → ℕ → Option ℤ) → PlanShape → List Table
item_tables value_at plan = map (item_table value_at plan) (range_with_len 0 (length plan.names))

-- the compilation of a list of inputs: each item's table from the last values of the whole list, chained from the
-- plan's reference year
unfoldable pub compilation : PlanShape → List Input → List Table
compilation plan inputs = item_tables (last_value inputs) plan

-- the tables that a release shows, item by item
abbrev pub tables_in : Release → List Table
tables_in release = node_tables release.nodes.items

-- what holds of each table that it shows
abbrev pub EachTable : (Table → Type 0) → Release → Type 0
EachTable P release = All P (tables_in release)

-- a release, once it is made, shows these tables; want of memory says nothing
abbrev pub Shows : {E : Type 0} → Result Release E → List Table → Type 0
Shows result tables = IfOk result (λ release. tables_in release ≡ tables)

-- the cells of tables are the last values of these inputs
abbrev pub HoldLastValues : Rows → List Input → Type 0
HoldLastValues rows inputs =
    (kind : Kind) (leaf period : ℕ) → cell rows kind leaf period ≡ last_value inputs kind leaf period

-- a release is the compilation from scratch of any inputs whose last values the tables hold
abbrev pub IsCompiledFrom : PlanShape → Rows → Release → Type 0
IsCompiledFrom plan rows release = (given : List Input) →
    HoldLastValues rows given → tables_in release ≡ compilation plan given
