-- What an item's table is made from: the work of its job. Its meaning is that of the compilation from scratch.
use Rattle.std.specs.Prelude.{ℕ, ◌*◌, ◌/◌, ℤ, List, map, length, if◌then◌else◌, Option, None, unsigned_abs}
use Rattle.std.specs.Option.{option_map}
use Rattle.aggregate_tree.specs.Leaves.{added}
use Rattle.aggregate_tree.specs.Tallies.{cells_of}
use Rattle.price_base.specs.declared.Cell.{Cell}
use Rattle.series_tables.specs.Cells.{cells_from}
use Rattle.series_tables.specs.LastValue.{run_of, last_value}
use Rattle.series_tables.specs.Plan.{PlanShape, is_leaf}
use Rattle.series_tables.specs.Tree.{leaves_under}
use Rattle.series_tables.specs.declared.input.Input.{Input}
use Rattle.series_tables.specs.declared.input.Kind.{Kind}
use Rattle.series_tables.specs.declared.input.Kind.TheVariants.{Indicator, Benchmark, Price}
use Rattle.node_compile.specs.Leaf.{joints_in, leaf_table, chained_table}
use Rattle.node_compile.specs.Release.{item_table, values_of_leaves, volumes_of_leaves}
use Rattle.node_compile.specs.Table.{Table}
use Rattle.round_works.specs.declared.work.Work.{Work}
use Rattle.round_works.specs.declared.work.Work.TheVariants.{Leaf, Inner}

-- a leaf's run of indicators with the prices and benchmarks beside it, or the sums over the leaves under an inner item
pub data ItemWork : Type 0 where
  leaf_work : (indicators : List ℕ) (prices : List (Option ℕ)) (benchmarks : List (Option ℤ)) → ItemWork
  inner_work : (values volumes : List Cell) → ItemWork

-- a leaf's work, from what stands at each kind and period of it
abbrev pub work_of_leaf : (Kind → ℕ → Option ℤ) → ItemWork
work_of_leaf value_at =
    let quarters : ℕ = length (run_of (value_at Indicator)) in
    leaf_work (map unsigned_abs (run_of (value_at Indicator)))
    (map (option_map unsigned_abs) (cells_from (value_at Price) quarters 0))
    (cells_from (value_at Benchmark) (quarters / 4) 0)

-- an inner item's work, from what stands at each kind, leaf and period and from the leaves under the item
abbrev pub work_over_leaves : (Kind → ℕ → ℕ → Option ℤ) → ℕ → List ℕ → ItemWork
work_over_leaves value_at reference leaves =
    inner_work (added (values_of_leaves value_at reference leaves))
    (added (volumes_of_leaves value_at reference leaves))

-- an item's work, from what stands at each kind, leaf and period
abbrev pub item_work : (Kind → ℕ → ℕ → Option ℤ) → PlanShape → ℕ → ItemWork
item_work value_at plan item =
    if is_leaf plan item then work_of_leaf (λ kind period. value_at kind item period)
    else work_over_leaves value_at plan.reference (leaves_under plan item)

-- an item's work, and its table, after these inputs
abbrev pub work_after : PlanShape → List Input → ℕ → ItemWork
work_after plan inputs item = item_work (last_value inputs) plan item

abbrev pub table_after : PlanShape → List Input → ℕ → Table
table_after plan inputs item = item_table (last_value inputs) plan item

-- what the code's work says; of a sum only the cells
abbrev pub work_in : Work → ItemWork
work_in (Leaf input) = leaf_work input.ind.items input.price.items input.bench.items
work_in (Inner sum) = inner_work (cells_of sum.value) (cells_of sum.prev)

-- the table that a work is worth, chained from a reference year
abbrev pub table_of_work : ℕ → ItemWork → Table
table_of_work reference (leaf_work indicators prices benchmarks) = leaf_table indicators prices benchmarks reference
table_of_work reference (inner_work values volumes) = chained_table None values volumes reference

-- the most steps that the solver takes for a work: 192 a joint between a leaf's benchmarked years
abbrev pub most_steps_of : ItemWork → ℕ
most_steps_of (leaf_work indicators prices benchmarks) = 192 * joints_in benchmarks
most_steps_of (inner_work values volumes) = 0
