-- What is known of the items that were compiled before the item they stand under: the sizes of their cells, by the
-- number of leaves under them.
use Rattle.std.specs.Prelude.{◌≡◌, ℕ, ◌+◌, ◌-◌, ◌*◌, ◌^◌, ◌≤◌, ◌<◌, suc, ℤ, Bool, List, [], map, drop, length, reverse}
use Rattle.std.specs.Prelude.{slice_index_or, unsigned_abs, Option, Result}
use Rattle.std.specs.List.{All, list_any, range_with_len, flat_map}
use Rattle.std.specs.Arc.{arc_value}
use Rattle.std.specs.declared.sync.Arc.{Arc}
use Rattle.aggregate_tree.specs.Sum.{Sum}
use Rattle.aggregate_tree.specs.Tallies.{IsSumOf, tally_at}
use Rattle.aggregate_tree.specs.declared.tally.Tally.{Tally}
use Rattle.annual_overlap.specs.Years.{IsSizedCell}
use Rattle.price_base.specs.declared.Cell.{Cell}
use Rattle.price_base.specs.Cells.{cell_at, IsFlow}
use Rattle.series_tables.specs.Plan.{PlanShape, is_parent}
use Rattle.series_tables.specs.Tree.{of_children, leaves_from, leaves_under}
use Rattle.series_tables.specs.declared.input.Kind.{Kind}
use Rattle.node_compile.specs.Laws.{MeetsItsBenchmarks, IsWithinItsGap, IsGapWithinLimit}
use Rattle.node_compile.specs.Release.{item_table}
use Rattle.node_compile.specs.Table.{Table, table_in, node_tables, Makes}
use Rattle.node_compile.specs.declared.table.NodeTable.{NodeTable}

-- the values, and the volumes at previous-year prices, of a table that is shared
abbrev pub node_value : {Z : Type 0} → Arc NodeTable Z → List Cell
node_value node = (arc_value node).flows.value

abbrev pub node_prev : {Z : Type 0} → Arc NodeTable Z → List Cell
node_prev node = (arc_value node).flows.prev

-- what the cells of an item of a plan are: at most those of 64 years, no mark of a link among them, and each within so
-- much a leaf
pub record AreItemCells (most leaves : ℕ) (cells : List Cell) : Type 0 where
  pub few : length cells ≤ 256
  pub flows : All IsFlow cells
  pub sizes : (t : ℕ) → IsSizedCell (most * leaves) (cell_at cells t)

-- what is known of an item's table with so many leaves under the item: its values are within 10^24 a leaf and its
-- volumes within 10^15, and a leaf's values meet the benchmarks within the gap, which is within its limit
pub record IsKnownItem (leaves : ℕ) (table : Table) : Type 0 where
  pub value : AreItemCells (10 ^ 24) leaves table.value
  pub prev : AreItemCells (10 ^ 15) leaves table.prev
  pub meets : MeetsItsBenchmarks table
  pub within : IsWithinItsGap table
  pub limit : IsGapWithinLimit table

-- these are the tables of the last items of a plan, the last item's first
pub record AreLastItems (value_at : Kind → ℕ → ℕ → Option ℤ) (plan : PlanShape) (first : ℕ)
    (tables : List Table) : Type 0 where
  pub whole : first + length tables ≡ length plan.names
  pub made : reverse tables ≡ map (item_table value_at plan) (range_with_len first (length tables))
  pub known : (item : ℕ) → first ≤ item → item < length plan.names →
      IsKnownItem (length (leaves_under plan item)) (item_table value_at plan item)

-- tallies with room for 256 quarters are the sum of an item's children among the items from one on, whose parents and
-- lists of cells these are, and their sums are within so much a leaf
pub record IsSumBehind (most item first : ℕ) (parents : List (Option ℕ)) (lists : List (List Cell))
    (tallies : List Tally) : Type 0 where
  pub room : length tallies ≡ 256
  pub sum : IsSumOf (of_children item parents lists) tallies
  pub sizes : (t : ℕ) → unsigned_abs (tally_at tallies t).sum
      ≤ most * length (flat_map (λ leaves. leaves) (of_children item parents (leaves_from first parents)))

-- the same of the items behind an item, whose lists of cells come from these things, the last item's first
abbrev pub IsChildSum : {X : Type 0} → (X → List Cell) → ℕ → PlanShape → ℕ → List X → List Tally → Type 0
IsChildSum cells most plan item behind tallies =
    IsSumBehind most item (suc item) (drop (suc item) plan.parents) (reverse (map cells behind)) tallies

-- the lists of cells that come from these things, one for each of the last items, are within so much a leaf
abbrev pub AreLastCells : {X : Type 0} → (X → List Cell) → ℕ → PlanShape → List X → Type 0
AreLastCells cells most plan behind = (k : ℕ) → k < length behind →
    AreItemCells most (length (leaves_under plan (length plan.names - 1 - k))) (slice_index_or (map cells behind) k [])

-- so the values and the volumes of an item's children are summed
abbrev pub AreChildSums : {Z : Type 0} → PlanShape → ℕ → List (Arc NodeTable Z) → Sum → Type 0
AreChildSums plan item behind sum =
    IsChildSum node_value (10 ^ 24) plan item behind sum.value
    × IsChildSum node_prev (10 ^ 15) plan item behind sum.prev

-- and so are those of the last items known
abbrev pub AreLastFlows : {Z : Type 0} → PlanShape → List (Arc NodeTable Z) → Type 0
AreLastFlows plan behind = AreLastCells node_value (10 ^ 24) plan behind × AreLastCells node_prev (10 ^ 15) plan behind

-- whether an item has a child behind it
abbrev pub has_child : PlanShape → ℕ → Bool
has_child plan item = list_any (is_parent item) (drop (suc item) plan.parents)

-- what is known of an item's table once it is made
abbrev pub IsKnownOf : PlanShape → ℕ → NodeTable → Type 0
IsKnownOf plan item made = IsKnownItem (length (leaves_under plan item)) (table_in made)

-- a table, once it is made from those behind an item, is the item's
abbrev pub MakesItem : {Z E : Type 0} → PlanShape → ℕ → List (Arc NodeTable Z) → Result NodeTable E → Type 0
MakesItem plan item behind result = (value_at : Kind → ℕ → ℕ → Option ℤ) →
    AreLastItems value_at plan (suc item) (node_tables behind) → Makes result (item_table value_at plan item)
