-- The cells of a leaf are flows, whatever was sent, and adding up an item's children is adding up the leaves under it.
use Rattle.std.proofs.Common.{◌≡◌, ◌∙◌, ap, sym, refl, subst, ℕ, suc, ◌-◌, ◌<◌, ℤ, pos, ◌*ℤ◌, Bool, true, false, cond, List, [], ◌∷◌, length, map, drop, get_or, Option, Some, None, arith}
use Rattle.std.specs.Prelude.{◌&&◌, int_le}
use Rattle.std.specs.List.{All, list_any, range_with_len}
use Rattle.std.proofs.lemmas.Simd.{map-map}
use Rattle.std.proofs.lemmas.List.Elements.{All-map, All-replicate}
use Rattle.aggregate_tree.specs.Leaves.{added}
use Rattle.aggregate_tree.proofs.Adding.{sum_over_leaves}
use Rattle.price_base.specs.declared.Base.{Base}
use Rattle.price_base.specs.declared.Cell.{Cell}
use Rattle.price_base.specs.declared.Cell.TheVariants.{Missing, Value, NoBase, Range}
use Rattle.price_base.specs.declared.Sold.{Sold}
use Rattle.price_base.specs.Cells.{IsFlow}
use Rattle.price_base.specs.Volumes.{volume_of, volume_at, volumes_of, volume_within, is_small, base_at, base_start, sold_at}
use Rattle.ratio_arith.specs.Division.{round_of}
use Rattle.series_tables.proofs.Leaves.{of_children-map, children_have_leaves}
use Rattle.series_tables.specs.Plan.{PlanShape, is_parent}
use Rattle.series_tables.specs.Tree.{of_children, leaves_from, leaves_under}
use Rattle.series_tables.specs.declared.input.Kind.{Kind}
use Rattle.node_compile.specs.Leaf.{leaf_table, table_of_years}
use Rattle.node_compile.specs.Release.{table_of_leaf, values_of_leaves, volumes_of_leaves, item_table}
use Rattle.node_compile.specs.Table.{Table}
use Rattle.node_compile.proofs.Items.{leaf_is_item}
use Rattle.node_compile.proofs.Tree.{cells_over_leaves, lists_over_leaves, leaf_lists, lists_have_leaves, leaves_of_inner}

-- a number, and a mark that a leaf can have, is no mark of a link
value_flow : (number : ℤ) → IsFlow (Value number)
value_flow number e = cc

missing_flow : IsFlow Missing
missing_flow e = cc

values_of_years_flow : (indicators : List ℕ) (prices : List (Option ℕ)) (reference : ℕ) (places : List ℕ)
    (benchmarks : List ℤ) → All IsFlow (table_of_years indicators prices reference places benchmarks).value
values_of_years_flow indicators prices reference [] benchmarks = All-replicate IsFlow (length indicators) Missing missing_flow
values_of_years_flow indicators prices reference (place ∷ places) benchmarks = All-map IsFlow Value _ (λ k d below. value_flow _)

within_flow : (small : Bool) (volume : ℤ) → IsFlow (cond small (Value volume) Range)
within_flow true volume e = cc
within_flow false volume e = cc

by_tests : (fits none : Bool) (volume : ℤ) → IsFlow (cond fits (cond none NoBase (volume_within volume)) Range)
by_tests true true volume e = cc
by_tests true false volume e = within_flow (is_small volume) volume e
by_tests false none volume e = cc

volume_flow : (base : Option Base) (own : Option Sold) → IsFlow (volume_of base own)
volume_flow None own = missing_flow
volume_flow (Some base) None = missing_flow
volume_flow (Some base) (Some own) = by_tests (is_small own.quantity && base.small) (int_le base.quantity (pos 0)) (round_of (own.quantity *ℤ base.value) base.quantity)

volumes_flow : (values : List ℤ) (prices : List (Option ℕ)) → All IsFlow (volumes_of values prices)
unfolding volumes_of
volumes_flow values prices = All-map IsFlow (volume_at values prices) (range_with_len 0 (length values)) (λ k d below.
    let t : ℕ = get_or (range_with_len 0 (length values)) k d in
    volume_flow (base_at values prices (base_start t)) (sold_at values prices t))

volumes_of_years_flow : (indicators : List ℕ) (prices : List (Option ℕ)) (reference : ℕ) (places : List ℕ)
    (benchmarks : List ℤ) → All IsFlow (table_of_years indicators prices reference places benchmarks).prev
volumes_of_years_flow indicators prices reference [] benchmarks = All-replicate IsFlow (length indicators) Missing missing_flow
volumes_of_years_flow indicators prices reference (place ∷ places) benchmarks = volumes_flow _ prices

-- no value of a leaf is the mark of a link
pub leaf_values_flow : (value_at : Kind → ℕ → ℕ → Option ℤ) (reference leaf : ℕ) → All IsFlow (table_of_leaf value_at reference leaf).value
unfolding leaf_table
leaf_values_flow value_at reference leaf = values_of_years_flow _ _ reference _ _

-- nor is a volume
pub leaf_volumes_flow : (value_at : Kind → ℕ → ℕ → Option ℤ) (reference leaf : ℕ) → All IsFlow (table_of_leaf value_at reference leaf).prev
unfolding leaf_table
leaf_volumes_flow value_at reference leaf = volumes_of_years_flow _ _ reference _ _

-- adding up an inner item's children is adding up the leaves under it
over_children : (g : Table → List Cell) (value_at : Kind → ℕ → ℕ → Option ℤ) (plan : PlanShape) (item : ℕ) → item < length plan.parents → list_any (is_parent item) (drop (suc item) plan.parents) ≡ true
    → ((other : ℕ) → other < length plan.parents → g (item_table value_at plan other) ≡ added (map (λ leaf. g (table_of_leaf value_at plan.reference leaf)) (leaves_under plan other)))
    → added (of_children item (drop (suc item) plan.parents) (map (λ child. g (item_table value_at plan child)) (range_with_len (suc item) (length plan.parents - suc item)))) ≡ added (map (λ leaf. g (table_of_leaf value_at plan.reference leaf)) (leaves_under plan item))
over_children g value_at plan item inside inner each =
    let leaf_cells : ℕ → List Cell = λ leaf. g (table_of_leaf value_at plan.reference leaf) in
    let parents : List (Option ℕ) = drop (suc item) plan.parents in
    let kids : List (List ℕ) = of_children item parents (leaves_from (suc item) parents) in
    let listed = lists_over_leaves (λ other. g (item_table value_at plan other)) leaf_cells plan (suc item) (length plan.parents - suc item) (omega arith) (λ other above below. each other below) in
    let summed : of_children item parents (map (λ child. g (item_table value_at plan child)) (range_with_len (suc item) (length plan.parents - suc item))) ≡ map added (map (λ leaves. map leaf_cells leaves) kids) =
    ap (of_children item parents) listed ∙ of_children-map (λ leaves. added (map leaf_cells leaves)) item parents (leaves_from (suc item) parents) ∙ sym (map-map added (λ leaves. map leaf_cells leaves) kids) in
    ap added summed ∙ sum_over_leaves (map (λ leaves. map leaf_cells leaves) kids) (lists_have_leaves leaf_cells kids (children_have_leaves item (suc item) parents))
    ∙ ap added (leaf_lists leaf_cells kids ∙ ap (map leaf_cells) (sym (leaves_of_inner plan item inside inner)))

-- so are its children's values
pub values_over_children : (value_at : Kind → ℕ → ℕ → Option ℤ) (plan : PlanShape) (item : ℕ) → item < length plan.parents → list_any (is_parent item) (drop (suc item) plan.parents) ≡ true
    → added (of_children item (drop (suc item) plan.parents) (map (λ child. (item_table value_at plan child).value) (range_with_len (suc item) (length plan.parents - suc item)))) ≡ added (values_of_leaves value_at plan.reference (leaves_under plan item))
values_over_children value_at plan item inside inner = over_children (λ t. t.value) value_at plan item inside inner
    (λ other below. cells_over_leaves (λ t. t.value) value_at plan other below (λ e. subst (λ (t : Table). All IsFlow t.value) (leaf_is_item value_at plan other e) (leaf_values_flow value_at plan.reference other)) (λ e. rw e refl))

-- and its children's volumes
pub volumes_over_children : (value_at : Kind → ℕ → ℕ → Option ℤ) (plan : PlanShape) (item : ℕ) → item < length plan.parents → list_any (is_parent item) (drop (suc item) plan.parents) ≡ true
    → added (of_children item (drop (suc item) plan.parents) (map (λ child. (item_table value_at plan child).prev) (range_with_len (suc item) (length plan.parents - suc item)))) ≡ added (volumes_of_leaves value_at plan.reference (leaves_under plan item))
volumes_over_children value_at plan item inside inner = over_children (λ t. t.prev) value_at plan item inside inner
    (λ other below. cells_over_leaves (λ t. t.prev) value_at plan other below (λ e. subst (λ (t : Table). All IsFlow t.prev) (leaf_is_item value_at plan other e) (leaf_volumes_flow value_at plan.reference other)) (λ e. rw e refl))
