use Rattle.std.proofs.Common.{◌≡◌, ◌∙◌, ◌<◌, ◌^◌, ap, sym, subst, arith, refl, not, Bool, true, false, ℕ, None, length, drop, suc, Global}
use Rattle.std.specs.Arc.{arc_value}
use Rattle.std.specs.declared.sync.Arc.{Arc}
use Rattle.std.specs.List.{list_any}
use Rattle.aggregate_tree.proofs.Kept.{flows_of_sum}
use Rattle.aggregate_tree.specs.Leaves.{all_leaves}
use Rattle.aggregate_tree.specs.Tallies.{cells_of}
use Rattle.series_tables.specs.Plan.{is_parent}
use Rattle.series_tables.specs.Tree.{leaves_under}
use Rattle.node_compile.specs.Items.{IsKnownItem}
use Rattle.node_compile.specs.Leaf.{chained_table}
use Rattle.node_compile.specs.Release.{inner_table}
use Rattle.node_compile.specs.Table.{Table, table_in}
use Rattle.node_compile.specs.declared.table.NodeTable.{NodeTable}
use Rattle.node_compile.proofs.Outcomes.{if_ok}
use Rattle.node_compile.proofs.Tree.{value_lists, prev_lists, sum_is_known, inner_is_item}
use Rattle.node_compile.proofs.release.inner_of_plan.Goals as goal

named : (b : Bool) → not b ≡ false → b ≡ true
named true e = refl
named false e = absurd (let never : true ≡ false = e in cc)

pub returns-clause-table : goal.returns-clause-table
returns-clause-table c value_at last =
    let parent = named (list_any (is_parent c.args.item) (drop (suc c.args.item) c.args.plan.now.parents)) c.requires.parent in
    let inside : c.args.item < length c.args.plan.now.parents = omega (arith, c.requires.whole, c.requires.parents) in
    let values = value_lists (λ (node : Arc NodeTable Global). table_in (arc_value node)) value_at c.args.plan.now c.args.item c.args.behind.now c.in_ok-sum.sum.value inside c.requires.parents parent last c.in_ok-sum.ensures.0 in
    let volumes = prev_lists (λ (node : Arc NodeTable Global). table_in (arc_value node)) value_at c.args.plan.now c.args.item c.args.behind.now c.in_ok-sum.sum.prev inside c.requires.parents parent last c.in_ok-sum.ensures.1 in
    let reference : c.reference.result.0 ≡ c.args.plan.now.reference = ap (λ r. r.0) c.reference.ensures.year in
    if_ok c.compile_inner.result _ _
    (λ table e. e ∙ ap (λ (n : ℕ). inner_table (all_leaves values.children) (all_leaves volumes.children) n) reference ∙ inner_is_item value_at c.args.plan.now c.args.item (all_leaves values.children) (all_leaves volumes.children) c.requires.inner values.all volumes.all)
    (c.compile_inner.ensures.leaves values.children volumes.children values.leaves volumes.leaves values.sum volumes.sum)

pub returns-clause-known : goal.returns-clause-known
returns-clause-known c =
    let parent = named (list_any (is_parent c.args.item) (drop (suc c.args.item) c.args.plan.now.parents)) c.requires.parent in
    let inside : c.args.item < length c.args.plan.now.parents = omega (arith, c.requires.whole, c.requires.parents) in
    let made : Table = chained_table None (cells_of c.in_ok-sum.sum.value) (cells_of c.in_ok-sum.sum.prev) c.reference.result.0 in
    let known : IsKnownItem (length (leaves_under c.args.plan.now c.args.item)) made = record {
      value = sum_is_known (10 ^ 24) c.args.item c.args.plan.now _ c.in_ok-sum.sum.value inside parent (flows_of_sum c.in_ok-sum.sum.value) c.in_ok-sum.ensures.0;
      prev = sum_is_known (10 ^ 15) c.args.item c.args.plan.now _ c.in_ok-sum.sum.prev inside parent (flows_of_sum c.in_ok-sum.sum.prev) c.in_ok-sum.ensures.1;
      meets = tt;
      within = tt;
      limit = tt;
    } in
    if_ok c.compile_inner.result _ _ (λ table e. subst (λ (t : Table). IsKnownItem (length (leaves_under c.args.plan.now c.args.item)) t) (sym e) known) c.compile_inner.ensures.table
