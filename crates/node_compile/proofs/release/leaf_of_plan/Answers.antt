use Rattle.std.proofs.Common.{◌≡◌, ◌∙◌, ◌+◌, ◌-◌, ◌*◌, ◌^◌, ◌≤◌, inl, refl, arith, ap, sym, subst, ℕ, length}
use Rattle.series_tables.specs.Cells.{cell}
use Rattle.series_tables.specs.Tree.{leaves_under}
use Rattle.node_compile.specs.Items.{IsKnownItem}
use Rattle.node_compile.specs.Leaf.{leaf_table}
use Rattle.node_compile.specs.Table.{table_in}
use Rattle.node_compile.specs.declared.table.NodeTable.{NodeTable}
use Rattle.node_compile.proofs.Items.{input_table, input_joints, leaf_is_item}
use Rattle.node_compile.proofs.Outcomes.{if_ok, ok_six}
use Rattle.node_compile.proofs.Sizes.{wider}
use Rattle.node_compile.proofs.Tree.{leaf_of_itself, sized_everywhere}
use Rattle.node_compile.proofs.release.leaf_of_plan.Goals as goal

pub returns-clause-table : goal.returns-clause-table
returns-clause-table g c =
    let reference : c.reference.result.0 ≡ c.args.plan.now.reference = ap (λ r. r.0) c.reference.ensures.year in
    if_ok c.compile_leaf.result _ _
    (λ table e. e ∙ ap (λ (n : ℕ). leaf_table c.in_ok-input.input.ind.items c.in_ok-input.input.price.items c.in_ok-input.input.bench.items n) reference
    ∙ input_table (cell c.args.tables.now) c.args.plan.now.reference c.args.item c.in_ok-input.input.ind.items c.in_ok-input.input.price.items c.in_ok-input.input.bench.items c.in_ok-input.ensures
    ∙ leaf_is_item (cell c.args.tables.now) c.args.plan.now c.args.item c.requires.leaf)
    c.compile_leaf.ensures.table

pub returns-clause-known : goal.returns-clause-known
returns-clause-known g c =
    let one : length (leaves_under c.args.plan.now c.args.item) ≡ 1 = ap length (leaf_of_itself c.args.plan.now c.args.item c.requires.item c.requires.leaf) in
    let run : length c.in_ok-input.input.ind.items ≤ 256 = omega (arith, c.in_ok-input.input.run) in
    ok_six c.compile_leaf.result _ _ _ _ _ _ _
    (λ (table : NodeTable) quarters meets within limit values volumes. subst (λ (n : ℕ). IsKnownItem n (table_in table)) (sym one) (record {
      value = record { few = omega (arith, quarters, run); flows = table.flows.value_flows; sizes = sized_everywhere (10 ^ 24 * 1) table.flows.value (wider (10 ^ 24 - 1) (10 ^ 24 * 1) table.flows.value (omega arith) values) };
      prev = record { few = omega (arith, quarters, run, table.flows.same_length); flows = table.flows.prev_flows; sizes = sized_everywhere (10 ^ 15 * 1) table.flows.prev volumes };
      meets = meets;
      within = within;
      limit = limit;
    }))
    c.compile_leaf.ensures.quarters c.compile_leaf.ensures.meets c.compile_leaf.ensures.within
    c.compile_leaf.ensures.limit c.compile_leaf.ensures.value_sizes c.compile_leaf.ensures.volume_sizes

pub returns-clause-steps : goal.returns-clause-steps
returns-clause-steps g c =
    let joints = input_joints (cell c.args.tables.now) c.args.plan.now c.args.item c.in_ok-input.input.ind.items c.in_ok-input.input.price.items c.in_ok-input.input.bench.items c.requires.leaf c.in_ok-input.ensures in
    subst (λ (n : ℕ). c.compile_leaf.new.steps ≤ c.args.steps.now + 192 * n) joints
    (c.compile_leaf.ensures.steps 192 (inl refl))
