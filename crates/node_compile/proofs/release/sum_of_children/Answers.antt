use Rattle.std.proofs.Common.{◌≡◌, ◌-◌, ◌^◌, ◌≤◌, ◌∙◌, ℕ, true, None, length, get_or, ap, sym, subst, arith, Global}
use Rattle.std.specs.declared.sync.Arc.{Arc}
use Rattle.aggregate_tree.specs.Sum.{Sum, with_child}
use Rattle.aggregate_tree.specs.Tallies.{with_cells, AreValueSums, AreVolumeSums}
use Rattle.series_tables.specs.Plan.{is_parent}
use Rattle.node_compile.specs.Items.{node_value, node_prev}
use Rattle.node_compile.specs.declared.table.NodeTable.{NodeTable}
use Rattle.node_compile.proofs.Tree.{nothing_behind, node_few, node_turn, turn_past, turns_done, value_turn_fits, volume_turn_fits}
use Rattle.node_compile.proofs.release.sum_of_children.Goals as goal
use Rattle.node_compile.proofs.release.sum_of_children.Goals.{then-is_child, else-is_child}

pub loop-place-init : goal.loop-place-init
loop-place-init c =
    let made = c.in_ok-sum.ensures in
    let room : length c.in_ok-sum.sum.value ≡ 256 = ap (λ (s : Sum). length s.value) made.empty in
    let prev_room : length c.in_ok-sum.sum.prev ≡ 256 = ap (λ (s : Sum). length s.prev) made.empty in
    let none : c.in_ok-sum.sum.children ≡ 0 = ap (λ (s : Sum). s.children) made.empty in (
      nothing_behind (10 ^ 24) c.args.item (length c.args.plan.now.names - 0) c.args.plan.now.parents c.in_ok-sum.sum.value (omega (arith, c.len-items.ensures)) room made.value,
      nothing_behind (10 ^ 15) c.args.item (length c.args.plan.now.names - 0) c.args.plan.now.parents c.in_ok-sum.sum.prev (omega (arith, c.len-items.ensures)) prev_room made.prev,
      omega (arith, none),
    )

pub add-requires-clause-children : goal.add-requires-clause-children
add-requires-clause-children c = omega (arith, c.loop-place.invariant.2, c.requires.whole, c.loop-place-test.true, c.len-items.ensures.items, c.len-items.ensures.few)

pub add-requires-clause-quarters : goal.add-requires-clause-quarters
add-requires-clause-quarters c =
    let node : Arc NodeTable Global = c.index-behind-place.result in
    let few : length c.deref.result.now.flows.value ≤ 256 = subst (λ (t : NodeTable). length t.flows.value ≤ 256) (sym c.deref.ensures) (node_few node_value (10 ^ 24) c.loop-place.place c.args.plan.now c.args.behind.now node c.loop-place-test.true c.index-behind-place.is c.requires.known.0) in
    omega (arith, c.loop-place.invariant.0.room, few)

pub add-requires-clause-value_sums : goal.add-requires-clause-value_sums
add-requires-clause-value_sums c =
    let node : Arc NodeTable Global = c.index-behind-place.result in
    let turn = node_turn node_value (10 ^ 24) c.args.item c.loop-place.place c.args.plan.now c.args.behind.now node c.loop-place.sum.value (omega (arith, c.len-items.ensures)) c.requires.whole c.loop-place-test.true c.index-behind-place.is c.requires.known.0 c.loop-place.invariant.0 in
    let own : is_parent c.args.item (get_or c.args.plan.now.parents (length c.args.plan.now.names - 1 - c.loop-place.place) None) ≡ true = ap (λ (n : ℕ). is_parent c.args.item (get_or c.args.plan.now.parents (n - 1 - c.loop-place.place) None)) (sym c.len-items.ensures.items) ∙ sym (c.if-is_child.ensures) in
    let fits = value_turn_fits node_value c.args.item c.loop-place.place c.args.plan.now c.args.behind.now (with_cells (node_value node) c.loop-place.sum.value) (omega (arith, c.len-items.ensures)) c.requires.whole c.loop-place-test.true (turn own) in
    subst (λ (t : NodeTable). AreValueSums (with_cells t.flows.value c.loop-place.sum.value)) (sym c.deref.ensures) fits

pub add-requires-clause-prev_sums : goal.add-requires-clause-prev_sums
add-requires-clause-prev_sums c =
    let node : Arc NodeTable Global = c.index-behind-place.result in
    let turn = node_turn node_prev (10 ^ 15) c.args.item c.loop-place.place c.args.plan.now c.args.behind.now node c.loop-place.sum.prev (omega (arith, c.len-items.ensures)) c.requires.whole c.loop-place-test.true c.index-behind-place.is c.requires.known.1 c.loop-place.invariant.1 in
    let own : is_parent c.args.item (get_or c.args.plan.now.parents (length c.args.plan.now.names - 1 - c.loop-place.place) None) ≡ true = ap (λ (n : ℕ). is_parent c.args.item (get_or c.args.plan.now.parents (n - 1 - c.loop-place.place) None)) (sym c.len-items.ensures.items) ∙ sym (c.if-is_child.ensures) in
    let fits = volume_turn_fits node_prev c.args.item c.loop-place.place c.args.plan.now c.args.behind.now (with_cells (node_prev node) c.loop-place.sum.prev) (omega (arith, c.len-items.ensures)) c.requires.whole c.loop-place-test.true (turn own) in
    subst (λ (t : NodeTable). AreVolumeSums (with_cells t.flows.prev c.loop-place.sum.prev)) (sym c.deref.ensures) fits

pub loop-place-preserved : goal.loop-place-preserved
loop-place-preserved c =
    let same : is_parent c.args.item (get_or c.args.plan.now.parents (length c.args.plan.now.names - 1 - c.loop-place.place) None) ≡ c.is_child.result =
    ap (λ (n : ℕ). is_parent c.args.item (get_or c.args.plan.now.parents (n - 1 - c.loop-place.place) None)) (sym c.len-items.ensures.items) ∙ sym c.is_child.ensures in
    elim c.if-is_child.branch [
      | then-is_child w ↦
          let node : Arc NodeTable Global = w.index-behind-place.result in
          let values = node_turn node_value (10 ^ 24) c.args.item c.loop-place.place c.args.plan.now c.args.behind.now node c.loop-place.sum.value (omega (arith, c.len-items.ensures)) c.requires.whole c.loop-place-test.true w.index-behind-place.is c.requires.known.0 c.loop-place.invariant.0 in
          let volumes = node_turn node_prev (10 ^ 15) c.args.item c.loop-place.place c.args.plan.now c.args.behind.now node c.loop-place.sum.prev (omega (arith, c.len-items.ensures)) c.requires.whole c.loop-place-test.true w.index-behind-place.is c.requires.known.1 c.loop-place.invariant.1 in
          let own = same ∙ w.if-is_child.true in
          let made : c.if-is_child.sum ≡ with_child (node_value node) (node_prev node) c.loop-place.sum = w.sum-is ∙ w.add.ensures.added ∙ ap (λ (t : NodeTable). with_child t.flows.value t.flows.prev c.loop-place.sum) w.deref.ensures in
          rw made (values own, volumes own, omega (arith, c.loop-place.invariant.2))
      | else-is_child w ↦
          let values = turn_past node_value (10 ^ 24) c.args.item c.loop-place.place c.args.plan.now c.args.behind.now c.loop-place.sum.value (omega (arith, c.len-items.ensures)) c.requires.whole c.loop-place-test.true (same ∙ w.if-is_child.false) c.loop-place.invariant.0 in
          let volumes = turn_past node_prev (10 ^ 15) c.args.item c.loop-place.place c.args.plan.now c.args.behind.now c.loop-place.sum.prev (omega (arith, c.len-items.ensures)) c.requires.whole c.loop-place-test.true (same ∙ w.if-is_child.false) c.loop-place.invariant.1 in
          rw w.sum-is (values, volumes, omega (arith, c.loop-place.invariant.2))
    ]

pub returns : goal.returns
returns c = (
  turns_done node_value (10 ^ 24) c.args.item c.loop-place.place c.args.plan.now c.args.behind.now c.loop-place.sum.value c.requires.whole (omega (arith, c.loop-place-test.false, c.loop-place.auto)) c.loop-place.invariant.0,
  turns_done node_prev (10 ^ 15) c.args.item c.loop-place.place c.args.plan.now c.args.behind.now c.loop-place.sum.prev c.requires.whole (omega (arith, c.loop-place-test.false, c.loop-place.auto)) c.loop-place.invariant.1,
)
