use Rattle.std.proofs.Common.{◌≡◌, ◌∙◌, ◌+◌, ◌-◌, ◌*◌, ◌≤◌, ◌<◌, ◌++◌, ◌∷◌, [], ap, sym, subst, arith, ℕ, ℤ, suc, List, Option, length, map, Global, length-append}
use Rattle.std.specs.Arc.{arc_value}
use Rattle.std.specs.List.{All}
use Rattle.std.specs.declared.sync.Arc.{Arc}
use Rattle.std.proofs.lemmas.List.{map-append, length-map}
use Rattle.series_tables.specs.Cells.{cell}
use Rattle.series_tables.specs.declared.input.Kind.{Kind}
use Rattle.series_tables.specs.Plan.{PlanShape}
use Rattle.node_compile.specs.Items.{AreLastItems}
use Rattle.node_compile.specs.Laws.{MeetsItsBenchmarks, IsWithinItsGap, IsGapWithinLimit, IsTrulyChained}
use Rattle.node_compile.specs.Release.{most_steps, joints_of}
use Rattle.node_compile.specs.Table.{Table, table_in}
use Rattle.node_compile.specs.declared.table.NodeTable.{NodeTable}
use Rattle.node_compile.proofs.Items.{steps_of, steps_part, steps_more, steps_within, compilation_is, tables_count}
use Rattle.node_compile.proofs.Tree.{last_none, last_more, all_made, all_known, all_chained, reverse-map}
use Rattle.node_compile.proofs.release.compile_all.Goals as goal

abbrev view : Arc NodeTable Global → Table
view node = table_in (arc_value node)

pub loop-item-init : goal.loop-item-init
loop-item-init g c =
    let none : c.in_ok-nodes.nodes.items ≡ [] = c.in_ok-nodes.ensures.items in
    (rw none (last_none (cell c.args.tables.now) c.args.plan.now c.len-item.result c.len-item.ensures.items), omega arith)

pub compile_item-requires-clause-behind : goal.compile_item-requires-clause-behind
compile_item-requires-clause-behind g c =
    let next : c.loop-item.item ≡ suc (c.loop-item.item - 1) = omega (arith, c.loop-item-test.true) in
    subst (λ (nodes : List (Arc NodeTable Global)). AreLastItems (cell c.args.tables.now) c.args.plan.now (suc (c.loop-item.item - 1)) (map view nodes)) (sym c.deref.ensures.value)
    (subst (λ (n : ℕ). AreLastItems (cell c.args.tables.now) c.args.plan.now n (map view c.loop-item.nodes.items)) next c.loop-item.invariant.0)

-- the steps that a turn's item leaves, however the turn ends
turn_within : (value_at : Kind → ℕ → ℕ → Option ℤ) (plan : PlanShape) (start now next item : ℕ) (nodes : List (Arc NodeTable Global)) → 0 < item → AreLastItems value_at plan item (map view nodes)
    → now ≤ start + steps_of value_at plan item (length nodes) → next ≤ now + 192 * joints_of value_at plan (item - 1) → next ≤ start + most_steps value_at plan
turn_within value_at plan start now next item nodes some last before more =
    steps_within value_at plan start now next (item - 1) item (length nodes) (omega (arith, some)) (omega (arith, last.whole, length-map nodes view)) before more

pub returns-in_err-table-clause-steps : goal.returns-in_err-table-clause-steps
returns-in_err-table-clause-steps g c =
    turn_within (cell c.args.tables.now) c.args.plan.now c.args.steps.now c.loop-item.steps c.compile_item.new.steps c.loop-item.item c.loop-item.nodes.items (omega (arith, c.loop-item-test.true)) c.loop-item.invariant.0 c.loop-item.invariant.1 c.compile_item.ensures.steps

pub returns-in_err-new-clause-steps : goal.returns-in_err-new-clause-steps
returns-in_err-new-clause-steps g c =
    turn_within (cell c.args.tables.now) c.args.plan.now c.args.steps.now c.loop-item.steps c.compile_item.new.steps c.loop-item.item c.loop-item.nodes.items (omega (arith, c.loop-item-test.true)) c.loop-item.invariant.0 c.loop-item.invariant.1 c.compile_item.ensures.steps

pub returns-in_err-push-clause-steps : goal.returns-in_err-push-clause-steps
returns-in_err-push-clause-steps g c =
    turn_within (cell c.args.tables.now) c.args.plan.now c.args.steps.now c.loop-item.steps c.compile_item.new.steps c.loop-item.item c.loop-item.nodes.items (omega (arith, c.loop-item-test.true)) c.loop-item.invariant.0 c.loop-item.invariant.1 c.compile_item.ensures.steps

pub loop-item-preserved : goal.loop-item-preserved
loop-item-preserved g c =
    let item : ℕ = c.loop-item.item - 1 in
    let next : c.loop-item.item ≡ suc item = omega (arith, c.loop-item-test.true) in
    let pushed : c.push.new.self.items ≡ c.loop-item.nodes.items ++ c.in_ok-new.field-0 ∷ [] = c.in_ok-push.ensures.items in
    let value : arc_value c.in_ok-new.field-0 ≡ c.in_ok-table.table = c.in_ok-new.ensures.ok in
    let table : view c.in_ok-new.field-0 ≡ table_in c.in_ok-table.table = ap table_in value in
    let made = last_more (cell c.args.tables.now) c.args.plan.now c.loop-item.item item (map view c.loop-item.nodes.items) (table_in c.in_ok-table.table) next c.in_ok-table.ensures.table c.in_ok-table.ensures.known c.loop-item.invariant.0 in
    let mapped : map view c.push.new.self.items ≡ map view c.loop-item.nodes.items ++ table_in c.in_ok-table.table ∷ [] =
    ap (map view) pushed ∙ map-append view c.loop-item.nodes.items (c.in_ok-new.field-0 ∷ []) ∙ ap (λ (t : Table). map view c.loop-item.nodes.items ++ t ∷ []) table in
    let count : length c.push.new.self.items ≡ suc (length c.loop-item.nodes.items) = omega (arith, ap length pushed, length-append c.loop-item.nodes.items (c.in_ok-new.field-0 ∷ [])) in
    let so_far = subst (λ (n : ℕ). c.loop-item.steps ≤ c.args.steps.now + steps_of (cell c.args.tables.now) c.args.plan.now n (length c.loop-item.nodes.items)) next c.loop-item.invariant.1 in
    let steps = steps_more (cell c.args.tables.now) c.args.plan.now c.args.steps.now c.loop-item.steps c.compile_item.new.steps item (length c.loop-item.nodes.items) so_far c.in_ok-table.ensures.steps in
    (subst (AreLastItems (cell c.args.tables.now) c.args.plan.now item) (sym mapped) made, subst (λ (n : ℕ). c.compile_item.new.steps ≤ c.args.steps.now + steps_of (cell c.args.tables.now) c.args.plan.now item n) (sym count) steps)

pub returns-clause-nodes : goal.returns-clause-nodes
returns-clause-nodes g c =
    ap (map view) c.reverse.ensures.items ∙ sym (reverse-map view c.loop-item.nodes.items)
    ∙ all_made (cell c.args.tables.now) c.args.plan.now c.loop-item.item (map view c.loop-item.nodes.items) (omega (arith, c.loop-item-test.false)) c.loop-item.invariant.0

pub returns-clause-items : goal.returns-clause-items
returns-clause-items g c = tables_count (cell c.args.tables.now) c.args.plan.now (map view c.reverse.new.self.items) (returns-clause-nodes g c)

pub returns-clause-compiled : goal.returns-clause-compiled
returns-clause-compiled g c given same = returns-clause-nodes g c ∙ compilation_is (cell c.args.tables.now) c.args.plan.now given same

pub returns-clause-meets : goal.returns-clause-meets
returns-clause-meets g c =
    all_known MeetsItsBenchmarks (cell c.args.tables.now) c.args.plan.now c.loop-item.item (map view c.loop-item.nodes.items) (map view c.reverse.new.self.items) (omega (arith, c.loop-item-test.false)) c.loop-item.invariant.0 (returns-clause-nodes g c) (λ leaves table known. known.meets)

pub returns-clause-within : goal.returns-clause-within
returns-clause-within g c =
    all_known IsWithinItsGap (cell c.args.tables.now) c.args.plan.now c.loop-item.item (map view c.loop-item.nodes.items) (map view c.reverse.new.self.items) (omega (arith, c.loop-item-test.false)) c.loop-item.invariant.0 (returns-clause-nodes g c) (λ leaves table known. known.within)

pub returns-clause-limit : goal.returns-clause-limit
returns-clause-limit g c =
    all_known IsGapWithinLimit (cell c.args.tables.now) c.args.plan.now c.loop-item.item
    (map view c.loop-item.nodes.items) (map view c.reverse.new.self.items) (omega (arith, c.loop-item-test.false))
    c.loop-item.invariant.0 (returns-clause-nodes g c) (λ leaves table known. known.limit)

pub returns-clause-steps : goal.returns-clause-steps
returns-clause-steps g c =
    let last = c.loop-item.invariant.0 in
    let part = steps_part (cell c.args.tables.now) c.args.plan.now c.loop-item.item (length c.loop-item.nodes.items) (omega (arith, last.whole, length-map c.loop-item.nodes.items view)) in
    omega (arith, part, c.loop-item.invariant.1)

pub returns-clause-chained : goal.returns-clause-chained
returns-clause-chained g c = subst (λ (tables : List Table). All (IsTrulyChained c.args.plan.now.reference) tables) (sym (returns-clause-nodes g c)) (all_chained (cell c.args.tables.now) c.args.plan.now)
