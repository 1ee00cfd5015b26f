use Rattle.std.proofs.Common.{◌≡◌, ◌∙◌, ◌+◌, ap, sym, subst, suc, ℕ, List, length, map, take, arith}
use Rattle.std.specs.Arc.{arc_value}
use Rattle.std.proofs.lemmas.List.{length-map}
use Rattle.node_compile.specs.Release.{compilation}
use Rattle.node_compile.specs.Table.{Table, table_in}
use Rattle.round_works.specs.Tables.{shared_table}
use Rattle.accounts_history.specs.History.{inputs_of}
use Rattle.accounts_core.specs.State.{CoreState}
use Rattle.accounts_core.specs.Step.{ReadsAll}
use Rattle.accounts_core.proofs.Lists.{one_more, take_whole}
use Rattle.accounts_core.proofs.Handling.{state_of_parts}
use Rattle.accounts_core.proofs.machine.Core.read_all.Goals as goal

pub loop-node-preserved : goal.loop-node-preserved
loop-node-preserved c =
    let next : suc c.loop-node.node ≡ c.loop-node.node + 1 = omega arith in
    ap (map shared_table) c.in_ok-push.ensures.items
    ∙ one_more shared_table c.loop-node.nodes.items c.self.inside.board.shown c.loop-node.node c.show.result.now c.in_ok-try_clone.field-0 c.loop-node.invariant c.show.ensures (ap table_in c.in_ok-try_clone.ensures)
    ∙ ap (λ (n : ℕ). take n (map shared_table c.self.inside.board.shown)) next

pub returns : goal.returns
returns c =
    let kept = c.self.invariant.0 in
    let all : length (map shared_table c.self.inside.board.shown) ≡ c.loop-node.node =
    length-map c.self.inside.board.shown shared_table ∙ kept.published.shown
    ∙ (let e : length c.self.inside.plan.names ≡ c.loop-node.node = omega (arith, c.loop-node-test.false, c.loop-node.auto.node-end, c.len-node-end.ensures.items) in e) in
    let whole : map shared_table c.loop-node.nodes.items ≡ compilation c.self.inside.plan (take c.self.inside.board.front (inputs_of c.self.inside.history.items)) =
    c.loop-node.invariant ∙ take_whole (map shared_table c.self.inside.board.shown) c.loop-node.node all ∙ kept.published.tables in
    subst (λ (s : CoreState). ReadsAll s c.front.result (map shared_table c.loop-node.nodes.items)) c.self.view_is (
      c.front.ensures ∙ kept.front,
      whole ∙ ap (λ (n : ℕ). compilation c.self.inside.plan (take n (inputs_of c.self.inside.history.items))) kept.front,
    )
