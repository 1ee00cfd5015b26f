use Rattle.std.proofs.Common.{◌≡◌, ◌∙◌, ap, sym, subst, length, List, Option}
use Rattle.series_tables.specs.declared.input.Input.{Input}
use Rattle.node_compile.specs.Table.{Table, table_in}
use Rattle.round_works.specs.Adding.{CanAddTo}
use Rattle.round_works.specs.declared.work.Work.{Work}
use Rattle.round_works.proofs.Rounds.{can_add_to, made_table, out_within, parts_as, parts_done, written_flows}
use Rattle.round_works.proofs.round.OpenRound.finish.Goals as goal

pub add_to_parent-requires-clause-range : goal.add_to_parent-requires-clause-range
add_to_parent-requires-clause-range c =
    let inputs : List Input = c.requires.0 in
    let out = c.requires.1.1 in
    let table = ap table_in c.deref.ensures ∙ made_table c.args.plan.now inputs c.args.made out.1 in
    let both = can_add_to c.args.plan.now inputs c.args.self.now.front c.args.self.now.jobs c.args.self.now.kept.items c.args.self.now.ready.items c.args.made.node c.parent-parent.result c.requires.1.0 out.0 c.parent-parent.ensures.parent c.parent-parent.ensures.smaller in
    subst (λ (works : List (Option Work)). CanAddTo c.parent-parent.result c.deref.result.now.flows.value c.deref.result.now.flows.prev works) (sym c.deref_mut.ensures.value)
    (subst (λ (t : Table). CanAddTo c.parent-parent.result t.value t.prev c.args.self.now.kept.items) (sym table) both.0)

pub add_to_parent-requires-2-clause-range : goal.add_to_parent-requires-2-clause-range
add_to_parent-requires-2-clause-range c =
    let inputs : List Input = c.requires.0 in
    let out = c.requires.1.1 in
    let table = ap table_in c.deref-2.ensures ∙ made_table c.args.plan.now inputs c.args.made out.1 in
    let both = can_add_to c.args.plan.now inputs c.args.self.now.front c.args.self.now.jobs c.args.self.now.kept.items c.args.self.now.ready.items c.args.made.node c.parent-parent.result c.requires.1.0 out.0 c.parent-parent.ensures.parent c.parent-parent.ensures.smaller in
    subst (λ (works : List (Option Work)). CanAddTo c.parent-parent.result c.deref-2.result.now.flows.value c.deref-2.result.now.flows.prev works) (sym c.deref_mut-2.ensures.value)
    (subst (λ (t : Table). CanAddTo c.parent-parent.result t.value t.prev c.args.self.now.ready.items) (sym table) both.1)

pub returns-clause-works : goal.returns-clause-works
returns-clause-works c = λ inputs over out.
    let done = parts_done c.args.plan.now inputs c.args.self.now.front c.args.self.now.jobs c.args.self.now.kept.items c.args.self.now.ready.items c.args.made.node c.parent-parent.result over
    c.args.self.now.all_kept c.args.self.now.all_ready out.0 c.parent-parent.ensures.parent c.parent-parent.ensures.smaller in
    let kept = written_flows c.args.plan.now inputs c.args.self.now.kept.len c.args.made.node c.parent-parent.result (table_in c.deref.result.now) c.args.self.now.kept.items c.deref_mut.result.now c.add_to_parent.new.works
    (ap table_in c.deref.ensures ∙ made_table c.args.plan.now inputs c.args.made out.1) (sym c.deref_mut.ensures.len ∙ ap (λ l. length l) c.deref_mut.ensures.value) c.deref_mut.ensures.value c.add_to_parent.ensures in
    let ready = written_flows c.args.plan.now inputs c.args.self.now.ready.len c.args.made.node c.parent-parent.result (table_in c.deref-2.result.now) c.args.self.now.ready.items c.deref_mut-2.result.now c.add_to_parent-2.new.works
    (ap table_in c.deref-2.ensures ∙ made_table c.args.plan.now inputs c.args.made out.1) (sym c.deref_mut-2.ensures.len ∙ ap (λ l. length l) c.deref_mut-2.ensures.value) c.deref_mut-2.ensures.value c.add_to_parent-2.ensures in
    parts_as c.args.plan.now inputs c.args.self.now.front _ c.finish.new.self _ _ _ _ c.finish.ensures kept ready done

pub parent-parent-requires : goal.parent-parent-requires
parent-parent-requires c =
    out_within c.args.plan.now c.requires.0 c.args.self.now.front c.args.self.now.jobs c.args.self.now.kept.items c.args.self.now.ready.items c.args.made.node c.requires.1.0 c.requires.1.1.0
