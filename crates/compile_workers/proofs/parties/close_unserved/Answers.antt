use Rattle.std.proofs.Common.{◌∙◌, ap, sym, unwrap_or, vec_len}
use Rattle.compile_workers.proofs.Whole.{can_open, closed_lawful, unused_history, unused_of}
use Rattle.compile_workers.proofs.parties.close_unserved.Goals as goal

pub join_all-pass-requires : goal.join_all-pass-requires
join_all-pass-requires g c = can_open c.args.office c.args.plan.now (vec_len c.args.desks) c.requires.passes.0 c.args.passes.items c.requires.passes.2

pub close-core-requires-clause-office : goal.close-core-requires-clause-office
close-core-requires-clause-office g c =
    (unused_of c.args.office c.args.plan.now (vec_len c.args.desks) c.requires.passes.0 c.join_all-pass.result c.args.passes.items c.requires.passes.2
    c.join_all-pass.ensures).0

pub close-core-requires-clause-last : goal.close-core-requires-clause-last
close-core-requires-clause-last g c =
    (unused_of c.args.office c.args.plan.now (vec_len c.args.desks) c.requires.passes.0 c.join_all-pass.result c.args.passes.items c.requires.passes.2
    c.join_all-pass.ensures).2

pub returns-clause-plan : goal.returns-clause-plan
returns-clause-plan g c =
    let plan = (unused_of c.args.office c.args.plan.now (vec_len c.args.desks) c.requires.passes.0
    c.join_all-pass.result c.args.passes.items c.requires.passes.2 c.join_all-pass.ensures).1 in
    ap (λ o. unwrap_or o c.args.plan.now) (c.close-core.ensures.plan ∙ plan)

pub returns-clause-lawful : goal.returns-clause-lawful
returns-clause-lawful g c =
    closed_lawful c.args.plan.now c.join_all-pass.result c.close-core.result.1 c.close-core.result.0.history
    c.close-core.ensures.closed c.close-core.ensures.history
    (unused_of c.args.office c.args.plan.now (vec_len c.args.desks) c.requires.passes.0 c.join_all-pass.result c.args.passes.items c.requires.passes.2
    c.join_all-pass.ensures).1
    c.close-core.ensures.lawful

pub returns-clause-history : goal.returns-clause-history
returns-clause-history g c =
    unused_history c.args.office c.args.plan.now (vec_len c.args.desks) c.requires.passes.0 c.args.passes.items c.join_all-pass.result
    c.close-core.result.0.history c.requires.passes.2 c.join_all-pass.ensures c.close-core.ensures.each

pub returns-clause-seen : goal.returns-clause-seen
returns-clause-seen g c =
    c.close-core.ensures.closed.4
    ∙ sym c.close-core.ensures.history
    ∙ unused_history c.args.office c.args.plan.now (vec_len c.args.desks) c.requires.passes.0 c.args.passes.items c.join_all-pass.result
    c.close-core.result.0.history c.requires.passes.2 c.join_all-pass.ensures c.close-core.ensures.each
