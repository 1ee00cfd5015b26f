use Rattle.std.proofs.Common.{◌∙◌}
use Rattle.office.proofs.Gathering.{gathered_last, opened_apart}
use Rattle.office.proofs.tests.run.Goals as goal

pub crew-pass-requires-clause-first : goal.crew-pass-requires-clause-first
crew-pass-requires-clause-first g c κs within =
    (opened_apart c.in_ok-office.office c.args.plan 16 0 c.args.inputs.now c.remove-first.result c.in_ok-office.passes.items c.remove-first.new.self.items c.requires c.in_ok-office.ensures c.remove-first.ensures.value c.remove-first.ensures.items).0

pub crew-pass-requires-clause-others : goal.crew-pass-requires-clause-others
crew-pass-requires-clause-others g c κs within =
    (opened_apart c.in_ok-office.office c.args.plan 16 0 c.args.inputs.now c.remove-first.result c.in_ok-office.passes.items c.remove-first.new.self.items c.requires c.in_ok-office.ensures c.remove-first.ensures.value c.remove-first.ensures.items).1

pub crew-pass-requires-clause-knows : goal.crew-pass-requires-clause-knows
crew-pass-requires-clause-knows g c κs within =
    (opened_apart c.in_ok-office.office c.args.plan 16 0 c.args.inputs.now c.remove-first.result c.in_ok-office.passes.items c.remove-first.new.self.items c.requires c.in_ok-office.ensures c.remove-first.ensures.value c.remove-first.ensures.items).2.0

pub close-core-requires-clause-office : goal.close-core-requires-clause-office
close-core-requires-clause-office g c =
    let apart = opened_apart c.in_ok-office.office c.args.plan 16 0 c.args.inputs.now c.remove-first.result c.in_ok-office.passes.items c.remove-first.new.self.items c.requires c.in_ok-office.ensures c.remove-first.ensures.value c.remove-first.ensures.items in
    (c.crew-pass.ensures.0 ∙ apart.0.0.0, c.crew-pass.ensures.1)

pub close-core-requires-clause-last : goal.close-core-requires-clause-last
close-core-requires-clause-last g c =
    let apart = opened_apart c.in_ok-office.office c.args.plan 16 0 c.args.inputs.now c.remove-first.result c.in_ok-office.passes.items c.remove-first.new.self.items c.requires c.in_ok-office.ensures c.remove-first.ensures.value c.remove-first.ensures.items in
    gathered_last c.remove-first.result c.crew-pass.result.0 c.remove-first.new.self.items apart.2 c.crew-pass.ensures
