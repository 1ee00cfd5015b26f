use Rattle.std.proofs.Common.{◌∙◌, List, rules, subst, sym}
use Rattle.std.proofs.iter.Serving.{serving}
use Rattle.office.specs.Gathered.{IsGathered}
use Rattle.office.specs.Holds.{Known}
use Rattle.office.proofs.Gathering.{gathers, popped_ready}
use Rattle.office.proofs.tests.+crew+fn-crew-join+arg2.Goals as goal

pub join-rest-requires-after_bounds : goal.join-rest-requires-after_bounds
join-rest-requires-after_bounds g t c κs within =
    let ready = popped_ready c.args.office.now c.args.inputs.now c.args.others.items c.pop.new.self.items c.in-Some.last c.requires.others c.in-Some.ensures.items in
    ((first_of (search rules, grind serving), ((λ a m. m), ((c.requires.first, ready.0, c.requires.knows, first_of (search rules, grind serving)), first_of (search rules, grind serving)))), ready.1)

pub join-requires-clause-second : goal.join-requires-clause-second
join-requires-clause-second g t c =
    let ready = popped_ready c.args.office.now c.args.inputs.now c.args.others.items c.pop.new.self.items c.in-Some.last c.requires.others c.in-Some.ensures.items in
    (c.join-rest.ensures.second.0 ∙ ready.1.0.0, c.join-rest.ensures.second.1 ∙ ready.1.0.1)

pub returns : goal.returns
returns g t c =
    subst (λ (others : List Known). IsGathered c.args.first others c.join.result) (sym c.in-Some.ensures.items)
    (gathers c.args.first c.join-rest.result.0.0 c.in-Some.last c.join-rest.result.1.0 c.join.result c.pop.new.self.items c.requires.knows c.join-rest.ensures.first c.join-rest.ensures.second c.join.ensures.joined)
