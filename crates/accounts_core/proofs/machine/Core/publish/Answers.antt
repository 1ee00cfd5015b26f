use Rattle.std.proofs.Common.{◌≡◌, ◌∙◌, sym, Some}
use Rattle.accounts_core.proofs.Publishing.{publish_kept}
use Rattle.accounts_core.proofs.machine.Core.publish.Goals as goal

pub invariant_of-self-in-None-first_left : goal.invariant_of-self-in-None-first_left
invariant_of-self-in-None-first_left c =
    let is : c.self.inside.round ≡ Some c.in-Some.round = sym c.take.ensures.value ∙ c.in-Some.is in (
      publish_kept c.self.inside.plan c.self.inside.history.items c.push_reserved.new.self.items c.self.inside.accepted c.self.inside.tables c.self.inside.board c.put.new.self c.self.inside.round
          c.in-Some.round c.take.new.self c.args.party c.front-front.result c.jobs-jobs.result c.self.invariant.0 is c.in-None-first_left.ensures
          c.front-front.ensures c.jobs-jobs.ensures c.push_reserved.ensures.items c.put.ensures.shown c.take.ensures.after,
      λ r never. absurd (cc),
    )
