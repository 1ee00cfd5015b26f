use Rattle.std.proofs.Common.{ap, subst, ℕ}
use Rattle.accounts_core.specs.Step.{Publishes}
use Rattle.office.proofs.Holding.{one_hold}
use Rattle.office.proofs.office.Office.publish.Goals as goal

pub returns-clause-hold : goal.returns-clause-hold
returns-clause-hold g c = one_hold _ c.args.pass c.leave.result c.enter-held.result.book.core c.book.result.now.core c.publish-reply.new.self.core c.enter-held.ensures.label c.enter-held.ensures.begins c.enter-held.ensures.own
    (ap (λ b. b.core) c.book.ensures.value) c.publish-reply.ensures.grows.3 c.leave.ensures.seen (subst (λ (p : ℕ). Publishes c.book.result.now.core p c.publish-reply.result c.publish-reply.new.self.core) c.party-party.ensures c.publish-reply.ensures.step)
