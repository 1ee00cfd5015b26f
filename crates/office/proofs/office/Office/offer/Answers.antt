use Rattle.std.proofs.Common.{ap, subst, ℕ}
use Rattle.office.proofs.Holding.{Offers, one_hold}
use Rattle.office.proofs.office.Office.offer.Goals as goal

pub returns-clause-hold : goal.returns-clause-hold
returns-clause-hold g c = one_hold _ c.args.pass c.leave.result c.enter-held.result.book.core c.book.result.now.core c.accept-reply.new.self.core c.enter-held.ensures.label c.enter-held.ensures.begins c.enter-held.ensures.own
    (ap (λ b. b.core) c.book.ensures.value) c.accept-reply.ensures.grows.3 c.leave.ensures.seen (subst (λ (p : ℕ). Offers p c.args.input c.accept-reply.result c.book.result.now.core c.accept-reply.new.self.core) c.party-party.ensures c.accept-reply.ensures.step)
