use Rattle.std.proofs.Common.{ap}
use Rattle.office.proofs.Holding.{one_hold}
use Rattle.office.proofs.office.Office.give_back.Goals as goal

pub returns-clause-hold : goal.returns-clause-hold
returns-clause-hold g c = one_hold _ c.args.pass c.leave.result c.enter-held.result.book.core _ _ c.enter-held.ensures.label c.enter-held.ensures.begins c.enter-held.ensures.own
    (ap (λ b. b.core) c.book.ensures.value) c.put_back-reply.ensures.stays.2 c.leave.ensures.seen c.put_back-reply.ensures.step
