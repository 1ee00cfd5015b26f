use Rattle.office.proofs.Events.{accept_answered, accepts_grows}
use Rattle.office.proofs.book.CoreBook.accept.Goals as goal

pub returns-clause-step : goal.returns-clause-step
returns-clause-step c = accept_answered c.args.party c.args.input c.accept-reply.result _ _ c.accept-reply.ensures.step c.accept-reply.ensures.memory

pub returns-clause-grows : goal.returns-clause-grows
returns-clause-grows c =
    accepts_grows c.args.party c.args.input _ _ c.accept-reply.result (accept_answered c.args.party c.args.input c.accept-reply.result _ _ c.accept-reply.ensures.step c.accept-reply.ensures.memory) c.stays_sound.ensures
