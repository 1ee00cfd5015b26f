use Rattle.office.proofs.Events.{begin_answered, begins_stays}
use Rattle.office.proofs.book.CoreBook.begin.Goals as goal

pub returns-clause-step : goal.returns-clause-step
returns-clause-step c = begin_answered c.begin-reply.result _ _ c.begin-reply.ensures.step c.begin-reply.ensures.memory

pub returns-clause-stays : goal.returns-clause-stays
returns-clause-stays c = begins_stays _ _ c.begin-reply.result (begin_answered c.begin-reply.result _ _ c.begin-reply.ensures.step c.begin-reply.ensures.memory) c.stays_sound.ensures
