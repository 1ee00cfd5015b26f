use Rattle.office.proofs.Events.{takes_stays}
use Rattle.office.proofs.book.CoreBook.take.Goals as goal

pub returns-clause-stays : goal.returns-clause-stays
returns-clause-stays c = takes_stays _ _ c.take-reply.result c.take-reply.ensures c.stays_sound.ensures
