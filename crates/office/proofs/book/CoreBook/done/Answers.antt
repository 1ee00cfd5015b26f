use Rattle.office.proofs.Events.{hands_in_stays}
use Rattle.office.proofs.book.CoreBook.done.Goals as goal

pub returns-clause-stays : goal.returns-clause-stays
returns-clause-stays c = hands_in_stays _ _ c.args.made c.done-reply.result c.done-reply.ensures c.stays_sound.ensures
