use Rattle.office.proofs.Events.{puts_back_stays}
use Rattle.office.proofs.book.CoreBook.put_back.Goals as goal

pub returns-clause-stays : goal.returns-clause-stays
returns-clause-stays c = puts_back_stays _ _ c.args.job c.put_back-reply.result c.put_back-reply.ensures c.stays_sound.ensures
