use Rattle.office.proofs.Events.{publishes_grows}
use Rattle.office.proofs.book.CoreBook.publish.Goals as goal

pub returns-clause-grows : goal.returns-clause-grows
returns-clause-grows c = publishes_grows c.args.party _ _ c.publish-reply.result c.publish-reply.ensures c.stays_sound.ensures
