use Rattle.std.proofs.Common.{rules, ap, sym, ◌∙◌, ◌%◌, ◌^◌, Some}
use Rattle.desk_lock.proofs.Calls.{served, headed}
use Rattle.desk_lock.proofs.Turns.{looks}
use Rattle.desk_lock.proofs.desk.Desk.take.Goals as goal

pub load-requires : goal.load-requires
load-requires g c = (search rules, search rules, looks _ _ _ _ _ _ _ (ap (λ m. m.0.phase) c.loop.invariant.1 ∙ c.requires.waits.1))

pub exchange-slot-requires : goal.exchange-slot-requires
exchange-slot-requires g c =
    let s = served g.B.Story.list g.B.Story.party g.B.Story.label _ _ _ _ c.if-load-ticket.true (c.requires.waits.2 ∙ ap (λ m. m.0.ticket % 2 ^ 64) (sym c.loop.invariant.1)) c.load.ensures.2 in
    (search rules, (Some s.0, headed _ _ _ _ s.1))
