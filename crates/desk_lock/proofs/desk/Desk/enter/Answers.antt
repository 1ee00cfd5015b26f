use Rattle.std.proofs.Common.{rules}
use Rattle.desk_lock.proofs.Calls.{pass_rests}
use Rattle.desk_lock.proofs.Turns.{draws}
use Rattle.desk_lock.proofs.desk.Desk.enter.Goals as goal

pub fetch_add-ticket-requires : goal.fetch_add-ticket-requires
fetch_add-ticket-requires g c = (search rules, search rules, draws _ _ _ _ _ _ _ (pass_rests _ _ c.pass.inside.seat.me.0 _ c.pass.view_is c.pass.invariant.1 c.requires))
