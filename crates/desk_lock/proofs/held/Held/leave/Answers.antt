use Rattle.std.proofs.Common.{rules}
use Rattle.desk_lock.proofs.Calls.{may_end}
use Rattle.desk_lock.proofs.held.Held.leave.Goals as goal

pub fetch_add-requires : goal.fetch_add-requires
fetch_add-requires g c = (search rules, search rules, may_end _ _ _ _ _ _ _ c.self.inside.seat.me.0 c.self.inside.book (search rules) (search rules) (search rules))
