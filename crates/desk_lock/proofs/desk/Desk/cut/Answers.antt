use Rattle.std.proofs.Common.{rules}
use Rattle.desk_lock.proofs.Calls.{cuts}
use Rattle.desk_lock.proofs.desk.Desk.cut.Goals as goal

pub split_seat-requires : goal.split_seat-requires
split_seat-requires g c = (search rules, search rules, cuts _ _ _ _ _ _ _ _ c.requires.rests c.requires.fresh.0 c.requires.fresh.1 c.ranges.party.fits c.requires.name)
