use Rattle.std.proofs.Common.{rules}
use Rattle.desk_lock.proofs.Calls.{begins_as}
use Rattle.desk_lock.proofs.desk.Desk.new.Goals as goal

pub new-requires : goal.new-requires
new-requires g c = begins_as _ _ _ _ c.args.book _ _ _ (search rules) c.of.ensures c.requires (g.met.B.Story.passes c.args.book) c.ranges.party.fits
