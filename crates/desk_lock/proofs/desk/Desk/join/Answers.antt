use Rattle.std.proofs.Common.{rules, ap}
use Rattle.desk_lock.proofs.Calls.{pass_rests, joined_begins}
use Rattle.desk_lock.proofs.Entries.{compares}
use Rattle.desk_lock.proofs.Meetings.{joins}
use Rattle.desk_lock.proofs.desk.Desk.join.Goals as goal

pub join_seat-requires : goal.join_seat-requires
join_seat-requires g c = (
  search rules,
  search rules,
  search rules,
  search rules,
  joins _ _ _ _ _ _ _ _ (pass_rests _ _ c.a.inside.seat.me.0 _ c.a.view_is c.a.invariant.1 c.requires.first) (pass_rests _ _ c.b.inside.seat.me.0 _ c.b.view_is c.b.invariant.1 c.requires.second),
)

pub load-requires : goal.load-requires
load-requires g c = (search rules, search rules, compares _ _ _ _ _ _ _ (search rules))

pub returns-clause-begins : goal.returns-clause-begins
returns-clause-begins g c = joined_begins g.B.Story.party g.B.Story.test c.a.inside.seat.me.0 c.b.inside.seat.me.0 _ _ _ _ _ c.join_seat.ensures.2 (ap (λ k. k.seen) c.a.view_is) (ap (λ k. k.seen) c.b.view_is) c.load.ensures.2
