use Rattle.std.proofs.Common.{rules}
use Rattle.desk_lock.proofs.Calls.{exchanged, may_add}
use Rattle.desk_lock.proofs.Entries.{shows}
use Rattle.desk_lock.proofs.held.put_back.Goals as goal

pub fetch_add-requires : goal.fetch_add-requires
fetch_add-requires g c = (
  search rules,
  search rules,
  may_add _ _ _ _ _ _ _ _ c.args.book _ _ (exchanged _ c.args.seat.now.me c.args.book c.exchange-left.ensures.3 c.requires.holds.0) c.requires.holds.1 c.requires.count c.count.ensures c.if-grew.true c.requires.grew c.requires.label c.requires.room
      (g.met.B.Story.passes c.args.book),
)

pub load-requires : goal.load-requires
load-requires g c = (search rules, search rules, shows _ _ _ _ _ _ _ (search rules))
