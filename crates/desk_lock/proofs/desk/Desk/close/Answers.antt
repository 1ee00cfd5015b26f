use Rattle.std.proofs.Common.{rules, ap}
use Rattle.desk_lock.proofs.Calls.{closes_as, closed_book, not_empty}
use Rattle.desk_lock.proofs.Meetings.{leaves}
use Rattle.desk_lock.proofs.desk.Desk.close.Goals as goal

pub split_seat-left-requires : goal.split_seat-left-requires
split_seat-left-requires g c = (search rules, search rules, leaves _ _ _ _ _ _)

pub unreachable-requires : goal.unreachable-requires
unreachable-requires g c = not_empty g.B.Story.list g.B.Story.party g.B.Story.label g.B.Story.test c.args.pass _ c.in_default.is (closes_as g.B.Story.list g.B.Story.party g.B.Story.label g.B.Story.test _ c.pass.inside.seat.me.0 _ _ _ c.args.pass _ _ _ (ap (λ m. m.0) c.split_seat-left.ensures.2) c.pass.view_is c.pass.invariant.1 c.requires.desk c.requires.last c.close_with-closed.ensures.values.2 c.take-slot.ensures.value)

pub returns-clause-book : goal.returns-clause-book
returns-clause-book g c = (closed_book g.B.Story.list g.B.Story.party g.B.Story.label g.B.Story.test c.args.pass _ c.in-Some.book c.in-Some.is (closes_as g.B.Story.list g.B.Story.party g.B.Story.label g.B.Story.test _ c.pass.inside.seat.me.0 _ _ _ c.args.pass _ _ _ (ap (λ m. m.0) c.split_seat-left.ensures.2) c.pass.view_is c.pass.invariant.1 c.requires.desk c.requires.last c.close_with-closed.ensures.values.2 c.take-slot.ensures.value)).0

pub returns-clause-label : goal.returns-clause-label
returns-clause-label g c = (closed_book g.B.Story.list g.B.Story.party g.B.Story.label g.B.Story.test c.args.pass _ c.in-Some.book c.in-Some.is (closes_as g.B.Story.list g.B.Story.party g.B.Story.label g.B.Story.test _ c.pass.inside.seat.me.0 _ _ _ c.args.pass _ _ _ (ap (λ m. m.0) c.split_seat-left.ensures.2) c.pass.view_is c.pass.invariant.1 c.requires.desk c.requires.last c.close_with-closed.ensures.values.2 c.take-slot.ensures.value)).1

pub returns-clause-each : goal.returns-clause-each
returns-clause-each g c = (closed_book g.B.Story.list g.B.Story.party g.B.Story.label g.B.Story.test c.args.pass _ c.in-Some.book c.in-Some.is (closes_as g.B.Story.list g.B.Story.party g.B.Story.label g.B.Story.test _ c.pass.inside.seat.me.0 _ _ _ c.args.pass _ _ _ (ap (λ m. m.0) c.split_seat-left.ensures.2) c.pass.view_is c.pass.invariant.1 c.requires.desk c.requires.last c.close_with-closed.ensures.values.2 c.take-slot.ensures.value)).2

pub returns-clause-given : goal.returns-clause-given
returns-clause-given g c = (closed_book g.B.Story.list g.B.Story.party g.B.Story.label g.B.Story.test c.args.pass _ c.in-Some.book c.in-Some.is (closes_as g.B.Story.list g.B.Story.party g.B.Story.label g.B.Story.test _ c.pass.inside.seat.me.0 _ _ _ c.args.pass _ _ _ (ap (λ m. m.0) c.split_seat-left.ensures.2) c.pass.view_is c.pass.invariant.1 c.requires.desk c.requires.last c.close_with-closed.ensures.values.2 c.take-slot.ensures.value)).3
