use Rattle.std.proofs.Common.{◌∙◌, ◌<◌, ◌++◌, ap, arith, length, rules, vec_len}
use Rattle.std.specs.Option.{option_to_list}
use Rattle.std.specs.Prelude.{IsSome, vec_capacity}
use Rattle.compile_workers.proofs.Placing.{room_for_last}
use Rattle.compile_workers.proofs.parties.take_party.Goals as goal

-- the last place is a desk's, so there is room for its two ends
pub unreachable-requires-in_default-push : goal.unreachable-requires-in_default-push
unreachable-requires-in_default-push g c =
    let has : IsSome c.in-Some.party.ends = search (rules, c.party.view_is, c.in-Some-desk.is) in
    let room : vec_len c.args.desks.now < vec_capacity c.args.desks.now =
    omega (
      arith,
      c.args.desks.now.ok,
      room_for_last c.args.room.now.parties.items c.pop.new.self.items c.in-Some.party (length c.args.desks.now.items)
          (vec_capacity c.args.desks.now)
          (c.pop.ensures.items ∙ ap (λ o. c.pop.new.self.items ++ option_to_list o) c.in-Some.is) has
          c.requires.desks_room,
    ) in
    search (rules, room)

-- and for how it ended
pub unreachable-requires-in_default-push-2 : goal.unreachable-requires-in_default-push-2
unreachable-requires-in_default-push-2 g c =
    let has : IsSome c.in-Some.party.ends = search (rules, c.party.view_is, c.in-Some-desk.is) in
    let room : vec_len c.args.room.now.ends < vec_capacity c.args.room.now.ends =
    omega (
      arith,
      c.args.room.now.ends.ok,
      room_for_last c.args.room.now.parties.items c.pop.new.self.items c.in-Some.party (length c.args.room.now.ends.items)
          (vec_capacity c.args.room.now.ends)
          (c.pop.ensures.items ∙ ap (λ o. c.pop.new.self.items ++ option_to_list o) c.in-Some.is) has
          c.requires.ends_room,
    ) in
    search (rules, room)
