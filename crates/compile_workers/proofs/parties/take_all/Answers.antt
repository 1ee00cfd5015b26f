use Rattle.std.proofs.Common.{◌∙◌, rules}
use Rattle.std.specs.Prelude.{IsSome}
use Rattle.compile_workers.specs.Parties.{Place}
use Rattle.compile_workers.proofs.Placing.{all_left, all_taken, first_desks, first_ends, first_open, mapped_from}
use Rattle.compile_workers.proofs.Placing.{mapped_none, mapped_to, more_desks, more_ends, next_open, taken_can}
use Rattle.compile_workers.proofs.Placing.{taken_first, taken_more}
use Rattle.compile_workers.proofs.parties.take_all.Goals as goal

-- the first desk's party
pub taking-init : goal.taking-init
taking-init g c =
    let takes = c.take_party-pass.ensures.taken in
    let no_desk = mapped_none _ c.args.desks.now.items c.requires.empty.1 in (
      taken_first c.args.room.now.parties.items c.take_party-pass.new.room.parties.items c.take_party-pass.result _ _ _
          c.take_party-pass.new.room.ends.items no_desk c.requires.empty.0 takes,
      first_open c.args.office.now _ _ c.take_party-pass.result _ _ _ _ takes c.requires.passes,
      all_left (λ (place : Place). IsSome place.pass) _ _ _ _ _ _ _ takes c.requires.all,
      first_ends _ _ _ _ _ _ _ _ _ takes c.requires.empty.0 c.requires.ends_room c.take_party-pass.ensures.ends_room,
      mapped_from _ c.take_party-pass.new.desks.items _ _
          (first_desks _ _ _ _ _ _ _ _ _ takes no_desk c.requires.desks_room c.take_party-pass.ensures.desks_room),
    )

-- one more, which is joined
pub taking-preserved : goal.taking-preserved
taking-preserved g c =
    let takes = c.take_party-other.ensures.taken in (
      taken_more c.args.office.now _ c.taking.invariant.0.0 c.taking.room.parties.items
          c.take_party-other.new.room.parties.items c.taking.pass c.take_party-other.result c.join-pass.result _ _
          c.taking.room.ends.items c.take_party-other.new.room.ends.items
          (taken_can c.args.office.now _ c.taking.invariant.0.0 c.taking.room.parties.items c.taking.pass _
          c.taking.room.ends.items c.taking.invariant.0.1 c.requires.passes)
          c.taking.invariant.0.1 takes
          c.join-pass.ensures.joined c.join-pass.ensures.begins.0 c.join-pass.ensures.begins.1 c.join-pass.ensures.own,
      (c.join-pass.ensures.joined.0 ∙ c.taking.invariant.1.0, c.join-pass.ensures.joined.1),
      all_left (λ (place : Place). IsSome place.pass) _ _ _ _ _ _ _ takes c.taking.invariant.2,
      more_ends _ _ _ _ _ _ _ _ _ takes c.taking.invariant.3 c.take_party-other.ensures.ends_room,
      mapped_from _ c.take_party-other.new.desks.items _ _
          (more_desks _ _ _ _ _ _ _ _ _ takes (mapped_to _ c.taking.desks.items _ _ c.taking.invariant.4)
          c.take_party-other.ensures.desks_room),
    )

pub join-pass-requires-clause-second : goal.join-pass-requires-clause-second
join-pass-requires-clause-second g c =
    next_open c.args.office.now _ c.taking.invariant.0.0 c.taking.room.parties.items _ c.taking.pass
    c.take_party-other.result _ _ _ _ _ _ c.taking.invariant.0.1 c.take_party-other.ensures.taken c.requires.passes

pub returns-clause-joined : goal.returns-clause-joined
returns-clause-joined g c = (all_taken _ c.taking.invariant.0.0 _ _ _ _ (search rules) c.taking.invariant.0.1).0

pub returns-clause-desks : goal.returns-clause-desks
returns-clause-desks g c = (all_taken _ c.taking.invariant.0.0 _ _ _ _ (search rules) c.taking.invariant.0.1).1

pub returns-clause-ends : goal.returns-clause-ends
returns-clause-ends g c = (all_taken _ c.taking.invariant.0.0 _ _ _ _ (search rules) c.taking.invariant.0.1).2
