use Rattle.std.proofs.Common.{◌≡◌, ◌∙◌, ap, arith, length, map, unwrap_or, vec_len}
use Rattle.std.specs.Prelude.{vec_capacity}
use Rattle.std.proofs.lemmas.List.{length-map}
use Rattle.compile_workers.specs.DeskEnd.{Ends, ends_told}
use Rattle.compile_workers.specs.declared.parties.DeskEnds.{DeskEnds}
use Rattle.compile_workers.proofs.Whole.{back_can, back_of, closed_lawful, each_ended, enough_for, have_passes}
use Rattle.compile_workers.proofs.Whole.{may_begin, opening_all, room_for_all, sent_by_desks, served_all, unserved}
use Rattle.compile_workers.proofs.parties.serve_parties.Goals as goal

-- no desk was served
pub returns-in_default-clause-desks : goal.returns-in_default-clause-desks
returns-in_default-clause-desks g c =
    let told : DeskEnds g.row.S.Denot g.row.K.Denot → Ends =
    λ d. ends_told (g.S.Source.stock d.source) (g.K.Sink.paper d.sink) in
    unserved c.args.plan.now (map told c.args.desks.items) (map told c.close_unserved.result.desks.items)
    c.close_unserved.result.ends.items c.close_unserved.result.core.history c.close_unserved.ensures.history
    (ap (λ v. map told v.items) c.close_unserved.ensures.desks) c.close_unserved.ensures.ends

pub place_all-requires-clause-enough : goal.place_all-requires-clause-enough
place_all-requires-clause-enough g c κs within =
    let told : DeskEnds g.row.S.Denot g.row.K.Denot → Ends =
    λ d. ends_told (g.S.Source.stock d.source) (g.K.Sink.paper d.sink) in
    let count : length (map told c.args.desks.items) ≡ vec_len c.args.desks =
    omega (arith, length-map c.args.desks.items told, c.args.desks.ok) in
    omega (
      arith,
      c.args.passes.ok,
      enough_for c.args.office c.args.plan.now c.requires.passes.0 (vec_len c.args.desks) (map told c.args.desks.items)
          c.args.passes.items c.requires.desks.0 count c.requires.passes.2,
    )

pub run_placed-requires-clause-each : goal.run_placed-requires-clause-each
run_placed-requires-clause-each g c κs within =
    may_begin c.args.office c.args.plan.now c.args.passes.items _ c.place_all.new.parties.items
    (opening_all c.args.office c.args.plan.now (vec_len c.args.desks) c.requires.passes.0 c.args.passes.items
    c.requires.passes.2)
    c.place_all.ensures.placed

pub take_all-pass-requires-clause-passes : goal.take_all-pass-requires-clause-passes
take_all-pass-requires-clause-passes g c κs within =
    back_can c.args.office c.args.plan.now (vec_len c.args.desks) c.requires.passes.0 _ c.place_all.new.parties.items
    c.run_placed.new.parties.items c.args.passes.items c.requires.passes.2 c.place_all.ensures.placed c.run_placed.ensures

pub take_all-pass-requires-clause-all : goal.take_all-pass-requires-clause-all
take_all-pass-requires-clause-all g c κs within = have_passes c.args.plan.now _ _ c.run_placed.ensures

pub close-core-requires-clause-office : goal.close-core-requires-clause-office
close-core-requires-clause-office g c =
    (back_of c.args.office c.args.plan.now (vec_len c.args.desks) c.requires.passes.0 c.take_all-pass.result _
    c.place_all.new.parties.items c.run_placed.new.parties.items c.args.passes.items c.requires.passes.2
    c.place_all.ensures.placed c.run_placed.ensures c.take_all-pass.ensures.joined).0

pub close-core-requires-clause-last : goal.close-core-requires-clause-last
close-core-requires-clause-last g c =
    (back_of c.args.office c.args.plan.now (vec_len c.args.desks) c.requires.passes.0 c.take_all-pass.result _
    c.place_all.new.parties.items c.run_placed.new.parties.items c.args.passes.items c.requires.passes.2
    c.place_all.ensures.placed c.run_placed.ensures c.take_all-pass.ensures.joined).2

pub returns-clause-plan : goal.returns-clause-plan
returns-clause-plan g c =
    let plan = (back_of c.args.office c.args.plan.now (vec_len c.args.desks) c.requires.passes.0 c.take_all-pass.result _
    c.place_all.new.parties.items c.run_placed.new.parties.items c.args.passes.items c.requires.passes.2
    c.place_all.ensures.placed c.run_placed.ensures c.take_all-pass.ensures.joined).1 in
    ap (λ o. unwrap_or o c.args.plan.now) (c.close-core.ensures.plan ∙ plan)

pub returns-clause-lawful : goal.returns-clause-lawful
returns-clause-lawful g c =
    closed_lawful c.args.plan.now c.take_all-pass.result c.close-core.result.1 c.close-core.result.0.history
    c.close-core.ensures.closed c.close-core.ensures.history
    (back_of c.args.office c.args.plan.now (vec_len c.args.desks) c.requires.passes.0 c.take_all-pass.result _
    c.place_all.new.parties.items c.run_placed.new.parties.items c.args.passes.items c.requires.passes.2
    c.place_all.ensures.placed c.run_placed.ensures c.take_all-pass.ensures.joined).1
    c.close-core.ensures.lawful

pub returns-clause-desks : goal.returns-clause-desks
returns-clause-desks g c =
    let told : DeskEnds g.row.S.Denot g.row.K.Denot → Ends =
    λ d. ends_told (g.S.Source.stock d.source) (g.K.Sink.paper d.sink) in
    let count : length (map told c.args.desks.items) ≡ vec_len c.args.desks =
    omega (arith, length-map c.args.desks.items told, c.args.desks.ok) in
    served_all c.args.office c.args.plan.now c.requires.passes.0 (vec_len c.args.desks) (map told c.args.desks.items)
    c.place_all.new.parties.items c.run_placed.new.parties.items c.args.passes.items c.requires.desks.0 c.requires.desks.1
    count c.requires.passes.2 c.place_all.ensures.placed c.run_placed.ensures
    c.take_all-pass.result c.close-core.result.1 c.close-core.result.0.history c.take_all-pass.ensures.joined
    c.close-core.ensures.closed c.close-core.ensures.history c.close-core.ensures.lawful c.close-core.ensures.each
    (map told c.take_all-pass.new.desks.items) c.take_all-pass.new.room.ends.items c.take_all-pass.ensures.desks
    c.take_all-pass.ensures.ends

pub returns-clause-senders : goal.returns-clause-senders
returns-clause-senders g c =
    let told : DeskEnds g.row.S.Denot g.row.K.Denot → Ends =
    λ d. ends_told (g.S.Source.stock d.source) (g.K.Sink.paper d.sink) in
    let count : length (map told c.args.desks.items) ≡ vec_len c.args.desks =
    omega (arith, length-map c.args.desks.items told, c.args.desks.ok) in
    sent_by_desks c.args.office c.args.plan.now c.requires.passes.0 (vec_len c.args.desks) (map told c.args.desks.items)
    c.place_all.new.parties.items c.run_placed.new.parties.items c.args.passes.items c.requires.desks.0 c.requires.desks.1
    count c.requires.passes.2 c.place_all.ensures.placed c.run_placed.ensures
    c.take_all-pass.result c.close-core.result.1 c.close-core.result.0.history c.take_all-pass.ensures.joined
    c.close-core.ensures.closed c.close-core.ensures.history c.close-core.ensures.lawful c.close-core.ensures.each

pub returns-clause-ends : goal.returns-clause-ends
returns-clause-ends g c quiet =
    let told : DeskEnds g.row.S.Denot g.row.K.Denot → Ends =
    λ d. ends_told (g.S.Source.stock d.source) (g.K.Sink.paper d.sink) in
    let count : length (map told c.args.desks.items) ≡ vec_len c.args.desks =
    omega (arith, length-map c.args.desks.items told, c.args.desks.ok) in
    omega (
      arith,
      c.take_all-pass.new.room.ends.ok,
      each_ended c.args.office c.args.plan.now c.requires.passes.0 (vec_len c.args.desks) (map told c.args.desks.items)
          c.place_all.new.parties.items c.run_placed.new.parties.items c.args.passes.items c.requires.desks.0 c.requires.desks.1
          count c.requires.passes.2 c.place_all.ensures.placed c.run_placed.ensures
          c.take_all-pass.new.room.ends.items c.take_all-pass.ensures.ends,
    )

pub take_all-pass-requires-clause-ends_room : goal.take_all-pass-requires-clause-ends_room
take_all-pass-requires-clause-ends_room g c κs within =
    let told : DeskEnds g.row.S.Denot g.row.K.Denot → Ends =
    λ d. ends_told (g.S.Source.stock d.source) (g.K.Sink.paper d.sink) in
    let count : length (map told c.args.desks.items) ≡ vec_len c.args.desks =
    omega (arith, length-map c.args.desks.items told, c.args.desks.ok) in
    room_for_all c.args.office c.args.plan.now c.requires.passes.0 (vec_len c.args.desks) (map told c.args.desks.items)
    c.place_all.new.parties.items c.run_placed.new.parties.items c.args.passes.items c.requires.desks.0 c.requires.desks.1
    count c.requires.passes.2 c.place_all.ensures.placed c.run_placed.ensures
    (vec_capacity c.in-Some.room.ends) (omega (arith, c.in-Some.ensures.desks, c.len-2.ensures))

pub take_all-pass-requires-clause-desks_room : goal.take_all-pass-requires-clause-desks_room
take_all-pass-requires-clause-desks_room g c κs within =
    let told : DeskEnds g.row.S.Denot g.row.K.Denot → Ends =
    λ d. ends_told (g.S.Source.stock d.source) (g.K.Sink.paper d.sink) in
    let count : length (map told c.args.desks.items) ≡ vec_len c.args.desks =
    omega (arith, length-map c.args.desks.items told, c.args.desks.ok) in
    room_for_all c.args.office c.args.plan.now c.requires.passes.0 (vec_len c.args.desks) (map told c.args.desks.items)
    c.place_all.new.parties.items c.run_placed.new.parties.items c.args.passes.items c.requires.desks.0 c.requires.desks.1
    count c.requires.passes.2 c.place_all.ensures.placed c.run_placed.ensures
    (vec_capacity c.place_all.new.desks) c.place_all.ensures.room
