use Rattle.std.proofs.Common.{map, rules, subst, sym, take}
use Rattle.compile_workers.specs.declared.parties.DeskEnds.{DeskEnds}
use Rattle.compile_workers.specs.DeskEnd.{ends_told}
use Rattle.command_words.specs.Views.{files_of, live_view, names_in}
use Rattle.qna_live.proofs.Apart.{apart-of}
use Rattle.qna_live.proofs.Given.{known-grows}
use Rattle.qna_live.proofs.Desks.{desk-fails, differ-at, given-all, given-next, journal-fails, known-next, none-opened, told-before}
use Rattle.qna_live.proofs.opening.open_all.Goals as goal

pub returns-in-Err-clause-failed : goal.returns-in-Err-clause-failed
returns-in-Err-clause-failed g c =
    none-opened (g.C.Cabinet.shelves c.args.cabinet.now) (live_view c.args.said.now).desks c.args.said.now.journal.now (g.K.Sink.paper c.args.report.now)

pub open_desk-requires-after_bounds : goal.open_desk-requires-after_bounds
open_desk-requires-after_bounds g c κs within =
    differ-at files_of c.args.said.now.desks.items c.deref-names-items.result.now c.loop-names.names-index _ c.deref-names-items.ensures.value (search rules) (apart-of (names_in (live_view c.args.said.now)) c.requires.different).1.1

pub back_all-requires-after_bounds : goal.back_all-requires-after_bounds
back_all-requires-after_bounds g c κs within =
    known-grows _ _ _ c.open_desk.ensures.stays_known c.loop-names.invariant.known

pub returns-in-Err-open_desk-clause-failed : goal.returns-in-Err-open_desk-clause-failed
returns-in-Err-open_desk-clause-failed g c =
    let apart = (apart-of (names_in (live_view c.args.said.now)) c.requires.different).1 in
    (desk-fails files_of c.args.said.now.desks.items c.deref-names-items.result.now c.loop-names.names-index _ (g.C.Cabinet.shelves c.args.cabinet.now) (g.C.Cabinet.shelves c.loop-names.cabinet) (g.C.Cabinet.shelves c.open_desk.new.cabinet) (g.C.Cabinet.shelves c.back_all.new.cabinet)
    _ _ _ (g.K.Sink.paper c.loop-names.report) _ _ c.deref-names-items.ensures.value (search rules) apart.1 apart.0 c.loop-names.invariant.given c.in-Err-open_desk.ensures.failed c.loop-names.invariant.quiet c.back_all.ensures.back).0

pub returns-in-Err-open_desk-clause-failed_only : goal.returns-in-Err-open_desk-clause-failed_only
returns-in-Err-open_desk-clause-failed_only g c =
    let apart = (apart-of (names_in (live_view c.args.said.now)) c.requires.different).1 in
    (desk-fails files_of c.args.said.now.desks.items c.deref-names-items.result.now c.loop-names.names-index _ (g.C.Cabinet.shelves c.args.cabinet.now) (g.C.Cabinet.shelves c.loop-names.cabinet) (g.C.Cabinet.shelves c.open_desk.new.cabinet) (g.C.Cabinet.shelves c.back_all.new.cabinet)
    _ _ (g.K.Sink.paper c.args.report.now) (g.K.Sink.paper c.loop-names.report) (g.K.Sink.paper c.open_desk.new.report) c.in-Err-open_desk.status c.deref-names-items.ensures.value (search rules) apart.1 apart.0 c.loop-names.invariant.given c.in-Err-open_desk.ensures.failed c.loop-names.invariant.quiet c.back_all.ensures.back).1

pub loop-names-preserved : goal.loop-names-preserved
loop-names-preserved g c = record {
  given = given-next files_of (λ (d : DeskEnds g.row.C-In.Denot g.row.C-Out.Denot). ends_told (g.C.In.Source.stock d.source) (g.C.Out.Sink.paper d.sink)) c.args.said.now.desks.items c.deref-names-items.result.now c.loop-names.names-index _
      (g.C.Cabinet.shelves c.args.cabinet.now) (g.C.Cabinet.shelves c.loop-names.cabinet) (g.C.Cabinet.shelves c.open_desk.new.cabinet) c.loop-names.desks.items c.push.new.self.items c.in-Ok-open_desk.ends
      c.deref-names-items.ensures.value (search rules) (search rules) c.loop-names.invariant.given c.in-Ok-open_desk.ensures.opened;
  known = known-next (λ (d : DeskEnds g.row.C-In.Denot g.row.C-Out.Denot). ends_told (g.C.In.Source.stock d.source) (g.C.Out.Sink.paper d.sink)) (g.C.Cabinet.knows c.loop-names.cabinet) (g.C.Cabinet.knows c.open_desk.new.cabinet) c.loop-names.desks.items c.push.new.self.items c.in-Ok-open_desk.ends
      (search rules) c.open_desk.ensures.stays_known c.loop-names.invariant.known c.in-Ok-open_desk.ensures.known;
  quiet = search rules;
  count = search rules;
  room = search rules;
}

pub back_all-requires-in-Err-create_journal-after_bounds : goal.back_all-requires-in-Err-create_journal-after_bounds
back_all-requires-in-Err-create_journal-after_bounds g c κs within =
    known-grows _ _ _ c.create_journal.ensures.stays_known c.loop-names.invariant.known

pub returns-in-Ok-create_journal-clause-opened : goal.returns-in-Ok-create_journal-clause-opened
returns-in-Ok-create_journal-clause-opened g c = record {
  between = g.C.Cabinet.shelves c.loop-names.cabinet;
  given = given-all files_of c.args.said.now.desks.items c.deref-names-items.result.now c.loop-names.names-index _ _ _ c.deref-names-items.ensures.value (search rules) c.loop-names.invariant.given;
  created = c.in-Ok-create_journal.ensures.created;
  journal_is = c.in-Ok-create_journal.ensures.sink;
  journal_held = told-before (g.C.Cabinet.shelves c.args.cabinet.now) (g.C.Cabinet.shelves c.loop-names.cabinet) (map files_of (take c.loop-names.names-index c.args.said.now.desks.items)) _ _ c.loop-names.invariant.given c.in-Ok-create_journal.ensures.held;
}

pub returns-in-Ok-create_journal-clause-known : goal.returns-in-Ok-create_journal-clause-known
returns-in-Ok-create_journal-clause-known g c =
    (known-grows _ _ _ c.create_journal.ensures.stays_known c.loop-names.invariant.known, subst (g.C.Cabinet.knows c.create_journal.new.cabinet) (sym c.in-Ok-create_journal.ensures.sink.0) c.in-Ok-create_journal.ensures.known)

pub returns-in-Err-create_journal-clause-failed : goal.returns-in-Err-create_journal-clause-failed
returns-in-Err-create_journal-clause-failed g c =
    let apart = (apart-of (names_in (live_view c.args.said.now)) c.requires.different).1 in
    (journal-fails (g.C.Cabinet.shelves c.args.cabinet.now) (g.C.Cabinet.shelves c.loop-names.cabinet) (g.C.Cabinet.shelves c.create_journal.new.cabinet) (g.C.Cabinet.shelves c.back_all-in-Err-create_journal.new.cabinet) (live_view c.args.said.now).desks _ _ (g.K.Sink.paper c.args.report.now) (g.K.Sink.paper c.loop-names.report) (g.K.Sink.paper c.create_journal.new.report) c.in-Err-create_journal.status apart.1 apart.0
    (given-all files_of c.args.said.now.desks.items c.deref-names-items.result.now c.loop-names.names-index _ _ _ c.deref-names-items.ensures.value (search rules) c.loop-names.invariant.given) c.in-Err-create_journal.ensures.failed c.loop-names.invariant.quiet c.back_all-in-Err-create_journal.ensures.back).0

pub returns-in-Err-create_journal-clause-failed_only : goal.returns-in-Err-create_journal-clause-failed_only
returns-in-Err-create_journal-clause-failed_only g c =
    let apart = (apart-of (names_in (live_view c.args.said.now)) c.requires.different).1 in
    (journal-fails (g.C.Cabinet.shelves c.args.cabinet.now) (g.C.Cabinet.shelves c.loop-names.cabinet) (g.C.Cabinet.shelves c.create_journal.new.cabinet) (g.C.Cabinet.shelves c.back_all-in-Err-create_journal.new.cabinet) (live_view c.args.said.now).desks _ _ (g.K.Sink.paper c.args.report.now) (g.K.Sink.paper c.loop-names.report) (g.K.Sink.paper c.create_journal.new.report) c.in-Err-create_journal.status apart.1 apart.0
    (given-all files_of c.args.said.now.desks.items c.deref-names-items.result.now c.loop-names.names-index _ _ _ c.deref-names-items.ensures.value (search rules) c.loop-names.invariant.given) c.in-Err-create_journal.ensures.failed c.loop-names.invariant.quiet c.back_all-in-Err-create_journal.ensures.back).1
