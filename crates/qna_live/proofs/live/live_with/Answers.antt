use Rattle.std.proofs.Common.{◌≡◌, arith, length, map, subst, sym, vec_len}
use Rattle.qna_edges.specs.Paper.{Paper}
use Rattle.qna_live.specs.Live.{EndsWith}
use Rattle.command_words.specs.Views.{live_view, names_in}
use Rattle.compile_workers.specs.DeskEnd.{ends_told}
use Rattle.compile_workers.specs.declared.parties.DeskEnds.{DeskEnds}
use Rattle.qna_live.proofs.Apart.{apart-of}
use Rattle.qna_live.proofs.Whole.{around-of, around-only, counted, ends-live, kept-name, known-served}
use Rattle.qna_live.proofs.live.live_with.Goals as goal

pub back_all-requires-after_bounds : goal.back_all-requires-after_bounds
back_all-requires-after_bounds g c κs within =
    known-served (g.C.Cabinet.knows c.open_all.new.cabinet) c.args.plan.now (g.C.Cabinet.shelves c.args.cabinet.now) (g.C.Cabinet.shelves c.open_all.new.cabinet) (live_view c.args.said.now)
    (map (λ (d : DeskEnds g.row.C-In.Denot g.row.C-Out.Denot). ends_told (g.C.In.Source.stock d.source) (g.C.Out.Sink.paper d.sink)) c.in-Ok.opened.0.items) _ _ _ _ _ _ c.in-Ok.ensures.opened c.serve-desks.ensures c.in-Ok.ensures.known.0

pub back_out-requires : goal.back_out-requires
back_out-requires g c =
    c.back_all.ensures.stays_known _ (subst (g.C.Cabinet.knows c.open_all.new.cabinet) (sym (kept-name c.args.plan.now _ _ _ _ _ _ _ c.serve-desks.ensures)) c.in-Ok.ensures.known.1)

pub serve-desks-requires-clause-desks : goal.serve-desks-requires-clause-desks
serve-desks-requires-clause-desks g c κs within =
    let count : vec_len c.in-Ok.opened.0 ≡ length c.in-Ok.opened.0.items = omega (arith, c.in-Ok.opened.0.ok) in
    counted (λ (d : DeskEnds g.row.C-In.Denot g.row.C-Out.Denot). ends_told (g.C.In.Source.stock d.source) (g.C.Out.Sink.paper d.sink)) c.in-Ok.opened.0.items _ _ _ (live_view c.args.said.now) _ count c.in-Ok.ensures.opened c.requires.desks

pub returns-clause-ends : goal.returns-clause-ends
returns-clause-ends g c =
    subst (λ (p : Paper). EndsWith c.args.plan.now (g.C.Cabinet.shelves c.args.cabinet.now) (g.C.Cabinet.shelves c.back_out.new.self) p (g.K.Sink.paper c.serve-desks.new.report) (live_view c.args.said.now) c.serve-desks.result.1) c.in-Ok.ensures.quiet
    (ends-live c.args.plan.now (g.C.Cabinet.shelves c.args.cabinet.now) (g.C.Cabinet.shelves c.open_all.new.cabinet) (g.C.Cabinet.shelves c.back_all.new.cabinet) (g.C.Cabinet.shelves c.back_out.new.self) (live_view c.args.said.now)
    (map (λ (d : DeskEnds g.row.C-In.Denot g.row.C-Out.Denot). ends_told (g.C.In.Source.stock d.source) (g.C.Out.Sink.paper d.sink)) c.in-Ok.opened.0.items) (map (λ (d : DeskEnds g.row.C-In.Denot g.row.C-Out.Denot). ends_told (g.C.In.Source.stock d.source) (g.C.Out.Sink.paper d.sink)) c.serve-desks.result.0.items) (g.C.Out.Sink.paper c.in-Ok.opened.1) (g.C.Out.Sink.paper c.serve-desks.new.journal)
    (g.K.Sink.paper c.open_all.new.report) (g.K.Sink.paper c.serve-desks.new.report) c.serve-desks.result.1 (around-of c.args.plan.now (g.C.Cabinet.shelves c.args.cabinet.now) (g.C.Cabinet.shelves c.open_all.new.cabinet) (g.C.Cabinet.shelves c.back_all.new.cabinet) (g.C.Cabinet.shelves c.back_out.new.self) (live_view c.args.said.now)
    (map (λ (d : DeskEnds g.row.C-In.Denot g.row.C-Out.Denot). ends_told (g.C.In.Source.stock d.source) (g.C.Out.Sink.paper d.sink)) c.in-Ok.opened.0.items) (map (λ (d : DeskEnds g.row.C-In.Denot g.row.C-Out.Denot). ends_told (g.C.In.Source.stock d.source) (g.C.Out.Sink.paper d.sink)) c.serve-desks.result.0.items) (g.C.Out.Sink.paper c.in-Ok.opened.1) (g.C.Out.Sink.paper c.serve-desks.new.journal)
    (g.K.Sink.paper c.open_all.new.report) (g.K.Sink.paper c.serve-desks.new.report) c.serve-desks.result.1 c.in-Ok.ensures.opened c.serve-desks.ensures c.back_all.ensures.back c.back_out.ensures.only (apart-of (names_in (live_view c.args.said.now)) c.requires.different)) c.serve-desks.ensures)

pub returns-clause-only : goal.returns-clause-only
returns-clause-only g c =
    around-only (g.C.Cabinet.shelves c.args.cabinet.now) (g.C.Cabinet.shelves c.open_all.new.cabinet) (g.C.Cabinet.shelves c.back_all.new.cabinet) (g.C.Cabinet.shelves c.back_out.new.self) (live_view c.args.said.now)
    (map (λ (d : DeskEnds g.row.C-In.Denot g.row.C-Out.Denot). ends_told (g.C.In.Source.stock d.source) (g.C.Out.Sink.paper d.sink)) c.in-Ok.opened.0.items) (map (λ (d : DeskEnds g.row.C-In.Denot g.row.C-Out.Denot). ends_told (g.C.In.Source.stock d.source) (g.C.Out.Sink.paper d.sink)) c.serve-desks.result.0.items) (g.C.Out.Sink.paper c.in-Ok.opened.1) (g.C.Out.Sink.paper c.serve-desks.new.journal)
    (around-of c.args.plan.now (g.C.Cabinet.shelves c.args.cabinet.now) (g.C.Cabinet.shelves c.open_all.new.cabinet) (g.C.Cabinet.shelves c.back_all.new.cabinet) (g.C.Cabinet.shelves c.back_out.new.self) (live_view c.args.said.now)
    (map (λ (d : DeskEnds g.row.C-In.Denot g.row.C-Out.Denot). ends_told (g.C.In.Source.stock d.source) (g.C.Out.Sink.paper d.sink)) c.in-Ok.opened.0.items) (map (λ (d : DeskEnds g.row.C-In.Denot g.row.C-Out.Denot). ends_told (g.C.In.Source.stock d.source) (g.C.Out.Sink.paper d.sink)) c.serve-desks.result.0.items) (g.C.Out.Sink.paper c.in-Ok.opened.1) (g.C.Out.Sink.paper c.serve-desks.new.journal)
    (g.K.Sink.paper c.open_all.new.report) (g.K.Sink.paper c.serve-desks.new.report) c.serve-desks.result.1 c.in-Ok.ensures.opened c.serve-desks.ensures c.back_all.ensures.back c.back_out.ensures.only (apart-of (names_in (live_view c.args.said.now)) c.requires.different))
