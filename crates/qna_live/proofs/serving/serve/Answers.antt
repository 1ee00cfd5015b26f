use Rattle.std.proofs.Common.{◌≡◌, ◌∙◌, List, ap, arith, inl, length, sym, vec_len}
use Rattle.std.specs.Prelude.{if◌then◌else◌}
use Rattle.std.proofs.lemmas.List.{length-map}
use Rattle.compile_workers.specs.declared.parties.DeskEnds.{DeskEnds}
use Rattle.compile_workers.specs.declared.desk.DeskEnd.{DeskEnd}
use Rattle.compile_workers.specs.DeskEnd.{ends_told}
use Rattle.qna_edges.specs.declared.status.Status.TheVariants.{Done, Memory}
use Rattle.qna_live.specs.Live.{first_fault, status_of_ends}
use Rattle.qna_live.proofs.Served.{served-all}
use Rattle.qna_live.proofs.serving.serve.Goals as goal

pub returns : goal.returns
returns g c =
    let desks : vec_len c.args.desks ≡ length c.args.desks.items = omega (arith, c.args.desks.ok) in
    let ends : vec_len c.serve_parties-core.result.ends ≡ length c.serve_parties-core.result.ends.items = omega (arith, c.serve_parties-core.result.ends.ok) in
    inl (served-all c.args.plan.now _ _ _ _ _ _ _ c.status_of_ends-served.result c.write_journal-written.result c.report_journal-reported.result c.serve_parties-core.result.core.history c.serve_parties-core.result.ends.items c.serve_parties-core.result.memory _ _
    c.write_journal-written.ensures.lawful c.serve_parties-core.ensures.senders c.serve_parties-core.ensures.desks c.serve_parties-core.ensures.ends
    (desks ∙ sym (length-map c.args.desks.items (λ (d : DeskEnds g.row.S.Denot g.row.O.Denot). ends_told (g.S.Source.stock d.source) (g.O.Sink.paper d.sink)))) ends c.write_journal-written.ensures.written c.report_journal-reported.ensures
    (c.status_of_ends-served.ensures ∙ ap (λ (told : List DeskEnd). first_fault (status_of_ends told) (if c.serve_parties-core.result.memory then Memory else Done)) c.deref.ensures.value)
    (c.first_fault-2.ensures ∙ ap (first_fault c.status_of_ends-served.result) c.first_fault.ensures))
