use Rattle.line_form.specs.Lines.{ended_lines}
use Rattle.compile_workers.specs.Serving.{position}
use Rattle.compile_workers.proofs.Desks.{piece_served, piece_unfed}
use Rattle.compile_workers.proofs.desk.serve_piece.Goals as goal

pub returns-in-Err-clause-serves : goal.returns-in-Err-clause-serves
returns-in-Err-clause-serves g c = λ stream origin had. (
  tt,
  piece_unfed c.args.service.now.plan.now c.args.progress.pass.party origin c.args.lines.now
      (position (g.K.Sink.paper c.args.sink.now) c.args.progress.own c.args.progress.pass.seen) stream
      c.args.piece.now had,
)

pub returns-clause-serves : goal.returns-clause-serves
returns-clause-serves g c = λ stream origin had.
    piece_served c.args.service.now.plan.now c.args.progress.pass.party origin c.args.lines.now c.feed.new.self
    c.serve_waiting.new.lines (position (g.K.Sink.paper c.args.sink.now) c.args.progress.own c.args.progress.pass.seen)
    (position (g.K.Sink.paper c.serve_waiting.new.sink) c.serve_waiting.result.0.own c.serve_waiting.result.0.pass.seen)
    stream c.args.piece.now c.serve_waiting.result.1 had
    (c.in_default.ensures.lines stream (ended_lines stream) had.cut) c.in_default.ensures.goes_on
    c.serve_waiting.ensures.cut c.serve_waiting.ensures.serves
