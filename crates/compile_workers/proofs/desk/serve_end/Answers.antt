use Rattle.line_form.specs.Lines.{ended_lines}
use Rattle.compile_workers.specs.Serving.{position}
use Rattle.compile_workers.proofs.Desks.{end_served, end_unfed}
use Rattle.compile_workers.proofs.desk.serve_end.Goals as goal

pub returns-in-Err-clause-serves : goal.returns-in-Err-clause-serves
returns-in-Err-clause-serves g c = λ stream origin had. (
  tt,
  end_unfed c.args.service.now.plan.now c.args.progress.pass.party origin c.args.lines.now
      (position (g.K.Sink.paper c.args.sink.now) c.args.progress.own c.args.progress.pass.seen) stream had,
)

pub returns-clause-serves : goal.returns-clause-serves
returns-clause-serves g c = λ stream origin had.
    end_served c.args.service.now.plan.now c.args.progress.pass.party origin c.args.lines.now c.finish.new.self
    (position (g.K.Sink.paper c.args.sink.now) c.args.progress.own c.args.progress.pass.seen)
    (position (g.K.Sink.paper c.serve_waiting.new.sink) c.serve_waiting.result.0.own c.serve_waiting.result.0.pass.seen)
    stream c.serve_waiting.result.1 had (c.in_default.ensures.lines stream (ended_lines stream) had.cut)
    c.in_default.ensures.ended c.serve_waiting.ensures.serves
