-- What a write took is the next part of the bytes.
use Rattle.std.proofs.Common.{rules}
use Rattle.std.proofs.lemmas.Result.{err_from_is_err_and}
use Rattle.qna_edges.proofs.Paper.{grown-more, refused_within, whole_written}
use Rattle.qna_edges.proofs.sink.write_all.Goals as goal

pub writing-preserved : goal.writing-preserved
writing-preserved g c = record {
  bound = search rules;
  grown = grown-more _ _ _ c.args.bytes.now c.writing.done c.in_ok-done.field-0 c.writing.invariant.grown c.in_ok-done.ensures.ok;
}

pub returns-in_err-done : goal.returns-in_err-done
returns-in_err-done g c =
    let p = err_from_is_err_and c.from_residual.result c.from_residual.ensures.1 in
    rw (p.1, p.2) (refused_within c.in_err-done.field-0.0 (g.K.Sink.paper c.args.sink.now) (g.K.Sink.paper c.writing.sink) (g.K.Sink.paper c.write.new.self) c.args.bytes.now c.writing.done c.writing.invariant.grown (search rules) c.in_err-done.ensures.failed c.in_err-done.ensures.memory)

pub returns : goal.returns
returns g c = whole_written _ (g.K.Sink.paper c.args.sink.now) (g.K.Sink.paper c.writing.sink) c.args.bytes.now c.writing.done c.writing.invariant.grown c.writing.invariant.bound (search rules)
