use Rattle.qna_edges.proofs.Paper.{prints_two}
use Rattle.qna_parts.proofs.status_line.tell_pair.Goals as goal

pub returns : goal.returns
returns g c = prints_two c.tell.result (g.K.Sink.paper c.args.report.now) _ _ _ _ _ c.in_ok-write_both.ensures.ok c.tell.ensures (cc)
