use Rattle.std.proofs.Common.{◌≤◌, ◌≡◌, ◌-◌, length, take}
use Rattle.qna_edges.specs.Paper.{grown}
use Rattle.qna_edges.proofs.sink.write_all.Given as goal

abbrev pub invariant-writing : goal.invariant-writing
invariant-writing g l = record {
  bound : l.done ≤ length l.bytes;
  grown : g.K.Sink.paper l.sink ≡ grown (g.K.Sink.paper l.fn.sink) (take l.done l.bytes);
}

abbrev pub decreases-writing : goal.decreases-writing
decreases-writing g l = length l.bytes - l.done
