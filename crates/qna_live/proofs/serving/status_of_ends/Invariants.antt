use Rattle.std.proofs.Common.{◌≡◌, drop}
use Rattle.qna_live.specs.Live.{status_of_ends}
use Rattle.qna_live.proofs.serving.status_of_ends.Given as goal

abbrev pub invariant-loop-end : goal.invariant-loop-end
invariant-loop-end l = status_of_ends l.ends ≡ status_of_ends (drop l.end-index l.ends)
