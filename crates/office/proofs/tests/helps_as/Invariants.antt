use Rattle.desk_lock.specs.Passes.{IsSameButSeen}
use Rattle.office.proofs.tests.helps_as.Given as goal

abbrev pub invariant-loop-answer : goal.invariant-loop-answer
invariant-loop-answer g l = IsSameButSeen l.fn.pass l.pass
