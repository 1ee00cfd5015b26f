use Rattle.desk_lock.specs.Passes.{IsSameButSeen}
use Rattle.desk_lock.proofs.tests.write_lines.Given as goal

abbrev pub invariant-loop-number : goal.invariant-loop-number
invariant-loop-number g l = IsSameButSeen l.fn.pass l.pass
