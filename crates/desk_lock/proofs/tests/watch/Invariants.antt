use Rattle.desk_lock.specs.Passes.{IsSameButSeen}
use Rattle.desk_lock.proofs.tests.watch.Given as goal

abbrev pub invariant-loop : goal.invariant-loop
invariant-loop l = IsSameButSeen l.fn.pass l.pass
