use Rattle.desk_lock.specs.Passes.{IsSameButSeen}
use Rattle.office.proofs.tests.send_often.Given as goal

abbrev pub invariant-loop : goal.invariant-loop
invariant-loop g l = record { same : IsSameButSeen l.fn.pass l.pass }
