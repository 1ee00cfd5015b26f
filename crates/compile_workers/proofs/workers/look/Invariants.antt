use Rattle.desk_lock.specs.Passes.{IsSameButSeen}
use Rattle.office.specs.Seen.{MadeNothing}
use Rattle.compile_workers.proofs.workers.look.Given as goal

abbrev pub invariant-loop : goal.invariant-loop
invariant-loop l = IsSameButSeen l.fn.pass l.pass × MadeNothing l.fn.pass.party l.fn.pass.seen l.pass.seen
