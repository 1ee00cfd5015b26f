use Rattle.desk_lock.specs.Passes.{IsSameButSeen}
use Rattle.office.specs.Seen.{MadeNothing}
use Rattle.office.proofs.office.Office.help.Given as goal

abbrev pub invariant-loop : goal.invariant-loop
invariant-loop g l = IsSameButSeen l.fn.pass l.pass × MadeNothing l.fn.pass.party l.fn.pass.seen l.pass.seen
