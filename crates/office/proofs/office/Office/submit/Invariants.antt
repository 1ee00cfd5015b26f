use Rattle.desk_lock.specs.Passes.{IsSameButSeen}
use Rattle.office.specs.Seen.{SentNothing}
use Rattle.office.proofs.office.Office.submit.Given as goal

abbrev pub invariant-loop : goal.invariant-loop
invariant-loop g l = IsSameButSeen l.fn.pass l.pass × SentNothing l.fn.pass.party l.fn.pass.seen l.pass.seen
