use Rattle.desk_lock.specs.Passes.{IsSameButSeen}
use Rattle.office.specs.Seen.{SentNothing}
use Rattle.compile_workers.proofs.workers.counted_work.Given as goal

abbrev pub invariant-loop : goal.invariant-loop
invariant-loop g l =
    IsSameButSeen l.fn.pass l.pass × SentNothing l.fn.pass.party l.fn.pass.seen l.pass.seen
