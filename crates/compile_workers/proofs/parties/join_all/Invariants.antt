use Rattle.std.proofs.Common.{List, vec_len}
use Rattle.office.specs.Holds.{Known}
use Rattle.compile_workers.proofs.Placing.{AreJoining}
use Rattle.compile_workers.proofs.parties.join_all.Given as goal

-- the first passes were joined into one
abbrev pub invariant-joining : goal.invariant-joining
invariant-joining l = (done : List Known) × AreJoining l.office l.fn.passes.items done l.rest.items l.pass

abbrev pub decreases-joining : goal.decreases-joining
decreases-joining l = vec_len l.rest
