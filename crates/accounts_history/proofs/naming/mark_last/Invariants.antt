use Rattle.std.proofs.Common.{length}
use Rattle.accounts_history.proofs.Marking.{AreMarkedFrom}
use Rattle.accounts_history.proofs.naming.mark_last.Given as goal

abbrev pub invariant-loop-left : goal.invariant-loop-left
invariant-loop-left l = AreMarkedFrom l.history l.count (length l.fn.flags) l.place l.left l.flags

abbrev pub decreases-loop-left : goal.decreases-loop-left
decreases-loop-left l = l.place
