use Rattle.vintage_board.proofs.Putting.{ArePut}
use Rattle.vintage_board.proofs.board.put_all.Given as goal

abbrev pub invariant-loop-item : goal.invariant-loop-item
invariant-loop-item g l = ArePut l.item l.fn.staged l.fn.shown l.staged l.shown
