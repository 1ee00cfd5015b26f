use Rattle.std.proofs.Common.{◌≡◌, replicate, None}
use Rattle.vintage_board.proofs.board.Board.new.Given as goal

abbrev pub invariant-loop : goal.invariant-loop
invariant-loop g l = l.staged.items ≡ replicate l.counter None
