use Rattle.std.proofs.Common.{arith}
use Rattle.aggregate_tree.proofs.Places.{with_cells_all}
use Rattle.aggregate_tree.proofs.tally.add_cells.Goals as goal

pub returns : goal.returns
returns c = record { with = with_cells_all c.args.cells.now c.args.tallies.now c.loop-t.tallies (omega arith) (λ k below. c.loop-t.invariant.written k (omega arith)) }
