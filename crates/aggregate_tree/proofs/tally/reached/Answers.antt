use Rattle.std.proofs.Common.{arith}
use Rattle.aggregate_tree.proofs.Places.{all_reached}
use Rattle.aggregate_tree.proofs.tally.reached.Goals as goal

pub returns : goal.returns
returns c = record { reached = all_reached c.args.tallies.now (λ k below. c.loop-quarters.invariant k (omega arith)) }
