use Rattle.aggregate_tree.proofs.Adding.{leaf_alone}
use Rattle.aggregate_tree.proofs.laws.leaf_is_own_sum.Goals as goal

pub returns : goal.returns
returns c = record { law = leaf_alone }
