use Rattle.aggregate_tree.proofs.Adding.{sum_over_leaves}
use Rattle.aggregate_tree.proofs.laws.sum_of_children_is_over_leaves.Goals as goal

pub returns : goal.returns
returns c = record { law = sum_over_leaves }
