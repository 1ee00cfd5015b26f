use Rattle.std.proofs.Common.{ap, sym}
use Rattle.std.specs.List.{list_any}
use Rattle.dirty_plan.specs.Round.{is_unfinished}
use Rattle.dirty_plan.proofs.Children.{children_are_all}
use Rattle.dirty_plan.proofs.laws.all_children_are_looked_at.Goals as goal

pub returns : goal.returns
returns c = λ parents jobs item backward. ap (list_any is_unfinished) (sym (children_are_all parents jobs item backward))
