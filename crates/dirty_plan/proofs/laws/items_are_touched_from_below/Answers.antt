use Rattle.dirty_plan.proofs.Marks.{touched_here}
use Rattle.dirty_plan.proofs.laws.items_are_touched_from_below.Goals as goal

pub returns : goal.returns
returns c = touched_here
