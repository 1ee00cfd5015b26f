use Rattle.node_compile.proofs.Figures.{items_sized, leaves_sized}
use Rattle.node_compile.proofs.laws.figures_are_in_range.Goals as goal

pub returns-clause-items : goal.returns-clause-items
returns-clause-items c = items_sized

pub returns-clause-leaves : goal.returns-clause-leaves
returns-clause-leaves c = leaves_sized
