use Rattle.compile_workers.proofs.Stability.{part_stays}
use Rattle.compile_workers.proofs.laws.parts_stay.Goals as goal

pub returns : goal.returns
returns c = part_stays
