use Rattle.compile_workers.proofs.Stability.{served_stays}
use Rattle.compile_workers.proofs.laws.served_stays.Goals as goal

pub returns : goal.returns
returns c = served_stays
