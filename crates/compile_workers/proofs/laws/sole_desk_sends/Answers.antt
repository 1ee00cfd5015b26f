use Rattle.compile_workers.proofs.Sole.{sole_desk}
use Rattle.compile_workers.proofs.laws.sole_desk_sends.Goals as goal

pub returns : goal.returns
returns c = sole_desk
