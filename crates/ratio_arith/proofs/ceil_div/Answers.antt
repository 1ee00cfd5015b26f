use Rattle.std.proofs.Common.{arith}
use Rattle.std.proofs.lemmas.Int.{to_z-of_z}
use Rattle.ratio_arith.proofs.Floors.{ceil_at}
use Rattle.ratio_arith.proofs.ceil_div.Goals as goal

pub returns-clause-ceiling : goal.returns-clause-ceiling
returns-clause-ceiling c = ceil_at _ _ _ c.requires.positive (grind (arith, to_z-of_z))
