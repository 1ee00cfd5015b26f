use Rattle.std.proofs.Common.{arith}
use Rattle.std.proofs.lemmas.Int.{to_z-of_z}
use Rattle.ratio_arith.proofs.Floors.{floor_at}
use Rattle.ratio_arith.proofs.floor_div.Goals as goal

pub returns-in-Ok-Ok-clause-floor : goal.returns-in-Ok-Ok-clause-floor
returns-in-Ok-Ok-clause-floor c = floor_at _ _ _ c.requires.positive (grind (arith, to_z-of_z))

pub returns-in_default-clause-floor : goal.returns-in_default-clause-floor
returns-in_default-clause-floor c = floor_at _ _ _ c.requires.positive (grind (arith, to_z-of_z))
