use Rattle.std.proofs.Common.{arith}
use Rattle.std.proofs.lemmas.Int.{ints, to_z-of_z}
use Rattle.ratio_arith.proofs.Floors.{round_at}
use Rattle.ratio_arith.proofs.round_div.Goals as goal

pub returns-clause-value : goal.returns-clause-value
returns-clause-value c = grind (arith, to_z-of_z)

pub returns-clause-nearest : goal.returns-clause-nearest
returns-clause-nearest c = round_at _ _ _ (omega (arith, ints)) (grind (arith, to_z-of_z))
