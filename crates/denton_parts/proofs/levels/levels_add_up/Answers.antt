use Rattle.denton_parts.proofs.LevelSum.{levels_add_up}
use Rattle.denton_parts.proofs.levels.levels_add_up.Goals as goal

pub returns : goal.returns
returns c = record { law = levels_add_up }
