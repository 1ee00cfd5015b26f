use Rattle.std.proofs.Common.{arith}
use Rattle.trial_gen.proofs.Words.{behind_more}
use Rattle.trial_gen.proofs.inputs.add_quarter.Goals as goal

pub returns-clause-words : goal.returns-clause-words
returns-clause-words c = behind_more 1 1 2 _ _ _ c.draw.ensures.words c.draw-2.ensures.words (omega arith)
