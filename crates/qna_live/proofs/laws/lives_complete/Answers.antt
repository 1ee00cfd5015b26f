use Rattle.qna_live.proofs.Causes.{completes}
use Rattle.qna_live.proofs.laws.lives_complete.Goals as goal

pub returns : goal.returns
returns c = completes
