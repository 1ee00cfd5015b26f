use Rattle.qna_live.proofs.Causes.{has-cause}
use Rattle.qna_live.proofs.laws.lives_have_causes.Goals as goal

pub returns : goal.returns
returns c = has-cause
