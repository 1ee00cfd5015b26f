use Rattle.qna_cli.proofs.CheckEnds.{check_completes}
use Rattle.qna_cli.proofs.check.checks_complete.Goals as goal

pub returns : goal.returns
returns c = check_completes
