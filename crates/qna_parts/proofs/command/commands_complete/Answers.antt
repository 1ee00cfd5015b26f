use Rattle.qna_parts.proofs.Completing.{completes}
use Rattle.qna_parts.proofs.command.commands_complete.Goals as goal

pub returns : goal.returns
returns c = completes
