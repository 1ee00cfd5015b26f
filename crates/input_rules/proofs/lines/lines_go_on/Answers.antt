use Rattle.input_rules.proofs.MoreLines.{accepted_more, refusals_more}
use Rattle.input_rules.proofs.lines.lines_go_on.Goals as goal

pub returns-clause-accepted : goal.returns-clause-accepted
returns-clause-accepted c = accepted_more

pub returns-clause-refused : goal.returns-clause-refused
returns-clause-refused c = refusals_more
