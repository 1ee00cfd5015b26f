use Rattle.input_rules.proofs.MoreLines.{each_line_once, accepted_of-few}
use Rattle.input_rules.proofs.lines.each_line_counts_once.Goals as goal

pub returns-clause-once : goal.returns-clause-once
returns-clause-once c = each_line_once

pub returns-clause-few : goal.returns-clause-few
returns-clause-few c = accepted_of-few
