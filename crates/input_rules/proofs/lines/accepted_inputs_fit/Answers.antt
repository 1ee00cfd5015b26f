use Rattle.input_rules.proofs.AcceptedInputs.{accepted_fit_all}
use Rattle.input_rules.proofs.lines.accepted_inputs_fit.Goals as goal

pub returns : goal.returns
returns c = accepted_fit_all
