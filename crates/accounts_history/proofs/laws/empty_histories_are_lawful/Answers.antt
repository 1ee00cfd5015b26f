use Rattle.accounts_history.proofs.Lawful.{lawful_none}
use Rattle.accounts_history.proofs.laws.empty_histories_are_lawful.Goals as goal

pub returns : goal.returns
returns c = lawful_none
