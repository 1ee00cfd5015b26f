use Rattle.accounts_history.proofs.Lawful.{lawful_before}
use Rattle.accounts_history.proofs.laws.beginnings_are_lawful.Goals as goal

pub returns : goal.returns
returns c = lawful_before
