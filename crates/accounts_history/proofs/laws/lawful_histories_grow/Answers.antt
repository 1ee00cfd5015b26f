use Rattle.accounts_history.proofs.Lawful.{lawful_more}
use Rattle.accounts_history.proofs.laws.lawful_histories_grow.Goals as goal

pub returns : goal.returns
returns c = lawful_more
