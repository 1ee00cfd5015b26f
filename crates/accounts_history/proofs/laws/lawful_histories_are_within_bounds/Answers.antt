use Rattle.accounts_history.proofs.Lawful.{within_bounds}
use Rattle.accounts_history.proofs.laws.lawful_histories_are_within_bounds.Goals as goal

pub returns : goal.returns
returns c = within_bounds
