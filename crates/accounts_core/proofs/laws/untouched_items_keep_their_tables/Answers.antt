use Rattle.accounts_core.proofs.Untouched.{untouched_stay}
use Rattle.accounts_core.proofs.laws.untouched_items_keep_their_tables.Goals as goal

pub returns : goal.returns
returns c = untouched_stay
