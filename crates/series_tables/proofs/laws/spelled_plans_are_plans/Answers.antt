use Rattle.series_tables.proofs.Kept.{spelled_kept}
use Rattle.series_tables.proofs.laws.spelled_plans_are_plans.Goals as goal

pub returns : goal.returns
returns c = spelled_kept
