use Rattle.series_tables.proofs.Kept.{last_value-more}
use Rattle.series_tables.proofs.laws.last_values_go_on.Goals as goal

pub returns : goal.returns
returns c = last_value-more
