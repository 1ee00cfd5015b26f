use Rattle.series_tables.proofs.Rows.{rows_of_none}
use Rattle.series_tables.proofs.tables.Tables.new.Goals as goal

pub invariant_of-result : goal.invariant_of-result
invariant_of-result c = rows_of_none _ _ _ _ c.len-items.ensures.few c.in_ok-no_values.ensures.places c.in_ok-no_values-2.ensures.places c.in_ok-no_values-3.ensures.places
