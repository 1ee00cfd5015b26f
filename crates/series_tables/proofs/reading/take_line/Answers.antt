use Rattle.std.proofs.Common.{sym}
use Rattle.series_tables.proofs.Entries.{entry_named}
use Rattle.series_tables.proofs.reading.take_line.Goals as goal

pub add-requires-clause-named : goal.add-requires-clause-named
add-requires-clause-named c = entry_named c.in-Ok.record _ (sym c.in-Some.ensures)
