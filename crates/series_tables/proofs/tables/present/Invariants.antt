use Rattle.std.proofs.Common.{◌≡◌, ◌≤◌, ◌++◌, drop, vec_len}
use Rattle.series_tables.specs.Cells.{present_run}
use Rattle.series_tables.proofs.tables.present.Given as goal

-- the run so far, and the run of what is left, are the run of all
abbrev pub invariant-loop-cell : goal.invariant-loop-cell
invariant-loop-cell l = (l.run.items ++ present_run (drop l.cell-index l.row) ≡ present_run l.row) × (vec_len l.run ≤ l.cell-index)
