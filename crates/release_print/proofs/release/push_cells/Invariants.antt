use Rattle.std.proofs.Common.{drop}
use Rattle.release_print.specs.Release.{cell_lines}
use Rattle.release_print.proofs.Parts.{Wrote}
use Rattle.release_print.proofs.release.push_cells.Given as goal

-- the lines so far are written, and those of what is left are to come
abbrev pub invariant-loop-quarter : goal.invariant-loop-quarter
invariant-loop-quarter l = Wrote l.fn.out.items l.out.items (cell_lines l.word l.start l.name l.quarter (drop l.quarter l.cells)) (cell_lines l.word l.start l.name 0 l.cells)
