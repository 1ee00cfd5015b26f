use Rattle.std.proofs.Common.{drop, ◌+◌}
use Rattle.release_print.specs.Release.{year_lines}
use Rattle.release_print.proofs.Parts.{Wrote}
use Rattle.release_print.proofs.release.push_years.Given as goal

-- the lines so far are written, and those of what is left are to come
abbrev pub invariant-loop-place : goal.invariant-loop-place
invariant-loop-place l = Wrote l.fn.out.items l.out.items (year_lines (l.start + l.place) l.name (drop l.place l.values) (drop l.place l.volumes) (drop l.place l.levels) (drop l.place l.drifts)) (year_lines l.start l.name l.values l.volumes l.levels l.drifts)
