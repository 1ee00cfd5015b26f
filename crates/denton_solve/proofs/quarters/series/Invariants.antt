use Rattle.std.proofs.Common.{◌≡◌, ◌*◌, ◌++◌, length, map, take, drop}
use Rattle.denton_parts.specs.Year.{IsMultiplier}
use Rattle.denton_parts.specs.Years.{year_in}
use Rattle.denton_solve.specs.Series.{series_after, series_of}
use Rattle.denton_solve.proofs.quarters.series.Given as goal

-- the years that are written, and those that are left
abbrev pub invariant-loop-y : goal.invariant-loop-y
invariant-loop-y l = record {
  written : take (4 * l.y) l.out
      ++ series_after l.scale l.left (drop l.y (map (year_in 0) l.parts)) (drop l.y l.u)
      ≡ series_of l.scale (map (year_in 0) l.parts) l.u;
  left : IsMultiplier l.left;
  room : length l.out ≡ 4 * length l.parts;
}
