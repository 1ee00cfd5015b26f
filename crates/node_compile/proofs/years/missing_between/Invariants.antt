use Rattle.std.proofs.Common.{◌≡◌, ◌+◌, take, length, get_or}
use Rattle.denton_parts.specs.Years.{places_apart}
use Rattle.denton_solve.specs.Conditions.{AreFew}
use Rattle.node_compile.proofs.years.missing_between.Given as goal

-- the years so far are apart by what is written
abbrev pub invariant-loop-y : goal.invariant-loop-y
invariant-loop-y l = record {
  count : length l.miss.items + 1 ≡ l.y;
  apart : places_apart (get_or l.years 0 0) l.miss.items ≡ take l.y l.years;
  few : AreFew l.miss.items;
}
