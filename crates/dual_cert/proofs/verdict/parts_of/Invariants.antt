use Rattle.std.proofs.Common.{◌≡◌, length, take}
use Rattle.denton_parts.specs.Years.{years_at, years_in}
use Rattle.dual_cert.proofs.verdict.parts_of.Given as goal

-- the figures of the years so far
abbrev pub invariant-loop-y : goal.invariant-loop-y
invariant-loop-y l = record {
  count : length l.parts.items ≡ l.y;
  years : years_in (take l.y l.years) l.parts.items ≡ years_at l.ind (take l.y l.years) (take l.y l.bench);
}
