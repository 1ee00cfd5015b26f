use Rattle.std.proofs.Common.{◌≡◌, ℕ, ◌<◌, get_or, pos}
use Rattle.denton_parts.specs.Benchmarks.{year_total}
use Rattle.dual_cert.proofs.verdict.first_missed.Given as goal

-- the years so far add up
abbrev pub invariant-loop-y : goal.invariant-loop-y
invariant-loop-y l = (other : ℕ) → other < l.y → year_total l.x (get_or l.years other 0) ≡ get_or l.bench other (pos 0)
