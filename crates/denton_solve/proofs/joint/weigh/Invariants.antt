use Rattle.std.proofs.Common.{◌≡◌, ◌+◌, ◌<◌, ◌≤ℤ◌, ℕ, pos, get_or, length}
use Rattle.denton_parts.specs.Year.{BenchmarkedYear}
use Rattle.denton_parts.specs.Years.{years_apart}
use Rattle.denton_solve.specs.Sweeps.{weight_of}
use Rattle.denton_solve.proofs.joint.weigh.Given as goal

-- the joints before the one that is weighed have their weights
abbrev pub invariant-loop-y : goal.invariant-loop-y
invariant-loop-y l = record {
  value : (j : ℕ) (d : BenchmarkedYear) → j < l.y →
      get_or l.out j (pos 0)
      ≡ weight_of (get_or (years_apart 0 l.miss l.parts) j d) (get_or (years_apart 0 l.miss l.parts) (j + 1) d);
  least : (j : ℕ) → j < l.y → pos 1000 ≤ℤ get_or l.out j (pos 0);
  room : length l.out ≡ length l.miss;
}
