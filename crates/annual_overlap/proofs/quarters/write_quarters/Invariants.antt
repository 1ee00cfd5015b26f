use Rattle.std.proofs.Common.{◌≡◌, ℕ, ◌%◌, ◌/◌, ◌<◌, ◌⊎◌, get_or, length}
use Rattle.price_base.specs.declared.Cell.TheVariants.{Missing}
use Rattle.annual_overlap.specs.Quarters.{chained_in, chained_at}
use Rattle.annual_overlap.proofs.quarters.write_quarters.Given as goal

abbrev pub invariant-loop-quarter : goal.invariant-loop-quarter
invariant-loop-quarter l = record {
  written : (k : ℕ) → k < l.quarter → get_or l.out k Missing ≡ chained_at l.values l.volumes l.levels l.quarters k;
  kept : (l.quarter % 4 ≡ 0) ⊎ (l.four ≡ chained_in l.values l.volumes l.levels l.quarters (l.quarter / 4));
  as_many : length l.out ≡ length l.quarters;
}
