use Rattle.std.proofs.Common.{◌≡◌, ℕ, ◌<◌, ◌%◌, ◌⊎◌, get_or, length}
use Rattle.std.specs.Prelude.{IfSome}
use Rattle.price_base.specs.declared.Cell.TheVariants.{Missing}
use Rattle.price_base.specs.Volumes.{IsBaseInRange, base_at, base_start, volume_at}
use Rattle.price_base.proofs.volumes.at_previous_prices.Given as goal

abbrev pub invariant-loop-quarter : goal.invariant-loop-quarter
invariant-loop-quarter l = record {
  written : (k : ℕ) → k < l.quarter → get_or l.out k Missing ≡ volume_at l.x l.price k;
  kept : (l.quarter % 4 ≡ 0) ⊎ (l.base ≡ base_at l.x l.price (base_start l.quarter));
  range : IfSome l.base IsBaseInRange;
  as_many : length l.out ≡ length l.x;
}
