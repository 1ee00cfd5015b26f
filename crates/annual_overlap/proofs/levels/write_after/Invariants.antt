use Rattle.std.proofs.Common.{◌≡◌, ℕ, ◌-◌, ◌<◌, ◌≤◌, get_or, length}
use Rattle.price_base.specs.declared.Cell.TheVariants.{Missing}
use Rattle.annual_overlap.specs.declared.Point.TheVariants.{Marked}
use Rattle.annual_overlap.specs.Chain.{years_after, point_at}
use Rattle.annual_overlap.specs.Sizes.{IsSmallPoint}
use Rattle.annual_overlap.proofs.levels.write_after.Given as goal

abbrev pub invariant-loop-year : goal.invariant-loop-year
invariant-loop-year l = record {
  written : (k : ℕ) → k < l.year → k < length l.values → get_or l.out k (Marked Missing) ≡ point_at l.values l.volumes l.fn.reference k;
  reached : l.point ≡ years_after l.values l.volumes l.fn.reference (l.year - l.fn.reference);
  from : l.fn.reference ≤ l.year;
  small : (k : ℕ) → IsSmallPoint (get_or l.out k (Marked Missing));
  small_point : IsSmallPoint l.point;
  as_many : length l.out ≡ length l.values;
}
