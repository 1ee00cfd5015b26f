use Rattle.std.proofs.Common.{◌≡◌, ℕ, ◌-◌, ◌<◌, ◌≤◌, get_or, length}
use Rattle.price_base.specs.declared.Cell.TheVariants.{Missing}
use Rattle.annual_overlap.specs.declared.Point.TheVariants.{Marked}
use Rattle.annual_overlap.specs.Chain.{years_before, point_at}
use Rattle.annual_overlap.specs.Sizes.{IsSmallPoint}
use Rattle.annual_overlap.proofs.levels.write_before.Given as goal

abbrev pub invariant-loop-year : goal.invariant-loop-year
invariant-loop-year l = record {
  written : (k : ℕ) → l.year ≤ k → k < l.fn.reference → k < length l.values → get_or l.out k (Marked Missing) ≡ point_at l.values l.volumes l.fn.reference k;
  reached : l.point ≡ years_before l.values l.volumes l.fn.reference (l.fn.reference - l.year);
  until : l.year ≤ l.fn.reference;
  small : (k : ℕ) → IsSmallPoint (get_or l.out k (Marked Missing));
  small_point : IsSmallPoint l.point;
  as_many : length l.out ≡ length l.values;
}
