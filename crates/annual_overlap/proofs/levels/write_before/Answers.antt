use Rattle.std.proofs.Common.{◌∙◌, ap, arith, length-set, ◌-◌, ◌≤◌}
use Rattle.annual_overlap.specs.declared.Point.{Point}
use Rattle.annual_overlap.specs.declared.Point.TheVariants.{Marked}
use Rattle.price_base.specs.declared.Cell.TheVariants.{Missing}
use Rattle.annual_overlap.specs.Chain.{step_backward, reference_point}
use Rattle.annual_overlap.specs.Sizes.{IsSmallPoint}
use Rattle.annual_overlap.proofs.Points.{each_set, before_written, before_reached, before_start}
use Rattle.annual_overlap.proofs.levels.write_before.Goals as goal

pub loop-year-init : goal.loop-year-init
loop-year-init c = record {
  written = λ k from until inside. absurd (omega arith);
  reached = before_start c.args.values.now c.args.volumes.now c.args.reference c.min-year.result c.first_point-point.result (omega arith) (grind arith) (c.first_point-point.ensures.point ∙ ap reference_point c.cell_or_missing.ensures.cell);
  until = omega arith;
  small = c.requires.small;
  small_point = c.first_point-point.ensures.range;
  as_many = c.requires.places;
}

pub loop-year-preserved : goal.loop-year-preserved
loop-year-preserved c =
    let until : c.loop-year.year ≤ c.args.reference = c.loop-year.invariant.until in
    let reached = before_reached c.args.values.now c.args.volumes.now c.args.reference c.loop-year.year (c.loop-year.year - 1) c.loop-year.point c.previous_point-point.result (omega arith) (omega arith) c.loop-year.invariant.reached
    (c.previous_point-point.ensures.point ∙ ap (step_backward c.loop-year.point) c.link_to_next.ensures.link) in
    record {
      written = before_written c.args.values.now c.args.volumes.now c.loop-year.out c.args.reference c.loop-year.year (c.loop-year.year - 1) c.previous_point-point.result (omega arith) (omega arith) (omega arith) reached c.loop-year.invariant.written;
      reached = reached;
      until = omega arith;
      small = each_set IsSmallPoint c.loop-year.out (c.loop-year.year - 1) c.previous_point-point.result (Marked Missing) (omega arith) c.loop-year.invariant.small c.previous_point-point.ensures.range;
      small_point = c.previous_point-point.ensures.range;
      as_many = omega (arith, length-set {A = Point});
    }
