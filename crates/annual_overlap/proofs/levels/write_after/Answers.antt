use Rattle.std.proofs.Common.{◌∙◌, ap, arith, length-set}
use Rattle.annual_overlap.specs.declared.Point.{Point}
use Rattle.annual_overlap.specs.declared.Point.TheVariants.{Marked}
use Rattle.price_base.specs.declared.Cell.TheVariants.{Missing}
use Rattle.annual_overlap.specs.Chain.{step_forward}
use Rattle.annual_overlap.specs.Sizes.{IsSmallPoint}
use Rattle.annual_overlap.proofs.Points.{each_set, after_written, after_reached, after_all}
use Rattle.annual_overlap.proofs.levels.write_after.Goals as goal

pub loop-year-preserved : goal.loop-year-preserved
loop-year-preserved c = record {
  written = after_written c.args.values.now c.args.volumes.now c.loop-year.out c.args.reference c.loop-year.year c.loop-year.point c.loop-year.invariant.from (omega arith) c.loop-year.invariant.reached c.loop-year.invariant.written;
  reached = after_reached c.args.values.now c.args.volumes.now c.args.reference c.loop-year.year c.loop-year.point c.next_point-point.result c.loop-year.invariant.from c.loop-year.invariant.reached
      (c.next_point-point.ensures.point ∙ ap (step_forward c.loop-year.point) c.link_to_next.ensures.link);
  from = omega (arith, c.loop-year.invariant.from);
  small = each_set IsSmallPoint c.loop-year.out c.loop-year.year c.loop-year.point (Marked Missing) (omega arith) c.loop-year.invariant.small c.loop-year.invariant.small_point;
  small_point = c.next_point-point.ensures.range;
  as_many = omega (arith, length-set {A = Point});
}

pub returns-clause-points : goal.returns-clause-points
returns-clause-points c = after_all c.args.values.now c.args.volumes.now c.loop-year.out c.args.reference c.loop-year.year (omega arith) c.loop-year.invariant.as_many c.loop-year.invariant.written
