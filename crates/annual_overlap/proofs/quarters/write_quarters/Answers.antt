use Rattle.std.proofs.Common.{arith, length-set}
use Rattle.price_base.specs.declared.Cell.{Cell}
use Rattle.annual_overlap.proofs.Shares.{kept_quarters, quarter_written, quarters_written}
use Rattle.annual_overlap.proofs.quarters.write_quarters.Goals as goal

pub loop-quarter-preserved : goal.loop-quarter-preserved
loop-quarter-preserved c = record {
  written = quarter_written c.args.values.now c.args.volumes.now c.args.levels.now c.args.quarters.now c.loop-quarter.out c.quarters_for-four.result c.loop-quarter.quarter (omega arith) c.quarters_for-four.ensures.quarters c.loop-quarter.invariant.written;
  kept = kept_quarters c.args.values.now c.args.volumes.now c.args.levels.now c.args.quarters.now c.quarters_for-four.result c.loop-quarter.quarter c.quarters_for-four.ensures.quarters;
  as_many = omega (arith, length-set {A = Cell});
}

pub returns : goal.returns
returns c = record {
  quarters = quarters_written c.args.values.now c.args.volumes.now c.args.levels.now c.args.quarters.now c.loop-quarter.out c.loop-quarter.quarter (omega arith) c.loop-quarter.invariant.as_many c.loop-quarter.invariant.written;
}
