use Rattle.std.proofs.Common.{◌≤◌, ◌^◌, pos, unsigned_abs, arith, length-set}
use Rattle.std.specs.Prelude.{IfSome, None}
use Rattle.price_base.specs.declared.Cell.{Cell}
use Rattle.price_base.specs.Volumes.{IsPrice}
use Rattle.price_base.proofs.Quarters.{at_each_index, kept_base, written_more, written_all, volumes_flow}
use Rattle.price_base.proofs.volumes.at_previous_prices.Goals as goal

pub base_for-base-requires : goal.base_for-base-requires
base_for-base-requires c = record {
  sizes = at_each_index (λ value. unsigned_abs value ≤ 10 ^ 24) c.args.x.now (pos 0) c.requires.sizes (omega arith);
  prices = at_each_index (λ price. IfSome price IsPrice) c.args.price.now None c.requires.prices tt;
  quarter = omega arith;
  kept = c.loop-quarter.invariant.kept;
  range = c.loop-quarter.invariant.range;
}

pub sold-requires : goal.sold-requires
sold-requires c = record {
  sizes = at_each_index (λ value. unsigned_abs value ≤ 10 ^ 24) c.args.x.now (pos 0) c.requires.sizes (omega arith);
  prices = at_each_index (λ price. IfSome price IsPrice) c.args.price.now None c.requires.prices tt;
}

pub loop-quarter-preserved : goal.loop-quarter-preserved
loop-quarter-preserved c = record {
  written = written_more c.args.x.now c.args.price.now c.loop-quarter.out c.loop-quarter.quarter c.base_for-base.result c.sold.result c.volume.result (omega arith) c.volume.ensures.cell c.base_for-base.ensures.base c.sold.ensures.sold c.loop-quarter.invariant.written;
  kept = kept_base c.args.x.now c.args.price.now c.loop-quarter.quarter c.base_for-base.result c.base_for-base.ensures.base;
  range = c.base_for-base.ensures.range;
  as_many = omega (arith, length-set {A = Cell});
}

pub returns-clause-cells : goal.returns-clause-cells
returns-clause-cells c = written_all c.args.x.now c.args.price.now c.loop-quarter.out c.loop-quarter.quarter (omega arith) c.loop-quarter.invariant.as_many c.loop-quarter.invariant.written

pub returns-clause-flows : goal.returns-clause-flows
returns-clause-flows c =
    rw (written_all c.args.x.now c.args.price.now c.loop-quarter.out c.loop-quarter.quarter (omega arith) c.loop-quarter.invariant.as_many c.loop-quarter.invariant.written) (volumes_flow c.args.x.now c.args.price.now)
