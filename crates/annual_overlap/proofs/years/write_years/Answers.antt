use Rattle.std.proofs.Common.{arith, length-set}
use Rattle.price_base.specs.declared.Cell.{Cell}
use Rattle.annual_overlap.proofs.YearSums.{year_written}
use Rattle.annual_overlap.proofs.years.write_years.Goals as goal

pub loop-year-preserved : goal.loop-year-preserved
loop-year-preserved c = record {
  written = year_written c.args.cells.now c.loop-year.out c.loop-year.year c.year_of.result (omega arith) c.year_of.ensures.cell c.loop-year.invariant.written;
  as_many = omega (arith, length-set {A = Cell});
}
