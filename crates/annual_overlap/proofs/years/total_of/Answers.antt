use Rattle.std.proofs.Common.{arith}
use Rattle.annual_overlap.proofs.Products.{kept}
use Rattle.annual_overlap.proofs.YearSums.{total_kept}
use Rattle.annual_overlap.proofs.years.total_of.Goals as goal

pub returns-clause-total : goal.returns-clause-total
returns-clause-total c =
    let a = kept c.number_of.result (omega arith) in
    let b = kept c.number_of-2.result (omega arith) in
    let d = kept c.number_of-3.result (omega arith) in
    let e = kept c.number_of-4.result (omega arith) in
    total_kept c.args.first c.args.second c.args.third c.args.fourth c.number_of.result c.number_of-2.result c.number_of-3.result c.number_of-4.result c.sum_of.result
    c.number_of.ensures.number c.number_of-2.ensures.number c.number_of-3.ensures.number c.number_of-4.ensures.number (rw (a, b, d, e) at c.sum_of.ensures.value) (omega arith)
