use Rattle.std.proofs.Common.{◌<◌, length, arith}
use Rattle.cert_read.specs.Statement.{benchmark_line}
use Rattle.release_print.proofs.Parts.{appends_part}
use Rattle.release_print.proofs.Lines.{yearly_part, yearly_more}
use Rattle.release_print.proofs.certificate.push_benchmarks.Goals as goal

pub returns-in_err-push_benchmark : goal.returns-in_err-push_benchmark
returns-in_err-push_benchmark c =
    let inside : c.loop-y.y < length c.args.benchmarks.now = omega arith in
    let there : c.loop-y.y < length c.args.years.now = omega arith in
    appends_part c.from_residual.result _ _ _ c.from_residual.ensures.0
    (yearly_part benchmark_line _ _ _ _ c.args.start c.loop-y.y _ _ c.args.years.now c.args.benchmarks.now
    there c.from.ensures inside c.loop-y.invariant c.in_err-push_benchmark.ensures)

pub loop-y-preserved : goal.loop-y-preserved
loop-y-preserved c =
    let inside : c.loop-y.y < length c.args.benchmarks.now = omega arith in
    let there : c.loop-y.y < length c.args.years.now = omega arith in
    yearly_more benchmark_line _ _ _ _ c.args.start c.loop-y.y _ _ c.args.years.now c.args.benchmarks.now
    there c.from.ensures inside c.loop-y.invariant c.in_ok-push_benchmark.ensures
