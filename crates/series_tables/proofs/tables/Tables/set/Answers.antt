use Rattle.std.proofs.Common.{rules, arith, FitsSigned, to_z-of_z}
use Rattle.std.specs.Int.{w64}
use Rattle.series_tables.proofs.Rows.{rows_with_benchmark}
use Rattle.series_tables.proofs.tables.Tables.set.Goals as goal

pub invariant_of-self-in-Benchmark : goal.invariant_of-self-in-Benchmark
invariant_of-self-in-Benchmark c =
    let fits : FitsSigned w64 c.args.input.now.value = search rules in
    let least = rw c.in-Benchmark.is at c.requires.least in
    let most = rw c.in-Benchmark.is at c.requires.most in
    rw c.put-in-Benchmark.ensures.set (rows_with_benchmark _ _ _ _ _ _ c.self.invariant (grind (arith, to_z-of_z), grind (arith, to_z-of_z)))
