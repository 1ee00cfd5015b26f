use Rattle.std.proofs.Common.{ℤ, List, sym, subst, arith}
use Rattle.node_compile.specs.Leaf.{AreBenchmarks, present_benchmarks}
use Rattle.node_compile.proofs.Places.{present_done, present_each}
use Rattle.node_compile.proofs.years.benchmarks_of.Goals as goal

pub returns-clause-range : goal.returns-clause-range
returns-clause-range c =
    let all = present_done c.args.bench.now c.loop-benchmark.given.items (present_benchmarks c.args.bench.now)
    c.loop-benchmark.benchmark-index (omega arith) c.loop-benchmark.invariant in
    subst (λ (given : List ℤ). AreBenchmarks given) (sym all) (present_each c.args.bench.now c.requires.range)
