use Rattle.std.proofs.Common.{◌≡◌, ◌++◌, drop}
use Rattle.node_compile.specs.Leaf.{present_benchmarks}
use Rattle.node_compile.proofs.years.benchmarks_of.Given as goal

-- the benchmarks so far, and those that are left, are all
abbrev pub invariant-loop-benchmark : goal.invariant-loop-benchmark
invariant-loop-benchmark l =
    l.given.items ++ present_benchmarks (drop l.benchmark-index l.bench) ≡ present_benchmarks l.bench
