use Rattle.std.proofs.Common.{◌≡◌, take, map}
use Rattle.cert_read.proofs.document.benchmarks.Given as goal

-- the benchmarks so far
abbrev pub invariant-loop-benchmark : goal.invariant-loop-benchmark
invariant-loop-benchmark l = l.all.items ≡ map (λ b. b.value) (take l.benchmark-index l.raw)
