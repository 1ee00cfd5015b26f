use Rattle.std.proofs.Common.{◌≡◌, take, map}
use Rattle.cert_read.proofs.document.years.Given as goal

-- the places so far
abbrev pub invariant-loop-benchmark : goal.invariant-loop-benchmark
invariant-loop-benchmark l = l.all.items ≡ map (λ b. b.place) (take l.benchmark-index l.raw)
