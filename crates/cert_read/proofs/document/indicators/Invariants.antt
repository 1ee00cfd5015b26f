use Rattle.std.proofs.Common.{◌≡◌, take, map, pos}
use Rattle.cert_read.proofs.document.indicators.Given as goal

-- the indicators so far
abbrev pub invariant-loop-value : goal.invariant-loop-value
invariant-loop-value l = map pos l.all.items ≡ take l.value-index l.raw
