use Rattle.std.proofs.Common.{◌≡◌, length, None}
use Rattle.cert_read.specs.Content.{nothing}
use Rattle.cert_read.specs.Progress.{outcome}
use Rattle.cert_read.proofs.reading.read_all.Given as goal

-- what is read of the lines that wait still makes what all lines do
abbrev pub invariant-lines : goal.invariant-lines
invariant-lines l = outcome (record { content = nothing; late = None; last = 0 }) l.fn.lines.waiting ≡ outcome l.progress l.lines.waiting

abbrev pub decreases-lines : goal.decreases-lines
decreases-lines l = length l.lines.waiting
