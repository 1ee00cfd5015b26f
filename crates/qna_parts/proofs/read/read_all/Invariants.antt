use Rattle.std.proofs.Common.{◌≡◌, ◌≤◌, ◌-◌, vec_len}
use Rattle.std.specs.Io.KnownBytes.{Consumes}
use Rattle.qna_parts.proofs.read.read_all.Given as goal

-- the bytes so far are what the source lost, and they are within the limit
abbrev pub invariant-reading : goal.invariant-reading
invariant-reading g l =
    Consumes (g.S.Source.stock l.fn.source).left (g.S.Source.stock l.source).left l.bytes.items
    × (vec_len l.bytes ≤ l.limit)
    × ((g.S.Source.stock l.source).faults ≡ (g.S.Source.stock l.fn.source).faults)
    × ((g.S.Source.stock l.source).name ≡ (g.S.Source.stock l.fn.source).name)

abbrev pub decreases-reading : goal.decreases-reading
decreases-reading g l = l.limit - vec_len l.bytes
