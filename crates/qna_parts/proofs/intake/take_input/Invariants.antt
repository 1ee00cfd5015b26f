use Rattle.std.proofs.Common.{◌≡◌, ◌≤◌, ◌-◌}
use Rattle.qna_edges.specs.Stock.{WasRead}
use Rattle.qna_parts.specs.Intake.{IsReady}
use Rattle.qna_parts.proofs.Reading.{IsReadTo}
use Rattle.qna_parts.proofs.intake.take_input.Given as goal

-- the bytes read so far are the input's first ones, and they were taken
abbrev pub invariant-reading : goal.invariant-reading
invariant-reading g l =
    IsReady l.plan l.intake.lines l.intake.tables l.intake.accepted l.intake.refused.items
    × (l.size ≤ 1073741824)
    × IsReadTo l.plan (g.S.Source.stock l.fn.source).left (g.S.Source.stock l.source).left (g.R.Sink.paper l.fn.report) (g.R.Sink.paper l.report) l.size l.intake.lines l.intake.tables l.intake.accepted
    × WasRead (g.S.Source.stock l.fn.source) (g.S.Source.stock l.source)
    × ((g.R.Sink.paper l.report).faults ≡ (g.R.Sink.paper l.fn.report).faults)
    × ((g.S.Source.stock l.source).faults ≡ (g.S.Source.stock l.fn.source).faults)

abbrev pub decreases-reading : goal.decreases-reading
decreases-reading g l = 1073741824 - l.size
