use Rattle.std.proofs.Common.{◌≡◌, ◌≤◌, ◌-◌, length, false, []}
use Rattle.desk_lock.specs.Passes.{IsSameButSeen}
use Rattle.accounts_history.specs.History.{journal}
use Rattle.compile_workers.specs.Serving.{position}
use Rattle.compile_workers.proofs.Ends.{IsReading}
use Rattle.compile_workers.proofs.desk.serve_source.Given as goal

-- the bytes read so far are the source's first ones, and the lines that line feeds end in them were answered
abbrev pub invariant-reading : goal.invariant-reading
invariant-reading g l =
    IsSameButSeen l.fn.pass l.progress.pass
    × (l.progress.own ≤ length (journal l.progress.pass.seen))
    × (l.lines.ended ≡ false)
    × (l.answers.items ≡ [])
    × IsReading l.service.plan.now l.fn.pass.party (g.S.Source.stock l.fn.source) (g.S.Source.stock l.source)
    (g.K.Sink.paper l.fn.sink) l.lines (position (g.K.Sink.paper l.sink) l.progress.own l.progress.pass.seen) l.size

abbrev pub decreases-reading : goal.decreases-reading
decreases-reading g l = 1073741824 - l.size
