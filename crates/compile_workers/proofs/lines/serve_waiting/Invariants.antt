use Rattle.std.proofs.Common.{◌≡◌, ℕ, ◌≤◌, List, ◌++◌, length}
use Rattle.std.specs.Prelude.{Ok}
use Rattle.line_form.specs.Lines.{IsCutOf, TextLine}
use Rattle.desk_lock.specs.Passes.{IsSameButSeen}
use Rattle.accounts_history.specs.History.{journal}
use Rattle.compile_workers.specs.Answering.{reached}
use Rattle.compile_workers.specs.Serving.{IsSaid, position}
use Rattle.compile_workers.proofs.Waiting.{WaitsAfter}
use Rattle.compile_workers.proofs.lines.serve_waiting.Given as goal

-- the lines that were handed out were answered, and what the sink hasn't of their answers waits
abbrev pub invariant-lines : goal.invariant-lines
invariant-lines g l =
    IsSameButSeen l.fn.progress.pass l.progress.pass
    × (l.progress.own ≤ length (journal l.progress.pass.seen))
    × (l.lines.ended ≡ l.fn.lines.ended)
    × ((done : List TextLine) × (l.fn.lines.waiting ≡ done ++ l.lines.waiting)
    × ((stream : List ℕ) (handed : List TextLine) → IsCutOf l.fn.lines stream handed
    → IsCutOf l.lines stream (handed ++ done))
    × WaitsAfter l.service.plan.now l.fn.progress.pass.party done
    (position (g.K.Sink.paper l.fn.sink) l.fn.progress.own l.fn.progress.pass.seen) (g.K.Sink.paper l.sink)
    (reached l.answers.items l.progress.own l.progress.pass.seen))
    × IsSaid (g.K.Sink.paper l.fn.sink) (g.K.Sink.paper l.sink) (Ok tt)

abbrev pub decreases-lines : goal.decreases-lines
decreases-lines g l = length l.lines.waiting
