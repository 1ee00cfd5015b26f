use Rattle.std.proofs.Common.{◌≡◌, ◌++◌, ℕ, List, length}
use Rattle.line_form.specs.Lines.{TextLine, IsCutOf}
use Rattle.series_tables.specs.PlanReading.{outcome}
use Rattle.series_tables.proofs.reading.take_waiting.Given as goal

-- some lines were handed out and taken, and what comes of those that wait still comes of all
abbrev pub invariant-lines : goal.invariant-lines
invariant-lines l = record {
  handed : List TextLine;
  parted : l.fn.lines.waiting ≡ handed ++ l.lines.waiting;
  came : (rest : List TextLine) → outcome l.fn.progress (l.fn.lines.waiting ++ rest) ≡ outcome l.progress (l.lines.waiting ++ rest);
  cut : (stream : List ℕ) (before : List TextLine) → IsCutOf l.fn.lines stream before → IsCutOf l.lines stream (before ++ handed);
  ended : l.lines.ended ≡ l.fn.lines.ended;
}

abbrev pub decreases-lines : goal.decreases-lines
decreases-lines l = length l.lines.waiting
