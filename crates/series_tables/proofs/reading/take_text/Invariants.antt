use Rattle.std.proofs.Common.{◌≡◌, ◌≤◌, ◌-◌, ◌++◌, List, false, length, take}
use Rattle.line_form.specs.Lines.{TextLine, IsCutOf, ended_lines}
use Rattle.series_tables.specs.PlanReading.{outcome}
use Rattle.series_tables.proofs.reading.take_text.Given as goal

-- the ended lines of the text so far were handed out and taken, and none waits
abbrev pub invariant-pieces : goal.invariant-pieces
invariant-pieces l = record {
  within : l.done ≤ length l.text;
  unended : l.lines.ended ≡ false;
  cut : IsCutOf l.lines (take l.done l.text) (ended_lines (take l.done l.text));
  came : (rest : List TextLine) → outcome l.fn.progress (ended_lines (take l.done l.text) ++ rest) ≡ outcome l.progress rest;
}

abbrev pub decreases-pieces : goal.decreases-pieces
decreases-pieces l = length l.text - l.done
