use Rattle.std.proofs.Common.{◌≡◌, ℕ, ◌+◌, ◌≤◌, List, ◌++◌, length}
use Rattle.line_form.specs.Lines.{TextLine, IsCutOf}
use Rattle.series_tables.specs.LastValue.{last_from}
use Rattle.series_tables.specs.Cells.{cell}
use Rattle.series_tables.specs.declared.input.Kind.{Kind}
use Rattle.input_rules.specs.Accepted.{refusals_after}
use Rattle.qna_parts.specs.Intake.{refusal_lines, accepted_after}
use Rattle.qna_parts.proofs.lines.take_waiting.Given as goal

-- what came so far, and what the lines that wait give, are what all that waited give
abbrev pub invariant-lines : goal.invariant-lines
invariant-lines l =
    (l.tables.items ≡ l.fn.tables.items)
    × (l.count ≤ 262144)
    × (l.lines.ended ≡ l.fn.lines.ended)
    × (l.count + length (accepted_after l.plan l.count l.lines.waiting) ≡ l.accepted + length (accepted_after l.plan l.accepted l.fn.lines.waiting))
    × (l.refused.items ++ refusal_lines (refusals_after l.plan l.count l.lines.waiting) ≡ l.fn.refused.items ++ refusal_lines (refusals_after l.plan l.accepted l.fn.lines.waiting))
    × ((kind : Kind) (leaf period : ℕ) → last_from (cell l.tables kind leaf period) (accepted_after l.plan l.count l.lines.waiting) kind leaf period ≡ last_from (cell l.fn.tables kind leaf period) (accepted_after l.plan l.accepted l.fn.lines.waiting) kind leaf period)
    × ((stream : List ℕ) (handed : List TextLine) → IsCutOf l.fn.lines stream handed → (done : List TextLine) × (l.fn.lines.waiting ≡ done ++ l.lines.waiting) × IsCutOf l.lines stream (handed ++ done))

abbrev pub decreases-lines : goal.decreases-lines
decreases-lines l = length l.lines.waiting
