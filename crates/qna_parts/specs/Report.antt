-- What a report has of the refused lines of an input.
use Rattle.std.specs.Prelude.{◌≡◌, ◌⊎◌, ℕ, List, take}
use Rattle.qna_edges.specs.Paper.{Paper, grown, WasRefused, BreaksOff, Writes}
use Rattle.series_tables.specs.Plan.{PlanShape}
use Rattle.input_rules.specs.Accepted.{refusals}
use Rattle.qna_parts.specs.Intake.{refusal_lines, refusals_text}

-- a report has the lines of the first refused lines of an input, some number of them; or it refused one, and is broken
-- off within the lines of all
abbrev pub ReportsFirst : PlanShape → Paper → Paper → List ℕ → Type 0
ReportsFirst plan old new text =
    ((n : ℕ) × (new ≡ grown old (refusal_lines (take n (refusals plan text)))))
    ⊎ (WasRefused old new × BreaksOff old new (refusals_text plan text))

-- a report has a text whole, and then a line was to be written
unfoldable pub ReportsThen : Paper → Paper → List ℕ → List ℕ → Type 0
ReportsThen old new text line = Writes (grown old text) new line

-- a text was to be written, and then, whether or not it was refused, a line
unfoldable pub WritesBoth : Paper → Paper → List ℕ → List ℕ → Type 0
WritesBoth old new text line = (mid : Paper) × Writes old mid text × Writes mid new line
