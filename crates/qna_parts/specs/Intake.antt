-- What is reported of the refused lines of an input, and how far an input was taken (this product's own).
use Rattle.std.specs.Prelude.{◌≡◌, ◌≤◌, ◌⊎◌, ℕ, ◌-◌, false, List, [], ◌∷◌, ◌++◌, length, take, codes, decimal, Some}
use Rattle.qna_edges.specs.Count.{Rose}
use Rattle.qna_edges.specs.Paper.{Paper, grown, WasRefused, BreaksOff}
use Rattle.qna_edges.specs.Stock.{Stock, OnLeft}
use Rattle.line_form.specs.Lines.{TextLine, Cutting, IsCutOf, ended_lines}
use Rattle.series_tables.specs.Plan.{PlanShape}
use Rattle.series_tables.specs.Cells.{Rows}
use Rattle.std.specs.List.{filter_map}
use Rattle.series_tables.specs.declared.input.Input.{Input}
use Rattle.input_rules.specs.Accepted.{RefusedLine, most_inputs, judged_lines, taken, accepted_of}
use Rattle.input_rules.specs.Accepted.{refusals_of, refusals}
use Rattle.input_rules.specs.Lines.{cause_text}
use Rattle.qna_parts.specs.Making.{HoldsLast}

-- the most bytes of an input
abbrev pub most_bytes : ℕ
most_bytes = 1073741824

-- the line that reports a refused line: its number and the cause
abbrev pub refusal_line : RefusedLine → List ℕ
refusal_line refused = decimal refused.number ++ codes ",no," ++ cause_text refused.cause ++ codes "\n"

-- the lines that report refused lines
unfoldable pub refusal_lines : List RefusedLine → List ℕ
refusal_lines [] = []
refusal_lines (refused ∷ more) = refusal_line refused ++ refusal_lines more

-- what is reported of an input: each of its refused lines
unfoldable pub refusals_text : PlanShape → List ℕ → List ℕ
refusals_text plan text = refusal_lines (refusals plan text)

-- what is reported of the lines of a beginning of an input that line feeds end
unfoldable pub ended_refusals_text : PlanShape → List ℕ → List ℕ
ended_refusals_text plan stream = refusal_lines (refusals_of plan (ended_lines stream))

-- the accepted inputs of the lines that follow so many accepted inputs: those that are taken, as many as are left
unfoldable pub accepted_after : PlanShape → ℕ → List TextLine → List Input
accepted_after plan before lines = take (most_inputs - before) (filter_map taken (judged_lines plan lines))

-- so many inputs were accepted of these lines, and the tables hold the last value of each kind, leaf and period of them
pub record HasTaken (plan : PlanShape) (lines : List TextLine) (rows : Rows) (count : ℕ) : Type 0 where
  pub counted : count ≡ length (accepted_of plan lines)
  pub cells : HoldsLast rows (accepted_of plan lines)

-- an input was taken as far as this beginning of it goes: the lines that line feeds end
pub record IsTakenTo (plan : PlanShape) (stream : List ℕ) (lines : Cutting) (rows : Rows) (count : ℕ) : Type 0 where
  pub cut : IsCutOf lines stream (ended_lines stream)
  pub taken : HasTaken plan (ended_lines stream) rows count

-- more of an input can be taken: no line waits, and no report line is left to be written
pub record IsReady (plan : PlanShape) (lines : Cutting) (rows : Rows) (count : ℕ) (unwritten : List ℕ) : Type 0 where
  pub items : rows.items ≡ length plan.names
  pub few : count ≤ 262144
  pub goes_on : lines.ended ≡ false
  pub none_waits : lines.waiting ≡ []
  pub all_written : unwritten ≡ []

-- a source was read to its end, within the limit of an input, and nothing failed
abbrev pub IsTakenWhole : Stock → Stock → Type 0
IsTakenWhole old new =
    (new.faults ≡ old.faults) × OnLeft old (λ text. (length text ≤ most_bytes) × (new.left ≡ Some []))

-- a report stopped: it has what was whole before and no more, or it refused a write, and is broken off within a text
abbrev pub Stops : Paper → Paper → List ℕ → List ℕ → Type 0
Stops old new before text = (new ≡ grown old before) ⊎ (WasRefused old new × BreaksOff old new text)

-- a report failed: its count rose, and it is broken off within a text
abbrev pub Breaks : Paper → Paper → List ℕ → Type 0
Breaks old new text = Rose old.faults new.faults × BreaksOff old new text
