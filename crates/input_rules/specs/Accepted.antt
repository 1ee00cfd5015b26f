-- The inputs that are accepted of the lines of a stream, and the lines that are refused.
use Rattle.std.specs.Prelude.{ℕ, ◌+◌, Bool, true, false, nat_lt, List, [], ◌∷◌, ◌++◌, length, take, map}
use Rattle.std.specs.Prelude.{Option, Some, None, if◌then◌else◌}
use Rattle.std.specs.List.{filter_map}
use Rattle.std.specs.Option.{option_to_list}
use Rattle.series_tables.specs.Plan.{PlanShape}
use Rattle.series_tables.specs.declared.input.Input.{Input}
use Rattle.line_form.specs.Lines.{TextLine, lines_of}
use Rattle.input_rules.specs.declared.lines.Cause.{Cause}
use Rattle.input_rules.specs.declared.lines.Cause.TheVariants.{Full}
use Rattle.input_rules.specs.declared.lines.Judged.{Judged}
use Rattle.input_rules.specs.declared.lines.Judged.TheVariants.{Passed, Taken, Refused}
use Rattle.input_rules.specs.Lines.{judged_line}

-- how many inputs are accepted at most
abbrev pub most_inputs : ℕ
most_inputs = 262144

-- what is said of each line
abbrev pub judged_lines : PlanShape → List TextLine → List Judged
judged_lines plan lines = map (judged_line plan) lines

-- the input that is taken
abbrev pub taken : Judged → Option Input
taken Passed = None
taken (Taken i) = Some i
taken (Refused cause) = None

-- whether a line is passed over
abbrev pub is_passed : Judged → Bool
is_passed Passed = true
is_passed (Taken i) = false
is_passed (Refused cause) = false

-- the accepted inputs of some lines: those that are taken, as many as may be
unfoldable pub accepted_of : PlanShape → List TextLine → List Input
accepted_of plan lines = take most_inputs (filter_map taken (judged_lines plan lines))

-- the accepted inputs of a stream
unfoldable pub accepted : PlanShape → List ℕ → List Input
accepted plan text = accepted_of plan (lines_of text)

-- the input that is accepted of a line, where so many were before it
abbrev pub accepted_next : ℕ → Judged → Option Input
accepted_next before judged = if nat_lt before most_inputs then taken judged else None

-- a refused line: its number, and why
pub record RefusedLine : Type 0 where
  pub number : ℕ
  pub cause : Cause

-- the refusal of a line with this number, where so many inputs were accepted before it: an input past the greatest
-- number is full
abbrev pub refused_next : ℕ → ℕ → Judged → Option RefusedLine
refused_next before number Passed = None
refused_next before number (Taken i) =
    if nat_lt before most_inputs then None else Some (record { number = number; cause = Full })
refused_next before number (Refused cause) = Some (record { number = number; cause = cause })

-- the refused lines of those that follow so many accepted inputs
unfoldable pub refusals_after : PlanShape → ℕ → List TextLine → List RefusedLine
refusals_after plan before [] = []
refusals_after plan before (line ∷ lines) =
    option_to_list (refused_next before line.number (judged_line plan line))
    ++ refusals_after plan (before + length (option_to_list (accepted_next before (judged_line plan line)))) lines

-- the refused lines of some lines
unfoldable pub refusals_of : PlanShape → List TextLine → List RefusedLine
refusals_of plan lines = refusals_after plan 0 lines

-- the refused lines of a stream
unfoldable pub refusals : PlanShape → List ℕ → List RefusedLine
refusals plan text = refusals_of plan (lines_of text)
