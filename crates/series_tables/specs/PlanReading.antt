-- How far a reader of a plan has come, and what it makes of the lines that are left.
use Rattle.std.specs.Prelude.{ℕ, List, [], ◌∷◌, ◌++◌, Option, Some, None, Result, Err, if◌then◌else◌}
use Rattle.line_form.specs.Lines.{TextLine, next_number, is_passed_over}
use Rattle.series_tables.specs.PlanLine.{PlanEntry, start_entry, reference_entry, item_entry, said}
use Rattle.series_tables.specs.Plan.{PlanShape, Gathered, PlanRefusal, parent_among, cause_of, plan_given}

-- what the lines so far give, and how many they are
pub record Progress : Type 0 where
  pub given : Gathered
  pub count : ℕ

-- before the first line
abbrev pub nothing : Gathered
nothing = record { start = None; reference = None; names = []; parents = [] }

-- what is gathered, with one entry that isn't refused
abbrev pub with_entry : Gathered → PlanEntry → Gathered
with_entry given (start_entry year) = record given { start = Some year }
with_entry given (reference_entry year) = record given { reference = Some year }
with_entry given (item_entry name parent) =
    record given { names = given.names ++ name ∷ []; parents = given.parents ++ parent_among given.names parent ∷ [] }

-- the same with what a line says
abbrev pub with_said : Gathered → Option PlanEntry → Gathered
with_said given None = given
with_said given (Some entry) = with_entry given entry

-- what comes of the lines that are left
unfoldable pub outcome : Progress → List TextLine → Result PlanShape PlanRefusal
outcome p [] = plan_given p.given (next_number p.count)
outcome p (line ∷ lines) =
    if is_passed_over line then outcome (record p { count = next_number p.count }) lines
    else elim (cause_of p.given (said line)) [
      | None ↦ outcome (record { given = with_said p.given (said line); count = next_number p.count }) lines
      | Some cause ↦ Err (record { line = line.number; cause = cause })
    ]
