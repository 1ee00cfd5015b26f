-- What is said of a line of an input: it is passed over, its input is taken, or it is refused (this product's own).
use Rattle.std.specs.Prelude.{ℕ, List, codes, Option, Some, None, Result, Ok, Err}
use Rattle.series_tables.specs.Plan.{PlanShape}
use Rattle.series_tables.specs.declared.input.Input.{Input}
use Rattle.line_form.specs.Lines.{TextLine}
use Rattle.input_rules.specs.declared.judging.Refusal.{Refusal}
use Rattle.input_rules.specs.declared.judging.Refusal.TheVariants as refusal
use Rattle.input_rules.specs.declared.lines.Cause.{Cause}
use Rattle.input_rules.specs.declared.lines.Cause.TheVariants.{Long, Form, Unknown, Zero, Range, Full}
use Rattle.input_rules.specs.declared.lines.Judged.{Judged}
use Rattle.input_rules.specs.declared.lines.Judged.TheVariants.{Passed, Taken, Refused}
use Rattle.input_rules.specs.Judgement.{judgement}
use Rattle.input_rules.specs.Requests.{Asked, input, release, release_of, certificate_of, sync, meaning_of}

-- the word of a cause
abbrev pub cause_text : Cause → List ℕ
cause_text Long = codes "long"
cause_text Form = codes "form"
cause_text Unknown = codes "unknown"
cause_text Zero = codes "zero"
cause_text Range = codes "range"
cause_text Full = codes "full"

-- the cause of a line whose input is refused
abbrev pub cause_of : Refusal → Cause
cause_of refusal.Unknown = Unknown
cause_of refusal.Zero = Zero
cause_of refusal.Range = Range

-- what is said of an input that was judged
abbrev pub judged_input : Result Input Refusal → Judged
judged_input (Err why) = Refused (cause_of why)
judged_input (Ok i) = Taken i

-- what is said of a request: every one but an input is passed over
abbrev pub judged_request : PlanShape → Asked → Judged
judged_request plan (input i) = judged_input (judgement plan i.kind i.name i.period i.value)
judged_request plan release = Passed
judged_request plan (release_of name) = Passed
judged_request plan (certificate_of name) = Passed
judged_request plan sync = Passed

-- what is said of what a line asks for
abbrev pub judged_meaning : PlanShape → Result (Option Asked) Cause → Judged
judged_meaning plan (Err cause) = Refused cause
judged_meaning plan (Ok None) = Passed
judged_meaning plan (Ok (Some request)) = judged_request plan request

-- what is said of a line
unfoldable pub judged_line : PlanShape → TextLine → Judged
judged_line plan line = judged_meaning plan (meaning_of plan.start line)
