-- What a refusal of a plan says of the text.
use Rattle.std.specs.Prelude.{◌≡◌, ℕ, codes, List, Option, Some, Result, Err}
use Rattle.series_tables.specs.declared.cause.PlanCause.{PlanCause}
use Rattle.series_tables.specs.declared.cause.PlanCause.TheVariants.{Form, NoStart, Twice, Year, NoParent, TooMany}
use Rattle.series_tables.specs.declared.cause.PlanError.{PlanError}
use Rattle.series_tables.specs.declared.cause.PlanError.TheVariants.{Fault, Memory}
use Rattle.series_tables.specs.Plan.{PlanShape, PlanRefusal, plan_of}

-- an error is the refusal that a reading ends with; want of memory says nothing
abbrev pub Refuses : Result PlanShape PlanRefusal → PlanError → Type 0
Refuses reading (Fault line cause) = reading ≡ Err (record { line = line; cause = cause })
Refuses reading Memory = Unit {0}

-- a fault names the text's first line that is refused, with its cause
abbrev pub Explains : List ℕ → PlanError → Type 0
Explains text error = Refuses (plan_of text) error

-- an error is at the line of a number and of the cause that was found; want of memory says nothing
abbrev pub IsCauseAt : ℕ → Option PlanCause → PlanError → Type 0
IsCauseAt number found (Fault line cause) = (line ≡ number) × (found ≡ Some cause)
IsCauseAt number found Memory = Unit {0}

-- the printed word of a cause
abbrev pub cause_text : PlanCause → List ℕ
cause_text Form = codes "form"
cause_text NoStart = codes "nostart"
cause_text Twice = codes "twice"
cause_text Year = codes "year"
cause_text NoParent = codes "noparent"
cause_text TooMany = codes "toomany"
