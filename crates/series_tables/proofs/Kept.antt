-- A plan that a text spells keeps what every plan keeps, and the last values of a list with one input more.
use Rattle.std.proofs.Common.{◌≡◌, ℕ, ℤ, ◌<◌, Bool, true, false, cond, List, [], ◌∷◌, ◌++◌, length, Option, Some, None, Result, Ok, Err, refl, sym, ◌∙◌, subst, arith, length-append}
use Rattle.std.specs.Option.{ForSome, option_and_then}
use Rattle.std.specs.Str.{bytes_eq}
use Rattle.std.proofs.lemmas.List.Quantifiers.{position-Some}
use Rattle.line_form.specs.Lines.{TextLine, lines_of, next_number, is_passed_over}
use Rattle.line_form.specs.Fields.{record_of}
use Rattle.series_tables.specs.declared.cause.PlanCause.{PlanCause}
use Rattle.series_tables.specs.declared.cause.PlanCause.TheVariants.{NoStart}
use Rattle.series_tables.specs.declared.input.Input.{Input}
use Rattle.series_tables.specs.declared.input.Kind.{Kind}
use Rattle.series_tables.specs.Cells.{after_input}
use Rattle.series_tables.specs.IsPlan.{IsPlan}
use Rattle.series_tables.specs.Items.{AreNames, AreBackward}
use Rattle.series_tables.specs.LastValue.{speaks_of, last_from, last_value}
use Rattle.series_tables.specs.Plan.{PlanShape, PlanRefusal, Gathered, parent_among, cause_of, cause_of_entry, plan_given, plan_of, years_on}
use Rattle.series_tables.specs.PlanEntries.{IsNamed, IsStartInRange, IsReferenceInRange}
use Rattle.series_tables.specs.PlanLine.{PlanEntry, start_entry, reference_entry, item_entry, entry_of, said}
use Rattle.series_tables.specs.PlanReading.{Progress, nothing, with_entry, with_said, outcome}
use Rattle.series_tables.proofs.Distinct.{no_names, names_more}
use Rattle.series_tables.proofs.Entries.{entry_named, start_taken, reference_kept, reference_taken, item_taken}
use Rattle.series_tables.proofs.Outcomes.{outcome_past, outcome_taken, outcome_refused, plan_is_outcome}
use Rattle.series_tables.proofs.Parents.{backward_more}

-- ---- plans

-- what is gathered of lines that aren't refused keeps
record IsKept (g : Gathered) : Type 0 where
  start : IsStartInRange g.start
  reference : IsReferenceInRange g.start g.reference
  few : length g.names < 513
  names : AreNames g.names
  parented : length g.parents ≡ length g.names
  parents : AreBackward g.parents

nothing_kept : IsKept nothing
nothing_kept = record { start = tt; reference = tt; few = omega arith; names = no_names; parented = refl; parents = λ node within. absurd (omega arith) }

-- a parent that is found is one of the items
parent_within : (names : List (List ℕ)) (parent : List ℕ) → ForSome (parent_among names parent) (λ p. p < length names)
parent_within names [] p found = absurd (let never : ◌≡◌ {A = Option ℕ} None (Some p) = found in cc)
parent_within names (byte ∷ bytes) p found = (position-Some (bytes_eq (byte ∷ bytes)) names p [] found).0

-- with one more entry that isn't refused
entry_kept : (g : Gathered) (entry : PlanEntry) → IsKept g → IsNamed entry → cause_of_entry g entry ≡ None → IsKept (with_entry g entry)
entry_kept g (start_entry year) kept named free =
    let taken = start_taken g year free in
    record { start = (taken.1, taken.2); reference = reference_kept g.start g.reference year taken.0 kept.reference; few = kept.few; names = kept.names; parented = kept.parented; parents = kept.parents }
entry_kept g (reference_entry year) kept named free =
    record { start = kept.start; reference = reference_taken g year free; few = kept.few; names = kept.names; parented = kept.parented; parents = kept.parents }
entry_kept g (item_entry name parent) kept named free =
    let taken = item_taken g name parent free in
    let long : length g.parents ≡ length g.names = kept.parented in
    record {
      start = kept.start;
      reference = kept.reference;
      few = omega (arith, taken.1, length-append g.names (name ∷ []));
      names = names_more g.names name kept.names named taken.0;
      parented = omega (arith, long, length-append g.names (name ∷ []), length-append g.parents (parent_among g.names parent ∷ []));
      parents = backward_more g.parents (parent_among g.names parent) kept.parents (λ p found. let low = parent_within g.names parent p found in omega (arith, long, low));
    }

-- an item that a line says has a name for its name
said_named : (line : TextLine) (entry : PlanEntry) → said line ≡ Some entry → IsNamed entry
said_named line entry says = by_length line.long (record_of line.text) says
  where
    by_length : (long : Bool) (fields : Option (List (List ℕ))) → cond long None (option_and_then entry_of fields) ≡ Some entry → IsNamed entry
    by_length true fields e = absurd (let never : ◌≡◌ {A = Option PlanEntry} None (Some entry) = e in cc)
    by_length false None e = absurd (let never : ◌≡◌ {A = Option PlanEntry} None (Some entry) = e in cc)
    by_length false (Some fields) e = entry_named fields entry e

said_kept : (g : Gathered) (line : TextLine) (what : Option PlanEntry) → said line ≡ what → IsKept g → cause_of g what ≡ None → IsKept (with_said g what)
said_kept g line None says kept free = kept
said_kept g line (Some entry) says kept free = entry_kept g entry kept (said_named line entry says) free

years_within : (start : ℕ) (reference : Option ℕ) → IsReferenceInRange (Some start) reference → years_on start reference < 64
years_within start None within = omega arith
years_within start (Some year) within = omega (arith, within.0, within.1)

-- the plan of what is gathered
given_kept : (g : Gathered) (missing : ℕ) (plan : PlanShape) → IsKept g → plan_given g missing ≡ Ok plan → IsPlan plan
given_kept g missing plan kept e = by_start g.start g.reference kept.start kept.reference e
  where
    by_start : (start reference : Option ℕ) → IsStartInRange start → IsReferenceInRange start reference
        → ◌≡◌ {A = Result PlanShape PlanRefusal} (elim start [ None ↦ Err (record { line = missing; cause = NoStart }) | Some first ↦ Ok (record { start = first; reference = years_on first reference; names = g.names; parents = g.parents }) ]) (Ok plan) → IsPlan plan
    by_start None reference first within made = absurd (let never : ◌≡◌ {A = Result PlanShape PlanRefusal} (Err (record { line = missing; cause = NoStart })) (Ok plan) = made in cc)
    by_start (Some start) reference first within made =
        let shape : PlanShape = record { start = start; reference = years_on start reference; names = g.names; parents = g.parents } in
        let same : shape ≡ plan = let one : ◌≡◌ {A = Result PlanShape PlanRefusal} (Ok shape) (Ok plan) = made in cc in
        subst IsPlan same (record { first = first.0; last = first.1; reference = years_within start reference within; few = omega (arith, kept.few); names = kept.names; parented = kept.parented; parents = kept.parents })

-- what comes of a line and those behind it
line_kept : (p : Progress) (line : TextLine) (lines : List TextLine) (plan : PlanShape) → ((q : Progress) → IsKept q.given → outcome q lines ≡ Ok plan → IsPlan plan)
    → IsKept p.given → outcome p (line ∷ lines) ≡ Ok plan → IsPlan plan
line_kept p line lines plan later kept e = by_kind (is_passed_over line) refl
  where
    by_cause : is_passed_over line ≡ false → (found : Option PlanCause) → cause_of p.given (said line) ≡ found → IsPlan plan
    by_cause past None free =
        later (record { given = with_said p.given (said line); count = next_number p.count }) (said_kept p.given line (said line) refl kept free) (sym (outcome_taken p line lines past free) ∙ e)
    by_cause past (Some cause) found =
        absurd (let never : ◌≡◌ {A = Result PlanShape PlanRefusal} (Err (record { line = line.number; cause = cause })) (Ok plan) = sym (outcome_refused p line lines cause past found) ∙ e in cc)

    by_kind : (passed : Bool) → is_passed_over line ≡ passed → IsPlan plan
    by_kind true past = later (record p { count = next_number p.count }) kept (sym (outcome_past p line lines past) ∙ e)
    by_kind false past = by_cause past (cause_of p.given (said line)) refl

outcome_kept : (lines : List TextLine) (plan : PlanShape) (p : Progress) → IsKept p.given → outcome p lines ≡ Ok plan → IsPlan plan
unfolding outcome
outcome_kept [] plan p kept e = given_kept p.given (next_number p.count) plan kept e
outcome_kept (line ∷ lines) plan p kept e = line_kept p line lines plan (outcome_kept lines plan) kept e

-- a plan that a text spells
pub spelled_kept : (text : List ℕ) (plan : PlanShape) → plan_of text ≡ Ok plan → IsPlan plan
spelled_kept text plan e = outcome_kept (lines_of text) plan (record { given = nothing; count = 0 }) nothing_kept (sym (plan_is_outcome text) ∙ e)

-- ---- last values

last_from-more : (found : Option ℤ) (inputs : List Input) (input : Input) (kind : Kind) (leaf period : ℕ)
    → last_from found (inputs ++ input ∷ []) kind leaf period ≡ after_input input kind leaf period (last_from found inputs kind leaf period)
last_from-more found [] input kind leaf period = refl
last_from-more found (first ∷ inputs) input kind leaf period = last_from-more (cond (speaks_of kind leaf period first) (Some first.value) found) inputs input kind leaf period

-- the last values of a list with one input more
pub last_value-more : (inputs : List Input) (input : Input) (kind : Kind) (leaf period : ℕ)
    → last_value (inputs ++ input ∷ []) kind leaf period ≡ after_input input kind leaf period (last_value inputs kind leaf period)
last_value-more inputs input kind leaf period = last_from-more None inputs input kind leaf period
