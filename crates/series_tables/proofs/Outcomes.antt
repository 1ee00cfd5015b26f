-- What one more line makes of the outcome, and that the outcome of all lines is the plan of the text.
use Rattle.std.proofs.Common.{◌≡◌, ℕ, ◌-◌, ◌^◌, min, Bool, true, false, List, [], ◌∷◌, ◌++◌, length, Option, Some, None, Result, Err, refl, sym, ap, ◌∙◌, arith, append_assoc}
use Rattle.std.specs.Option.{option_map}
use Rattle.std.specs.List.{filter_map}
use Rattle.std.proofs.lemmas.List.{append-nil, length-append}
use Rattle.std.proofs.lemmas.List.Elements.{filter_map-append}
use Rattle.line_form.specs.Lines.{TextLine, lines_of, next_number, is_passed_over}
use Rattle.series_tables.specs.declared.cause.PlanCause.{PlanCause}
use Rattle.series_tables.specs.declared.cause.PlanError.{PlanError}
use Rattle.series_tables.specs.declared.cause.PlanError.TheVariants.{Fault, Memory}
use Rattle.series_tables.specs.PlanLine.{PlanEntry, said}
use Rattle.series_tables.specs.Plan.{PlanShape, PlanRefusal, gathered, given, cause_of, refusal_of, parents_from, first_refusal, plan_of_all, unless_refused, plan_of}
use Rattle.series_tables.specs.PlanError.{Refuses, IsCauseAt}
use Rattle.series_tables.specs.PlanReading.{Progress, nothing, with_said, outcome}
use Rattle.series_tables.proofs.Gathering.{gathered_more}

-- a line that is passed over counts alone
pub outcome_past : (p : Progress) (line : TextLine) (rest : List TextLine) → is_passed_over line ≡ true → outcome p (line ∷ rest) ≡ outcome (record p { count = next_number p.count }) rest
unfolding outcome
outcome_past p line rest e = rw e refl

-- a line that isn't refused is taken
pub outcome_taken : (p : Progress) (line : TextLine) (rest : List TextLine) → is_passed_over line ≡ false → cause_of p.given (said line) ≡ None
    → outcome p (line ∷ rest) ≡ outcome (record { given = with_said p.given (said line); count = next_number p.count }) rest
unfolding outcome
outcome_taken p line rest e free = rw (e, free) refl

-- a line that is refused ends the reading
pub outcome_refused : (p : Progress) (line : TextLine) (rest : List TextLine) (cause : PlanCause) → is_passed_over line ≡ false → cause_of p.given (said line) ≡ Some cause
    → outcome p (line ∷ rest) ≡ Err (record { line = line.number; cause = cause })
unfolding outcome
outcome_refused p line rest cause e found = rw (e, found) refl

-- the fault of a line that is refused is that of all lines from it on
pub fault_of_line : (e : PlanError) (p : Progress) (line : TextLine) (rest : List TextLine) → is_passed_over line ≡ false → IsCauseAt line.number (cause_of p.given (said line)) e
    → Refuses (outcome p (line ∷ rest)) e
fault_of_line Memory p line rest past h = tt
fault_of_line (Fault number cause) p line rest past h =
    outcome_refused p line rest cause past h.1 ∙ ap (λ (n : ℕ). Err (record { line = n; cause = cause })) (sym h.0)

-- how far a reader has come that has read these lines
unfoldable pub state_after : List TextLine → Progress
state_after before = record { given = gathered (filter_map given before); count = min (length before) (2 ^ 64 - 1) }

-- what the definition says of lines behind lines
unfoldable pub verdict : List TextLine → List TextLine → Result PlanShape PlanRefusal
verdict before lines = unless_refused (first_refusal before lines) (plan_of_all (before ++ lines))

-- numbers count on up to the end of their type
counted : (n : ℕ) → next_number (min n (2 ^ 64 - 1)) ≡ next_number n
counted n = omega arith

-- a line that is passed over gives nothing
given_past : (line : TextLine) → is_passed_over line ≡ true → given line ≡ None
given_past line h = rw h refl

given_said : (line : TextLine) → is_passed_over line ≡ false → given line ≡ said line
given_said line h = rw h refl

-- what is gathered of one more line
gathered_past : (before : List TextLine) (line : TextLine) → given line ≡ None → gathered (filter_map given (before ++ line ∷ [])) ≡ gathered (filter_map given before)
gathered_past before line h =
    ap gathered (filter_map-append given before (line ∷ []) ∙ rw h (append-nil (filter_map given before)))

-- a line whose refusal is none gives an entry that isn't refused
gathered_said : (before : List TextLine) (line : TextLine) (what : Option PlanEntry) → given line ≡ what → cause_of (gathered (filter_map given before)) what ≡ None
    → gathered (filter_map given (before ++ line ∷ [])) ≡ with_said (gathered (filter_map given before)) what
gathered_said before line None h free = cc
gathered_said before line (Some entry) h free =
    ap gathered (filter_map-append given before (line ∷ []) ∙ rw h refl) ∙ gathered_more (filter_map given before) entry free

-- how far a reader comes with one more line
past_state : (before : List TextLine) (line : TextLine) → is_passed_over line ≡ true
    → (let p : Progress = record (state_after before) { count = next_number (state_after before).count } in p) ≡ state_after (before ++ line ∷ [])
unfolding state_after
past_state before line h =
    let g = gathered_past before line (given_past line h) in
    let c = counted (length before) in
    rw (g, length-append before (line ∷ []), c) refl

said_state : (before : List TextLine) (line : TextLine) → is_passed_over line ≡ false → cause_of (gathered (filter_map given before)) (said line) ≡ None
    → (let p : Progress = record { given = with_said (gathered (filter_map given before)) (said line); count = next_number (state_after before).count } in p) ≡ state_after (before ++ line ∷ [])
unfolding state_after
said_state before line h free =
    let g = gathered_said before line (said line) (given_said line h) free in
    let c = counted (length before) in
    rw (g, length-append before (line ∷ []), c) refl

-- a line that isn't refused, and one that is
unrefused : (before : List TextLine) (line : TextLine) (lines : List TextLine) → refusal_of before line ≡ None → first_refusal before (line ∷ lines) ≡ first_refusal (before ++ line ∷ []) lines
unfolding first_refusal
unrefused before line lines h = rw h refl

refused : (before : List TextLine) (line : TextLine) (lines : List TextLine) (refusal : PlanRefusal) → refusal_of before line ≡ Some refusal → first_refusal before (line ∷ lines) ≡ Some refusal
unfolding first_refusal
refused before line lines refusal h = rw h refl

-- a line that isn't refused makes no other verdict
verdict_past : (before : List TextLine) (line : TextLine) (lines : List TextLine) → refusal_of before line ≡ None → verdict (before ++ line ∷ []) lines ≡ verdict before (line ∷ lines)
unfolding verdict
verdict_past before line lines h =
    ap (λ (r : Option PlanRefusal). unless_refused r (plan_of_all ((before ++ line ∷ []) ++ lines))) (sym (unrefused before line lines h))
    ∙ ap (λ (all : List TextLine). unless_refused (first_refusal before (line ∷ lines)) (plan_of_all all)) (append_assoc before (line ∷ []) lines)

verdict_refused : (before : List TextLine) (line : TextLine) (lines : List TextLine) (refusal : PlanRefusal) → refusal_of before line ≡ Some refusal → verdict before (line ∷ lines) ≡ Err refusal
unfolding verdict
verdict_refused before line lines refusal h = ap (λ (r : Option PlanRefusal). unless_refused r (plan_of_all (before ++ line ∷ lines))) (refused before line lines refusal h)

-- the refusal of a line by its kind
refusal_past : (before : List TextLine) (line : TextLine) → is_passed_over line ≡ true → refusal_of before line ≡ None
unfolding refusal_of
refusal_past before line past = rw past refl

refusal_said : (before : List TextLine) (line : TextLine) (found : Option PlanCause) → is_passed_over line ≡ false → cause_of (gathered (filter_map given before)) (said line) ≡ found
    → refusal_of before line ≡ option_map (λ cause. record { line = line.number; cause = cause }) found
unfolding refusal_of
refusal_said before line found past e = rw (past, e) refl

-- one line more, where what comes behind it is known
one_more : (before : List TextLine) (line : TextLine) (lines : List TextLine) → outcome (state_after (before ++ line ∷ [])) lines ≡ verdict (before ++ line ∷ []) lines
    → outcome (state_after before) (line ∷ lines) ≡ verdict before (line ∷ lines)
unfolding state_after
one_more before line lines later = by_kind (is_passed_over line) refl
  where
    by_cause : is_passed_over line ≡ false → (found : Option PlanCause) → cause_of (gathered (filter_map given before)) (said line) ≡ found → outcome (state_after before) (line ∷ lines) ≡ verdict before (line ∷ lines)
    by_cause past None e =
        outcome_taken (state_after before) line lines past e ∙ ap (λ (p : Progress). outcome p lines) (said_state before line past e) ∙ later ∙ verdict_past before line lines (refusal_said before line None past e)
    by_cause past (Some cause) e =
        outcome_refused (state_after before) line lines cause past e
        ∙ sym (verdict_refused before line lines (record { line = line.number; cause = cause }) (refusal_said before line (Some cause) past e))

    by_kind : (passed : Bool) → is_passed_over line ≡ passed → outcome (state_after before) (line ∷ lines) ≡ verdict before (line ∷ lines)
    by_kind true past =
        outcome_past (state_after before) line lines past ∙ ap (λ (p : Progress). outcome p lines) (past_state before line past) ∙ later ∙ verdict_past before line lines (refusal_past before line past)
    by_kind false past = by_cause past (cause_of (gathered (filter_map given before)) (said line)) refl

-- what comes of the lines behind others is what the definition says of them
outcome_is_verdict : (before lines : List TextLine) → outcome (state_after before) lines ≡ verdict before lines
unfolding outcome verdict first_refusal plan_of_all state_after
outcome_is_verdict before [] =
    let c = counted (length before) in
    rw (append-nil before, c) refl
outcome_is_verdict before (line ∷ lines) = one_more before line lines (outcome_is_verdict (before ++ line ∷ []) lines)

-- the plan of a text is what comes of all its lines
pub plan_is_outcome : (text : List ℕ) → plan_of text ≡ outcome (record { given = nothing; count = 0 }) (lines_of text)
unfolding plan_of verdict state_after gathered parents_from
plan_is_outcome text = sym (outcome_is_verdict [] (lines_of text))
