-- What further lines give: the accepted inputs, the refused lines and the last values go on from those so far.
use Rattle.std.proofs.Common.{◌≡◌, ℕ, ℤ, zero, suc, ◌+◌, ◌-◌, ◌<◌, ◌≤◌, true, false, cond, ltb, List, [], ◌∷◌, ◌++◌, length, take, count_by, Option, Some, None, refl, sym, ap, ◌∙◌, arith, append_assoc, length-append, add-zero, zero-add, inl, inr}
use Rattle.std.specs.List.{filter_map, cons_option}
use Rattle.std.specs.Option.{option_to_list}
use Rattle.std.proofs.lemmas.List.{length-take, map-append, append-nil}
use Rattle.std.proofs.lemmas.List.Sums.{sum_by-cons}
use Rattle.std.proofs.lemmas.List.Elements.{filter_map-append}
use Rattle.std.proofs.lemmas.Bool.{cases_Bool, ltb-true, ltb-false}
use Rattle.std.proofs.Math.Seq.{take-nil}
use native.Mathlib.Nat.{sub-zero}
use Rattle.series_tables.specs.Plan.{PlanShape}
use Rattle.series_tables.specs.LastValue.{last_from, last_value}
use Rattle.series_tables.specs.declared.input.Input.{Input}
use Rattle.series_tables.specs.declared.input.Kind.{Kind}
use Rattle.line_form.specs.Lines.{TextLine}
use Rattle.input_rules.specs.declared.lines.Judged.{Judged}
use Rattle.input_rules.specs.declared.lines.Judged.TheVariants.{Passed, Taken, Refused}
use Rattle.input_rules.specs.Lines.{judged_line}
use Rattle.input_rules.specs.Accepted.{RefusedLine, is_passed, most_inputs, judged_lines, taken, accepted_of, accepted_next, refused_next, refusals_after, refusals_of}

-- the first so many of two lists: of the first list, and as many as are left of the second
take_of_both : {X : Type 0} (n : ℕ) (xs ys : List X) → take n (xs ++ ys) ≡ take n xs ++ take (n - length (take n xs)) ys
take_of_both zero xs ys = refl
take_of_both (suc n) [] ys = rw sub-zero refl
take_of_both (suc n) (x ∷ xs) ys =
    let left : suc n - suc (length (take n xs)) ≡ n - length (take n xs) = omega arith in
    rw left (ap (λ rest. x ∷ rest) (take_of_both n xs ys))

-- all inputs that are taken of some lines
abbrev pub all_taken : PlanShape → List TextLine → List Input
all_taken plan lines = filter_map taken (judged_lines plan lines)

all_taken-append : (plan : PlanShape) (xs ys : List TextLine) → all_taken plan (xs ++ ys) ≡ all_taken plan xs ++ all_taken plan ys
all_taken-append plan xs ys = ap (filter_map taken) (map-append (judged_line plan) xs ys) ∙ filter_map-append taken (judged_lines plan xs) (judged_lines plan ys)

-- no lines give no accepted input
pub accepted_of_none : (plan : PlanShape) → accepted_of plan [] ≡ []
unfolding accepted_of
accepted_of_none plan = refl

-- at most so many inputs are accepted
pub accepted_of-few : (plan : PlanShape) (lines : List TextLine) → length (accepted_of plan lines) ≤ most_inputs
unfolding accepted_of
accepted_of-few plan lines = omega (arith, length-take most_inputs (all_taken plan lines))

-- the accepted inputs of further lines: those that are taken, as many as are left
pub accepted_of-append : (plan : PlanShape) (xs ys : List TextLine) →
    accepted_of plan (xs ++ ys) ≡ accepted_of plan xs ++ take (most_inputs - length (accepted_of plan xs)) (filter_map taken (judged_lines plan ys))
unfolding accepted_of
accepted_of-append plan xs ys = ap (take most_inputs) (all_taken-append plan xs ys) ∙ take_of_both most_inputs (all_taken plan xs) (all_taken plan ys)

-- what is taken of one input or none, where some is left to be taken, and where none is
take_some : (n : ℕ) (found : Option Input) → 0 < n → take n (cons_option found []) ≡ option_to_list found
take_some zero found some = absurd (omega arith)
take_some (suc n) None some = refl
take_some (suc zero) (Some i) some = refl
take_some (suc (suc n)) (Some i) some = refl

take_next : (before most : ℕ) (found : Option Input) → take (most - before) (cons_option found []) ≡ option_to_list (cond (ltb before most) found None)
take_next before most found = elim (cases_Bool (ltb before most)) [
  | inl under ↦ let below : before < most = ltb-true before most under in rw under (take_some (most - before) found (omega arith))
  | inr over ↦ let none : most - before ≡ 0 = omega (arith, ltb-false before most over) in rw (over, none) refl
]

-- the accepted inputs with one line more
pub accepted_more : (plan : PlanShape) (handed : List TextLine) (line : TextLine) →
    accepted_of plan (handed ++ line ∷ []) ≡ accepted_of plan handed ++ option_to_list (accepted_next (length (accepted_of plan handed)) (judged_line plan line))
accepted_more plan handed line =
    accepted_of-append plan handed (line ∷ [])
    ∙ ap (λ rest. accepted_of plan handed ++ rest) (take_next (length (accepted_of plan handed)) most_inputs (taken (judged_line plan line)))

-- no lines give no refused line
pub refusals_of_none : (plan : PlanShape) → refusals_of plan [] ≡ []
unfolding refusals_of refusals_after
refusals_of_none plan = refl

-- the number of inputs that are accepted behind so many
abbrev accepted_after : PlanShape → ℕ → List TextLine → ℕ
accepted_after plan before lines = before + length (take (most_inputs - before) (all_taken plan lines))

-- the number that are accepted behind so many, once one more was judged
count_step : (most before : ℕ) (found : Option Input) (more : List Input) →
    before + length (option_to_list (cond (ltb before most) found None)) + length (take (most - (before + length (option_to_list (cond (ltb before most) found None)))) more)
    ≡ before + length (take (most - before) (cons_option found more))
count_step most before found more = elim (cases_Bool (ltb before most)) [
  | inl under ↦ rw under (counted found (ltb-true before most under))
  | inr over ↦ rw over (full found (ltb-false before most over))
]
  where
    counted : (o : Option Input) → before < most → before + length (option_to_list o) + length (take (most - (before + length (option_to_list o))) more) ≡ before + length (take (most - before) (cons_option o more))
    counted None below = rw add-zero refl
    counted (Some i) below = omega (arith, length-take (most - (before + 1)) more, length-take (most - before) (i ∷ more))

    full : (o : Option Input) → most ≤ before → before + 0 + length (take (most - (before + 0)) more) ≡ before + length (take (most - before) (cons_option o more))
    full o none = omega (arith, length-take (most - (before + 0)) more, length-take (most - before) (cons_option o more))

-- the refused lines of further lines, behind so many accepted inputs
pub refusals_after-append : (plan : PlanShape) (before : ℕ) (xs ys : List TextLine) →
    refusals_after plan before (xs ++ ys) ≡ refusals_after plan before xs ++ refusals_after plan (accepted_after plan before xs) ys
unfolding refusals_after
refusals_after-append plan before [] ys = rw (take-nil {A = Input} (most_inputs - before), add-zero) refl
refusals_after-append plan before (line ∷ xs) ys =
    let judged : Judged = judged_line plan line in
    let refused : List RefusedLine = option_to_list (refused_next before line.number judged) in
    let now : ℕ = before + length (option_to_list (accepted_next before judged)) in
    ap (λ rest. refused ++ rest) (refusals_after-append plan now xs ys)
    ∙ sym (append_assoc refused (refusals_after plan now xs) (refusals_after plan (accepted_after plan now xs) ys))
    ∙ ap (λ n. (refused ++ refusals_after plan now xs) ++ refusals_after plan n ys) (count_step most_inputs before (taken judged) (all_taken plan xs))

-- the refused lines of further lines
pub refusals_of-append : (plan : PlanShape) (xs ys : List TextLine) →
    refusals_of plan (xs ++ ys) ≡ refusals_of plan xs ++ refusals_after plan (length (accepted_of plan xs)) ys
unfolding refusals_of accepted_of
refusals_of-append plan xs ys = refusals_after-append plan 0 xs ys ∙ ap (λ n. refusals_after plan 0 xs ++ refusals_after plan n ys) (zero-add (length (accepted_of plan xs)))

-- the refused lines of one line
refusals_after-one : (plan : PlanShape) (before : ℕ) (line : TextLine) → refusals_after plan before (line ∷ []) ≡ option_to_list (refused_next before line.number (judged_line plan line))
unfolding refusals_after
refusals_after-one plan before line = append-nil (option_to_list (refused_next before line.number (judged_line plan line)))

-- the refused lines with one line more
pub refusals_more : (plan : PlanShape) (handed : List TextLine) (line : TextLine) →
    refusals_of plan (handed ++ line ∷ []) ≡ refusals_of plan handed ++ option_to_list (refused_next (length (accepted_of plan handed)) line.number (judged_line plan line))
refusals_more plan handed line =
    refusals_of-append plan handed (line ∷ []) ∙ ap (λ rest. refusals_of plan handed ++ rest) (refusals_after-one plan (length (accepted_of plan handed)) line)

-- the last values once further inputs came
pub last_value-append : (xs ys : List Input) (kind : Kind) (leaf period : ℕ) → last_value (xs ++ ys) kind leaf period ≡ last_from (last_value xs kind leaf period) ys kind leaf period
last_value-append xs ys kind leaf period = on xs None
  where
    on : (inputs : List Input) (found : Option ℤ) → last_from found (inputs ++ ys) kind leaf period ≡ last_from (last_from found inputs kind leaf period) ys kind leaf period
    on [] found = refl
    on (i ∷ inputs) found = on inputs _

-- a line is passed over, or accepted, or refused
one_each : (before number : ℕ) (judged : Judged) → length (option_to_list (accepted_next before judged)) + length (option_to_list (refused_next before number judged)) + cond (is_passed judged) 1 0 ≡ 1
one_each before number judged = elim (cases_Bool (ltb before most_inputs)) [
  | inl under ↦ early judged under
  | inr over ↦ late judged over
]
  where
    early : (j : Judged) → ltb before most_inputs ≡ true → length (option_to_list (accepted_next before j)) + length (option_to_list (refused_next before number j)) + cond (is_passed j) 1 0 ≡ 1
    early Passed under = rw under refl
    early (Taken i) under = rw under refl
    early (Refused cause) under = rw under refl

    late : (j : Judged) → ltb before most_inputs ≡ false → length (option_to_list (accepted_next before j)) + length (option_to_list (refused_next before number j)) + cond (is_passed j) 1 0 ≡ 1
    late Passed over = rw over refl
    late (Taken i) over = rw over refl
    late (Refused cause) over = rw over refl

-- the lines that are accepted behind so many, refused or passed over are all lines
each_once : (plan : PlanShape) (before : ℕ) (lines : List TextLine) →
    length (take (most_inputs - before) (all_taken plan lines)) + length (refusals_after plan before lines) + count_by is_passed (judged_lines plan lines) ≡ length lines
unfolding refusals_after
each_once plan before [] = rw (take-nil {A = Input} (most_inputs - before)) refl
each_once plan before (line ∷ lines) =
    let judged : Judged = judged_line plan line in
    let refused : List RefusedLine = option_to_list (refused_next before line.number judged) in
    let now : ℕ = before + length (option_to_list (accepted_next before judged)) in
    let passed : count_by is_passed (judged_lines plan (line ∷ lines)) ≡ cond (is_passed judged) 1 0 + count_by is_passed (judged_lines plan lines) = sum_by-cons (λ x. cond (is_passed x) 1 0) judged (judged_lines plan lines) in
    omega (arith, count_step most_inputs before (taken judged) (all_taken plan lines), one_each before line.number judged, each_once plan now lines, length-append refused (refusals_after plan now lines))

-- the accepted, the refused and the passed lines are all lines
pub each_line_once : (plan : PlanShape) (lines : List TextLine) →
    length (accepted_of plan lines) + length (refusals_of plan lines) + count_by is_passed (judged_lines plan lines) ≡ length lines
unfolding accepted_of refusals_of
each_line_once plan lines = each_once plan 0 lines
