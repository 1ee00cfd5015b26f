-- What lines give where they follow other lines, and what one line more gives.
use Rattle.std.proofs.Common.{◌≡◌, ◌<◌, ◌+◌, ◌-◌, ◌∙◌, ℕ, ℤ, suc, true, false, cond, ltb, List, [], ◌∷◌, ◌++◌, length, take, Option, Some, None, IfSome, refl, sym, ap, subst, arith, append_assoc, length-append, add-zero, inl, inr, ◌⊎◌}
use Rattle.std.proofs.lemmas.Bool.{cases_Bool, ltb-true, ltb-false}
use Rattle.std.proofs.Math.Seq.{take-nil}
use Rattle.std.proofs.lemmas.List.{append-nil}
use Rattle.std.specs.List.{filter_map, cons_option}
use Rattle.std.specs.Option.{option_to_list}
use Rattle.line_form.specs.Lines.{TextLine}
use Rattle.series_tables.specs.Plan.{PlanShape}
use Rattle.series_tables.specs.Fits.{HasRoom, FitsPlan}
use Rattle.series_tables.specs.LastValue.{last_from, speaks_of}
use Rattle.series_tables.specs.Cells.{Rows, cell}
use Rattle.series_tables.specs.declared.input.Input.{Input}
use Rattle.series_tables.specs.declared.input.Kind.{Kind}
use Rattle.input_rules.specs.declared.lines.Judged.{Judged}
use Rattle.input_rules.specs.Lines.{judged_line}
use Rattle.input_rules.specs.Accepted.{RefusedLine, most_inputs, judged_lines, taken, accepted_of, accepted_next, refused_next, refusals_of, refusals_after}
use Rattle.input_rules.proofs.MoreLines.{accepted_of-append, refusals_of-append, last_value-append}
use Rattle.qna_parts.specs.Intake.{refusal_line, refusal_lines, accepted_after, HasTaken}

-- tables of a plan's items have room for an input that fits the plan
pub room_for : (found : Option Input) (plan : PlanShape) (items : ℕ) → items ≡ length plan.names → IfSome found (FitsPlan plan) → IfSome found (HasRoom items)
room_for None plan items same fits = tt
room_for (Some input) plan items same fits = subst (λ (n : ℕ). HasRoom n input) (sym same) fits.room

-- the report lines of two lists of refused lines
pub refusal_lines-append : (xs ys : List RefusedLine) → refusal_lines (xs ++ ys) ≡ refusal_lines xs ++ refusal_lines ys
unfolding refusal_lines
refusal_lines-append [] ys = refl
refusal_lines-append (x ∷ xs) ys = rw (refusal_lines-append xs ys, append_assoc (refusal_line x) (refusal_lines xs) (refusal_lines ys)) refl

-- the last value of two lists of inputs
pub last_from-append : (before : Option ℤ) (xs ys : List Input) (kind : Kind) (leaf period : ℕ) → last_from before (xs ++ ys) kind leaf period ≡ last_from (last_from before xs kind leaf period) ys kind leaf period
last_from-append before [] ys kind leaf period = refl
last_from-append before (x ∷ xs) ys kind leaf period = last_from-append (cond (speaks_of kind leaf period x) (Some x.value) before) xs ys kind leaf period

-- the accepted inputs of one line and of those behind it
pub accepted_after-cons : (plan : PlanShape) (before : ℕ) (line : TextLine) (lines : List TextLine) →
    accepted_after plan before (line ∷ lines)
    ≡ option_to_list (accepted_next before (judged_line plan line)) ++ accepted_after plan (before + length (option_to_list (accepted_next before (judged_line plan line)))) lines
unfolding accepted_after
accepted_after-cons plan before line lines = by_room most_inputs (cases_Bool (ltb before most_inputs)) (taken (judged_line plan line))
  where
    behind : List Input
    behind = filter_map taken (judged_lines plan lines)

    one_less : (most : ℕ) → before < most → most - before ≡ suc (most - (before + 1))
    one_less most room = omega arith

    in_room : (most : ℕ) → before < most → (found : Option Input) →
        take (most - before) (cons_option found behind) ≡ option_to_list found ++ take (most - (before + length (option_to_list found))) behind
    in_room most room None = rw add-zero refl
    in_room most room (Some i) = rw (one_less most room) refl

    by_room : (most : ℕ) → (ltb before most ≡ true) ⊎ (ltb before most ≡ false) → (found : Option Input) →
        take (most - before) (cons_option found behind)
        ≡ option_to_list (cond (ltb before most) found None) ++ take (most - (before + length (option_to_list (cond (ltb before most) found None)))) behind
    by_room most (inl under) found = rw under (in_room most (ltb-true before most under) found)
    by_room most (inr over) found = let none : most - before ≡ 0 = omega (arith, ltb-false before most over) in rw (over, add-zero, none) refl

-- the inputs counted so far, and those of the lines left, once a line was counted
pub counted_line : (plan : PlanShape) (line : TextLine) (lines : List TextLine) (judged : Judged) (before next total : ℕ) → judged ≡ judged_line plan line →
    before + length (accepted_after plan before (line ∷ lines)) ≡ total → next ≡ before + length (option_to_list (accepted_next before judged)) →
    next + length (accepted_after plan next lines) ≡ total
counted_line plan line lines judged before next total is_judged all one =
    let own : List Input = option_to_list (accepted_next before (judged_line plan line)) in
    let here : next ≡ before + length own = rw is_judged at one in
    let joined : length (own ++ accepted_after plan (before + length own) lines) ≡ length own + length (accepted_after plan (before + length own) lines) = length-append own _ in
    let parted : before + length (own ++ accepted_after plan (before + length own) lines) ≡ total = rw (accepted_after-cons plan before line lines) at all in
    rw here (omega (arith, joined, parted))

-- what is reported so far, and what the lines left report, once a line was reported
pub reported_line : (plan : PlanShape) (line : TextLine) (lines : List TextLine) (judged : Judged) (before next : ℕ) (so_far now all : List ℕ) → judged ≡ judged_line plan line →
    so_far ++ refusal_lines (refusals_after plan before (line ∷ lines)) ≡ all → next ≡ before + length (option_to_list (accepted_next before judged)) →
    now ≡ so_far ++ refusal_lines (option_to_list (refused_next before line.number judged)) →
    now ++ refusal_lines (refusals_after plan next lines) ≡ all
unfolding refusals_after
reported_line plan line lines judged before next so_far now all is_judged whole counted grown =
    let own : List RefusedLine = option_to_list (refused_next before line.number (judged_line plan line)) in
    let here : next ≡ before + length (option_to_list (accepted_next before (judged_line plan line))) = rw is_judged at counted in
    let added : now ≡ so_far ++ refusal_lines own = rw is_judged at grown in
    rw (added, here, append_assoc so_far (refusal_lines own) (refusal_lines (refusals_after plan (before + length (option_to_list (accepted_next before (judged_line plan line)))) lines)))
    (ap (λ z. so_far ++ z) (sym (refusal_lines-append own (refusals_after plan (before + length (option_to_list (accepted_next before (judged_line plan line)))) lines))) ∙ whole)

-- a cell's last value and the inputs of the lines left, once a line was taken
pub taken_line : (plan : PlanShape) (line : TextLine) (lines : List TextLine) (judged : Judged) (before next : ℕ) (kind : Kind) (leaf period : ℕ) (old now last : Option ℤ) → judged ≡ judged_line plan line →
    last_from old (accepted_after plan before (line ∷ lines)) kind leaf period ≡ last → next ≡ before + length (option_to_list (accepted_next before judged)) →
    now ≡ last_from old (option_to_list (accepted_next before judged)) kind leaf period →
    last_from now (accepted_after plan next lines) kind leaf period ≡ last
taken_line plan line lines judged before next kind leaf period old now last is_judged whole counted changed =
    let own : List Input = option_to_list (accepted_next before (judged_line plan line)) in
    let here : next ≡ before + length own = rw is_judged at counted in
    let set : now ≡ last_from old own kind leaf period = rw is_judged at changed in
    let parted : last_from old (own ++ accepted_after plan (before + length own) lines) kind leaf period ≡ last = rw (accepted_after-cons plan before line lines) at whole in
    rw (set, here) (sym (last_from-append old own (accepted_after plan (before + length own) lines) kind leaf period) ∙ parted)

-- where no line is left, what came so far is all
pub counted_all : (plan : PlanShape) (waiting : List TextLine) (count total : ℕ) → waiting ≡ [] → count + length (accepted_after plan count waiting) ≡ total → count ≡ total
unfolding accepted_after
counted_all plan waiting count total none all = let whole : count + 0 ≡ total = rw (none, take-nil {A = Input} (most_inputs - count)) at all in omega arith

pub reported_all : (plan : PlanShape) (waiting : List TextLine) (count : ℕ) (now all : List ℕ) → waiting ≡ [] → now ++ refusal_lines (refusals_after plan count waiting) ≡ all → now ≡ all
unfolding refusals_after refusal_lines
reported_all plan waiting count now all none whole = let same : now ++ [] ≡ all = rw none at whole in sym (append-nil now) ∙ same

pub taken_all : (plan : PlanShape) (waiting : List TextLine) (count : ℕ) (kind : Kind) (leaf period : ℕ) (now last : Option ℤ) → waiting ≡ [] →
    last_from now (accepted_after plan count waiting) kind leaf period ≡ last → now ≡ last
unfolding accepted_after
taken_all plan waiting count kind leaf period now last none whole = rw (none, take-nil {A = Input} (most_inputs - count)) at whole

-- what lines and those behind them give together
pub taken_more : (plan : PlanShape) (xs ys : List TextLine) (old new : Rows) (before next : ℕ) → HasTaken plan xs old before → next ≡ before + length (accepted_after plan before ys) →
    ((kind : Kind) (leaf period : ℕ) → cell new kind leaf period ≡ last_from (cell old kind leaf period) (accepted_after plan before ys) kind leaf period) →
    HasTaken plan (xs ++ ys) new next
unfolding accepted_after
taken_more plan xs ys old new before next had counted cells =
    let more : List Input = take (most_inputs - length (accepted_of plan xs)) (filter_map taken (judged_lines plan ys)) in
    let all : accepted_of plan (xs ++ ys) ≡ accepted_of plan xs ++ more = accepted_of-append plan xs ys in
    record {
      counted = rw (all, length-append (accepted_of plan xs) more) (rw had.counted at counted);
      cells = λ kind leaf period.
          let one : cell new kind leaf period ≡ last_from (cell old kind leaf period) more kind leaf period = rw had.counted at (cells kind leaf period) in
          rw (all, last_value-append (accepted_of plan xs) more kind leaf period, ← had.cells kind leaf period) one;
    }

-- what is reported of lines and of those behind them
pub reported_more : (plan : PlanShape) (xs ys : List TextLine) (before : ℕ) → before ≡ length (accepted_of plan xs) →
    refusal_lines (refusals_of plan (xs ++ ys)) ≡ refusal_lines (refusals_of plan xs) ++ refusal_lines (refusals_after plan before ys)
reported_more plan xs ys before counted =
    rw (refusals_of-append plan xs ys, ← counted, refusal_lines-append (refusals_of plan xs) (refusals_after plan before ys)) refl
