-- Where one desk alone was served, the journal has what is accepted of its lines.
use Rattle.std.proofs.Common.{◌≡◌, ◌∙◌, ap, sym, refl, subst, ⊎_elim, ℕ, zero, suc, ◌+◌, ◌-◌, ◌≤◌}
use Rattle.std.proofs.Common.{cond}
use Rattle.std.proofs.Common.{List, [], ◌∷◌, ◌++◌, length, take, drop, Option, Some, None, Result, Ok, Err, arith}
use Rattle.std.proofs.Common.{eq-eqb}
use Rattle.std.proofs.Common.{length-append, length-drop}
use Rattle.std.specs.Prelude.{All}
use Rattle.std.specs.List.{filter_map, cons_option}
use Rattle.std.proofs.lemmas.List.{drop-append-le, drop-drop, take-append-le, take_all}
use Rattle.std.proofs.lemmas.List.Elements.{All-drop, All-head, All-same, All-tail, All-take}
use Rattle.series_tables.specs.Plan.{PlanShape, item_with_name}
use Rattle.series_tables.specs.declared.input.Input.{Input}
use Rattle.line_form.specs.Lines.{TextLine}
use Rattle.input_rules.specs.Accepted.{accepted_of, judged_lines, taken}
use Rattle.input_rules.specs.Judgement.{judgement, leaf_with_name}
use Rattle.input_rules.specs.Lines.{judged_input, judged_line, judged_meaning, judged_request}
use Rattle.input_rules.specs.Requests.{Asked, input, release, release_of, certificate_of, sync, meaning_of}
use Rattle.input_rules.specs.declared.judging.Refusal.{Refusal}
use Rattle.input_rules.specs.declared.lines.Cause.{Cause}
use Rattle.accounts_history.specs.History.{Sent, most_inputs}
use Rattle.compile_workers.specs.Served.{IsServed, inputs_in}
use Rattle.compile_workers.specs.Transcript.{Answer, item_shown, certificate_shown}
use Rattle.compile_workers.specs.Transcript.{Answers, AnswersAll, AnswersAsked, AnswersInput, AnswersName}
use Rattle.compile_workers.specs.Transcript.{HasNoneAfter, IsNext, Standing, after, after_all, at_first, of_party}
use Rattle.compile_workers.specs.Transcript.{question_in, question_of, questions}

-- what is taken of a question
abbrev taken_asked : PlanShape → Result Asked Cause → Option Input
taken_asked plan (Err cause) = None
taken_asked plan (Ok asked) = taken (judged_request plan asked)

-- ---- the lines and their questions give the same inputs

-- what is taken of lines is what is taken of their questions
taken_lines : (plan : PlanShape) (lines : List TextLine)
    → filter_map taken (judged_lines plan lines) ≡ filter_map (taken_asked plan) (questions plan lines)
unfolding questions judged_line
taken_lines plan [] = refl
taken_lines plan (line ∷ lines) = by (meaning_of plan.start line) (taken_lines plan lines)
  where
    by : (meaning : Result (Option Asked) Cause)
        → filter_map taken (judged_lines plan lines)
        ≡ filter_map (taken_asked plan) (filter_map (question_in plan) lines)
        → cons_option (taken (judged_meaning plan meaning)) (filter_map taken (judged_lines plan lines))
        ≡ filter_map (taken_asked plan) (cons_option (question_of meaning) (filter_map (question_in plan) lines))
    by (Err cause) rest = rest
    by (Ok None) rest = rest
    by (Ok (Some asked)) rest =
        ap (λ (w : List Input). cons_option (taken (judged_request plan asked)) w) rest

-- ---- a journal of one party

-- it is what the party sent
all_its : (party : ℕ) (journal : List Sent) → All (λ sent. sent.party ≡ party) journal → of_party party journal
    ≡ journal
all_its party [] all = refl
all_its party (sent ∷ journal) all =
    ap (λ b. cond b (sent ∷ of_party party journal) (of_party party journal))
    (eq-eqb sent.party party (All-head (λ (s : Sent). s.party ≡ party) sent journal all))
    ∙ ap (λ (w : List Sent). sent ∷ w)
    (all_its party journal (All-tail (λ (s : Sent). s.party ≡ party) sent journal all))

-- where nothing of the party stands after a place, nothing does
none_left : (party own : ℕ) (journal : List Sent) → All (λ sent. sent.party ≡ party) journal
    → HasNoneAfter party own journal → drop own journal ≡ []
none_left party own journal all none =
    sym (all_its party (drop own journal) (All-drop (λ (s : Sent). s.party ≡ party) own journal all)) ∙ none

-- what holds of each of two lists holds of the first one's
all_front : (party : ℕ) (before later : List Sent) → All (λ sent. sent.party ≡ party) (before ++ later)
    → All (λ sent. sent.party ≡ party) before
all_front party before later all =
    let front : before ≡ take (length before) (before ++ later) =
    sym (take-append-le (length before) before later (omega arith) ∙ take_all (length before) before (omega arith)) in
    All-same (λ (s : Sent). s.party ≡ party) before (take (length before) (before ++ later)) front
    (All-take (λ (s : Sent). s.party ≡ party) (length before) (before ++ later) all)

module _ (plan : PlanShape) (party : ℕ) (journal : List Sent) (few : length journal ≤ most_inputs)
    (all : All (λ sent. sent.party ≡ party) journal) where
  -- the inputs behind a standing
  abbrev left : ℕ → List Input
  left own = inputs_in (drop own journal)

  -- what is taken of some questions, where so many inputs were accepted before
  abbrev taken_from : ℕ → List (Result Asked Cause) → List Input
  taken_from own qs = take (most_inputs - own) (filter_map (taken_asked plan) qs)

  -- the next input stands right behind the last one
  abbrev StandsNext : Input → ℕ → ℕ → Type 0
  StandsNext i own number =
      (number ≡ own + 1) × (number ≤ length journal)
      × (drop own journal ≡ record { party = party; input = i } ∷ drop number journal)

  -- the next input of the only party stands right behind its last one
  stands_next : (i : Input) (own number : ℕ) → IsNext party i own number journal → StandsNext i own number
  stands_next i own number next =
      let one : Sent = record { party = party; input = i } in
      let same : All (λ sent. sent.party ≡ party) (next.before ++ one ∷ next.later) =
      All-same (λ (s : Sent). s.party ≡ party) (next.before ++ one ∷ next.later) journal (sym next.stands) all in
      let nothing : drop own next.before ≡ [] =
      none_left party own next.before (all_front party next.before (one ∷ next.later) same) next.none_between in
      let short : length next.before - own ≡ 0 =
      sym (length-drop own next.before) ∙ ap (λ (w : List Sent). length w) nothing in
      let counted : number ≡ own + 1 = omega (arith, next.counted, next.above, short) in
      let behind : drop own journal ≡ one ∷ next.later =
      ap (drop own) next.stands ∙ drop-append-le own next.before (one ∷ next.later) next.above
      ∙ ap (λ (w : List Sent). w ++ one ∷ next.later) nothing in
      let rest : drop number journal ≡ next.later =
      ap (λ (k : ℕ). drop k journal) counted ∙ sym (drop-drop 1 own journal) ∙ ap (drop 1) behind in
      let long : length journal ≡ length next.before + length (one ∷ next.later) =
      ap (λ (w : List Sent). length w) next.stands ∙ length-append next.before (one ∷ next.later) in (
        counted,
        omega (arith, long, next.counted),
        behind ∙ ap (λ (w : List Sent). one ∷ w) (sym rest),
      )

  -- a question that gives no input
  passes : (own k : ℕ) (question : Result Asked Cause) (qs : List (Result Asked Cause)) → taken_asked plan question
      ≡ None
      → k ≡ own → left k ≡ taken_from k qs → left own ≡ taken_from own (question ∷ qs)
  passes own k question qs none same rest =
      subst (λ (n : ℕ). left n ≡ taken_from n qs) same rest
      ∙ ap (λ (o : Option Input). take (most_inputs - own) (cons_option o (filter_map (taken_asked plan) qs)))
      (sym none)

  -- an input that was judged
  judged_one : (at : Standing) (judged : Result Input Refusal) (qs : List (Result Asked Cause)) (answer : Answer)
      → at.own ≤ length journal → AnswersInput party journal at judged answer
      → ((k : ℕ) → (after at answer).own ≡ k → k ≤ length journal → left k ≡ taken_from k qs)
      → left at.own ≡ take (most_inputs - at.own)
      (cons_option (taken (judged_input judged)) (filter_map (taken_asked plan) qs))
  judged_one at (Err why) qs answer within is rest =
      rest at.own (ap (λ (x : Answer). (after at x).own) is) within
  judged_one at (Ok i) qs answer within is rest = ⊎_elim
      (λ one.
      let next : StandsNext i at.own one.0 = stands_next i at.own one.0 one.3 in
      let later : left one.0 ≡ taken_from one.0 qs =
      rest one.0 (ap (λ (x : Answer). (after at x).own) one.1) next.1 in
      let room : most_inputs - at.own ≡ suc (most_inputs - one.0) = omega (arith, few, next.0, next.1) in
      ap inputs_in next.2 ∙ ap (λ (w : List Input). i ∷ w) later
      ∙ ap (λ (k : ℕ). take k (i ∷ filter_map (taken_asked plan) qs)) (sym room))
      (λ full.
      let none : drop at.own journal ≡ [] = none_left party at.own journal all full.2 in
      let short : length journal - at.own ≡ 0 =
      sym (length-drop at.own journal) ∙ ap (λ (w : List Sent). length w) none in
      let room : most_inputs - at.own ≡ 0 = omega (arith, short, full.1) in
      ap inputs_in none ∙ ap (λ (k : ℕ). take k (i ∷ filter_map (taken_asked plan) qs)) (sym room))
      is

  -- a question for an item or a leaf
  named_one : (at : Standing) (item : Option ℕ) (block : ℕ → ℕ → Answer) (answer : Answer)
      → ((front item : ℕ) → (after at (block front item)).own ≡ at.own) → AnswersName journal at item block answer
      → (after at answer).own ≡ at.own
  named_one at None block answer stays is = ap (λ (x : Answer). (after at x).own) is
  named_one at (Some item) block answer stays is = ap (λ (x : Answer). (after at x).own) is.1 ∙ stays is.0 item

  -- a line of right form
  asked_one : (at : Standing) (asked : Asked) (qs : List (Result Asked Cause)) (answer : Answer)
      → at.own ≤ length journal → AnswersAsked plan party journal at asked answer
      → ((k : ℕ) → (after at answer).own ≡ k → k ≤ length journal → left k ≡ taken_from k qs)
      → left at.own ≡ taken_from at.own (Ok asked ∷ qs)
  asked_one at (input i) qs answer within is rest =
      judged_one at (judgement plan i.kind i.name i.period i.value) qs answer within is rest
  asked_one at release qs answer within is rest = passes at.own at.own (Ok release) qs refl refl
      (rest at.own (ap (λ (x : Answer). (after at x).own) is.1) within)
  asked_one at (release_of name) qs answer within is rest = passes at.own at.own (Ok (release_of name)) qs refl refl
      (rest at.own (named_one at (item_with_name plan name) item_shown answer (λ front item. refl) is) within)
  asked_one at (certificate_of name) qs answer within is rest =
      passes at.own at.own (Ok (certificate_of name)) qs refl refl
      (rest at.own (named_one at (leaf_with_name plan name) certificate_shown answer (λ front leaf. refl) is) within)
  asked_one at sync qs answer within is rest = passes at.own at.own (Ok sync) qs refl refl
      (rest at.own (ap (λ (x : Answer). (after at x).own) is.1) within)

  -- a line that is not passed over
  one_question : (at : Standing) (question : Result Asked Cause) (qs : List (Result Asked Cause)) (answer : Answer)
      → at.own ≤ length journal → Answers plan party journal at question answer
      → ((k : ℕ) → (after at answer).own ≡ k → k ≤ length journal → left k ≡ taken_from k qs)
      → left at.own ≡ taken_from at.own (question ∷ qs)
  one_question at (Err cause) qs answer within is rest = passes at.own at.own (Err cause) qs refl refl
      (rest at.own (ap (λ (x : Answer). (after at x).own) is) within)
  one_question at (Ok asked) qs answer within is rest = asked_one at asked qs answer within is rest

  -- no question is left
  no_question : (own : ℕ) → HasNoneAfter party own journal → left own ≡ taken_from own []
  no_question own none = ap inputs_in (none_left party own journal all none) ∙ by (most_inputs - own)
    where
      by : (k : ℕ) → [] ≡ take k (filter_map (taken_asked plan) [])
      by zero = refl
      by (suc k) = refl

  -- what is behind a standing is what is taken of the questions that are left
  sole_answers : (at : Standing) (qs : List (Result Asked Cause)) (answers : List Answer) → at.own ≤ length journal
      → AnswersAll plan party journal at qs answers → HasNoneAfter party (after_all at answers).own journal
      → left at.own ≡ taken_from at.own qs
  sole_answers at [] [] within answered none = no_question at.own none
  sole_answers at [] (answer ∷ answers) within answered none = absurd answered
  sole_answers at (question ∷ qs) [] within answered none = absurd answered
  sole_answers at (question ∷ qs) (answer ∷ answers) within answered none =
      one_question at question qs answer within answered.0
      (λ k is le. subst (λ (n : ℕ). left n ≡ taken_from n qs) is
      (sole_answers (after at answer) qs answers (omega (arith, is, le)) answered.1 none))

-- the law
pub sole_desk : (plan : PlanShape) (party : ℕ) (lines : List TextLine) (text : List ℕ) (journal : List Sent)
    → length journal ≤ most_inputs → All (λ sent. sent.party ≡ party) journal
    → IsServed plan party lines text journal → inputs_in journal ≡ accepted_of plan lines
unfolding accepted_of
sole_desk plan party lines text journal few all served =
    sole_answers plan party journal few all at_first (questions plan lines) served.answers (omega arith) served.answered
    served.nothing_more
    ∙ ap (take most_inputs) (sym (taken_lines plan lines))
