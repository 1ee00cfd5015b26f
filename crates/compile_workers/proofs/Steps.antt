-- One line more is answered.
use Rattle.std.proofs.Common.{◌≡◌, ◌∙◌, ap, sym, refl, subst, ℕ, ◌+◌, ◌<◌, ◌≤◌, max, List, [], ◌∷◌, ◌++◌, length}
use Rattle.std.proofs.Common.{Option, Some, None, Result, Ok, arith, append_assoc, append-nil, length-append}
use Rattle.std.specs.List.{cons_option}
use Rattle.std.proofs.lemmas.List.{drop_all}
use Rattle.std.proofs.lemmas.List.Elements.{filter_map-append}
use Rattle.series_tables.specs.Plan.{PlanShape}
use Rattle.series_tables.specs.declared.input.Input.{Input}
use Rattle.line_form.specs.Lines.{TextLine}
use Rattle.input_rules.specs.Requests.{Asked, sync}
use Rattle.input_rules.specs.declared.lines.Cause.{Cause}
use Rattle.accounts_history.specs.History.{IsLawful, Sent, front_of, journal, most_inputs}
use Rattle.accounts_history.specs.Laws.{IsWithinBounds}
use Rattle.accounts_history.specs.declared.entry.Entry.{Entry}
use Rattle.accounts_history.proofs.Lawful.{within_bounds}
use Rattle.office.specs.Seen.{SentNothing, SentOne}
use Rattle.compile_workers.specs.Laws.{IsOthers}
use Rattle.compile_workers.specs.Served.{answer_text, answers_text, inputs_in}
use Rattle.compile_workers.specs.Serving.{IsAnswered}
use Rattle.compile_workers.specs.Transcript.{Answer, accepted, refused, synced, Answers, AnswersAll, HasNoneAfter}
use Rattle.compile_workers.specs.Transcript.{IsInSync, IsNext, MayBeShown, Standing, after, after_all, at_first}
use Rattle.compile_workers.specs.Transcript.{of_party, question_in, questions, shown_to}
use Rattle.compile_workers.proofs.Journals.{front_grows, journal_grew, journal_sent_one, others_of}
use Rattle.compile_workers.proofs.Stability.{answers_stay, text_stays}
use Rattle.compile_workers.proofs.Journals.{none_stays, sent_one_front, sent_one_lawful}

-- ---- lists of questions and answers

-- what some lines ask for, and then others
questions-more : (plan : PlanShape) (lines more : List TextLine)
    → questions plan (lines ++ more) ≡ questions plan lines ++ questions plan more
unfolding questions
questions-more plan lines more = filter_map-append (question_in plan) lines more

-- what one line asks for
question-one : (plan : PlanShape) (line : TextLine) (question : Result Asked Cause)
    → question_in plan line ≡ Some question → questions plan (line ∷ []) ≡ question ∷ []
unfolding questions
question-one plan line question is = ap (λ (o : Option (Result Asked Cause)). cons_option o []) is

-- a line that is passed over asks for nothing
question-none : (plan : PlanShape) (line : TextLine) → question_in plan line ≡ None → questions plan (line ∷ []) ≡ []
unfolding questions
question-none plan line is = ap (λ (o : Option (Result Asked Cause)). cons_option o []) is

-- what some lines ask for, and then one
questions_and_one : (plan : PlanShape) (lines : List TextLine) (line : TextLine) (question : Result Asked Cause)
    → question_in plan line ≡ Some question → questions plan (lines ++ line ∷ []) ≡ questions plan lines ++ question
    ∷ []
questions_and_one plan lines line question is =
    questions-more plan lines (line ∷ [])
    ∙ ap (λ (w : List (Result Asked Cause)). questions plan lines ++ w) (question-one plan line question is)

-- the standing after some answers and one more
after-more : (at : Standing) (answers : List Answer) (answer : Answer)
    → after_all at (answers ++ answer ∷ []) ≡ after (after_all at answers) answer
after-more at [] answer = refl
after-more at (first ∷ answers) answer = after-more (after at first) answers answer

-- some answers and one more
answers-more : (plan : PlanShape) (party : ℕ) (sent : List Sent) (at : Standing) (questions : List (Result Asked Cause))
    (answers : List Answer) (question : Result Asked Cause) (answer : Answer)
    → AnswersAll plan party sent at questions answers
    → Answers plan party sent (after_all at answers) question answer
    → AnswersAll plan party sent at (questions ++ question ∷ []) (answers ++ answer ∷ [])
answers-more plan party sent at [] [] question answer all one = (one, tt)
answers-more plan party sent at [] (first ∷ answers) question answer all one = absurd all
answers-more plan party sent at (q ∷ questions) [] question answer all one = absurd all
answers-more plan party sent at (q ∷ questions) (first ∷ answers) question answer all one =
    (all.0, answers-more plan party sent (after at first) questions answers question answer all.1 one)

-- the text of some answers and one more
text-more : (plan : PlanShape) (inputs : List Input) (answers : List Answer) (answer : Answer)
    → answers_text plan inputs (answers ++ answer ∷ [])
    ≡ answers_text plan inputs answers ++ answer_text plan inputs answer
text-more plan inputs [] answer = append-nil (answer_text plan inputs answer)
text-more plan inputs (first ∷ answers) answer =
    ap (λ (w : List ℕ). answer_text plan inputs first ++ w) (text-more plan inputs answers answer)
    ∙ sym (append_assoc (answer_text plan inputs first) (answers_text plan inputs answers)
    (answer_text plan inputs answer))

module _ (plan : PlanShape) (party : ℕ) where
  -- what was answered stays so while others go on
  pub answered_grows : (lines : List TextLine) (text : List ℕ) (own : ℕ) (before seen : List Entry)
      → IsLawful plan seen → SentNothing party before seen
      → IsAnswered plan party lines text own before → IsAnswered plan party lines text own seen
  answered_grows lines text own before seen lawful grew old =
      let came : List Sent = journal grew.0 in
      let same : journal seen ≡ journal before ++ came = journal_grew party before seen grew in
      let others : IsOthers party (journal before) came = others_of plan party before seen lawful grew in
      let long : length (journal seen) ≡ length (journal before ++ came) = ap (λ (w : List Sent). length w) same in
      let rises : front_of before ≤ front_of seen = front_grows plan before grew.0 seen lawful grew.1 in
      record {
        answers = old.answers;
        answered = subst (λ (w : List Sent). AnswersAll plan party w at_first (questions plan lines) old.answers)
            (sym same)
            (answers_stay plan party (journal before) came others.few at_first (questions plan lines) old.answers
            old.answered);
        last = old.last;
        known = omega (arith, old.known, long, length-append (journal before) came);
        published = omega (arith, old.published, rises);
        nothing_more = subst (λ (w : List Sent). HasNoneAfter party own w) (sym same)
            (none_stays party own (journal before) came others.others old.nothing_more);
        spelled = old.spelled
            ∙ text_stays plan party (journal before) came at_first (questions plan lines) old.answers old.answered
            ∙ ap (λ (w : List Sent). answers_text plan (inputs_in w) old.answers) (sym same);
      }

  -- one more answer, after which the desk's last number and greatest front are these
  one_more : (lines : List TextLine) (line : TextLine) (text : List ℕ) (own next : ℕ) (seen : List Entry)
      (question : Result Asked Cause) (answer : Answer) → question_in plan line ≡ Some question
      → (old : IsAnswered plan party lines text own seen)
      → Answers plan party (journal seen) (after_all at_first old.answers) question answer
      → (after (after_all at_first old.answers) answer).own ≡ next
      → (after (after_all at_first old.answers) answer).front ≤ front_of seen
      → next ≤ length (journal seen) → HasNoneAfter party next (journal seen)
      → IsAnswered plan party (lines ++ line ∷ []) (text ++ answer_text plan
      (inputs_in (journal seen)) answer) next seen
  one_more lines line text own next seen question answer is old answers owns fronts known none =
      let all : questions plan (lines ++ line ∷ []) ≡ questions plan lines ++ question ∷ [] =
      questions_and_one plan lines line question is in
      let end : after_all at_first (old.answers ++ answer ∷ []) ≡ after (after_all at_first old.answers) answer =
      after-more at_first old.answers answer in
      let fronts_end = ap (λ (at : Standing). at.front) end in
      record {
        answers = old.answers ++ answer ∷ [];
        answered = subst
            (λ (w : List (Result Asked Cause)). AnswersAll plan party (journal seen) at_first w
            (old.answers ++ answer ∷ []))
            (sym all)
            (answers-more plan party (journal seen) at_first (questions plan lines) old.answers question answer
            old.answered answers);
        last = ap (λ (at : Standing). at.own) end ∙ owns;
        known = known;
        published = omega (arith, fronts, fronts_end);
        nothing_more = none;
        spelled = ap (λ (w : List ℕ). w ++ answer_text plan (inputs_in (journal seen)) answer) old.spelled
            ∙ sym (text-more plan (inputs_in (journal seen)) old.answers answer);
      }

  -- a line that is passed over
  pub passed_over : (lines : List TextLine) (line : TextLine) (text : List ℕ) (own : ℕ) (seen : List Entry)
      → question_in plan line ≡ None → IsAnswered plan party lines text own seen
      → IsAnswered plan party (lines ++ line ∷ []) text own seen
  passed_over lines line text own seen is old =
      let all : questions plan (lines ++ line ∷ []) ≡ questions plan lines =
      questions-more plan lines (line ∷ [])
      ∙ ap (λ (w : List (Result Asked Cause)). questions plan lines ++ w) (question-none plan line is)
      ∙ append-nil (questions plan lines) in
      record {
        answers = old.answers;
        answered = subst (λ (w : List (Result Asked Cause)). AnswersAll plan party
            (journal seen) at_first w old.answers)
            (sym all) old.answered;
        last = old.last;
        known = old.known;
        published = old.published;
        nothing_more = old.nothing_more;
        spelled = old.spelled;
      }

  -- a line that is refused
  pub refused_more : (lines : List TextLine) (line : TextLine) (text : List ℕ) (own : ℕ) (seen : List Entry)
      (question : Result Asked Cause) (cause : Cause) → question_in plan line ≡ Some question
      → ((at : Standing) → at.own ≡ own → HasNoneAfter party own (journal seen)
      → Answers plan party (journal seen) at question (refused cause))
      → IsAnswered plan party lines text own seen
      → IsAnswered plan party (lines ++ line ∷ [])
      (text ++ answer_text plan (inputs_in (journal seen)) (refused cause)) own seen
  refused_more lines line text own seen question cause is answers old =
      one_more lines line text own own seen question (refused cause) is old
      (answers (after_all at_first old.answers) old.last old.nothing_more) old.last old.published old.known
      old.nothing_more

  -- the published front
  pub synced_more : (lines : List TextLine) (line : TextLine) (text : List ℕ) (own front : ℕ) (seen : List Entry)
      → question_in plan line ≡ Some (Ok sync) → IsLawful plan seen → front ≡ front_of seen → own ≤ front
      → IsAnswered plan party lines text own seen
      → IsAnswered plan party (lines ++ line ∷ [])
      (text ++ answer_text plan (inputs_in (journal seen)) (synced front)) own seen
  synced_more lines line text own front seen is lawful front_is reached old =
      let bounds : IsWithinBounds plan seen = within_bounds plan seen lawful in
      let may : IsInSync (after_all at_first old.answers) front (journal seen) = record {
        no_older = omega (arith, old.published, front_is);
        published = omega (arith, old.last, reached);
        exists = omega (arith, bounds.accepted, front_is);
      } in
      one_more lines line text own own seen (Ok sync) (synced front) is old (front, refl, may) old.last
      (omega (arith, old.published, front_is)) old.known old.nothing_more

  -- a block of the published front
  pub block_more : (lines : List TextLine) (line : TextLine) (text : List ℕ) (own front : ℕ) (seen : List Entry)
      (question : Result Asked Cause) (block : Answer) → question_in plan line ≡ Some question
      → ((at : Standing) → MayBeShown at front (journal seen) → Answers plan party (journal seen) at question block)
      → ((at : Standing) → after at block ≡ shown_to at front) → IsLawful plan seen → front ≡ front_of seen
      → IsAnswered plan party lines text own seen
      → IsAnswered plan party (lines ++ line ∷ []) (text ++ answer_text plan (inputs_in (journal seen)) block) own seen
  block_more lines line text own front seen question block is answers shows lawful front_is old =
      let bounds : IsWithinBounds plan seen = within_bounds plan seen lawful in
      let at : Standing = after_all at_first old.answers in
      let may : MayBeShown at front (journal seen) = record {
        no_older = omega (arith, old.published, front_is);
        exists = omega (arith, bounds.accepted, front_is);
        near = omega (arith, old.last, old.known, bounds.near, front_is);
      } in
      let end : after at block ≡ shown_to at front = shows at in
      let fronts : (after at block).front ≡ max at.front front = ap (λ (s : Standing). s.front) end in
      one_more lines line text own own seen question block is old (answers at may)
      (ap (λ (s : Standing). s.own) end ∙ old.last) (omega (arith, old.published, front_is, fronts)) old.known
      old.nothing_more

  -- an input that is accepted
  pub accepted_more : (lines : List TextLine) (line : TextLine) (text : List ℕ) (own number : ℕ) (input : Input)
      (before seen : List Entry) (question : Result Asked Cause) → question_in plan line ≡ Some question
      → ((at : Standing) → at.front < number → IsNext party input at.own number (journal seen)
      → Answers plan party (journal seen) at question (accepted number))
      → IsLawful plan seen → SentOne party input number before seen
      → IsAnswered plan party lines text own before
      → IsAnswered plan party (lines ++ line ∷ [])
      (text ++ answer_text plan (inputs_in (journal seen)) (accepted number)) number seen
  accepted_more lines line text own number input before seen question is answers lawful one old =
      let mine : List Sent = record { party = party; input = input } ∷ [] in
      let nothing : SentNothing party before one.0 = one.1 in
      let came : List Sent = journal nothing.0 in
      let first : List Sent = journal before ++ came in
      let till : journal one.0 ≡ first = journal_grew party before one.0 nothing in
      let stands : journal seen ≡ first ++ mine =
      journal_sent_one party input number before seen one ∙ ap (λ (w : List Sent). w ++ mine) till in
      let later : List Sent = came ++ mine in
      let grew : journal seen ≡ journal before ++ later = stands ∙ append_assoc (journal before) came mine in
      let bounds : IsWithinBounds plan seen = within_bounds plan seen lawful in
      let long : length (journal seen) ≡ length (first ++ mine) = ap (λ (w : List Sent). length w) stands in
      let longer : length (journal seen) ≡ length (journal before ++ later) = ap (λ (w : List Sent). length w) grew in
      let few : length (journal before ++ later) ≤ most_inputs = omega (arith, bounds.few, longer) in
      let at : Standing = after_all at_first old.answers in
      let kept : AnswersAll plan party (journal seen) at_first (questions plan lines) old.answers =
      subst (λ (w : List Sent). AnswersAll plan party w at_first (questions plan lines) old.answers) (sym grew)
      (answers_stay plan party (journal before) later few at_first (questions plan lines) old.answers old.answered) in
      let counted : number ≡ length first + 1 = one.3 ∙ long ∙ length-append first mine in
      let next : IsNext party input at.own number (journal seen) = record {
        before = first;
        later = [];
        stands = stands;
        counted = counted;
        above = omega (arith, old.last, old.known, length-append (journal before) came);
        none_between = subst (λ (k : ℕ). HasNoneAfter party k first) (sym old.last)
            (none_stays party own (journal before) came nothing.2 old.nothing_more);
      } in
      let early : front_of before ≤ length (journal before) =
      (within_bounds plan before (sent_one_lawful plan party input number before seen one lawful)).accepted in
      let rises : front_of before ≤ front_of seen =
      sent_one_front plan party input number before seen one lawful in
      let all : questions plan (lines ++ line ∷ []) ≡ questions plan lines ++ question ∷ [] =
      questions_and_one plan lines line question is in
      let end : after_all at_first (old.answers ++ accepted number ∷ []) ≡ record { own = number; front = at.front } =
      after-more at_first old.answers (accepted number) in
      record {
        answers = old.answers ++ accepted number ∷ [];
        answered = subst
            (λ (w : List (Result Asked Cause)). AnswersAll plan party (journal seen) at_first w
            (old.answers ++ accepted number ∷ []))
            (sym all)
            (answers-more plan party (journal seen) at_first (questions plan lines) old.answers question
            (accepted number) kept
            (answers at (omega (arith, old.published, early, counted, length-append (journal before) came)) next));
        last = ap (λ (s : Standing). s.own) end;
        known = omega (arith, one.3);
        published = omega (arith, old.published, rises, ap (λ (s : Standing). s.front) end);
        nothing_more = ap (of_party party) (drop_all number (journal seen) (omega (arith, one.3)));
        spelled = ap (λ (w : List ℕ). w ++ answer_text plan (inputs_in (journal seen)) (accepted number))
            (old.spelled
            ∙ text_stays plan party (journal before) later at_first (questions plan lines) old.answers old.answered
            ∙ ap (λ (w : List Sent). answers_text plan (inputs_in w) old.answers) (sym grew))
            ∙ sym (text-more plan (inputs_in (journal seen)) old.answers (accepted number));
      }
