-- What waits to be written after lines were answered, and what a sink has once it was written.
use Rattle.std.proofs.Common.{◌≡◌, ◌∙◌, ap, sym, refl, subst, ℕ, List, [], ◌∷◌, ◌++◌, take, drop, arith}
use Rattle.std.proofs.Common.{append_assoc, append-nil, Result, Ok, Err}
use Rattle.std.proofs.lemmas.List.{take-append-drop}
use mathlib.Core.List.{IsPrefix}
use Rattle.qna_base.specs.declared.Memory.{Memory}
use Rattle.qna_edges.specs.Paper.{Paper, Prints, grown}
use Rattle.qna_edges.specs.declared.refused.Refused.{Refused}
use Rattle.qna_edges.specs.declared.refused.Refused.TheVariants.{Memory as Wanting}
use Rattle.qna_edges.proofs.Paper.{grown-grown, grown_nothing}
use Rattle.series_tables.specs.Plan.{PlanShape}
use Rattle.line_form.specs.Lines.{TextLine}
use Rattle.release_print.specs.Part.{Appends}
use Rattle.accounts_history.specs.History.{IsLawful, Sent, journal}
use Rattle.accounts_history.specs.declared.entry.Entry.{Entry}
use Rattle.office.specs.Seen.{SentNothing}
use Rattle.compile_workers.specs.Answering.{AnswersLine, AnswersMore, HasBegun, HasMoved, Reached, reached}
use Rattle.compile_workers.specs.Served.{IsPartlyServed}
use Rattle.compile_workers.specs.Serving.{HasAdded, HasPart, HasServed, IsAnswered, IsSaid, Position, Serves, position}
use Rattle.compile_workers.proofs.Steps.{answered_grows}
use Rattle.compile_workers.proofs.Writing.{added_whole, part_longer, part_whole, served_of}

-- ---- papers

-- a text that was to be written was begun
pub begun_printed : (old new : Paper) (text : List ℕ) (said : Result (Unit {0}) Refused) → Prints old new text said
    → HasBegun old new text
begun_printed old new text (Ok done) printed = record {
  begun = text;
  begins = ([], append-nil text);
  added = added_whole old new text printed.ok;
}
begun_printed old new text (Err refused) printed =
    let k : ℕ = printed.cut.part.0 in
    record {
      begun = take k text;
      begins = (drop k text, take-append-drop k text);
      added = record { added = printed.cut.part.2; faults = printed.cut.faults; wants = printed.cut.wants };
    }

-- all that waited was to be written, and none waits any more
pub moved_printed : (old new : Paper) (text after : List ℕ) (said : Result (Unit {0}) Refused) → Prints old new text said
    → after ≡ [] → HasMoved old new text after said
moved_printed old new text after (Ok done) printed none = record {
  moved = (text, sym (append-nil text) ∙ ap (λ (w : List ℕ). text ++ w) (sym none), printed.ok);
  begun = tt;
}
moved_printed old new text after (Err refused) printed none = record {
  moved = tt;
  begun = begun_printed old new text (Err refused) printed;
}

-- nothing was written yet
pub moved_nothing : (paper : Paper) (text : List ℕ) → HasMoved paper paper text text (Ok tt)
moved_nothing paper text = record { moved = ([], refl, grown_nothing paper); begun = tt }

-- what was written says nothing against the sink where memory is wanted afterwards
pub said_wanting : (old new : Paper) → IsSaid old new (Ok tt) → IsSaid old new (Err Wanting)
said_wanting old new said = record {
  only = said.only;
  failed = λ is. absurd (let never = is in cc);
  stands = λ no. said.stands (λ is. let never = is in cc);
}

-- a text was added whole, and then another was begun
added_more : (old mid new : Paper) (text more : List ℕ) → mid ≡ grown old text → HasAdded mid new more
    → HasAdded old new (text ++ more)
added_more old mid new text more first then =
    let faults : mid.faults ≡ old.faults = ap (λ (p : Paper). p.faults) first in
    let wants : mid.wants ≡ old.wants = ap (λ (p : Paper). p.wants) first in
    record {
      added = then.added
          ∙ ap (λ (p : Paper). record (grown p more) { faults = new.faults; wants = new.wants }) first
          ∙ ap (λ (p : Paper). record p { faults = new.faults; wants = new.wants }) (grown-grown old text more);
      faults = omega (arith, then.faults, faults);
      wants = omega (arith, then.wants, wants);
    }

-- ---- transcripts

-- the sink has the first of the answers to these lines behind what it had at first, and the others wait
pub record HasWaiting (plan : PlanShape) (party : ℕ) (lines : List TextLine) (origin paper : Paper) (at : Reached)
    : Type 0 where
  pub written : List ℕ
  pub answered : IsAnswered plan party lines (written ++ at.text) at.own at.seen
  pub stands : paper ≡ grown origin written

-- so it stands after some more lines, whatever came before
abbrev pub WaitsAfter : PlanShape → ℕ → List TextLine → Position → Paper → Reached → Type 0
WaitsAfter plan party more first paper at =
    (lines : List TextLine) (origin : Paper) → HasServed plan party lines origin first
    → HasWaiting plan party (lines ++ more) origin paper at

module _ (plan : PlanShape) (party : ℕ) where
  -- lines were answered, and a beginning of their text is there
  partly_answered : (lines : List TextLine) (text begun : List ℕ) (own : ℕ) (seen : List Entry)
      → IsAnswered plan party lines text own seen → IsPrefix begun text
      → IsPartlyServed plan party lines begun (journal seen)
  partly_answered lines text begun own seen answered begins = record {
    first = lines;
    begins_lines = ([], append-nil lines);
    whole = text;
    served = served_of plan party lines text own seen answered;
    begins_text = begins;
  }

  -- a beginning for some lines is one for more lines
  partly_longer : (lines more : List TextLine) (text : List ℕ) (sent : List Sent)
      → IsPartlyServed plan party lines text sent → IsPartlyServed plan party (lines ++ more) text sent
  partly_longer lines more text sent h = record {
    first = h.first;
    begins_lines = (
      h.begins_lines.0 ++ more,
      sym (append_assoc h.first h.begins_lines.0 more) ∙ ap (λ (w : List TextLine). w ++ more) h.begins_lines.1,
    );
    whole = h.whole;
    served = h.served;
    begins_text = h.begins_text;
  }

  -- a beginning of a beginning is one
  partly_begun : (lines : List TextLine) (text begun : List ℕ) (sent : List Sent) → IsPrefix begun text
      → IsPartlyServed plan party lines text sent → IsPartlyServed plan party lines begun sent
  partly_begun lines text begun sent begins h = record {
    first = h.first;
    begins_lines = h.begins_lines;
    whole = h.whole;
    served = h.served;
    begins_text = (
      begins.0 ++ h.begins_text.0,
      sym (append_assoc begun begins.0 h.begins_text.0)
          ∙ ap (λ (w : List ℕ). w ++ h.begins_text.0) begins.1
          ∙ h.begins_text.1,
    );
  }

  -- ---- one line

  -- an answer is appended to those that wait, or a part of it
  pub answers_by : (line : TextLine) (old new : Reached) (answer : List ℕ) (said : Result (Unit {0}) Memory)
      → ((lines : List TextLine) (text : List ℕ) → IsAnswered plan party lines text old.own old.seen
      → IsAnswered plan party (lines ++ line ∷ []) (text ++ answer) new.own new.seen)
      → Appends said old.text new.text answer → AnswersLine plan party line old new said
  answers_by line old new answer (Ok done) step appends lines written h =
      let is : (written ++ old.text) ++ answer ≡ written ++ new.text =
      append_assoc written old.text answer ∙ ap (λ (w : List ℕ). written ++ w) (sym appends) in
      let answered : IsAnswered plan party (lines ++ line ∷ []) (written ++ new.text) new.own new.seen =
      subst (λ (w : List ℕ). IsAnswered plan party (lines ++ line ∷ []) w new.own new.seen) is
      (step lines (written ++ old.text) h) in (
        answered,
        partly_answered (lines ++ line ∷ []) (written ++ new.text) (written ++ new.text) new.own new.seen answered
            ([], append-nil (written ++ new.text)),
      )
  answers_by line old new answer (Err memory) step appends lines written h = (
    tt,
    partly_answered (lines ++ line ∷ []) ((written ++ old.text) ++ answer) (written ++ new.text) new.own new.seen
        (step lines (written ++ old.text) h) (
          appends.rest,
          ap (λ (w : List ℕ). (written ++ w) ++ appends.rest) appends.behind
              ∙ ap (λ (w : List ℕ). w ++ appends.rest) (sym (append_assoc written old.text appends.written))
              ∙ append_assoc (written ++ old.text) appends.written appends.rest
              ∙ ap (λ (w : List ℕ). (written ++ old.text) ++ w) (sym appends.begins),
        ),
  )

  -- what was answered is a beginning of what these lines and one more are answered
  answered_before : (lines more : List TextLine) (text : List ℕ) (own : ℕ) (seen : List Entry)
      → IsAnswered plan party lines text own seen → IsPartlyServed plan party (lines ++ more) text (journal seen)
  answered_before lines more text own seen answered =
      partly_longer lines more text (journal seen)
      (partly_answered lines text text own seen answered ([], append-nil text))

  -- nothing is answered, though others go on
  pub answers_nothing : (line : TextLine) (text : List ℕ) (own : ℕ) (before seen : List Entry) (memory : Memory)
      → IsLawful plan seen → SentNothing party before seen
      → AnswersLine plan party line (reached text own before) (reached text own seen) (Err memory)
  answers_nothing line text own before seen memory lawful grew lines written h = (
    tt,
    answered_before lines (line ∷ []) (written ++ text) own seen
        (answered_grows plan party lines (written ++ text) own before seen lawful grew h),
  )

  -- nothing was done
  pub answers_idle : (more : List TextLine) (at : Reached) (memory : Memory)
      → AnswersMore plan party more at at (Err memory)
  answers_idle more at memory lines written h =
      (tt, answered_before lines more (written ++ at.text) at.own at.seen h)

  -- a line that is passed over
  pub answers_over : (line : TextLine) (at : Reached)
      → ((lines : List TextLine) (text : List ℕ) → IsAnswered plan party lines text at.own at.seen
      → IsAnswered plan party (lines ++ line ∷ []) text at.own at.seen)
      → AnswersLine plan party line at at (Ok tt)
  answers_over line at step lines written h =
      (step lines (written ++ at.text) h, answered_before lines (line ∷ []) (written ++ at.text) at.own at.seen h)

  -- ---- the lines that wait, one after another

  -- before the first no answer waits
  pub waits_none : (first : Position) → WaitsAfter plan party [] first first.paper (reached [] first.own first.seen)
  waits_none first lines origin h = record {
    written = h.text;
    answered = subst (λ (w : List TextLine). IsAnswered plan party w (h.text ++ []) first.own first.seen)
        (sym (append-nil lines))
        (subst (λ (w : List ℕ). IsAnswered plan party lines w first.own first.seen) (sym (append-nil h.text)) h.served);
    stands = h.written;
  }

  -- one line more was answered, by a pass with the same party, and some answers were written
  pub waits_then : (q : ℕ) (more : List TextLine) (line : TextLine) (first : Position) (old new : Reached)
      (paper next : Paper) (after : List ℕ) → q ≡ party → WaitsAfter plan party more first paper old
      → AnswersLine plan q line old new (Ok tt) → HasMoved paper next new.text after (Ok tt)
      → WaitsAfter plan party (more ++ line ∷ []) first next (reached after new.own new.seen)
  waits_then q more line first old new paper next after same waits answers moved lines origin h =
      let had = waits lines origin h in
      let answered : AnswersLine plan party line old new (Ok tt) =
      subst (λ (p : ℕ). AnswersLine plan p line old new (Ok tt)) same answers in
      let w : List ℕ = moved.moved.0 in
      let text : had.written ++ new.text ≡ (had.written ++ w) ++ after =
      ap (λ (t : List ℕ). had.written ++ t) moved.moved.1 ∙ sym (append_assoc had.written w after) in
      record {
        written = had.written ++ w;
        answered = subst (λ (ls : List TextLine). IsAnswered plan party ls ((had.written ++ w) ++ after) new.own new.seen)
            (append_assoc lines more (line ∷ []))
            (subst (λ (t : List ℕ). IsAnswered plan party ((lines ++ more) ++ line ∷ []) t new.own new.seen) text
            (answered (lines ++ more) had.written had.answered).0);
        stands = moved.moved.2 ∙ ap (λ (p : Paper). grown p w) had.stands ∙ grown-grown origin had.written w;
      }

  -- a line could not be answered or its answer not be written, while others wait
  pub serves_broken : (q : ℕ) (more : List TextLine) (line : TextLine) (rest all : List TextLine) (first : Position)
      (old new : Reached) (paper next : Paper) (said : Result (Unit {0}) Memory) (refused : Refused) → q ≡ party
      → all ≡ (more ++ line ∷ []) ++ rest → WaitsAfter plan party more first paper old
      → AnswersLine plan q line old new said → HasBegun paper next new.text
      → Serves plan party all first (position next new.own new.seen) (Err refused)
  serves_broken q more line rest all first old new paper next said refused same is waits answers begun lines origin h =
      let had = waits lines origin h in
      let answered : AnswersLine plan party line old new said =
      subst (λ (p : ℕ). AnswersLine plan p line old new said) same answers in
      let part : HasPart plan party ((lines ++ more) ++ line ∷ []) origin next (journal new.seen) = record {
        text = had.written ++ begun.begun;
        served = partly_begun ((lines ++ more) ++ line ∷ []) (had.written ++ new.text) (had.written ++ begun.begun)
            (journal new.seen) (
              begun.begins.0,
              append_assoc had.written begun.begun begun.begins.0
                  ∙ ap (λ (w : List ℕ). had.written ++ w) begun.begins.1,
            )
            (answered (lines ++ more) had.written had.answered).1;
        written = added_more origin paper next had.written begun.begun had.stands begun.added;
      } in
      let joined : ((lines ++ more) ++ line ∷ []) ++ rest ≡ lines ++ all =
      ap (λ (w : List TextLine). w ++ rest) (append_assoc lines more (line ∷ []))
      ∙ append_assoc lines (more ++ line ∷ []) rest
      ∙ ap (λ (w : List TextLine). lines ++ w) (sym is) in (
        tt,
        subst (λ (w : List TextLine). HasPart plan party w origin next (journal new.seen)) joined
            (part_longer plan party ((lines ++ more) ++ line ∷ []) rest origin next (journal new.seen) part),
      )

  -- all were answered, and the answers that waited were to be written
  pub serves_whole : (more all : List TextLine) (first : Position) (at : Reached) (paper next : Paper)
      (said : Result (Unit {0}) Refused) → all ≡ more → WaitsAfter plan party more first paper at
      → Prints paper next at.text said → Serves plan party all first (position next at.own at.seen) said
  serves_whole more all first at paper next (Ok done) is waits printed lines origin h =
      let had = waits lines origin h in
      let served : HasServed plan party (lines ++ more) origin (position next at.own at.seen) = record {
        text = had.written ++ at.text;
        served = had.answered;
        written = printed.ok
            ∙ ap (λ (p : Paper). grown p at.text) had.stands
            ∙ grown-grown origin had.written at.text;
      } in (
        subst (λ (w : List TextLine). HasServed plan party (lines ++ w) origin (position next at.own at.seen)) (sym is)
            served,
        subst (λ (w : List TextLine). HasPart plan party (lines ++ w) origin next (journal at.seen)) (sym is)
            (part_whole plan party (lines ++ more) origin (position next at.own at.seen) served),
      )
  serves_whole more all first at paper next (Err refused) is waits printed lines origin h =
      let had = waits lines origin h in
      let begun : HasBegun paper next at.text = begun_printed paper next at.text (Err refused) printed in
      let part : HasPart plan party (lines ++ more) origin next (journal at.seen) = record {
        text = had.written ++ begun.begun;
        served = partly_answered (lines ++ more) (had.written ++ at.text) (had.written ++ begun.begun) at.own at.seen
            had.answered (
              begun.begins.0,
              append_assoc had.written begun.begun begun.begins.0
                  ∙ ap (λ (w : List ℕ). had.written ++ w) begun.begins.1,
            );
        written = added_more origin paper next had.written begun.begun had.stands begun.added;
      } in (
        tt,
        subst (λ (w : List TextLine). HasPart plan party (lines ++ w) origin next (journal at.seen)) (sym is) part,
      )

-- what answering a line says, of an equal answer
pub line_as : (plan : PlanShape) (party : ℕ) (line : TextLine) (old new : Reached)
    (said is : Result (Unit {0}) Memory) → said ≡ is → AnswersLine plan party line old new said
    → AnswersLine plan party line old new is
line_as plan party line old new said is same had =
    subst (λ (r : Result (Unit {0}) Memory). AnswersLine plan party line old new r) same had

-- what was moved, of an equal answer
pub moved_as : (old new : Paper) (before after : List ℕ) (said is : Result (Unit {0}) Refused) → said ≡ is
    → HasMoved old new before after said → HasMoved old new before after is
moved_as old new before after said is same had =
    subst (λ (r : Result (Unit {0}) Refused). HasMoved old new before after r) same had
