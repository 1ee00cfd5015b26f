-- What a sink has after lines were answered.
use Rattle.std.proofs.Common.{◌≡◌, ◌∙◌, ap, sym, refl, subst, ℕ, List, [], ◌++◌}
use Rattle.std.proofs.Common.{Result, Ok, arith, append_assoc, append-nil}
use Rattle.std.specs.Prelude.{IsErrOf}
use mathlib.Core.List.{IsPrefix}
use Rattle.qna_edges.specs.Count.{Rose}
use Rattle.qna_edges.specs.Paper.{Paper, Prints, grown}
use Rattle.qna_edges.specs.declared.refused.Refused.{Refused}
use Rattle.qna_edges.specs.declared.refused.Refused.TheVariants.{Failed}
use Rattle.qna_edges.proofs.Paper.{written_printed}
use Rattle.series_tables.specs.Plan.{PlanShape}
use Rattle.line_form.specs.Lines.{Cutting, TextLine}
use Rattle.accounts_history.specs.History.{Sent, journal}
use Rattle.accounts_history.specs.declared.entry.Entry.{Entry}
use Rattle.compile_workers.specs.Served.{IsServed}
use Rattle.compile_workers.specs.Serving.{HasAdded, HasPart, HasServed, HasWhole, IsAnswered, IsSaid, Position}
use Rattle.compile_workers.specs.Serving.{ServesEnd, ServesPiece}
use Rattle.compile_workers.specs.Transcript.{HasNoneAfter}

-- ---- papers

-- a text that was added whole
pub added_whole : (old new : Paper) (text : List ℕ) → new ≡ grown old text → HasAdded old new text
added_whole old new text is =
    let faults : new.faults ≡ old.faults = ap (λ (p : Paper). p.faults) is in
    let wants : new.wants ≡ old.wants = ap (λ (p : Paper). p.wants) is in
    record {
      added = is
          ∙ ap (λ (n : ℕ). record (grown old text) { faults = n; wants = old.wants }) (sym faults)
          ∙ ap (λ (n : ℕ). record (grown old text) { faults = new.faults; wants = n }) (sym wants);
      faults = omega (arith, faults);
      wants = omega (arith, wants);
    }

-- ---- what an answer says of its sink

-- a text was to be written
pub said_printed : (old new : Paper) (text : List ℕ) (said : Result (Unit {0}) Refused)
    → Prints old new text said → IsSaid old new said
said_printed old new text said done = record {
  only = written_printed said old new text done;
  failed = done.failed;
  stands = done.stands;
}

-- nothing was to be written
pub said_nothing : (paper : Paper) (said : Result (Unit {0}) Refused) → ¬ IsErrOf said Failed → IsSaid paper paper said
said_nothing paper said not_failed = record {
  only = record { later = omega arith; same_name = refl };
  failed = λ is. absurd (not_failed is);
  stands = λ no. refl;
}

-- one answer was written, and then another was to be
pub said_then : (old mid new : Paper) (said : Result (Unit {0}) Refused) → IsSaid old mid (Ok tt) → IsSaid mid new said
    → IsSaid old new said
said_then old mid new said first then =
    let stood : mid.faults ≡ old.faults = first.stands (λ is. let never = is in cc) in
    record {
      only = record {
        later = omega (arith, stood, then.only.later);
        same_name = then.only.same_name ∙ first.only.same_name;
      };
      failed = λ is. subst (λ (n : ℕ). Rose n new.faults) stood (then.failed is);
      stands = λ no. then.stands no ∙ stood;
    }

pub ruleset saying = (said_printed, said_nothing)

-- ---- transcripts

module _ (plan : PlanShape) (party : ℕ) where
  -- what was answered so far is a whole transcript of the lines so far
  pub served_of : (lines : List TextLine) (text : List ℕ) (own : ℕ) (seen : List Entry)
      → IsAnswered plan party lines text own seen → IsServed plan party lines text (journal seen)
  served_of lines text own seen s = record {
    answers = s.answers;
    answered = s.answered;
    nothing_more = subst (λ (k : ℕ). HasNoneAfter party k (journal seen)) (sym s.last) s.nothing_more;
    spelled = s.spelled;
  }

  -- the first of some lines were answered, and the beginning of their text is there
  part_of : (lines more : List TextLine) (text begun : List ℕ) (own : ℕ) (seen : List Entry) (origin paper : Paper)
      → IsAnswered plan party lines text own seen → IsPrefix begun text → HasAdded origin paper begun
      → HasPart plan party (lines ++ more) origin paper (journal seen)
  part_of lines more text begun own seen origin paper s begins added = record {
    text = begun;
    served = record {
      first = lines;
      begins_lines = (more, refl);
      whole = text;
      served = served_of lines text own seen s;
      begins_text = begins;
    };
    written = added;
  }

  -- what was answered of the first lines is a part of what all of them are answered
  pub part_before : (lines more : List TextLine) (origin : Paper) (at : Position) → HasServed plan party lines origin at
      → HasPart plan party (lines ++ more) origin at.paper (journal at.seen)
  part_before lines more origin at h =
      part_of lines more h.text h.text at.own at.seen origin at.paper h.served ([], append-nil h.text)
      (added_whole origin at.paper h.text h.written)

  -- a whole transcript is a part of itself
  pub part_whole : (lines : List TextLine) (origin : Paper) (at : Position) → HasServed plan party lines origin at
      → HasPart plan party lines origin at.paper (journal at.seen)
  part_whole lines origin at h =
      subst (λ (w : List TextLine). HasPart plan party w origin at.paper (journal at.seen)) (append-nil lines)
      (part_before lines [] origin at h)

  -- a part for some lines is one for more lines
  pub part_longer : (lines more : List TextLine) (origin paper : Paper) (sent : List Sent)
      → HasPart plan party lines origin paper sent → HasPart plan party (lines ++ more) origin paper sent
  part_longer lines more origin paper sent h = record {
    text = h.text;
    served = record {
      first = h.served.first;
      begins_lines = (
        h.served.begins_lines.0 ++ more,
        sym (append_assoc h.served.first h.served.begins_lines.0 more)
            ∙ ap (λ (w : List TextLine). w ++ more) h.served.begins_lines.1,
      );
      whole = h.served.whole;
      served = h.served.served;
      begins_text = h.served.begins_text;
    };
    written = h.written;
  }

  -- what a sink has of the lines so far is their whole transcript
  pub whole_of : (lines : List TextLine) (origin : Paper) (at : Position) → HasServed plan party lines origin at
      → HasWhole plan party lines origin at.paper (journal at.seen)
  whole_of lines origin at h = record {
    text = h.text;
    served = served_of lines h.text at.own at.seen h.served;
    written = h.written;
  }

-- ---- the same of an equal party and an equal answer

-- what an answer says of its sink
pub said_as : (old new : Paper) (said is : Result (Unit {0}) Refused) → said ≡ is → IsSaid old new said
    → IsSaid old new is
said_as old new said is same had = subst (λ (r : Result (Unit {0}) Refused). IsSaid old new r) same had

-- what answering a piece says
pub piece_as : (plan : PlanShape) (q party : ℕ) (before after : Cutting) (old new : Position) (piece : List ℕ)
    (said is : Result (Unit {0}) Refused) → q ≡ party → said ≡ is
    → ServesPiece plan q before after old new piece said → ServesPiece plan party before after old new piece is
piece_as plan q party before after old new piece said is same answered had =
    subst (λ (r : Result (Unit {0}) Refused). ServesPiece plan party before after old new piece r) answered
    (subst (λ (p : ℕ). ServesPiece plan p before after old new piece said) same had)

-- what answering the last line says
pub end_as : (plan : PlanShape) (q party : ℕ) (before : Cutting) (old new : Position)
    (said is : Result (Unit {0}) Refused) → q ≡ party → said ≡ is → ServesEnd plan q before old new said
    → ServesEnd plan party before old new is
end_as plan q party before old new said is same answered had =
    subst (λ (r : Result (Unit {0}) Refused). ServesEnd plan party before old new r) answered
    (subst (λ (p : ℕ). ServesEnd plan p before old new said) same had)
