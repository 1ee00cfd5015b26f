-- What each end of a desk is worth.
use Rattle.std.proofs.Common.{◌≡◌, ◌∙◌, ap, sym, refl, subst, ℕ, ◌+◌, ◌-◌, ◌<◌, ◌≤◌, List, [], ◌++◌}
use Rattle.std.proofs.Common.{length}
use Rattle.std.proofs.Common.{take, Option, Some, None, Result, Ok, Err, arith}
use Rattle.std.specs.Prelude.{IfSome, IsSome}
use Rattle.std.specs.Io.KnownBytes.{Consumes, IsAtEnd, Keeps}
use Rattle.line_form.specs.Lines.{Cutting, ended_lines, lines_of}
use Rattle.series_tables.specs.Plan.{PlanShape}
use Rattle.qna_edges.specs.Count.{Rose}
use Rattle.qna_edges.specs.Paper.{Paper, WasWritten}
use Rattle.qna_edges.specs.Stock.{GivesBytes, OnLeft, OnLeftAndRest, ReadFails, Stock, WasRead}
use Rattle.qna_edges.specs.declared.refused.Refused.{Refused}
use Rattle.qna_edges.specs.declared.refused.Refused.TheVariants.{Failed, Memory as Wanting}
use Rattle.qna_parts.specs.Intake.{IsTakenWhole, most_bytes}
use Rattle.accounts_history.specs.History.{Sent, journal}
use Rattle.accounts_history.specs.declared.entry.Entry.{Entry}
use Rattle.office.specs.Seen.{sent_by}
use Rattle.compile_workers.specs.DeskEnd.{Ends, IsDeskEnd, PassesLimit, end_for, ends_told}
use Rattle.compile_workers.specs.Serving.{HasPart, HasWhole, IsSaid, IsServedUpTo, Position, ServesEnd}
use Rattle.compile_workers.specs.Serving.{ServesPiece}
use Rattle.compile_workers.specs.declared.desk.DeskEnd.{DeskEnd}
use Rattle.compile_workers.specs.declared.desk.DeskEnd.TheVariants.{Ended, Memory, ReadFault, TooMuch, WriteFault}
use Rattle.compile_workers.proofs.Desks.{each_text, part_nothing, part_of_all}
use Rattle.compile_workers.proofs.Reading.{IsReadTo, at_end, nothing_left, past_limit, read_failed, so_far, with_piece}
use Rattle.compile_workers.proofs.Reading.{within_limit}
use Rattle.compile_workers.proofs.Writing.{part_whole, said_then, whole_of}

-- ---- sources

-- a source that told what it had left still tells it
still_told : (all left new : Option (List ℕ)) (got : List ℕ) → IfSome all (λ text. IsSome left)
    → Consumes left new got → IfSome all (λ text. IsSome new)
still_told None left new got told taken = tt
still_told (Some text) None new got told taken = absurd (cc told)
still_told (Some text) (Some rest) None got told taken = absurd taken
still_told (Some text) (Some rest) (Some after) got told taken = refl

-- a source whose read failed still tells what it told
still_kept : (all left new : Option (List ℕ)) → IfSome all (λ text. IsSome left) → Keeps left new
    → IfSome all (λ text. IsSome new)
still_kept None left new told kept = tt
still_kept (Some text) None new told kept = absurd (cc told)
still_kept (Some text) (Some rest) None told kept = absurd kept
still_kept (Some text) (Some rest) (Some after) told kept = refl

-- bytes were taken of a source that was only read
pub was_read_more : (all left new : Stock) (got : List ℕ) → WasRead all left → GivesBytes left new
    → Consumes left.left new.left got → WasRead all new
was_read_more all left new got was gave taken =
    let faults : new.faults ≡ left.faults = ap (λ (s : Stock). s.faults) gave in
    record {
      later = omega (arith, was.later, faults);
      same_name = ap (λ (s : Stock). s.name) gave ∙ was.same_name;
      still_told = still_told all.left left.left new.left got was.still_told taken;
    }

-- a read failed of a source that was only read
was_read_failed : (all left new : Stock) → WasRead all left → ReadFails left new → Keeps left.left new.left
    → WasRead all new
was_read_failed all left new was failed kept = record {
  later = omega (arith, was.later, failed.later);
  same_name = ap (λ (s : Stock). s.name) failed.same ∙ was.same_name;
  still_told = still_kept all.left left.left new.left was.still_told kept;
}

-- how a desk ends once its source was read to its end: by whether the last line was answered
abbrev pub EndsAs : Result (Unit {0}) Refused → DeskEnd → Type 0
EndsAs (Ok done) end = end ≡ Ended
EndsAs (Err refused) end = end ≡ end_for refused

-- how far the reading and answering has come: so many bytes of the source were read, the lines that line feeds end in
-- them were answered, and nothing failed
pub record IsReading (plan : PlanShape) (party : ℕ) (all left : Stock) (origin : Paper) (lines : Cutting)
    (at : Position) (size : ℕ) : Type 0 where
  pub read : IsReadTo (IsServedUpTo plan party origin lines at) all.left left.left size
  pub few : size ≤ most_bytes
  pub was_read : WasRead all left
  pub unfailed : left.faults ≡ all.faults
  pub said : IsSaid origin at.paper (Ok tt)

-- ---- ends

-- where all was read within the limit, it isn't passed
within_whole : (all new : Option (List ℕ)) → IfSome all (λ text. (length text ≤ most_bytes) × (new ≡ Some []))
    → IfSome all (λ text. IfSome new (λ rest. length text ≤ most_bytes + length rest))
within_whole None new whole = tt
within_whole (Some text) None whole = tt
within_whole (Some text) (Some rest) whole = omega (arith, whole.0)

module _ (plan : PlanShape) (party : ℕ) (old new : Ends) (sent : List Sent) (read : WasRead old.source new.source)
    (written : WasWritten old.sink new.sink)
    (part : OnLeft old.source (λ text. HasPart plan party (lines_of text) old.sink new.sink sent)) where
  -- the limit isn't passed
  abbrev Within : Type 0
  Within = OnLeftAndRest old.source new.source (λ text rest. length text ≤ most_bytes + length rest)

  -- all was read and answered
  whole_end : OnLeft old.source (λ text. HasWhole plan party (lines_of text) old.sink new.sink sent)
      → IsTakenWhole old.source new.source → new.sink.faults ≡ old.sink.faults
      → IsDeskEnd plan party old new Ended sent
  whole_end whole taken stands = record {
    whole = λ is. whole;
    taken = λ is. taken;
    part = part;
    read = λ is. absurd (let never = is in cc);
    passed = λ is. absurd (let never = is in cc);
    passed_whole = λ is. absurd (let never = is in cc);
    within = λ isnt. within_whole old.source.left new.source.left taken.1;
    read_failed = λ is. absurd (let never = is in cc);
    write_failed = λ is. absurd (let never = is in cc);
    read_stands = λ isnt. taken.0;
    write_stands = λ isnt. stands;
    only_read = read;
    only_written = written;
  }

  -- memory was wanted
  wanting_end : Within → new.source.faults ≡ old.source.faults → new.sink.faults ≡ old.sink.faults
      → IsDeskEnd plan party old new Memory sent
  wanting_end within unread unwritten = record {
    whole = λ is. absurd (let never = is in cc);
    taken = λ is. absurd (let never = is in cc);
    part = part;
    read = λ is. absurd (let never = is in cc);
    passed = λ is. absurd (let never = is in cc);
    passed_whole = λ is. absurd (let never = is in cc);
    within = λ isnt. within;
    read_failed = λ is. absurd (let never = is in cc);
    write_failed = λ is. absurd (let never = is in cc);
    read_stands = λ isnt. unread;
    write_stands = λ isnt. unwritten;
    only_read = read;
    only_written = written;
  }

  -- a write failed
  broken_end : Within → new.source.faults ≡ old.source.faults → Rose old.sink.faults new.sink.faults
      → IsDeskEnd plan party old new WriteFault sent
  broken_end within unread rose = record {
    whole = λ is. absurd (let never = is in cc);
    taken = λ is. absurd (let never = is in cc);
    part = part;
    read = λ is. absurd (let never = is in cc);
    passed = λ is. absurd (let never = is in cc);
    passed_whole = λ is. absurd (let never = is in cc);
    within = λ isnt. within;
    read_failed = λ is. absurd (let never = is in cc);
    write_failed = λ is. rose;
    read_stands = λ isnt. unread;
    write_stands = λ isnt. absurd (isnt refl);
    only_read = read;
    only_written = written;
  }

  -- a read failed
  unread_end : OnLeftAndRest old.source new.source (λ text rest.
      HasWhole plan party (ended_lines (take (length text - length rest) text)) old.sink new.sink sent)
      → Within → Rose old.source.faults new.source.faults → new.sink.faults ≡ old.sink.faults
      → IsDeskEnd plan party old new ReadFault sent
  unread_end whole within rose unwritten = record {
    whole = λ is. absurd (let never = is in cc);
    taken = λ is. absurd (let never = is in cc);
    part = part;
    read = λ is. whole;
    passed = λ is. absurd (let never = is in cc);
    passed_whole = λ is. absurd (let never = is in cc);
    within = λ isnt. within;
    read_failed = λ is. rose;
    write_failed = λ is. absurd (let never = is in cc);
    read_stands = λ isnt. absurd (isnt refl);
    write_stands = λ isnt. unwritten;
    only_read = read;
    only_written = written;
  }

  -- the limit was passed
  passed_end : OnLeftAndRest old.source new.source PassesLimit
      → OnLeft old.source (λ text. HasWhole plan party (ended_lines (take most_bytes text)) old.sink new.sink sent)
      → new.source.faults ≡ old.source.faults → new.sink.faults ≡ old.sink.faults
      → IsDeskEnd plan party old new TooMuch sent
  passed_end passed whole unread unwritten = record {
    whole = λ is. absurd (let never = is in cc);
    taken = λ is. absurd (let never = is in cc);
    part = part;
    read = λ is. absurd (let never = is in cc);
    passed = λ is. passed;
    passed_whole = λ is. whole;
    within = λ isnt. absurd (isnt refl);
    read_failed = λ is. absurd (let never = is in cc);
    write_failed = λ is. absurd (let never = is in cc);
    read_stands = λ isnt. unread;
    write_stands = λ isnt. unwritten;
    only_read = read;
    only_written = written;
  }

  -- an answer was refused
  refused_end : (refused : Refused) → Within → new.source.faults ≡ old.source.faults
      → IsSaid old.sink new.sink (Err refused) → IsDeskEnd plan party old new (end_for refused) sent
  refused_end Failed within unread said = broken_end within unread (said.failed refl)
  refused_end Wanting within unread said = wanting_end within unread (said.stands (λ is. let never = is in cc))

-- before the first line
pub unbegun_end : (plan : PlanShape) (party : ℕ) (source : Stock) (sink : Paper) (seen : List Entry)
    → sent_by party seen ≡ []
    → IsDeskEnd plan party (ends_told source sink) (ends_told source sink) Memory (journal seen)
unbegun_end plan party source sink seen none =
    wanting_end plan party (ends_told source sink) (ends_told source sink) (journal seen)
    (record { later = omega arith; same_name = refl; still_told = told source.left })
    (record { later = omega arith; same_name = refl })
    (each_text (λ text. HasPart plan party (lines_of text) sink sink (journal seen)) source.left
    (λ text. part_nothing plan party sink seen (lines_of text) none))
    (untaken source.left) refl refl
  where
    untaken : (left : Option (List ℕ))
        → IfSome left (λ text. IfSome left (λ rest. length text ≤ most_bytes + length rest))
    untaken None = tt
    untaken (Some text) = omega arith

    told : (left : Option (List ℕ)) → IfSome left (λ text. IsSome left)
    told None = tt
    told (Some text) = refl

module _ (plan : PlanShape) (party : ℕ) (all left : Stock) (origin : Paper) (lines : Cutting) (at : Position) (size : ℕ)
    (reading : IsReading plan party all left origin lines at size) where
  -- what holds of the bytes that were read so far
  abbrev So : List ℕ → Type 0
  So = IsServedUpTo plan party origin lines at

  -- the source was read to its end, and the last line was answered, or it wasn't
  pub at_the_end : (rest : Stock) (last : Position) (n : ℕ) (buffer : List ℕ) (said : Result (Unit {0}) Refused)
      (end : DeskEnd)
      → n ≡ 0 → 0 < length buffer → GivesBytes left rest → Consumes left.left rest.left (take n buffer)
      → (n ≡ 0 → 0 < length buffer → IsAtEnd rest.left) → ServesEnd plan party lines at last said
      → IsSaid at.paper last.paper said → EndsAs said end
      → IsDeskEnd plan party (ends_told all origin) (ends_told rest last.paper) end (journal last.seen)
  at_the_end rest last n buffer (Ok done) end none room gave taken ended serves said is =
      subst (λ (e : DeskEnd). IsDeskEnd plan party (ends_told all origin) (ends_told rest last.paper) e
      (journal last.seen))
      (sym is)
      (whole_end plan party (ends_told all origin) (ends_told rest last.paper) (journal last.seen)
      (was_read_more all left rest (take n buffer) reading.was_read gave taken)
      (said_then origin at.paper last.paper (Ok done) reading.said said).only
      (at_end So all.left left.left rest.left size n buffer _ reading.read none room taken ended
      (λ text long so. part_whole plan party (lines_of text) origin last (serves text origin so).0))
      (at_end So all.left left.left rest.left size n buffer _ reading.read none room taken ended
      (λ text long so. whole_of plan party (lines_of text) origin last (serves text origin so).0)) (
        ap (λ (s : Stock). s.faults) gave ∙ reading.unfailed,
        nothing_left So all.left left.left rest.left size most_bytes n buffer reading.read reading.few none room taken
            ended,
      )
      ((said_then origin at.paper last.paper (Ok done) reading.said said).stands (λ is. let never = is in cc)))
  at_the_end rest last n buffer (Err refused) end none room gave taken ended serves said is =
      subst (λ (e : DeskEnd). IsDeskEnd plan party (ends_told all origin) (ends_told rest last.paper) e
      (journal last.seen))
      (sym is)
      (refused_end plan party (ends_told all origin) (ends_told rest last.paper) (journal last.seen)
      (was_read_more all left rest (take n buffer) reading.was_read gave taken)
      (said_then origin at.paper last.paper (Err refused) reading.said said).only
      (at_end So all.left left.left rest.left size n buffer _ reading.read none room taken ended
      (λ text long so. (serves text origin so).1))
      refused
      (within_whole all.left rest.left
      (nothing_left So all.left left.left rest.left size most_bytes n buffer reading.read reading.few none room taken
      ended))
      (ap (λ (s : Stock). s.faults) gave ∙ reading.unfailed)
      (said_then origin at.paper last.paper (Err refused) reading.said said))

  -- a piece was read whose lines weren't all answered
  pub within_piece : (rest : Stock) (after : Cutting) (last : Position) (n : ℕ) (buffer : List ℕ) (refused : Refused)
      → GivesBytes left rest → Consumes left.left rest.left (take n buffer) → n ≤ length buffer
      → size + n ≤ most_bytes → ServesPiece plan party lines after at last (take n buffer) (Err refused)
      → IsSaid at.paper last.paper (Err refused)
      → IsDeskEnd plan party (ends_told all origin) (ends_told rest last.paper) (end_for refused) (journal last.seen)
  within_piece rest after last n buffer refused gave taken room few serves said =
      refused_end plan party (ends_told all origin) (ends_told rest last.paper) (journal last.seen)
      (was_read_more all left rest (take n buffer) reading.was_read gave taken)
      (said_then origin at.paper last.paper (Err refused) reading.said said).only
      (with_piece So all.left left.left rest.left size n n buffer _ reading.read taken room (omega arith)
      (λ text new within joined so. part_of_all plan party origin last.paper (journal last.seen)
      (take size text ++ take n buffer) text (size + n) joined (serves (take size text) origin so).1))
      refused
      (with_piece So all.left left.left rest.left size n n buffer _ reading.read taken room (omega arith)
      (λ text new within joined so. within_limit rest.left most_bytes (size + n) text new few within))
      (ap (λ (s : Stock). s.faults) gave ∙ reading.unfailed)
      (said_then origin at.paper last.paper (Err refused) reading.said said)

  -- at the limit more was read: all that came before was answered
  pub past_the_limit : (rest : Stock) (n : ℕ) (buffer : List ℕ)
      → GivesBytes left rest → Consumes left.left rest.left (take n buffer) → n ≤ length buffer → n ≤ 65536 → 0 < n
      → size ≡ most_bytes
      → IsDeskEnd plan party (ends_told all origin) (ends_told rest at.paper) TooMuch (journal at.seen)
  past_the_limit rest n buffer gave taken room small some full =
      passed_end plan party (ends_told all origin) (ends_told rest at.paper) (journal at.seen)
      (was_read_more all left rest (take n buffer) reading.was_read gave taken) reading.said.only
      (so_far So all.left left.left size _ reading.read
      (λ text so. part_of_all plan party origin at.paper (journal at.seen) (take size text) text size refl
      (part_whole plan party (ended_lines (take size text)) origin at so.served)))
      (with_piece So all.left left.left rest.left size n n buffer _ reading.read taken room (omega arith)
      (λ text new within joined so. past_limit rest.left most_bytes 65536 (size + n) text new
      (omega (arith, full, some)) (omega (arith, full, small)) within))
      (so_far So all.left left.left size _ reading.read
      (λ text so. subst
      (λ (k : ℕ). HasWhole plan party (ended_lines (take k text)) origin at.paper (journal at.seen)) full
      (whole_of plan party (ended_lines (take size text)) origin at so.served)))
      (ap (λ (s : Stock). s.faults) gave ∙ reading.unfailed)
      (reading.said.stands (λ is. let never = is in cc))

  -- a read failed
  pub at_a_failure : (rest : Stock) → ReadFails left rest → Keeps left.left rest.left
      → IsDeskEnd plan party (ends_told all origin) (ends_told rest at.paper) ReadFault (journal at.seen)
  at_a_failure rest failed kept =
      unread_end plan party (ends_told all origin) (ends_told rest at.paper) (journal at.seen)
      (was_read_failed all left rest reading.was_read failed kept) reading.said.only
      (so_far So all.left left.left size _ reading.read
      (λ text so. part_of_all plan party origin at.paper (journal at.seen) (take size text) text size refl
      (part_whole plan party (ended_lines (take size text)) origin at so.served)))
      (read_failed So all.left left.left rest.left size _ reading.read kept
      (λ text rest taken whole so. subst
      (λ (k : ℕ). HasWhole plan party (ended_lines (take k text)) origin at.paper (journal at.seen)) (sym taken)
      (whole_of plan party (ended_lines (take size text)) origin at so.served)))
      (read_failed So all.left left.left rest.left size _ reading.read kept
      (λ text rest taken whole so. omega (arith, whole, reading.few)))
      (subst (λ (n : ℕ). Rose n rest.faults) reading.unfailed failed.rose)
      (reading.said.stands (λ is. let never = is in cc))

  -- a piece was answered, and the reading goes on
  pub goes_on : (rest : Stock) (after : Cutting) (next : Position) (n : ℕ) (buffer : List ℕ)
      → GivesBytes left rest → Consumes left.left rest.left (take n buffer) → n ≤ length buffer
      → size + n ≤ most_bytes → ServesPiece plan party lines after at next (take n buffer) (Ok tt)
      → IsSaid at.paper next.paper (Ok tt) → IsReading plan party all rest origin after next (size + n)
  goes_on rest after next n buffer gave taken room few serves said = record {
    read = with_piece So all.left left.left rest.left size n n buffer _ reading.read taken room (omega arith)
        (λ text new within joined so. (
          new,
          within,
          subst (λ (xs : List ℕ). IsServedUpTo plan party origin after next xs) joined
              (serves (take size text) origin so).0,
        ));
    few = few;
    was_read = was_read_more all left rest (take n buffer) reading.was_read gave taken;
    unfailed = ap (λ (s : Stock). s.faults) gave ∙ reading.unfailed;
    said = said_then origin at.paper next.paper (Ok tt) reading.said said;
  }
