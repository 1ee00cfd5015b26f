-- From what a desk's source and sink tell to what stands in its files.
use Rattle.std.proofs.Common.{◌≡◌, ◌∙◌, ℕ, ◌+◌, ◌-◌, ◌≤◌, Bool, List, [], ◌∷◌, ◌++◌, length, map, take, Option, refl, sym, ap, subst, inl, inr, arith}
use Rattle.std.specs.Prelude.{◌⊎◌, ◌<◌, IsTrue, IfSome, IsSome, IsSomeAnd, Some, None}
use Rattle.std.specs.Option.{option_map}
use Rattle.qna_edges.specs.Count.{Rose, capped}
use Rattle.qna_edges.specs.Paper.{BreaksOff, Paper, grown}
use Rattle.qna_edges.specs.Shelves.{Shelf}
use Rattle.qna_edges.specs.Stock.{OnLeft, OnLeftAndRest, Stock, WasRead}
use Rattle.qna_edges.proofs.Stock.{capped_none}
use Rattle.qna_edges.specs.declared.status.Status.{Status}
use Rattle.qna_edges.specs.declared.status.Status.TheVariants.{Done, Memory, WriteFault}
use Rattle.line_form.specs.Lines.{TextLine, ended_lines, lines_of}
use Rattle.series_tables.specs.Plan.{PlanShape}
use Rattle.accounts_history.specs.History.{Sent}
use Rattle.qna_parts.specs.CommandEnd.{HoldsPart}
use Rattle.qna_parts.specs.Intake.{most_bytes}
use Rattle.qna_parts.specs.Trace.{IsReadWhole, OnText, Passes, Trace}
use Rattle.qna_parts.proofs.Ends.{if_some}
use Rattle.compile_workers.specs.DeskEnd.{Ends, IsDeskEnd, PassesLimit}
use Rattle.compile_workers.specs.Parties.{AreServed}
use Rattle.compile_workers.specs.Served.{IsPartlyServed, IsServed}
use Rattle.compile_workers.specs.Serving.{HasAdded, HasPart, HasWhole}
use Rattle.compile_workers.specs.declared.desk.DeskEnd.{DeskEnd}
use Rattle.compile_workers.specs.declared.desk.DeskEnd.TheVariants.{Ended, Memory as Wanting}
use Rattle.qna_live.specs.Opening.{DeskTraces}
use Rattle.qna_live.specs.Live.{AreDesksServed, Holds, IsDeskServed, IsJournalKept, IsOpenedOnce, IsTextWritten}
use Rattle.qna_live.proofs.Carried.{AreCarried, IsCarried, IsInputBack, IsOutputBack, created-once, rose-capped}
use Rattle.qna_live.proofs.Statuses.{all_ends}

-- ---- the input

-- the bytes that stood there are those that the source had left
on-text : (file : Trace) (given back : Stock) (P : List ℕ → Type 0) → IsInputBack file given back → OnLeft given P → OnText file P
on-text file given back P carried fact tells = subst (λ (o : Option (List ℕ)). IfSome o P) (carried.left tells).0 fact

-- with what the source had left when it came back
on-both : (file : Trace) (given back : Stock) (P : List ℕ → ℕ → Type 0) → IsInputBack file given back → WasRead given back → OnLeftAndRest given back (λ text rest. P text (length rest)) → OnText file (λ text. P text file.new.rest)
on-both file given back P carried read fact tells = subst (λ (o : Option (List ℕ)). IfSome o (λ text. P text file.new.rest)) (carried.left tells).0 (both given.left back.left read.still_told (carried.rest tells) fact)
  where
    both : (left rest : Option (List ℕ)) → IfSome left (λ text. IsSome rest) → IfSome rest (λ bytes. file.new.rest ≡ length bytes) → IfSome left (λ text. IfSome rest (λ bytes. P text (length bytes))) → IfSome left (λ text. P text file.new.rest)
    both None rest still noted told = tt
    both (Some text) None still noted told = absurd (let no = still in cc)
    both (Some text) (Some bytes) still noted told = subst (P text) (sym noted) told

opened-once : (file : Trace) (given back : Stock) → IsInputBack file given back → IsOpenedOnce file
opened-once file given back carried =
    carried.once ∙ ap (λ (n : ℕ). record file.old { reads = n; sources = file.old.sources + 1; rest = file.new.rest }) (sym (ap (λ (s : Shelf). s.reads) carried.once))

reads-of : (file : Trace) (given back : Stock) → IsInputBack file given back → file.new.reads ≡ capped file.old.reads back.faults
reads-of file given back carried = ap (λ (s : Shelf). s.reads) carried.once

writes-of : (file : Trace) (given back : Paper) → IsOutputBack file given back → file.new.writes ≡ capped file.old.writes back.faults
writes-of file given back carried = ap (λ (s : Shelf). s.writes) carried.once

stands-at : (count new faults none : ℕ) → new ≡ capped count faults → none ≡ 0 → faults ≡ none → new ≡ count
stands-at count new faults none is nothing same = is ∙ capped_none count faults (same ∙ nothing)

rises-at : (count new faults none : ℕ) → new ≡ capped count faults → none ≡ 0 → Rose none faults → Rose count new
rises-at count new faults none is nothing rose = subst (Rose count) (sym is) (rose-capped count faults none nothing rose)

read-whole : (file : Trace) (given back : Stock) → IsInputBack file given back → WasRead given back → back.faults ≡ given.faults → OnLeft given (λ text. (length text ≤ most_bytes) × (back.left ≡ Some [])) → IsReadWhole most_bytes file
read-whole file given back carried read quiet ended = record {
  once = carried.once ∙ ap (λ (n : ℕ). record file.old { reads = n; sources = file.old.sources + 1; rest = file.new.rest }) (capped_none file.old.reads back.faults (quiet ∙ carried.none));
  stands = λ tells. subst (λ (o : Option (List ℕ)). IsSome o) (carried.left tells).0 (carried.left tells).1;
  whole = λ tells. subst (λ (o : Option (List ℕ)). IfSome o (λ text. (length text ≤ most_bytes) × (file.new.rest ≡ 0))) (carried.left tells).0
      (if_some given.left (λ text done. (done.0, none_left back.left done.1 (carried.rest tells))) ended);
}
  where
    none_left : (left : Option (List ℕ)) → left ≡ Some [] → IfSome left (λ bytes. file.new.rest ≡ length bytes) → file.new.rest ≡ 0
    none_left left is noted = rw is at noted

-- ---- the output

-- what was added to an empty sink stands in the file
holds-added : (file : Trace) (given back : Paper) (text : List ℕ) (P : List ℕ → Type 0) → IsOutputBack file given back → back.held ≡ option_map (λ bytes. bytes ++ text) given.held → P text → Holds file P
holds-added file given back text P carried grew fact tells =
    let stands : file.new.file ≡ Some text = carried.kept tells ∙ grew ∙ ap (option_map (λ bytes. bytes ++ text)) (carried.held tells) in
    subst (λ (o : Option (List ℕ)). IsSomeAnd o P) (sym stands) fact

holds-whole : (plan : PlanShape) (party : ℕ) (lines : List TextLine) (file : Trace) (given back : Paper) (sent : List Sent) → IsOutputBack file given back → HasWhole plan party lines given back sent → Holds file (λ answers. IsServed plan party lines answers sent)
holds-whole plan party lines file given back sent carried whole =
    holds-added file given back whole.text (λ answers. IsServed plan party lines answers sent) carried (ap (λ (p : Paper). p.held) whole.written) whole.served

holds-part : (plan : PlanShape) (party : ℕ) (lines : List TextLine) (file : Trace) (given back : Paper) (sent : List Sent) → IsOutputBack file given back → HasPart plan party lines given back sent → Holds file (λ answers. IsPartlyServed plan party lines answers sent)
holds-part plan party lines file given back sent carried part =
    holds-added file given back part.text (λ answers. IsPartlyServed plan party lines answers sent) carried (ap (λ (p : Paper). p.held) part.written.added) part.served

-- ---- a desk

-- what a desk's end says of its source and its sink, it says of its files
pub desk-served : (plan : PlanShape) (party : ℕ) (desk : DeskTraces) (old new : Ends) (end : DeskEnd) (sent : List Sent) → IsCarried desk old new → IsDeskEnd plan party old new end sent → IsDeskServed plan party desk end sent
desk-served plan party desk old new end sent carried served = record {
  whole = λ is. on-text desk.input old.source new.source (λ text. Holds desk.output (λ answers. IsServed plan party (lines_of text) answers sent)) carried.input
      (if_some old.source.left (λ text whole. holds-whole plan party (lines_of text) desk.output old.sink new.sink sent carried.output whole) (served.whole is));
  taken = λ is. read-whole desk.input old.source new.source carried.input served.only_read (served.taken is).0 (served.taken is).1;
  part = on-text desk.input old.source new.source (λ text. Holds desk.output (λ answers. IsPartlyServed plan party (lines_of text) answers sent)) carried.input
      (if_some old.source.left (λ text part. holds-part plan party (lines_of text) desk.output old.sink new.sink sent carried.output part) served.part);
  read = λ is. on-both desk.input old.source new.source (λ text rest. Holds desk.output (λ answers. IsServed plan party (ended_lines (take (length text - rest) text)) answers sent)) carried.input served.only_read
      (if_some old.source.left (λ text more. if_some new.source.left (λ rest whole. holds-whole plan party (ended_lines (take (length text - length rest) text)) desk.output old.sink new.sink sent carried.output whole) more) (served.read is));
  within = λ is. on-both desk.input old.source new.source (λ text rest. length text ≤ most_bytes + rest) carried.input served.only_read (served.within is);
  passed = λ is. on-both desk.input old.source new.source (λ text rest. Passes most_bytes 65536 (length text) rest) carried.input served.only_read (served.passed is);
  passed_whole = λ is. on-text desk.input old.source new.source (λ text. Holds desk.output (λ answers. IsServed plan party (ended_lines (take most_bytes text)) answers sent)) carried.input
      (if_some old.source.left (λ text whole. holds-whole plan party (ended_lines (take most_bytes text)) desk.output old.sink new.sink sent carried.output whole) (served.passed_whole is));
  read_failed = λ is. rises-at desk.input.old.reads desk.input.new.reads new.source.faults old.source.faults (reads-of desk.input old.source new.source carried.input) carried.input.none (served.read_failed is);
  write_failed = λ is. rises-at desk.output.old.writes desk.output.new.writes new.sink.faults old.sink.faults (writes-of desk.output old.sink new.sink carried.output) carried.output.none (served.write_failed is);
  read_stands = λ is. stands-at desk.input.old.reads desk.input.new.reads new.source.faults old.source.faults (reads-of desk.input old.source new.source carried.input) carried.input.none (served.read_stands is);
  write_stands = λ is. stands-at desk.output.old.writes desk.output.new.writes new.sink.faults old.sink.faults (writes-of desk.output old.sink new.sink carried.output) carried.output.none (served.write_stands is);
  stood = λ tells. subst (λ (o : Option (List ℕ)). IsSome o) (carried.input.left tells).0 (carried.input.left tells).1;
  opened = opened-once desk.input old.source new.source carried.input;
  created = created-once desk.output old.sink new.sink carried.output;
}

-- all desks
pub desks-served : (plan : PlanShape) (sent : List Sent) (party : ℕ) (desks : List DeskTraces) (olds news : List Ends) (ends : List DeskEnd) → AreCarried desks olds news → AreServed plan sent party olds news ends →
    AreDesksServed plan sent party desks (all_ends desks ends)
desks-served plan sent party [] [] [] [] carried served = tt
desks-served plan sent party [] [] [] (end ∷ ends) carried served = absurd served
desks-served plan sent party [] [] (new ∷ news) ends carried served = absurd carried
desks-served plan sent party [] (old ∷ olds) news ends carried served = absurd carried
desks-served plan sent party (desk ∷ desks) [] news ends carried served = absurd carried
desks-served plan sent party (desk ∷ desks) (old ∷ olds) [] ends carried served = absurd carried
desks-served plan sent party (desk ∷ desks) (old ∷ olds) (new ∷ news) [] carried served =
    (desk-served plan party desk old new Wanting sent carried.0 served.1, desks-served plan sent (party + 1) desks olds news [] carried.1 served.2)
desks-served plan sent party (desk ∷ desks) (old ∷ olds) (new ∷ news) (end ∷ ends) carried served =
    (desk-served plan party desk old new end sent carried.0 served.0, desks-served plan sent (party + 1) desks olds news ends carried.1 served.1)

-- ---- the journal

holds-broken : (file : Trace) (given back : Paper) (text : List ℕ) → IsOutputBack file given back → BreaksOff given back text → IsTrue file.tells → HoldsPart file.new.file text
unfolding HoldsPart
holds-broken file given back text carried off tells = (
  off.part.0,
  off.part.1,
  carried.kept tells ∙ ap (λ (p : Paper). p.held) off.part.2 ∙ ap (option_map (λ bytes. bytes ++ take off.part.0 text)) (carried.held tells),
)

-- what was written to the journal's sink stands in its file
pub journal-kept : (text : List ℕ) (file : Trace) (given back : Paper) (written : Status) → IsOutputBack file given back → IsTextWritten text given back written → IsJournalKept text file written
journal-kept text file given back written carried is = record {
  whole = λ done tells. carried.kept tells ∙ ap (λ (p : Paper). p.held) (is.whole done) ∙ ap (option_map (λ bytes. bytes ++ text)) (carried.held tells);
  cut = λ cut tells. holds-broken file given back text carried (is.cut cut) tells;
  wanting = λ wants tells. elim (is.wanting wants) [
    | inl same ↦ inl (carried.kept tells ∙ ap (λ (p : Paper). p.held) same ∙ carried.held tells)
    | inr off ↦ inr (holds-broken file given back text carried off tells)
  ];
  failed = λ cut. rises-at file.old.writes file.new.writes back.faults given.faults (writes-of file given back carried) carried.none (is.failed cut);
  stands = λ one. stands-at file.old.writes file.new.writes back.faults given.faults (writes-of file given back carried) carried.none (is.stands one);
  ends = is.ends;
  created = created-once file given back carried;
}
