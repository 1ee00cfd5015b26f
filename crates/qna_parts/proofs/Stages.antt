-- How far an input is taken after each read.
use Rattle.std.proofs.Common.{◌≡◌, ◌+◌, ◌∙◌, ℕ, true, false, List, [], ◌++◌, length, None, refl, sym, ap, inl, inr}
use Rattle.qna_edges.specs.Paper.{Paper, grown, BreaksOff}
use Rattle.qna_edges.proofs.Paper.{broken_first, broken_second, refuses_from, grown_nothing}
use Rattle.qna_parts.specs.Intake.{Stops, Breaks}
use Rattle.line_form.specs.Lines.{TextLine, Cutting, IsCutOf, ended_lines, lines_of}
use Rattle.line_form.proofs.CutLines.{nothing_cut}
use Rattle.series_tables.specs.Plan.{PlanShape}
use Rattle.series_tables.specs.LastValue.{last_from}
use Rattle.series_tables.specs.Cells.{Rows, cell}
use Rattle.series_tables.specs.declared.input.Kind.{Kind}
use Rattle.input_rules.specs.Accepted.{accepted_of, refusals_after, refusals}
use Rattle.input_rules.proofs.MoreLines.{accepted_of_none, refusals_of_none}
use Rattle.qna_parts.specs.Intake.{refusal_lines, accepted_after, HasTaken, IsTakenTo, refusals_text, ended_refusals_text}
use Rattle.qna_parts.proofs.Streams.{lines_of-front}
use Rattle.qna_parts.proofs.Taking.{taken_more, reported_more}

-- the ended lines of no bytes
no_lines : ended_lines [] ≡ []
no_lines = sym nothing_cut.lines

-- the lines so far of a stream that goes on, and all lines of one that ended
lines_so_far : (state : Cutting) (stream : List ℕ) (handed : List TextLine) → IsCutOf state stream handed → state.ended ≡ false → handed ++ state.waiting ≡ ended_lines stream
lines_so_far state stream handed cut goes_on = rw goes_on at cut.lines

all_lines : (state : Cutting) (stream : List ℕ) (handed : List TextLine) → IsCutOf state stream handed → state.ended ≡ true → handed ++ state.waiting ≡ lines_of stream
all_lines state stream handed cut ended = rw ended at cut.lines

-- where nothing came, no line waits and nothing was taken
pub nothing_waits : (state : Cutting) → IsCutOf state [] [] → state.ended ≡ false → state.waiting ≡ []
nothing_waits state cut goes_on = lines_so_far state [] [] cut goes_on ∙ no_lines

pub nothing_taken : (plan : PlanShape) (state : Cutting) (rows : Rows) → IsCutOf state [] [] → ((kind : Kind) (leaf period : ℕ) → cell rows kind leaf period ≡ None) → IsTakenTo plan [] state rows 0
nothing_taken plan state rows cut empty = record {
  cut = rw no_lines cut;
  taken = rw no_lines (record {
    counted = rw (accepted_of_none plan) refl;
    cells = λ kind leaf period. rw (accepted_of_none plan) (empty kind leaf period);
  });
}

pub nothing_reported : (plan : PlanShape) → ended_refusals_text plan [] ≡ []
unfolding ended_refusals_text refusal_lines
nothing_reported plan = rw (no_lines, refusals_of_none plan) refl

-- what all of an input reports begins with what a beginning of it reports
pub refusals-front : (plan : PlanShape) (xs ys : List ℕ) → (more : List ℕ) × (refusals_text plan (xs ++ ys) ≡ ended_refusals_text plan xs ++ more)
unfolding ended_refusals_text refusals_text refusals
refusals-front plan xs ys =
    let front = lines_of-front xs ys in
    (refusal_lines (refusals_after plan (length (accepted_of plan (ended_lines xs))) front.0), rw front.1 (reported_more plan (ended_lines xs) front.0 _ refl))

-- a report that grew, and then stopped, stopped within both
pub stopped_after : (origin mid new : Paper) (text more whole : List ℕ) → mid ≡ grown origin text → whole ≡ text ++ more → Stops mid new [] more → Stops origin new text whole
stopped_after origin mid new text more whole first is stopped = elim stopped [
  | inl same ↦ inl (same ∙ sym (grown_nothing mid) ∙ first)
  | inr off ↦ inr (refuses_from origin mid new text first off.0, rw is (broken_second origin mid new text more first off.1))
]

-- and one that failed
pub breaks_after : (origin mid new : Paper) (text more whole : List ℕ) → mid ≡ grown origin text → whole ≡ text ++ more → Breaks mid new more → Breaks origin new whole
breaks_after origin mid new text more whole first is broken =
    let counted : mid.faults ≡ origin.faults = ap (λ (p : Paper). p.faults) first in
    (rw counted at broken.0, rw is (broken_second origin mid new text more first broken.1))

-- a report that was broken off within what a beginning reports was broken off within what all reports
pub broken_within : (plan : PlanShape) (origin new : Paper) (xs ys : List ℕ) → BreaksOff origin new (ended_refusals_text plan xs) → BreaksOff origin new (refusals_text plan (xs ++ ys))
broken_within plan origin new xs ys off =
    let front = refusals-front plan xs ys in
    rw front.1 (broken_first origin new (ended_refusals_text plan xs) front.0 off)

-- a piece more was taken
pub piece_taken : (plan : PlanShape) (stream piece : List ℕ) (was fed now : Cutting) (old new : Rows) (before next : ℕ) → IsTakenTo plan stream was old before →
    IsCutOf fed (stream ++ piece) (ended_lines stream) → fed.ended ≡ false → IsCutOf now (stream ++ piece) (ended_lines stream ++ fed.waiting) →
    next ≡ before + length (accepted_after plan before fed.waiting) →
    ((kind : Kind) (leaf period : ℕ) → cell new kind leaf period ≡ last_from (cell old kind leaf period) (accepted_after plan before fed.waiting) kind leaf period) →
    IsTakenTo plan (stream ++ piece) now new next
piece_taken plan stream piece was fed now old new before next had cut goes_on handed counted cells =
    let all : ended_lines stream ++ fed.waiting ≡ ended_lines (stream ++ piece) = lines_so_far fed (stream ++ piece) (ended_lines stream) cut goes_on in
    record {
      cut = rw all at handed;
      taken = rw all at (taken_more plan (ended_lines stream) fed.waiting old new before next had.taken counted cells);
    }

-- what is reported with a piece more
pub piece_reported : (plan : PlanShape) (stream piece : List ℕ) (was fed : Cutting) (old : Rows) (before : ℕ) → IsTakenTo plan stream was old before →
    IsCutOf fed (stream ++ piece) (ended_lines stream) → fed.ended ≡ false →
    ended_refusals_text plan (stream ++ piece) ≡ ended_refusals_text plan stream ++ refusal_lines (refusals_after plan before fed.waiting)
unfolding ended_refusals_text
piece_reported plan stream piece was fed old before had cut goes_on =
    let all : ended_lines stream ++ fed.waiting ≡ ended_lines (stream ++ piece) = lines_so_far fed (stream ++ piece) (ended_lines stream) cut goes_on in
    rw all at (reported_more plan (ended_lines stream) fed.waiting before had.taken.counted)

-- the end was taken
pub end_taken : (plan : PlanShape) (stream : List ℕ) (was fed : Cutting) (old new : Rows) (before next : ℕ) → IsTakenTo plan stream was old before →
    IsCutOf fed stream (ended_lines stream) → fed.ended ≡ true → next ≡ before + length (accepted_after plan before fed.waiting) →
    ((kind : Kind) (leaf period : ℕ) → cell new kind leaf period ≡ last_from (cell old kind leaf period) (accepted_after plan before fed.waiting) kind leaf period) →
    HasTaken plan (lines_of stream) new next
end_taken plan stream was fed old new before next had cut ended counted cells =
    let all : ended_lines stream ++ fed.waiting ≡ lines_of stream = all_lines fed stream (ended_lines stream) cut ended in
    rw all at (taken_more plan (ended_lines stream) fed.waiting old new before next had.taken counted cells)

pub end_reported : (plan : PlanShape) (stream : List ℕ) (was fed : Cutting) (old : Rows) (before : ℕ) → IsTakenTo plan stream was old before →
    IsCutOf fed stream (ended_lines stream) → fed.ended ≡ true →
    refusals_text plan stream ≡ ended_refusals_text plan stream ++ refusal_lines (refusals_after plan before fed.waiting)
unfolding ended_refusals_text refusals_text refusals
end_reported plan stream was fed old before had cut ended =
    let all : ended_lines stream ++ fed.waiting ≡ lines_of stream = all_lines fed stream (ended_lines stream) cut ended in
    rw all at (reported_more plan (ended_lines stream) fed.waiting before had.taken.counted)
