-- What was read of an input, and what is then known of its report.
use Rattle.std.proofs.Common.{◌≡◌, ◌≤◌, ◌<◌, ◌+◌, ◌-◌, ◌∙◌, ℕ, List, [], ◌++◌, length, take, drop, Option, Some, None, refl, sym, ap, subst, inl, inr, arith, length-drop, length-append}
use Rattle.std.specs.Prelude.{◌≢◌, IfSome, Result, Ok, Err, OnOk, IfErr, IsErrOf}
use Rattle.std.specs.Io.KnownBytes.{Keeps, Consumes, IsAtEnd}
use Rattle.std.proofs.lemmas.List.{take_all, take-append-drop, take-append-le, take-take, length-take-le, drop-drop}
use Rattle.std.proofs.Math.Seq.{take-add, drop-append_seam}
use Rattle.qna_edges.specs.Paper.{Paper, grown, BreaksOff, Writes}
use Rattle.qna_edges.proofs.Paper.{grown_nothing}
use Rattle.line_form.specs.Lines.{Cutting}
use Rattle.series_tables.specs.Plan.{PlanShape}
use Rattle.series_tables.specs.Cells.{Rows}
use Rattle.input_rules.specs.Accepted.{RefusedLine, accepted_of, refusals_of, refusals_after, refusals}
use Rattle.input_rules.proofs.MoreLines.{refusals_of-append}
use Rattle.line_form.specs.Lines.{ended_lines, lines_of}
use Rattle.qna_parts.specs.declared.intake.Untaken.{Untaken}
use Rattle.qna_parts.specs.declared.intake.Untaken.TheVariants as untaken
use Rattle.qna_parts.specs.Intake.{Stops, Breaks, IsTakenTo, refusal_lines, refusals_text, ended_refusals_text}
use Rattle.qna_parts.specs.Report.{ReportsFirst}
use Rattle.qna_parts.specs.Trace.{Passes}
use Rattle.qna_parts.proofs.Streams.{lines_of-front}
use Rattle.qna_parts.proofs.Stages.{nothing_reported, broken_within}

-- so many bytes of an input were read and taken, and their refused lines reported
abbrev pub IsReadTo : PlanShape → Option (List ℕ) → Option (List ℕ) → Paper → Paper → ℕ → Cutting → Rows → ℕ → Type 0
IsReadTo plan all left before now size lines rows count =
    IfSome all (λ text.
    (left ≡ Some (drop size text))
    × (size ≤ length text)
    × IsTakenTo plan (take size text) lines rows count
    × (now ≡ grown before (ended_refusals_text plan (take size text))))

-- nothing was read yet
pub read_begun : (plan : PlanShape) (all : Option (List ℕ)) (held : Paper) (lines : Cutting) (rows : Rows) (count : ℕ) → IsTakenTo plan [] lines rows count → IsReadTo plan all all held held 0 lines rows count
read_begun plan None held lines rows count taken = tt
read_begun plan (Some text) held lines rows count taken = (refl, omega arith, taken, rw (nothing_reported plan) (grown_nothing held))

-- what a read took of the rest of a text
rest_read : (text : List ℕ) (size n : ℕ) (got rest : List ℕ) → size ≤ length text → length got ≡ n → drop size text ≡ got ++ rest →
    (rest ≡ drop (size + n) text) × (size + n ≤ length text)
rest_read text size n got rest within long parted =
    let all : length (drop size text) ≡ n + length rest = ap length parted ∙ length-append got rest ∙ ap (λ z. z + length rest) long in
    let left : length (drop size text) ≡ length text - size = length-drop size text in
    (sym (behind got rest n long) ∙ sym (ap (drop n) parted) ∙ drop-drop n size text, omega arith)
  where
    behind : (xs ys : List ℕ) (k : ℕ) → length xs ≡ k → drop k (xs ++ ys) ≡ ys
    behind xs ys k same = rw (← same) (drop-append_seam xs ys)

-- where nothing is left, all was read
pub at_end : (plan : PlanShape) (all left new : Option (List ℕ)) (before now : Paper) (size : ℕ) (lines : Cutting) (rows : Rows) (count n : ℕ) (buffer : List ℕ) (P : List ℕ → Type 0) →
    IsReadTo plan all left before now size lines rows count → n ≡ 0 → 0 < length buffer → Consumes left new (take n buffer) → (n ≡ 0 → 0 < length buffer → IsAtEnd new) →
    ((text : List ℕ) → size ≡ length text → IsTakenTo plan text lines rows count → now ≡ grown before (ended_refusals_text plan text) → P text) → IfSome all P
at_end plan None left new before now size lines rows count n buffer P read none room taken ended then = tt
at_end plan (Some text) left new before now size lines rows count n buffer P read none room taken ended then =
    let nothing : Consumes left new [] = rw none at taken in
    let rest : drop size text ≡ [] = by_new new (subst (λ (o : Option (List ℕ)). Consumes o new []) read.0 nothing) (ended none room) in
    let short : length text - size ≡ 0 = sym (length-drop size text) ∙ ap length rest in
    let whole : take size text ≡ text = take_all size text (omega arith) in
    then text (omega (arith, short, read.1)) (subst (λ (xs : List ℕ). IsTakenTo plan xs lines rows count) whole read.2) (subst (λ (xs : List ℕ). now ≡ grown before (ended_refusals_text plan xs)) whole read.3)
  where
    by_new : (o : Option (List ℕ)) → Consumes (Some (drop size text)) o [] → IsAtEnd o → drop size text ≡ []
    by_new None consumed end = absurd consumed
    by_new (Some ys) consumed end = consumed ∙ end

-- what follows where a read gave a piece
pub with_piece : (plan : PlanShape) (all left new : Option (List ℕ)) (before now : Paper) (size n fits : ℕ) (buffer : List ℕ) (lines : Cutting) (rows : Rows) (count : ℕ) (P : List ℕ → Type 0) →
    IsReadTo plan all left before now size lines rows count → Consumes left new (take n buffer) → n ≤ length buffer → fits ≤ n →
    ((text : List ℕ) → new ≡ Some (drop (size + n) text) → size + n ≤ length text → take size text ++ take fits buffer ≡ take (size + fits) text →
    IsTakenTo plan (take size text) lines rows count → now ≡ grown before (ended_refusals_text plan (take size text)) → P text) →
    IfSome all P
with_piece plan None left new before now size n fits buffer lines rows count P read taken room some then = tt
with_piece plan (Some text) left new before now size n fits buffer lines rows count P read taken room some then =
    by_new new refl (subst (λ (o : Option (List ℕ)). Consumes o new (take n buffer)) read.0 taken)
  where
    by_new : (o : Option (List ℕ)) → new ≡ o → Consumes (Some (drop size text)) o (take n buffer) → P text
    by_new None is consumed = absurd consumed
    by_new (Some rest) is consumed =
        let long : length (take n buffer) ≡ n = length-take-le n buffer room in
        let moved = rest_read text size n (take n buffer) rest read.1 long consumed in
        let got : take fits (drop size text) ≡ take fits buffer = ap (take fits) consumed ∙ take-append-le fits (take n buffer) rest (omega (arith, long)) ∙ take-take fits n buffer some in
        then text (is ∙ ap (λ (xs : List ℕ). Some xs) moved.0) moved.1 (ap (λ xs. take size text ++ xs) (sym got) ∙ sym (take-add size fits text)) read.2 read.3

-- what is reported where a read failed
pub read_failed : (plan : PlanShape) (all left new : Option (List ℕ)) (before now : Paper) (size : ℕ) (lines : Cutting) (rows : Rows) (count : ℕ) →
    IsReadTo plan all left before now size lines rows count → Keeps left new →
    IfSome all (λ text. IfSome new (λ rest. now ≡ grown before (ended_refusals_text plan (take (length text - length rest) text))))
read_failed plan None left new before now size lines rows count read kept = tt
read_failed plan (Some text) left new before now size lines rows count read kept = by_new new (subst (λ (o : Option (List ℕ)). Keeps o new) read.0 kept)
  where
    by_new : (o : Option (List ℕ)) → Keeps (Some (drop size text)) o → IfSome o (λ rest. now ≡ grown before (ended_refusals_text plan (take (length text - length rest) text)))
    by_new None same = tt
    by_new (Some rest) same =
        let left_over : length rest ≡ length text - size = ap length same ∙ length-drop size text in
        let taken : length text - length rest ≡ size = omega (arith, left_over, read.1) in
        rw taken read.3

-- what a beginning of an input reports is what its first refused lines are
first_reported : (plan : PlanShape) (before now : Paper) (xs ys : List ℕ) → now ≡ grown before (ended_refusals_text plan xs) → (n : ℕ) × (now ≡ grown before (refusal_lines (take n (refusals plan (xs ++ ys)))))
unfolding ended_refusals_text refusals
first_reported plan before now xs ys grew =
    let front = lines_of-front xs ys in
    let first : List RefusedLine = refusals_of plan (ended_lines xs) in
    let more : List RefusedLine = refusals_after plan (length (accepted_of plan (ended_lines xs))) front.0 in
    let all : refusals_of plan (lines_of (xs ++ ys)) ≡ first ++ more = rw front.1 (refusals_of-append plan (ended_lines xs) front.0) in
    let same : take (length first) (refusals_of plan (lines_of (xs ++ ys))) ≡ first = ap (λ (zs : List RefusedLine). take (length first) zs) all ∙ take-append-le (length first) first more (omega arith) ∙ take_all (length first) first (omega arith) in
    (length first, grew ∙ ap (λ (zs : List RefusedLine). grown before (refusal_lines zs)) (sym same))

-- however far an input was read, the report is that of its first refused lines
reports_first : (plan : PlanShape) (before now : Paper) (n : ℕ) (text : List ℕ) → now ≡ grown before (ended_refusals_text plan (take n text)) → ReportsFirst plan before now text
reports_first plan before now n text grew =
    inl (subst (λ (zs : List ℕ). (k : ℕ) × (now ≡ grown before (refusal_lines (take k (refusals plan zs))))) (take-append-drop n text) (first_reported plan before now (take n text) (drop n text) grew))

-- a report that has each refused line has the first ones
pub reports_all : (plan : PlanShape) (before now : Paper) (text : List ℕ) → now ≡ grown before (refusals_text plan text) → ReportsFirst plan before now text
unfolding refusals_text
reports_all plan before now text grew =
    inl (length (refusals plan text), grew ∙ ap (λ (zs : List RefusedLine). grown before (refusal_lines zs)) (sym (take_all (length (refusals plan text)) (refusals plan text) (omega arith))))

-- what the first bytes of an input break off, all of it does
broken_front : (plan : PlanShape) (before now : Paper) (n : ℕ) (text : List ℕ) → BreaksOff before now (ended_refusals_text plan (take n text)) → BreaksOff before now (refusals_text plan text)
broken_front plan before now n text off =
    subst (λ (zs : List ℕ). BreaksOff before now (refusals_text plan zs)) (take-append-drop n text) (broken_within plan before now (take n text) (drop n text) off)

-- a report that stopped within the lines of a piece, or of the end
pub stopped_piece : (plan : PlanShape) (before now : Paper) (size : ℕ) (xs : List ℕ) (n : ℕ) (text : List ℕ) → xs ≡ take n text →
    Stops before now (ended_refusals_text plan (take size text)) (ended_refusals_text plan xs) → ReportsFirst plan before now text
stopped_piece plan before now size xs n text same stopped = elim stopped [
  | inl whole ↦ reports_first plan before now size text whole
  | inr off ↦ inr (off.0, broken_front plan before now n text (subst (λ (zs : List ℕ). BreaksOff before now (ended_refusals_text plan zs)) same off.1))
]

pub stopped_end : (plan : PlanShape) (before now : Paper) (text : List ℕ) → Stops before now (ended_refusals_text plan text) (refusals_text plan text) → ReportsFirst plan before now text
stopped_end plan before now text stopped = elim stopped [
  | inl whole ↦ reports_first plan before now (length text) text (whole ∙ ap (λ (zs : List ℕ). grown before (ended_refusals_text plan zs)) (sym (take_all (length text) text (omega arith))))
  | inr off ↦ inr off
]

-- a report that failed within the lines of a piece
pub broken_piece : (plan : PlanShape) (before now : Paper) (xs : List ℕ) (n : ℕ) (text : List ℕ) → xs ≡ take n text → Breaks before now (ended_refusals_text plan xs) → BreaksOff before now (refusals_text plan text)
broken_piece plan before now xs n text same broken = broken_front plan before now n text (subst (λ (zs : List ℕ). BreaksOff before now (ended_refusals_text plan zs)) same broken.1)

-- the lines of a piece that passes the limit, whether the report took them or failed
pub passed_piece : {T : Type 0} (result : Result T Untaken) (plan : PlanShape) (before now : Paper) (xs ys : List ℕ) → xs ≡ ys → IfErr result (λ why. why ≢ untaken.Memory) → IfErr result (λ why. (why ≢ untaken.Read) × (why ≢ untaken.TooMuch)) →
    OnOk result (now ≡ grown before (ended_refusals_text plan xs)) → (IsErrOf result untaken.Report → Breaks before now (ended_refusals_text plan xs)) → Writes before now (ended_refusals_text plan ys)
passed_piece (Ok value) plan before now xs ys same some others whole broken = inl (subst (λ (zs : List ℕ). now ≡ grown before (ended_refusals_text plan zs)) same whole)
passed_piece (Err untaken.Memory) plan before now xs ys same some others whole broken = absurd (some refl)
passed_piece (Err untaken.Read) plan before now xs ys same some others whole broken = absurd (others.0 refl)
passed_piece (Err untaken.TooMuch) plan before now xs ys same some others whole broken = absurd (others.1 refl)
passed_piece (Err untaken.Report) plan before now xs ys same some others whole broken =
    let off : Breaks before now (ended_refusals_text plan ys) = subst (λ (zs : List ℕ). Breaks before now (ended_refusals_text plan zs)) same (broken refl) in
    inr (inl off.0, off.1)

-- the same of an equal text
pub taken_of : (plan : PlanShape) (lines : Cutting) (rows : Rows) (count : ℕ) (xs ys : List ℕ) → xs ≡ ys → IsTakenTo plan xs lines rows count → IsTakenTo plan ys lines rows count
taken_of plan lines rows count xs ys same taken = subst (λ (zs : List ℕ). IsTakenTo plan zs lines rows count) same taken

pub grown_of : (plan : PlanShape) (before now : Paper) (xs ys : List ℕ) → xs ≡ ys → now ≡ grown before (ended_refusals_text plan xs) → now ≡ grown before (ended_refusals_text plan ys)
grown_of plan before now xs ys same grew = subst (λ (zs : List ℕ). now ≡ grown before (ended_refusals_text plan zs)) same grew

-- no more bytes than a limit, where so many are left
pub within_limit : (all left new : Option (List ℕ)) (plan : PlanShape) (before now : Paper) (size limit : ℕ) (lines : Cutting) (rows : Rows) (count : ℕ) →
    IsReadTo plan all left before now size lines rows count → size ≤ limit → Keeps left new → IfSome all (λ text. IfSome new (λ rest. length text ≤ limit + length rest))
within_limit None left new plan before now size limit lines rows count read few kept = tt
within_limit (Some text) left new plan before now size limit lines rows count read few kept = by_new new (subst (λ (o : Option (List ℕ)). Keeps o new) read.0 kept)
  where
    by_new : (o : Option (List ℕ)) → Keeps (Some (drop size text)) o → IfSome o (λ rest. length text ≤ limit + length rest)
    by_new None same = tt
    by_new (Some rest) same = let left_over : length rest ≡ length text - size = ap length same ∙ length-drop size text in omega (arith, left_over, few)

-- where all was read, as many as the limit at most, nothing is left
pub at_end_left : (plan : PlanShape) (all left new : Option (List ℕ)) (before now : Paper) (size limit : ℕ) (lines : Cutting) (rows : Rows) (count n : ℕ) (buffer : List ℕ) →
    IsReadTo plan all left before now size lines rows count → size ≤ limit → n ≡ 0 → 0 < length buffer → Consumes left new (take n buffer) → (n ≡ 0 → 0 < length buffer → IsAtEnd new) →
    IfSome all (λ text. (length text ≤ limit) × (new ≡ Some []))
at_end_left plan None left new before now size limit lines rows count n buffer read few none room taken ended = tt
at_end_left plan (Some text) left new before now size limit lines rows count n buffer read few none room taken ended =
    let nothing : Consumes left new [] = rw none at taken in
    let gone : Consumes (Some (drop size text)) new [] = subst (λ (o : Option (List ℕ)). Consumes o new []) read.0 nothing in
    let end : new ≡ Some [] = by_new new gone (ended none room) in
    let rest : drop size text ≡ [] = by_rest new gone (ended none room) in
    let short : length text - size ≡ 0 = sym (length-drop size text) ∙ ap length rest in
    (omega (arith, short, few), end)
  where
    by_new : (o : Option (List ℕ)) → Consumes (Some (drop size text)) o [] → IsAtEnd o → o ≡ Some []
    by_new None consumed end = absurd consumed
    by_new (Some ys) consumed end = ap (λ (zs : List ℕ). Some zs) end

    by_rest : (o : Option (List ℕ)) → Consumes (Some (drop size text)) o [] → IsAtEnd o → drop size text ≡ []
    by_rest None consumed end = absurd consumed
    by_rest (Some ys) consumed end = consumed ∙ end

pub at_end_within : (plan : PlanShape) (all left new : Option (List ℕ)) (before now : Paper) (size limit : ℕ) (lines : Cutting) (rows : Rows) (count n : ℕ) (buffer : List ℕ) →
    IsReadTo plan all left before now size lines rows count → size ≤ limit → n ≡ 0 → 0 < length buffer → Consumes left new (take n buffer) → (n ≡ 0 → 0 < length buffer → IsAtEnd new) →
    IfSome all (λ text. IfSome new (λ rest. length text ≤ limit + length rest))
at_end_within plan all left new before now size limit lines rows count n buffer read few none room taken ended =
    by_all all (at_end_left plan all left new before now size limit lines rows count n buffer read few none room taken ended)
  where
    by_new : (o : Option (List ℕ)) (text : List ℕ) → length text ≤ limit → IfSome o (λ rest. length text ≤ limit + length rest)
    by_new None text few = tt
    by_new (Some rest) text few = omega (arith, few)

    by_all : (o : Option (List ℕ)) → IfSome o (λ text. (length text ≤ limit) × (new ≡ Some [])) → IfSome o (λ text. IfSome new (λ rest. length text ≤ limit + length rest))
    by_all None fact = tt
    by_all (Some text) fact = by_new new text fact.0

-- no more than a limit was taken, where so many are left
pub below_limit : (new : Option (List ℕ)) (limit taken : ℕ) (text : List ℕ) → new ≡ Some (drop taken text) → taken ≤ limit → taken ≤ length text → IfSome new (λ rest. length text ≤ limit + length rest)
below_limit new limit taken text is few within = subst (λ (o : Option (List ℕ)). IfSome o (λ rest. length text ≤ limit + length rest)) (sym is) (omega (arith, length-drop taken text, few, within))

-- more bytes than a limit, but no more than a piece beyond it, where so many are left
pub past_limit : (new : Option (List ℕ)) (limit piece taken : ℕ) (text : List ℕ) → new ≡ Some (drop taken text) → limit < taken → taken ≤ limit + piece → taken ≤ length text →
    IfSome new (λ rest. Passes limit piece (length text) (length rest))
past_limit new limit piece taken text is over near within =
    subst (λ (o : Option (List ℕ)). IfSome o (λ rest. Passes limit piece (length text) (length rest))) (sym is)
    (omega (arith, length-drop taken text, over, within), omega (arith, length-drop taken text, near, within))

-- equal places in a text
pub to_place : (xs text : List ℕ) (n m : ℕ) → n ≡ m → xs ≡ take n text → xs ≡ take m text
to_place xs text n m same is = is ∙ ap (λ k. take k text) same

-- nothing was read and nothing reported yet
pub report_begun : (plan : PlanShape) (all : Option (List ℕ)) (held : Paper) → IfSome all (λ text. ReportsFirst plan held held text)
report_begun plan None held = tt
report_begun plan (Some text) held = reports_first plan held held 0 text (rw (nothing_reported plan) (grown_nothing held))
