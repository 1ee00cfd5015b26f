-- What a transfer leaves, by what was taken of its input and made of it.
use Rattle.std.proofs.Common.{◌≡◌, ℕ, List, length, Option, Some, None, refl, sym, subst, ◌∙◌, codes}
use Rattle.std.specs.Prelude.{IfSome}
use Rattle.qna_edges.specs.Paper.{Paper, grown, BreaksOff, Writes}
use Rattle.qna_edges.specs.declared.status.Status.{Status}
use Rattle.qna_edges.specs.declared.status.Status.TheVariants.{ReadFault, TooMuch}
use Rattle.line_form.specs.Lines.{lines_of}
use Rattle.series_tables.specs.Plan.{PlanShape}
use Rattle.series_tables.specs.Cells.{Rows}
use Rattle.series_tables.specs.declared.input.Input.{Input}
use Rattle.input_rules.specs.Accepted.{accepted, accepted_of}
use Rattle.qna_parts.specs.Intake.{HasTaken, refusals_text}
use Rattle.qna_parts.specs.Making.{Making, HoldsLast}
use Rattle.qna_parts.specs.Report.{ReportsFirst, ReportsThen, WritesBoth}
use Rattle.qna_parts.specs.StatusLine.{named_line, status_of_untaken, untaken_line}
use Rattle.qna_parts.specs.declared.intake.Untaken.{Untaken}
use Rattle.qna_parts.specs.declared.intake.Untaken.TheVariants as untaken
use Rattle.qna_parts.proofs.Reading.{reports_all}

-- what follows where something is there
pub if_some : {X : Type 0} {P Q : X → Type 0} (found : Option X) → ((x : X) → P x → Q x) → IfSome found P → IfSome found Q
if_some None then fact = tt
if_some (Some x) then fact = then x fact

-- a report that has a text whole, and to which a line was to be written
pub then_line : (old mid new : Paper) (text line : List ℕ) → mid ≡ grown old text → Writes mid new line → ReportsThen old new text line
unfolding ReportsThen
then_line old mid new text line grew then = subst (λ (p : Paper). Writes p new line) grew then

-- a failed read, reported behind the refused lines
pub read_told : (why : Untaken) (status : Status) (all left : Option (List ℕ)) (before mid now : Paper) (name : List ℕ) (text_of : List ℕ → List ℕ → List ℕ) →
    status ≡ status_of_untaken why → status ≡ ReadFault → (why ≡ untaken.Read → IfSome all (λ text. IfSome left (λ rest. mid ≡ grown before (text_of text rest)))) →
    Writes mid now (untaken_line why name) → IfSome all (λ text. IfSome left (λ rest. ReportsThen before now (text_of text rest) (named_line (codes "read") name)))
read_told untaken.Read status all left before mid now name text_of is read told then =
    if_some all (λ text. if_some left (λ rest grew. then_line before mid now (text_of text rest) (named_line (codes "read") name) grew then)) (told refl)
read_told untaken.Memory status all left before mid now name text_of is read told then = absurd (let never = is in cc)
read_told untaken.TooMuch status all left before mid now name text_of is read told then = absurd (let never = is in cc)
read_told untaken.Report status all left before mid now name text_of is read told then = absurd (let never = is in cc)

-- an input of too many bytes, reported behind the refused lines, or behind what the report took of them
pub passed_told : (why : Untaken) (status : Status) (all : Option (List ℕ)) (before mid now : Paper) (name : List ℕ) (text_of : List ℕ → List ℕ) →
    status ≡ status_of_untaken why → status ≡ TooMuch → (why ≡ untaken.TooMuch → IfSome all (λ text. Writes before mid (text_of text))) →
    Writes mid now (untaken_line why name) → IfSome all (λ text. WritesBoth before now (text_of text) (named_line (codes "toomuch") name))
unfolding WritesBoth
passed_told untaken.TooMuch status all before mid now name text_of is much told then =
    if_some all (λ text wrote. (mid, wrote, then)) (told refl)
passed_told untaken.Memory status all before mid now name text_of is much told then = absurd (let never = is in cc)
passed_told untaken.Read status all before mid now name text_of is much told then = absurd (let never = is in cc)
passed_told untaken.Report status all before mid now name text_of is much told then = absurd (let never = is in cc)

-- what is made of the tables that an input gave is made of its accepted inputs
pub made_of_input : (made : Making) (plan : PlanShape) (all : Option (List ℕ)) (rows : Rows) (count : ℕ) (text : List ℕ) → IfSome all (λ input. HasTaken plan (lines_of input) rows count) →
    ((given : List Input) → length given ≡ count → HoldsLast rows given → text ≡ made plan given) → IfSome all (λ input. text ≡ made plan (accepted plan input))
unfolding accepted
made_of_input made plan all rows count text taken make = if_some all (λ input had. make (accepted_of plan (lines_of input)) (sym had.counted) had.cells) taken

-- a paper that grew by a text grew by an equal one, and was broken off within it where it was broken off
pub grown_by : (all : Option (List ℕ)) (old new : Paper) (text : List ℕ) (same : List ℕ → List ℕ) → IfSome all (λ input. text ≡ same input) → new ≡ grown old text → IfSome all (λ input. new ≡ grown old (same input))
grown_by all old new text same is grew = if_some all (λ input equal. rw equal at grew) is

pub broken_by : (all : Option (List ℕ)) (old new : Paper) (text : List ℕ) (same : List ℕ → List ℕ) → IfSome all (λ input. text ≡ same input) → BreaksOff old new text → IfSome all (λ input. BreaksOff old new (same input))
broken_by all old new text same is broken = if_some all (λ input equal. rw equal at broken) is

-- an output that can't be written, reported behind all refused lines
pub output_told : (all : Option (List ℕ)) (before mid now : Paper) (name : List ℕ) (text_of : List ℕ → List ℕ) → IfSome all (λ text. mid ≡ grown before (text_of text)) →
    Writes mid now (named_line (codes "write") name) → IfSome all (λ text. ReportsThen before now (text_of text) (named_line (codes "write") name))
output_told all before mid now name text_of told then = if_some all (λ text grew. then_line before mid now (text_of text) (named_line (codes "write") name) grew then) told

-- a report that has each refused line has the first of them, also where nothing was written since
pub first_of_all : (plan : PlanShape) (all : Option (List ℕ)) (before mid now : Paper) → IfSome all (λ text. mid ≡ grown before (refusals_text plan text)) → now ≡ mid → IfSome all (λ text. ReportsFirst plan before now text)
first_of_all plan all before mid now told same = if_some all (λ text grew. reports_all plan before now text (same ∙ grew)) told
