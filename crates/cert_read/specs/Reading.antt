-- The document of a certificate's text, or the first line at fault.
use Rattle.std.specs.Prelude.{◌≡◌, ℕ, pos, Bool, true, false, ◌==◌, if◌then◌else◌, List, [], ◌∷◌, map, Option, Some}
use Rattle.std.specs.Prelude.{None, option_and_then, Result, Ok, Err}
use Rattle.line_form.specs.Lines.{TextLine, lines_of, next_number, is_passed_over}
use Rattle.line_form.specs.Fields.{record_of}
use Rattle.dual_cert.specs.declared.document.CertDoc.{CertDoc}
use Rattle.cert_read.specs.declared.fault.CertFault.{CertFault}
use Rattle.cert_read.specs.declared.fault.CertFault.TheVariants as fault
use Rattle.cert_read.specs.Statement.{Statement, statement_of}
use Rattle.cert_read.specs.Content.{Content, nothing, follows, with_line, is_in_range}

-- what a line says; none where it is long or no line of a certificate
abbrev pub said : TextLine → Option Statement
said line = if line.long then None else option_and_then statement_of (record_of line.text)

-- a line that isn't passed over, by its number and what it says
pub record Placed : Type 0 where
  pub number : ℕ
  pub says : Option Statement

-- the lines that aren't passed over
abbrev pub kept : List TextLine → List Placed
kept [] = []
kept (line ∷ lines) =
    if is_passed_over line then kept lines
    else record { number = line.number; says = said line } ∷ kept lines

-- the number of the last line behind a line of a number
abbrev pub last_number : ℕ → List TextLine → ℕ
last_number number [] = number
last_number number (line ∷ lines) = last_number line.number lines

-- whether what a line says may follow
abbrev pub fits : Content → Option Statement → Bool
fits d None = false
fits d (Some s) = follows d s

-- the content with what a line says
abbrev pub grown : Content → Option Statement → Content
grown d None = d
grown d (Some s) = with_line d s

-- whether the number of what a line says is in range
abbrev pub is_kept : Content → Option Statement → Bool
is_kept d None = true
is_kept d (Some s) = is_in_range d s

-- the content of all lines, or the number of the first that isn't the one the form asks for; `missing` is the number
-- of a missing line
abbrev pub whole_from : ℕ → Content → List Placed → Result Content ℕ
whole_from missing d [] = if d.tail == 2 then Ok d else Err missing
whole_from missing d (p ∷ ps) = if fits d p.says then whole_from missing (grown d p.says) ps else Err p.number

-- the number of the first line with a number out of range
abbrev pub out_from : Content → List Placed → Option ℕ
out_from d [] = None
out_from d (p ∷ ps) = if is_kept d p.says then out_from (grown d p.says) ps else Some p.number

-- the form comes first: a line out of range is named only where no line is misplaced
abbrev pub judged : Result Content ℕ → Option ℕ → Result Content CertFault
judged (Err line) out = Err (fault.Shape line)
judged (Ok d) (Some line) = Err (fault.Range line)
judged (Ok d) None = Ok d

-- what a text's lines say, or their first fault
unfoldable pub read_lines : List TextLine → Result Content CertFault
read_lines lines =
    judged (whole_from (next_number (last_number 0 lines)) nothing (kept lines)) (out_from nothing (kept lines))

-- what a certificate's text says, or its first fault
unfoldable pub reading : List ℕ → Result Content CertFault
reading text = read_lines (lines_of text)

-- the content of a document
abbrev pub content_of : CertDoc → Content
content_of doc = record {
  heads = 3;
  name = doc.name.items;
  front = pos doc.front;
  scale = pos doc.scale;
  start = doc.start;
  ind = map pos doc.ind.items;
  places = doc.years.items;
  bench = doc.bench.items;
  x = doc.x.items;
  u = doc.u.items;
  gap = doc.gap;
  tail = 2;
}

-- an error is what reading gives, or want of memory
abbrev pub Fails : CertFault → Result Content CertFault → Type 0
Fails fault.Memory read = Unit {0}
Fails (fault.Shape line) read = read ≡ Err (fault.Shape line)
Fails (fault.Range line) read = read ≡ Err (fault.Range line)

-- an answer is what reading gives, unless memory ran out
abbrev pub Gives : {X : Type 0} → (X → Content) → Result X CertFault → Result Content CertFault → Type 0
Gives view (Ok x) read = read ≡ Ok (view x)
Gives view (Err e) read = Fails e read
