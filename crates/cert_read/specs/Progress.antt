-- How far a reader of a certificate has come, whose numbers are cut, and what it makes of the lines that are left.
use Rattle.std.specs.Prelude.{◌≡◌, ℕ, Bool, false, if◌then◌else◌, List, map, Option, Some, None, Result}
use Rattle.line_form.specs.Lines.{TextLine, next_number}
use Rattle.cert_read.specs.declared.fault.CertFault.{CertFault}
use Rattle.cert_read.specs.declared.fault.CertFault.TheVariants as fault
use Rattle.cert_read.specs.Statement.{Statement}
use Rattle.cert_read.specs.Content.{Content, with_line, is_in_range}
use Rattle.cert_read.specs.Reading.{kept, last_number, whole_from, out_from, judged}
use Rattle.cert_read.specs.Cutting.{cut_placed}

-- what the lines say, the first line out of range, and the number of the last line
pub record Progress : Type 0 where
  pub content : Content
  pub late : Option ℕ
  pub last : ℕ

-- the first, or else the second
abbrev pub first_noted : Option ℕ → Option ℕ → Option ℕ
first_noted (Some line) other = Some line
first_noted None other = other

-- what the rest of the lines makes of it, their numbers cut
unfoldable pub outcome : Progress → List TextLine → Result Content CertFault
outcome p lines =
    judged (whole_from (next_number (last_number p.last lines)) p.content (map cut_placed (kept lines)))
    (first_noted p.late (out_from p.content (map cut_placed (kept lines))))

-- the progress with what the line of a number says
abbrev pub with_statement : Progress → Statement → ℕ → Progress
with_statement p s number = record {
  content = with_line p.content s;
  late = first_noted p.late (if is_in_range p.content s then None else Some number);
  last = number;
}

-- a fault at the line of a number: it may not follow, or want of memory
abbrev pub IsEntryFault : CertFault → Bool → ℕ → Type 0
IsEntryFault fault.Memory may number = Unit {0}
IsEntryFault (fault.Shape line) may number = (may ≡ false) × (line ≡ number)
IsEntryFault (fault.Range line) may number = ⊥
