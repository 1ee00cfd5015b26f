-- The report's line of a status.
use Rattle.std.specs.Prelude.{ℕ, List, [], ◌++◌, codes, decimal}
use Rattle.qna_edges.specs.declared.status.Status.{Status}
use Rattle.qna_edges.specs.declared.status.Status.TheVariants as status
use Rattle.series_tables.specs.Plan.{PlanRefusal}
use Rattle.series_tables.specs.PlanError.{cause_text}
use Rattle.qna_parts.specs.declared.intake.Untaken.{Untaken}
use Rattle.qna_parts.specs.declared.intake.Untaken.TheVariants as untaken
use Rattle.qna_parts.specs.declared.read.Unread.{Unread}
use Rattle.qna_parts.specs.declared.read.Unread.TheVariants.{Memory, Open, Read, TooMuch}

-- the line of one word
abbrev pub word_line : List ℕ → List ℕ
word_line word = word ++ codes "\n"

-- the line of a word and a name
abbrev pub named_line : List ℕ → List ℕ → List ℕ
named_line word name = (word ++ codes ",") ++ (name ++ codes "\n")

-- the line of a word and two more
abbrev pub pair_line : List ℕ → List ℕ → List ℕ → List ℕ
pair_line word first second = (word ++ codes ",") ++ ((first ++ codes ",") ++ (second ++ codes "\n"))

-- the status of a file that wasn't read to its end
abbrev pub status_of_unread : Unread → Status
status_of_unread Memory = status.Memory
status_of_unread Open = status.OpenFault
status_of_unread Read = status.ReadFault
status_of_unread TooMuch = status.TooMuch

-- the line of a file that wasn't read to its end; want of memory has none
abbrev pub unread_line : Unread → List ℕ → List ℕ
unread_line Memory name = []
unread_line Open name = named_line (codes "open") name
unread_line Read name = named_line (codes "read") name
unread_line TooMuch name = named_line (codes "toomuch") name

-- the status of an input that wasn't taken to its end
abbrev pub status_of_untaken : Untaken → Status
status_of_untaken untaken.Memory = status.Memory
status_of_untaken untaken.Read = status.ReadFault
status_of_untaken untaken.TooMuch = status.TooMuch
status_of_untaken untaken.Report = status.WriteFault

-- the line of an input that wasn't taken to its end; want of memory and a fault of the report have none
abbrev pub untaken_line : Untaken → List ℕ → List ℕ
untaken_line untaken.Memory name = []
untaken_line untaken.Read name = named_line (codes "read") name
untaken_line untaken.TooMuch name = named_line (codes "toomuch") name
untaken_line untaken.Report name = []

-- the line of a refused plan: which of its lines, and why
abbrev pub plan_line : PlanRefusal → List ℕ
plan_line refusal = pair_line (codes "plan") (decimal refusal.line) (cause_text refusal.cause)
