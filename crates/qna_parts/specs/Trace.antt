-- What a command did to one file.
use Rattle.std.specs.Prelude.{◌≡◌, ℕ, ◌+◌, ◌≤◌, ◌<◌, Bool, IsTrue, List, [], length, codes, IfSome, IsSome, Some}
use Rattle.qna_edges.specs.Count.{Rose}
use Rattle.qna_edges.specs.Paper.{Paper, Writes}
use Rattle.qna_edges.specs.Shelves.{Shelf, Shelves}
use Rattle.qna_edges.specs.declared.status.Status.{Status}
use Rattle.qna_edges.specs.declared.status.Status.TheVariants.{OpenFault, ReadFault, TooMuch}
use Rattle.qna_parts.specs.StatusLine.{named_line}

-- what a cabinet had under one name before a command, and what it has since
pub record Trace : Type 0 where
  pub name : List ℕ
  -- whether the cabinet tells its bytes
  pub tells : Bool
  pub old : Shelf
  pub new : Shelf

-- the trace of a name
abbrev pub trace_of : Shelves → Shelves → List ℕ → Trace
trace_of old new name = record { name = name; tells = old.tells; old = old.under name; new = new.under name }

-- of so many bytes more than a limit were taken, but no more than a piece beyond it, and so many are left
abbrev pub Passes : ℕ → ℕ → ℕ → ℕ → Type 0
Passes limit piece all left = (limit + left < all) × (all ≤ limit + piece + left)

-- P holds of the bytes that stood there, where the cabinet tells them
abbrev pub OnText : Trace → (List ℕ → Type 0) → Type 0
OnText file P = IsTrue file.tells → IfSome file.old.file P

-- a file was opened once and read to its end, which is within a limit, and nothing failed
pub record IsReadWhole (limit : ℕ) (file : Trace) : Type 0 where
  pub once : file.new ≡ record file.old { sources = file.old.sources + 1; rest = file.new.rest }
  pub stands : IsTrue file.tells → IsSome file.old.file
  pub whole : OnText file (λ text. (length text ≤ limit) × (file.new.rest ≡ 0))

-- nothing of it failed
pub record IsUnfailed (file : Trace) : Type 0 where
  pub opens : file.new.opens ≡ file.old.opens
  pub creates : file.new.creates ≡ file.old.creates
  pub reads : file.new.reads ≡ file.old.reads
  pub writes : file.new.writes ≡ file.old.writes

-- its opening failed, and nothing else was done to it
abbrev pub IsUnopened : Trace → Type 0
IsUnopened file =
    Rose file.old.opens file.new.opens × (file.new ≡ record file.old { opens = file.new.opens })

-- nothing was created there, though the creating may have failed
abbrev pub IsNotCreated : Trace → Type 0
IsNotCreated file = file.new ≡ record file.old { creates = file.new.creates }

-- one sink was given for it, and came back
abbrev pub IsCreatedOnce : Trace → Type 0
IsCreatedOnce file =
    file.new ≡ record file.old { sinks = file.old.sinks + 1; writes = file.new.writes; file = file.new.file }

-- one sink was given for it, and came back with nothing in it
pub record IsEmptied (file : Trace) : Type 0 where
  pub created : IsCreatedOnce file
  pub empty : IsTrue file.tells → file.new.file ≡ Some []

-- a file wasn't read to its end: why, by a count of its own or by its size, and the line that says so, with its name
pub record EndsUnread (limit : ℕ) (file : Trace) (before after : Paper) (status : Status) : Type 0 where
  pub unopened : status ≡ OpenFault →
      IsUnopened file × Writes before after (named_line (codes "open") file.name)
  pub unread : status ≡ ReadFault →
      Rose file.old.reads file.new.reads × Writes before after (named_line (codes "read") file.name)
  pub within : status ≡ ReadFault → OnText file (λ text. length text ≤ limit + file.new.rest)
  pub too_long : status ≡ TooMuch → Writes before after (named_line (codes "toomuch") file.name)
  pub passed : status ≡ TooMuch → OnText file (λ text. Passes limit 8192 (length text) file.new.rest)
