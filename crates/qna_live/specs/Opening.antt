-- What `live` leaves of its files where it serves no desk.
use Rattle.std.specs.Prelude.{◌≡◌, ◌≢◌, ◌⊎◌, ℕ, ◌+◌, IsTrue, List, [], ◌∷◌, length, map, codes, IfSome, IsSome, Some}
use Rattle.qna_edges.specs.Count.{Rose}
use Rattle.qna_edges.specs.Paper.{Paper, Writes}
use Rattle.qna_edges.specs.Shelves.{Shelves}
use Rattle.qna_edges.specs.declared.status.Status.{Status}
use Rattle.qna_edges.specs.declared.status.Status.TheVariants.{Memory, OpenFault}
use Rattle.qna_parts.specs.StatusLine.{named_line}
use Rattle.qna_parts.specs.Trace.{IsCreatedOnce, IsEmptied, IsNotCreated, IsUnopened, OnText, Trace, trace_of}
use Rattle.command_words.specs.LiveWords.{DeskFiles, LiveForm}

-- ---- files

-- what was done to a desk's two files
pub record DeskTraces : Type 0 where
  pub input : Trace
  pub output : Trace

abbrev pub desk_traces : Shelves → Shelves → DeskFiles → DeskTraces
desk_traces old new desk = record { input = trace_of old new desk.input; output = trace_of old new desk.output }

abbrev pub traces_of : Shelves → Shelves → List DeskFiles → List DeskTraces
traces_of old new desks = map (desk_traces old new) desks

-- a name is none of these
abbrev pub IsNoneOf : List ℕ → List (List ℕ) → Type 0
IsNoneOf name [] = Unit {0}
IsNoneOf name (other ∷ others) = (name ≢ other) × IsNoneOf name others

-- nothing was done to a file
abbrev pub IsUntouched : Trace → Type 0
IsUntouched file = file.new ≡ file.old

-- a file was opened once, and came back unread
pub record IsLeftUnread (file : Trace) : Type 0 where
  pub once : file.new ≡ record file.old { sources = file.old.sources + 1; rest = file.new.rest }
  pub unread : OnText file (λ text. file.new.rest ≡ length text)

-- a file was created once, and came back empty; no write failed
pub record IsLeftEmpty (file : Trace) : Type 0 where
  pub emptied : IsEmptied file
  pub unfailed : file.new.writes ≡ file.old.writes

-- the creating of a file failed, and nothing else was done to it
abbrev pub IsUncreated : Trace → Type 0
IsUncreated file = Rose file.old.creates file.new.creates × IsNotCreated file

-- ---- the first fault

-- a file couldn't be had, as is reported with its name; or memory was wanting for it, and nothing was done to it
abbrev pub IsRefused : (Trace → Type 0) → Trace → Paper → Paper → Status → Type 0
IsRefused IsFailed file before after status =
    ((status ≡ OpenFault) × IsFailed file × Writes before after (named_line (codes "open") file.name))
    ⊎ ((status ≡ Memory) × IsUntouched file × (after ≡ before))

-- a desk's input couldn't be opened, and its output wasn't touched; or its output couldn't be created
abbrev pub IsDeskRefused : DeskTraces → Paper → Paper → Status → Type 0
IsDeskRefused desk before after status =
    (IsRefused IsUnopened desk.input before after status × IsUntouched desk.output)
    ⊎ (IsLeftUnread desk.input × IsRefused IsUncreated desk.output before after status)

-- the files of desks, and the journal, weren't touched
abbrev pub AreUntouched : Trace → List DeskTraces → Type 0
AreUntouched journal [] = IsUntouched journal
AreUntouched journal (desk ∷ desks) = IsUntouched desk.input × IsUntouched desk.output × AreUntouched journal desks

-- `live` ended before it served anybody: of its files, each desk's input and then its output, and last the journal, one
-- couldn't be had, and those behind it weren't touched; or memory was wanting when all were open. Each input that was
-- opened came back unread, and what was created is empty
abbrev pub EndsUnserved : List DeskTraces → Trace → Paper → Paper → Status → Type 0
EndsUnserved [] journal before after status =
    IsRefused IsUncreated journal before after status
    ⊎ ((status ≡ Memory) × IsLeftEmpty journal × (after ≡ before))
EndsUnserved (desk ∷ desks) journal before after status =
    (IsDeskRefused desk before after status × AreUntouched journal desks)
    ⊎ (IsLeftUnread desk.input × IsLeftEmpty desk.output × EndsUnserved desks journal before after status)
