-- The files of `live` while they are open.
use Rattle.std.specs.Prelude.{◌≡◌, ◌≢◌, ◌⊎◌, ℕ, ◌+◌, IsTrue, List, [], ◌∷◌, length, IsSome, Some}
use Rattle.qna_edges.specs.Paper.{Paper}
use Rattle.qna_edges.specs.Shelves.{BackIn, BackOut, GivesSink, GivesSource, Same, Shelves}
use Rattle.qna_edges.specs.declared.status.Status.{Status}
use Rattle.qna_parts.specs.Trace.{trace_of}
use Rattle.compile_workers.specs.DeskEnd.{Ends}
use Rattle.command_words.specs.LiveWords.{DeskFiles, LiveForm}
use Rattle.command_words.specs.Views.{desk_names}
use Rattle.qna_live.specs.Opening.{IsDeskRefused, IsNoneOf, IsRefused, IsUncreated, desk_traces}

-- a desk's source tells what stands under its name, and its sink nothing
pub record IsOpenedDesk (old : Shelves) (desk : DeskFiles) (ends : Ends) : Type 0 where
  pub source : (ends.source.name ≡ desk.input) × (ends.source.faults ≡ 0)
  pub sink : (ends.sink.name ≡ desk.output) × (ends.sink.faults ≡ 0)
  pub left : IsTrue old.tells → (ends.source.left ≡ (old.under desk.input).file) × IsSome ends.source.left
  pub held : IsTrue old.tells → ends.sink.held ≡ Some []

-- a desk's files were opened, one after the other
pub record GivesDesk (old new : Shelves) (desk : DeskFiles) (ends : Ends) : Type 0 where
  pub opened : IsOpenedDesk old desk ends
  pub between : Shelves
  pub source : GivesSource old between desk.input
  pub sink : GivesSink between new desk.output

-- they couldn't be, and no other file was touched
pub record FailsDesk (old new : Shelves) (before after : Paper) (desk : DeskFiles) (status : Status) : Type 0 where
  pub refused : IsDeskRefused (desk_traces old new desk) before after status
  pub others : (name : List ℕ) → name ≢ desk.input → name ≢ desk.output → new.under name ≡ old.under name
  pub tells : new.tells ≡ old.tells
  pub out : new.out ≡ old.out

-- the files of desks were opened, one desk after the other
abbrev pub GivesDesks : Shelves → Shelves → List DeskFiles → List Ends → Type 0
GivesDesks old new [] [] = Same old new
GivesDesks old new (desk ∷ desks) (ends ∷ more) =
    (between : Shelves) × GivesDesk old between desk ends × GivesDesks between new desks more
GivesDesks old new [] (ends ∷ more) = ⊥
GivesDesks old new (desk ∷ desks) [] = ⊥

-- and then the journal was created
pub record AreOpened (old new : Shelves) (form : LiveForm) (desks : List Ends) (journal : Paper) : Type 0 where
  pub between : Shelves
  pub given : GivesDesks old between form.desks desks
  pub created : GivesSink between new form.journal
  pub journal_is : (journal.name ≡ form.journal) × (journal.faults ≡ 0)
  pub journal_held : IsTrue old.tells → journal.held ≡ Some []

-- a cabinet has room for the names of these ends
abbrev pub AreKnown : (List ℕ → Type 0) → List Ends → Type 0
AreKnown knows [] = Unit {0}
AreKnown knows (ends ∷ more) = knows ends.source.name × knows ends.sink.name × AreKnown knows more

-- the desks' ends came back, the last desk's first
abbrev pub AreBack : Shelves → Shelves → List Ends → Type 0
AreBack old new [] = Same old new
AreBack old new (ends ∷ desks) =
    (middle : Shelves) × (between : Shelves) × AreBack old middle desks
    × BackIn middle between ends.source × BackOut between new ends.sink

-- the names of the files that are open while desks are served
abbrev pub file_names : LiveForm → List (List ℕ)
file_names form = form.journal ∷ desk_names form.desks

-- nothing but the files of these names was touched, and as many files are out
pub record OnlyFiles (old new : Shelves) (names : List (List ℕ)) : Type 0 where
  pub others : (name : List ℕ) → IsNoneOf name names → new.under name ≡ old.under name
  pub tells : new.tells ≡ old.tells
  pub out : new.out ≡ old.out

-- the journal couldn't be created, and no other file was touched
pub record FailsJournal (old new : Shelves) (before after : Paper) (journal : List ℕ) (status : Status) : Type 0 where
  pub refused : IsRefused IsUncreated (trace_of old new journal) before after status
  pub others : (name : List ℕ) → name ≢ journal → new.under name ≡ old.under name
  pub tells : new.tells ≡ old.tells
  pub out : new.out ≡ old.out
