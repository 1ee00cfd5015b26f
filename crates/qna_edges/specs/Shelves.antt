-- What a cabinet has under each name, and how a call leaves it.
use Rattle.std.specs.Prelude.{◌≡◌, ◌≢◌, ℕ, ◌+◌, ◌-◌, ◌≤◌, Bool, IsTrue, List, length, IfSome}
use Rattle.std.specs.declared.option.Option.{Option}
use Rattle.qna_edges.specs.Count.{Rose, capped}
use Rattle.qna_edges.specs.Stock.{Stock}
use Rattle.qna_edges.specs.Paper.{Paper}

-- what a cabinet has under one name
pub record Shelf : Type 0 where
  -- how often its opening failed, its creating, a read from it, and a write to it
  pub opens : ℕ
  pub creates : ℕ
  pub reads : ℕ
  pub writes : ℕ
  -- how many sources were given for it, and how many sinks
  pub sources : ℕ
  pub sinks : ℕ
  -- what stands there, where the cabinet tells it
  pub file : Option (List ℕ)
  -- how many bytes the last source that came back had left
  pub rest : ℕ

-- what a cabinet has
pub record Shelves : Type 0 where
  pub under : List ℕ → Shelf
  -- whether it tells its bytes
  pub tells : Bool
  -- how many sources and sinks are out
  pub out : ℕ

-- no name was touched
pub record Untouched (old new : Shelves) : Type 0 where
  pub all : (n : List ℕ) → new.under n ≡ old.under n
  pub tells : new.tells ≡ old.tells

-- only what the cabinet has under this name changed, to this
pub record OnlyAt (old new : Shelves) (name : List ℕ) (shelf : Shelf) : Type 0 where
  pub here : new.under name ≡ shelf
  pub others : (n : List ℕ) → n ≢ name → new.under n ≡ old.under n
  pub tells : new.tells ≡ old.tells

-- no name was touched, and as many are out
pub record Same (old new : Shelves) : Type 0 where
  pub same : Untouched old new
  pub out : new.out ≡ old.out

-- a source was given for a name: it has one more, nothing else changed, and one more is out
pub record GivesSource (old new : Shelves) (name : List ℕ) : Type 0 where
  pub only : OnlyAt old new name (record (old.under name) { sources = (old.under name).sources + 1 })
  pub out : new.out ≡ old.out + 1

-- a sink was given for a name: it has one more, nothing else changed, and one more is out
pub record GivesSink (old new : Shelves) (name : List ℕ) : Type 0 where
  pub only : OnlyAt old new name (record (old.under name) { sinks = (old.under name).sinks + 1 })
  pub out : new.out ≡ old.out + 1

-- the opening of a name failed: its count rose, and nothing else changed
pub record OpenFails (old new : Shelves) (name : List ℕ) : Type 0 where
  pub later : (old.under name).opens ≤ (new.under name).opens
  pub rose : Rose (old.under name).opens (new.under name).opens
  pub only : OnlyAt old new name (record (old.under name) { opens = (new.under name).opens })
  pub out : new.out ≡ old.out

-- the creating of a name failed: its count rose, and nothing else changed
pub record CreateFails (old new : Shelves) (name : List ℕ) : Type 0 where
  pub later : (old.under name).creates ≤ (new.under name).creates
  pub rose : Rose (old.under name).creates (new.under name).creates
  pub only : OnlyAt old new name (record (old.under name) { creates = (new.under name).creates })
  pub out : new.out ≡ old.out

-- a source came back: its faults are added to its name's reads, what it had left is noted, and one less is out
pub record BackIn (old new : Shelves) (source : Stock) : Type 0 where
  pub only : OnlyAt old new source.name (record (old.under source.name) {
    reads = capped (old.under source.name).reads source.faults;
    rest = (new.under source.name).rest;
  })
  pub rest : IsTrue old.tells → IfSome source.left (λ bytes. (new.under source.name).rest ≡ length bytes)
  pub out : new.out ≡ old.out - 1

-- a sink came back: its faults are added to its name's writes, what it holds stands there, and one less is out
pub record BackOut (old new : Shelves) (sink : Paper) : Type 0 where
  pub only : OnlyAt old new sink.name (record (old.under sink.name) {
    writes = capped (old.under sink.name).writes sink.faults;
    file = (new.under sink.name).file;
  })
  pub kept : IsTrue old.tells → (new.under sink.name).file ≡ sink.held
  pub out : new.out ≡ old.out - 1

-- what a cabinet has under one name was opened and read, and one source at most was given for it: no count fell, and
-- nothing else changed
pub record IsReadOnce (old new : Shelf) : Type 0 where
  pub only : new ≡ record old { opens = new.opens; reads = new.reads; sources = new.sources; rest = new.rest }
  pub opens : old.opens ≤ new.opens
  pub reads : old.reads ≤ new.reads
  pub sources : old.sources ≤ new.sources
  pub once : new.sources ≤ old.sources + 1

-- one name alone was opened and read, and as many are out
pub record OnlyRead (old new : Shelves) (name : List ℕ) : Type 0 where
  pub here : IsReadOnce (old.under name) (new.under name)
  pub others : (n : List ℕ) → n ≢ name → new.under n ≡ old.under n
  pub tells : new.tells ≡ old.tells
  pub out : new.out ≡ old.out

-- P holds of what stands under a name, where the cabinet tells it
abbrev pub OnFile : Shelves → List ℕ → (List ℕ → Type 0) → Type 0
OnFile shelves name P = IsTrue shelves.tells → IfSome (shelves.under name).file P

-- a count of a name rose
abbrev pub OpenRose : Shelves → Shelves → List ℕ → Type 0
OpenRose old new name = Rose (old.under name).opens (new.under name).opens

abbrev pub CreateRose : Shelves → Shelves → List ℕ → Type 0
CreateRose old new name = Rose (old.under name).creates (new.under name).creates

abbrev pub ReadRose : Shelves → Shelves → List ℕ → Type 0
ReadRose old new name = Rose (old.under name).reads (new.under name).reads

abbrev pub WriteRose : Shelves → Shelves → List ℕ → Type 0
WriteRose old new name = Rose (old.under name).writes (new.under name).writes
