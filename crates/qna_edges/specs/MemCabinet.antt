-- Files in memory by their names, as contracts see them.
use Rattle.std.specs.Prelude.{ℕ, ◌-◌, ◌^◌, ◌||◌, List, [], Bool, true, IsTrue, is_some, is_none, unwrap_or, None, Some}
use Rattle.std.specs.Option.{option_map}
use Rattle.std.specs.declared.option.Option.{Option}
use Rattle.std.specs.BTreeMap.{get_by_text}
use Rattle.qna_edges.specs.Shelves.{Shelf, Shelves}
use Rattle.qna_edges.specs.Memory.{Supply, Store, fails_at, next_number}
use Rattle.qna_edges.specs.Tally.{counts_of, has_room}
use Rattle.qna_edges.specs.declared.tally.Counts.{Counts}
use Rattle.qna_edges.specs.declared.mem_cabinet.Drawer.{Drawer}
use Rattle.qna_edges.specs.declared.mem_cabinet.MemCabinet.{MemCabinet}

-- what stands under a name, and what was planned for it
abbrev pub drawer_of : MemCabinet → List ℕ → Drawer
drawer_of cabinet name = unwrap_or (get_by_text cabinet.drawers name) (record { file = None; plan = None; rest = 0 })

-- whether there is room for what stands under a name
abbrev pub has_drawer : MemCabinet → List ℕ → Bool
has_drawer cabinet name = is_some (get_by_text cabinet.drawers name)

-- the source that gives a name's bytes
abbrev pub file_of : MemCabinet → List ℕ → Option Supply
file_of cabinet name = (drawer_of cabinet name).file

-- the bytes under a name
abbrev pub bytes_of : MemCabinet → List ℕ → Option (List ℕ)
bytes_of cabinet name = option_map (λ file. file.left) (file_of cabinet name)

-- the sink that was planned for a name
abbrev pub plan_of : MemCabinet → List ℕ → Option Store
plan_of cabinet name = (drawer_of cabinet name).plan

-- how many bytes the last source of a name that came back had left
abbrev pub rest_of : MemCabinet → List ℕ → ℕ
rest_of cabinet name = (drawer_of cabinet name).rest

-- what was counted for a name
abbrev pub counted_of : MemCabinet → List ℕ → Counts
counted_of cabinet name = counts_of cabinet.tally name

-- how often opening it failed
abbrev pub open_faults_of : MemCabinet → List ℕ → ℕ
open_faults_of cabinet name = (counted_of cabinet name).opens

-- how often creating it failed
abbrev pub create_faults_of : MemCabinet → List ℕ → ℕ
create_faults_of cabinet name = (counted_of cabinet name).creates

-- the cabinet has room for a name's counts and for its file
abbrev pub Knows : MemCabinet → List ℕ → Type 0
Knows cabinet name = IsTrue (has_room cabinet.tally name) × IsTrue (has_drawer cabinet name)

-- how often `open` and `create` were called, those that answered want of memory left out
abbrev pub calls_of : MemCabinet → ℕ
calls_of cabinet = cabinet.calls

-- how many sources and sinks are out
abbrev pub out_of : MemCabinet → ℕ
out_of cabinet = cabinet.out

-- the numbers of the calls of `open` and `create` that fail
abbrev pub fails_of : MemCabinet → List ℕ
fails_of cabinet = cabinet.fails.items

-- whether the next call of `open` or `create` is one of those that fail
abbrev pub next_fails : MemCabinet → Bool
next_fails cabinet = fails_at (fails_of cabinet) (next_number (calls_of cabinet))

-- whether opening a name fails now: the call is listed, or nothing stands there
abbrev pub open_fails : MemCabinet → List ℕ → Bool
open_fails cabinet name = next_fails cabinet || is_none (file_of cabinet name)

-- the source that `open` gives of what stands under a name: the same, with this name and no fault
abbrev pub opened : Supply → List ℕ → Supply
opened file name = record file { faults = 0; name = name }

-- the sink that `create` gives: as the plan says, or one that takes all and never fails; it has this name, holds
-- nothing and has counted nothing
abbrev pub created : Option Store → List ℕ → Store
created None name =
    record { held = []; piece = 2 ^ 64 - 1; fails = []; writes = 0; faults = 0; wants = 0; name = name }
created (Some plan) name = record plan { held = []; faults = 0; wants = 0; name = name }

-- the file that stands where a sink came back with these bytes: they are given whole, and no read fails
abbrev pub kept : List ℕ → Supply
kept bytes = record { left = bytes; piece = 2 ^ 64 - 1; fails = []; reads = 0; faults = 0; name = [] }

-- what the cabinet has under a name
abbrev pub shelf_under : MemCabinet → List ℕ → Shelf
shelf_under cabinet name = record {
  opens = (counted_of cabinet name).opens;
  creates = (counted_of cabinet name).creates;
  reads = (counted_of cabinet name).reads;
  writes = (counted_of cabinet name).writes;
  sources = (counted_of cabinet name).sources;
  sinks = (counted_of cabinet name).sinks;
  file = bytes_of cabinet name;
  rest = rest_of cabinet name;
}

-- what the cabinet has
abbrev pub shelves_of : MemCabinet → Shelves
shelves_of cabinet = record {
  under = shelf_under cabinet;
  tells = true;
  out = cabinet.out;
}
