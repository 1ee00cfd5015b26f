-- All parties of an office, served at once. It is this product's own.
use Rattle.std.specs.Prelude.{◌≡◌, ℕ, ◌+◌, ◌≤◌, List, [], ◌∷◌, ◌++◌, All, true}
use Rattle.std.specs.Prelude.{Option, Some, None, IsSomeAnd}
use Rattle.std.specs.List.{filter_map, flat_map}
use Rattle.std.specs.Option.{option_map, option_to_list}
use mathlib.Core.List.{IsPrefix}
use Rattle.series_tables.specs.Plan.{PlanShape}
use Rattle.accounts_history.specs.History.{Sent, journal, party_of}
use Rattle.accounts_history.specs.declared.entry.Entry.{Entry}
use Rattle.desk_lock.specs.Passes.{Account, IsPassOf, IsSameButSeen, LockName, account}
use Rattle.office.specs.Holds.{Known}
use Rattle.office.specs.Opening.{first_passes}
use Rattle.office.specs.Seen.{SentNothing, sent_by}
use Rattle.compile_workers.specs.DeskEnd.{Ends, IsDeskEnd}
use Rattle.compile_workers.specs.declared.desk.DeskEnd.{DeskEnd}
use Rattle.compile_workers.specs.declared.desk.DeskEnd.TheVariants.{Memory}

-- the passes with which an office of so many desks opens, in their order, and with any number of workers
abbrev pub AreFirstPasses : LockName → PlanShape → ℕ → List Known → Type 0
AreFirstPasses lock plan desks passes =
    (workers : ℕ) × (workers ≤ 16) × (passes ≡ first_passes lock plan desks workers)

-- the desks from one on were served over a journal, and ended so; a desk without an end was left as it was, and there
-- are no more ends than desks
abbrev pub AreServed : PlanShape → List Sent → ℕ → List Ends → List Ends → List DeskEnd → Type 0
AreServed plan journal party [] [] [] = Unit {0}
AreServed plan journal party [] [] (end ∷ ends) = ⊥
AreServed plan journal party (old ∷ olds) (new ∷ news) (end ∷ ends) =
    IsDeskEnd plan party old new end journal × AreServed plan journal (party + 1) olds news ends
AreServed plan journal party (old ∷ olds) (new ∷ news) [] =
    (new ≡ old) × IsDeskEnd plan party old new Memory journal × AreServed plan journal (party + 1) olds news []
AreServed plan journal party [] (new ∷ news) ends = ⊥
AreServed plan journal party (old ∷ olds) [] ends = ⊥

-- only desks sent what stands in a journal, of which there are so many
abbrev pub AreOfDesks : ℕ → List Sent → Type 0
AreOfDesks desks journal = All (λ sent. (1 ≤ sent.party) × (sent.party ≤ desks)) journal

-- ---- parties in their places

-- a party in its place: its pass, a desk's two ends, and how the desk ended
pub record Place : Type 0 where
  pub pass : Option Known
  pub ends : Option Ends
  pub end : DeskEnd

abbrev pub place_of : Option Known → Option Ends → DeskEnd → Place
place_of pass ends end = record { pass = pass; ends = ends; end = end }

-- the places of passes, of which the first ones are desks with these ends
abbrev pub places_with : List Known → List Ends → List Place
places_with [] ends = []
places_with (pass ∷ passes) [] = place_of (Some pass) None Memory ∷ places_with passes []
places_with (pass ∷ passes) (end ∷ ends) = place_of (Some pass) (Some end) Memory ∷ places_with passes ends

-- the last pass was put into a place behind those of others
abbrev pub PutsParty : List Known → List Known → Option Ends → List Place → List Place → Type 0
PutsParty passes left ends before after =
    (pass : Known) × (passes ≡ left ++ pass ∷ [])
    × (after ≡ before ++ place_of (Some pass) ends Memory ∷ [])

-- a pass of the office, with its plan, that has sent nothing
pub record IsOpening (lock : LockName) (plan : PlanShape) (pass : Known) : Type 0 where
  pub pass_of : IsPassOf lock pass
  pub label : pass.label ≡ Some plan
  pub unused : sent_by pass.party pass.seen ≡ []

-- a party may begin: it has such a pass
abbrev pub IsPlaced : LockName → PlanShape → Place → Type 0
IsPlaced lock plan place = IsSomeAnd place.pass (IsOpening lock plan)

-- what a party did from one pass to the other: a desk was served, or a worker sent nothing
abbrev pub Did : PlanShape → Known → Known → Option Ends → Option Ends → DeskEnd → Type 0
Did plan given pass None None end = SentNothing given.party given.seen pass.seen
Did plan given pass (Some old) (Some new) end = IsDeskEnd plan given.party old new end (journal pass.seen)
Did plan given pass None (Some new) end = ⊥
Did plan given pass (Some old) None end = ⊥

-- a party ran in its place
pub record HasRun (plan : PlanShape) (old new : Place) : Type 0 where
  pub given : Known
  pub pass : Known
  pub was : old.pass ≡ Some given
  pub is : new.pass ≡ Some pass
  pub same : IsSameButSeen given pass
  pub did : Did plan given pass old.ends new.ends new.end

-- all parties ran in their places
abbrev pub HaveRun : PlanShape → List Place → List Place → Type 0
HaveRun plan [] [] = Unit {0}
HaveRun plan (old ∷ olds) (new ∷ news) = HasRun plan old new × HaveRun plan olds news
HaveRun plan [] (new ∷ news) = ⊥
HaveRun plan (old ∷ olds) [] = ⊥

-- ---- parties that are taken back

-- the passes in some places, and the desks' ends, with how each ended
abbrev pub passes_in : List Place → List Known
passes_in places = filter_map (λ place. place.pass) places

abbrev pub ends_in : List Place → List Ends
ends_in places = filter_map (λ place. place.ends) places

abbrev pub desk_ends_in : List Place → List DeskEnd
desk_ends_in places = filter_map (λ place. option_map (λ ends. place.end) place.ends) places

-- the last party was taken from its place: its pass, and a desk's two ends, with how it ended, behind those of others
abbrev pub TakesParty : List Place → List Place → Known → List Ends → List Ends → List DeskEnd → List DeskEnd → Type 0
TakesParty places left pass before after ended ends =
    (last : Place) × (places ≡ left ++ last ∷ []) × (last.pass ≡ Some pass)
    × (after ≡ before ++ option_to_list last.ends)
    × (ends ≡ ended ++ option_to_list (option_map (λ told. last.end) last.ends))

-- what some passes account for
abbrev pub accounts_of : List Known → Account Entry
accounts_of passes = flat_map (account party_of) passes

-- a pass into which others were joined: it accounts for all that they account for, and has seen what each has
pub record IsJoinedOf (first : Known) (others : List Known) (pass : Known) : Type 0 where
  pub lock : pass.lock ≡ first.lock
  pub live : pass.live ≡ first.live
  pub label : pass.label ≡ first.label
  pub gives : pass.gives ≡ first.gives
  pub given : pass.given ≡ first.given
  pub accounts : account party_of pass ≡ accounts_of (first ∷ others)
  pub begins : All (λ other. IsPrefix other.seen pass.seen) (first ∷ others)

-- passes in a list were joined into one
abbrev pub AreJoined : List Known → Known → Type 0
AreJoined [] pass = ⊥
AreJoined (first ∷ others) pass = IsJoinedOf first others pass

-- the first pass of some knows which parties were given, and all are passes of the office
abbrev pub CanJoin : LockName → List Known → Type 0
CanJoin lock [] = ⊥
CanJoin lock (first ∷ others) = (first.gives ≡ true) × All (IsPassOf lock) (first ∷ others)
