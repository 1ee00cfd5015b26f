-- The rule of the table under the lock, and what each kind of step tells.
use Rattle.std.specs.Prelude.{◌≡◌, ℕ, ◌%◌, ◌^◌, ◌<◌, ◌≤◌, ◌==◌, Bool, true, false, cond, ◌||◌, List, [], ◌∷◌, ◌++◌}
use Rattle.std.specs.Prelude.{length, Option, Some, None, MatchBool}
use mathlib.Core.Option.{some, none}
use mathlib.Core.Option as maybe
use mathlib.Core.List.{IsPrefix}
use lib.ListN.{get_elem?}
use Rattle.atomic_table.specs.Table.{State, Me, Step}
use Rattle.desk_lock.specs.Passes.{LockName, Knowledge, is_in, is_named, entries_under, entries_by, longer}
use Rattle.desk_lock.specs.declared.plays.View.{View}
use Rattle.desk_lock.specs.declared.plays.Phase.{Phase}
use Rattle.desk_lock.specs.declared.plays.Phase.TheVariants.{Spent, Resting, Waiting, Holding}

-- the seat may make steps
abbrev pub is_live : Phase → Bool
is_live Spent = false
is_live Resting = true
is_live Waiting = true
is_live Holding = true

-- the seat has drawn a ticket, and its turn isn't over
abbrev pub is_in_turn : Phase → Bool
is_in_turn Spent = false
is_in_turn Resting = false
is_in_turn Waiting = true
is_in_turn Holding = true

module _ {E L : Type 0} where
  -- what a contract sees of a seat
  abbrev pub shown : LockName → View E L → Knowledge E L
  shown lock v = record {
    lock = lock;
    live = is_live v.phase;
    label = v.label;
    party = v.party;
    seen = v.seen;
    ended = v.ended;
    gives = v.gives;
    given = v.given;
  }

  abbrev pub first_view : L → ℕ → View E L
  first_view l p = record {
    phase = Resting;
    ticket = 0;
    base = [];
    label = Some l;
    party = p;
    seen = [];
    ended = [];
    mine = [];
    theirs = [];
    gives = true;
    given = p ∷ [];
  }

  abbrev pub drawing : ℕ → View E L → View E L
  drawing t v = record v { phase = Waiting; ticket = t }

  abbrev pub taking : List E → View E L → View E L
  taking xs v = record v { phase = Holding; base = xs }

  abbrev pub seeing : List E → View E L → View E L
  seeing xs v = record v { seen = xs; mine = xs }

  abbrev pub adding : List E → View E L → View E L
  adding xs v = record v { base = xs; seen = xs; mine = xs }

  abbrev pub ending : View E L → View E L
  ending v = record v { phase = Resting }

  abbrev pub leaving : View E L → View E L
  leaving v = record v { phase = Spent }

  abbrev pub giving : ℕ → View E L → View E L
  giving p v = record v { given = p ∷ v.given }

  abbrev pub newcomer : ℕ → View E L → View E L
  newcomer p v = record {
    phase = Resting;
    ticket = 0;
    base = [];
    label = v.label;
    party = p;
    seen = v.seen;
    ended = [];
    mine = [];
    theirs = [];
    gives = false;
    given = [];
  }

  abbrev pub spent_view : View E L
  spent_view = record {
    phase = Spent;
    ticket = 0;
    base = [];
    label = None;
    party = 0;
    seen = [];
    ended = [];
    mine = [];
    theirs = [];
    gives = false;
    given = [];
  }

module _ {E L : Type 0} (party : E → ℕ) where
  abbrev pub joined : View E L → View E L → View E L
  joined v w = record v {
    seen = longer v.seen w.seen;
    ended = v.ended ++ (w.party, entries_by party w.party w.seen) ∷ w.ended;
    mine = v.seen;
    theirs = w.seen;
    gives = v.gives || w.gives;
    given = cond v.gives v.given w.given;
  }

-- The history, the label, and of each party whether it was given and the seat that has it, as its own or among the
-- ended. One seat alone knows the parties that were given.
pub record Tale (E L : Type 0) : Type 0 where
  pub hist : List E
  pub name : L
  pub owner : ℕ → ℕ
  pub given : ℕ → Bool
  pub keeper : ℕ

-- How many tickets were drawn and served, without an end; whether the book is out; and the seat of each ticket
pub record Queue : Type 0 where
  pub drawn : ℕ
  pub served : ℕ
  pub held : Bool
  pub turn : ℕ → ℕ

-- what a seat knows is true of the history
pub record Fits {E L : Type 0} (party : E → ℕ) (test : L → List E → Type 0) (g : Tale E L) (i : ℕ)
    (v : View E L) : Type 0 where
  pub labelled : v.label ≡ Some g.name
  pub begins : IsPrefix v.seen g.hist
  pub passed : test g.name v.seen
  pub owned : g.owner v.party ≡ i
  pub counted : g.given v.party ≡ true
  pub whole : entries_by party v.party v.seen ≡ entries_by party v.party g.hist
  pub ends : (p : ℕ) → is_named p v.ended ≡ true →
      (g.owner p ≡ i) × (g.given p ≡ true) × (p ≡ v.party → ⊥)
      × (entries_under p v.ended ≡ entries_by party p g.hist)
      × (entries_by party p v.seen ≡ entries_by party p g.hist)
  pub keeps : v.gives ≡ true → (g.keeper ≡ i) × ((p : ℕ) → is_in p v.given ≡ g.given p)
  pub mine_begins : IsPrefix v.mine g.hist
  pub mine_whole : entries_by party v.party v.mine ≡ entries_by party v.party g.hist
  pub theirs_begins : IsPrefix v.theirs g.hist

-- where a seat stands in the queue
abbrev pub Stands : {E : Type 0} → Queue → List E → ℕ → ℕ → List E → Phase → Type 0
Stands q hist i ticket base Spent = Unit {0}
Stands q hist i ticket base Resting = Unit {0}
Stands q hist i ticket base Waiting = (q.turn ticket ≡ i) × (q.served ≤ ticket) × (ticket < q.drawn)
Stands q hist i ticket base Holding = (q.turn q.served ≡ i) × (ticket ≡ q.served) × (q.held ≡ true) × (base ≡ hist)

-- the book lies in the slot while no turn is held, and its list is the history
abbrev pub Home : {B E L : Type 0} → (B → List E) → (B → L) → List E → L → Bool
    → List (maybe.Option (Option B)) → Type 0
Home list label hist name true homes = homes ≡ none ∷ []
Home {B} list label hist name false homes = (b : B) × (homes ≡ some (Some b) ∷ []) × (list b ≡ hist) × (label b ≡ name)

-- the seat of the ticket waits for it or has its turn
abbrev pub InTurn : {E L : Type 0} → List (View E L) → ℕ → ℕ → Type 0
InTurn {E} {L} views i t = (v : View E L) × (get_elem? views i ≡ some v) × (is_in_turn v.phase ≡ true) × (v.ticket ≡ t)

-- the seat has its turn
abbrev pub Holds : {E L : Type 0} → List (View E L) → ℕ → Type 0
Holds {E} {L} views i = (v : View E L) × (get_elem? views i ≡ some v) × (v.phase ≡ Holding)

-- the rule
pub record Kept {B E L : Type 0} (list : B → List E) (party : E → ℕ) (label : B → L) (test : L → List E → Type 0)
    (s : State (Option B) (View E L)) : Type 0 where
  pub g : Tale E L
  pub q : Queue
  pub words : s.words ≡ length g.hist ∷ q.drawn % 2 ^ 64 ∷ q.served % 2 ^ 64 ∷ []
  pub short : length g.hist ≤ 2 ^ 40
  pub home : Home list label g.hist g.name q.held s.homes
  pub passed : test g.name g.hist
  pub parties : (p : ℕ) → g.given p ≡ false → entries_by party p g.hist ≡ []
  pub numbers : (p : ℕ) → g.given p ≡ true → p < 65536
  pub each : (i : ℕ) (v : View E L) → get_elem? s.views i ≡ some v → is_live v.phase ≡ true →
      Fits party test g i v × Stands q g.hist i v.ticket v.base v.phase
  pub order : q.served ≤ q.drawn
  pub turns : (t : ℕ) → q.served ≤ t → t < q.drawn → InTurn s.views (q.turn t) t
  pub holder : q.held ≡ true → (q.served < q.drawn) × Holds s.views (q.turn q.served)

-- a seat's view and the slots that are out with it
abbrev pub Sat : Type 0 → Type 0 → Type 0 → Type 0
Sat B E L = Me (Option B) (View E L)

module _ {B E L : Type 0} where
  -- a ticket was drawn, and its remainder found
  abbrev pub Draws : Step (Option B) → Sat B E L → ℕ → Sat B E L → Type 0
  Draws st me n me' = (t : ℕ) × (n ≡ t % 2 ^ 64) × (me' ≡ (drawing t me.0, me.1))

  -- the turn is over
  abbrev pub Ends : Step (Option B) → Sat B E L → ℕ → Sat B E L → Type 0
  Ends st me n me' = me' ≡ (ending me.0, [])

module _ {B E : Type 0} (list : B → List E) where
  -- the list of the book in the slot, if it has one
  abbrev pub list_in : Option B → List E
  list_in (Some b) = list b
  list_in None = []

  -- the list of the book that is out with a seat
  abbrev pub carried : List (ℕ × Option B) → List E
  carried [] = []
  carried (x ∷ xs) = list_in x.1

module _ {B E L : Type 0} (list : B → List E) where
  -- an entry was added: the history is now the list of the book that is out with the seat
  abbrev pub Adds : Step (Option B) → Sat B E L → ℕ → Sat B E L → Type 0
  Adds st me n me' = (n ≡ length me.0.base) × (me' ≡ (adding (carried list me.1) me.0, me.1))

module _ {B E L : Type 0} (list : B → List E) (party : E → ℕ) (label : B → L) where
  -- the book that a seat takes has its label, and its list is the history
  abbrev pub Lent : View E L → B → Type 0
  Lent v b =
      (Some (label b) ≡ v.label) × IsPrefix v.seen (list b)
      × (entries_by party v.party (list b) ≡ entries_by party v.party v.seen) × (length (list b) ≤ 2 ^ 40)

  -- the ticket is served, and the seat has taken the book; or it isn't
  abbrev pub Looks : Step (Option B) → Sat B E L → ℕ → Sat B E L → Type 0
  Looks st me n me' = MatchBool (n == me.0.ticket % 2 ^ 64)
      ((b : B) × (me' ≡ (taking (list b) me.0, (0, Some b) ∷ me.1)) × Lent me.0 b) (me' ≡ me)

module _ {B E L : Type 0} (party : E → ℕ) (test : L → List E → Type 0) where
  -- the history so far was seen, and its length found
  abbrev pub Shows : Step (Option B) → Sat B E L → ℕ → Sat B E L → Type 0
  Shows st me n me' =
      (ys : List E) × (me' ≡ (seeing ys me.0, me.1)) × (length ys ≡ n) × IsPrefix me.0.seen ys
      × (entries_by party me.0.party ys ≡ entries_by party me.0.party me.0.seen)
      × ((l : L) → me.0.label ≡ Some l → test l ys) × (me.0.phase ≡ Holding → ys ≡ me.0.base)

  -- What the seat knows was compared with the history. The two lists that met in a join are beginnings of it, and the
  -- seat's party has no more entries in it than in the first; what was seen meets the test; and a party that the seat
  -- knows not to be given has no entry.
  abbrev pub Compares : Step (Option B) → Sat B E L → ℕ → Sat B E L → Type 0
  Compares st me n me' =
      (me' ≡ me) × ((h : List E) × IsPrefix me.0.mine h × IsPrefix me.0.theirs h
      × (entries_by party me.0.party me.0.mine ≡ entries_by party me.0.party h)
      × (entries_by party me.0.party me.0.seen ≡ entries_by party me.0.party h))
      × ((l : L) → me.0.label ≡ Some l → test l me.0.seen)
      × (me.0.gives ≡ true → (p : ℕ) → is_in p me.0.given ≡ false → entries_by party p me.0.seen ≡ [])
