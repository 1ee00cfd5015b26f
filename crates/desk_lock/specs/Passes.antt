-- Passes of a lock with a history, in the words in which the contracts speak of them.
-- Each name here is this product's own.
use Rattle.std.specs.Prelude.{◌≡◌, ◌⊎◌, ℕ, ◌≤◌, ◌==◌, leb, Bool, true, false, cond, ◌&&◌, ◌||◌, List, [], ◌∷◌, ◌++◌}
use Rattle.std.specs.Prelude.{length, filter, Option, Some}
use Rattle.atomic_table.specs.Seated.{TableId}

-- which lock it is: no two locks have one name
abbrev pub LockName : Type 0
LockName = TableId

-- parties, each with entries
abbrev pub Account : Type 0 → Type 0
Account E = List (ℕ × List E)

-- what a pass knows
pub record Knowledge (E L : Type 0) : Type 0 where
  -- the lock that it is a pass of
  pub lock : LockName
  -- calls take it: so it is for every pass but the one that a closed lock gives back
  pub live : Bool
  -- the label that the book had when the lock was made
  pub label : Option L
  -- the number of the party whose pass it is
  pub party : ℕ
  -- the beginning of the history that was seen
  pub seen : List E
  -- the parties whose passes were joined into it, each with the entries that it made
  pub ended : Account E
  -- it is the one pass that knows which parties were given
  pub gives : Bool
  -- the parties that were ever given, where it knows them
  pub given : List ℕ

-- what a hold knows: the pass that it gives back, the list of the book as it was lent, and the book as it is
pub record Loan (B E L : Type 0) : Type 0 where
  pub pass : Knowledge E L
  pub base : List E
  pub book : B

-- the hold, with this book
abbrev pub with_book : {B E L : Type 0} → Loan B E L → B → Loan B E L
with_book loan b = record loan { book = b }

-- the number stands in the list
abbrev pub is_in : ℕ → List ℕ → Bool
is_in p [] = false
is_in p (x ∷ xs) = (x == p) || is_in p xs

module _ {E : Type 0} where
  -- the party stands in the account
  abbrev pub is_named : ℕ → Account E → Bool
  is_named p [] = false
  is_named p (x ∷ xs) = (x.0 == p) || is_named p xs

  -- the entries that the account has under the party
  abbrev pub entries_under : ℕ → Account E → List E
  entries_under p [] = []
  entries_under p (x ∷ xs) = cond (x.0 == p) x.1 [] ++ entries_under p xs

  -- every number of the list stands in the account
  abbrev pub all_named : List ℕ → Account E → Bool
  all_named [] account = true
  all_named (p ∷ ps) account = is_named p account && all_named ps account

  -- the longer of two lists, and the first where they are as long
  abbrev pub longer : List E → List E → List E
  longer xs ys = cond (leb (length ys) (length xs)) xs ys

module _ {E : Type 0} (party : E → ℕ) where
  -- the entries of one party, in their order
  abbrev pub entries_by : ℕ → List E → List E
  entries_by p xs = filter (λ e. party e == p) xs

  -- the list grew by one entry of this party, or not at all
  abbrev pub GrewBy : ℕ → List E → List E → Type 0
  GrewBy p before after = (after ≡ before) ⊎ ((e : E) × (after ≡ before ++ e ∷ []) × (party e ≡ p))

module _ {E L : Type 0} where
  -- an open pass of the lock
  abbrev pub IsPassOf : LockName → Knowledge E L → Type 0
  IsPassOf lock k = (k.lock ≡ lock) × (k.live ≡ true)

  -- the first pass of a lock: it has seen nothing, and its party alone was given
  abbrev pub first_pass : LockName → L → ℕ → Knowledge E L
  first_pass lock label party = record {
    lock = lock;
    live = true;
    label = Some label;
    party = party;
    seen = [];
    ended = [];
    gives = true;
    given = party ∷ [];
  }

  -- the second pass knows what the first does, but for what it has seen
  abbrev pub IsSameButSeen : Knowledge E L → Knowledge E L → Type 0
  IsSameButSeen k m =
      (m.lock ≡ k.lock) × (m.live ≡ k.live) × (m.label ≡ k.label) × (m.party ≡ k.party)
      × (m.ended ≡ k.ended) × (m.gives ≡ k.gives) × (m.given ≡ k.given)

  -- the second pass knows what the first does, and that one more party was given
  abbrev pub IsSameButGiven : ℕ → Knowledge E L → Knowledge E L → Type 0
  IsSameButGiven p k m =
      (m.lock ≡ k.lock) × (m.live ≡ k.live) × (m.label ≡ k.label) × (m.party ≡ k.party)
      × (m.seen ≡ k.seen) × (m.ended ≡ k.ended) × (m.gives ≡ k.gives) × (m.given ≡ p ∷ k.given)

  -- the second pass is a new party's of the same lock, and has seen what the first has
  abbrev pub IsNewcomer : ℕ → Knowledge E L → Knowledge E L → Type 0
  IsNewcomer p k m =
      (m.lock ≡ k.lock) × (m.live ≡ true) × (m.label ≡ k.label) × (m.party ≡ p)
      × (m.seen ≡ k.seen) × (m.ended ≡ []) × (m.gives ≡ false) × (m.given ≡ [])

  -- the second pass is the first after its lock was closed
  abbrev pub IsClosed : Knowledge E L → Knowledge E L → Type 0
  IsClosed k m =
      (m.lock ≡ k.lock) × (m.live ≡ false) × (m.label ≡ k.label) × (m.party ≡ k.party)
      × (m.seen ≡ k.seen) × (m.ended ≡ k.ended) × (m.gives ≡ k.gives) × (m.given ≡ k.given)

  -- the pass knows which parties were given, and none from this number on was
  abbrev pub IsFreeFrom : ℕ → Knowledge E L → Type 0
  IsFreeFrom n k = (k.gives ≡ true) × ((p : ℕ) → n ≤ p → is_in p k.given ≡ false)

  -- The second pass came from the first by splits and joins, and each pass that was made between was joined again:
  -- a party that was given since then ended in it
  abbrev pub IsRegathered : Knowledge E L → Knowledge E L → Type 0
  IsRegathered k m =
      (m.lock ≡ k.lock) × (m.live ≡ true) × (m.label ≡ k.label) × (m.party ≡ k.party) × (m.gives ≡ true)
      × ((p : ℕ) → is_in p m.given ≡ true → (is_in p k.given ≡ true) ⊎ (is_named p m.ended ≡ true))
      × ((p : ℕ) → is_named p k.ended ≡ true → is_named p m.ended ≡ true)

  -- what was seen meets the test beside the label
  abbrev pub IsTested : (L → List E → Type 0) → Knowledge E L → Type 0
  IsTested test k = (l : L) → k.label ≡ Some l → test l k.seen

module _ {E L : Type 0} (party : E → ℕ) where
  -- the part of what was seen that the pass's own party made
  abbrev pub own : Knowledge E L → List E
  own k = entries_by party k.party k.seen

  -- the pass's own party and those that ended, each with its entries
  abbrev pub account : Knowledge E L → Account E
  account k = (k.party, own k) ∷ k.ended

  -- the third pass is the first after the second was joined into it
  abbrev pub IsJoined : Knowledge E L → Knowledge E L → Knowledge E L → Type 0
  IsJoined k m r =
      (r.lock ≡ k.lock) × (r.live ≡ true) × (r.label ≡ k.label) × (r.party ≡ k.party)
      × (r.seen ≡ longer k.seen m.seen) × (r.ended ≡ k.ended ++ account m)
      × (r.gives ≡ (k.gives || m.gives)) × (r.given ≡ cond k.gives k.given m.given)

  -- all passes were joined into this one: every party that was given is its own or ended in it
  abbrev pub IsLastPass : Knowledge E L → Type 0
  IsLastPass k = (k.gives ≡ true) × (all_named k.given (account k) ≡ true)
