-- What the calls need of the lemmas on steps, where a seat is known up to an equation.
use Rattle.std.proofs.Common.{◌≡◌, ℕ, ◌+◌, ◌%◌, ◌^◌, ◌<◌, ◌≤◌, true, false, List, [], ◌∷◌, length, Some, None, Option, MatchBool, refl, sym, ap, ◌∙◌, subst, inl, inr, arith, true≢false, eq-eqb, unwrap_or}
use mathlib.Core.Option.{some, none, some-injective}
use mathlib.Core.List.{IsPrefix}
use lib.ListN.{get_elem?}
use Rattle.atomic_table.specs.Table.{State, step, Allows, Splits, Final, Seen, opening, rest}
use Rattle.desk_lock.specs.Passes.{LockName, Knowledge, IsPassOf, IsLastPass, GrewBy, account, is_in, is_named, entries_by, entries_under}
use Rattle.desk_lock.specs.Rules.{is_live, is_in_turn, shown, first_view, giving, newcomer, joined, adding, taking, Kept, Sat, Lent, Adds, Ends, Looks, Compares}
use Rattle.desk_lock.specs.declared.plays.View.{View}
use Rattle.desk_lock.specs.declared.plays.Phase.{Phase}
use Rattle.desk_lock.specs.declared.plays.Phase.TheVariants.{Spent, Resting, Waiting, Holding}
use Rattle.desk_lock.proofs.Lists.{longer_meets}
use Rattle.desk_lock.proofs.Turns.{ends}
use Rattle.desk_lock.proofs.Entries.{adds}
use Rattle.desk_lock.proofs.Meetings.{begins, splits, closes}

idle : (p : Phase) → is_in_turn p ≡ false → is_live p ≡ true → p ≡ Resting
idle Spent out live = absurd (true≢false (sym live))
idle Resting out live = refl
idle Waiting out live = absurd (true≢false out)
idle Holding out live = absurd (true≢false out)

-- the seat of an open pass has no ticket
pub pass_rests : {E L : Type 0} (lock name : LockName) (v : View E L) (k : Knowledge E L) → shown lock v ≡ k → is_in_turn v.phase ≡ false → IsPassOf name k → v.phase ≡ Resting
pass_rests lock name v k is out pass = idle v.phase out (ap (λ (z : Knowledge _ _). z.live) is ∙ pass.1)

-- a seat with a book out
abbrev pub with_book : {B E L : Type 0} → View E L → B → Sat B E L
with_book v b = (v, (0, Some b) ∷ [])

-- the book was put into the slot that was out
pub exchanged : {B E L : Type 0} (m before : Sat B E L) (b : B) → m ≡ (before.0, (0, Some b) ∷ rest before.1) → before.1 ≡ (0, None) ∷ [] → m ≡ with_book before.0 b
exchanged {B} m before b is out = is ∙ ap (λ (xs : List (ℕ × Option B)). (before.0, (0, Some b) ∷ rest xs)) out

-- the slot that was taken last is the book's
pub headed : {B E L : Type 0} (m : Sat B E L) (v : View E L) (b : B) (xs : List (ℕ × Option B)) → m ≡ (v, (0, Some b) ∷ xs) → m.1 ≡ (0, Some b) ∷ rest m.1
headed {B} {E} {L} m v b xs is = let out : m.1 ≡ (0, Some b) ∷ xs = ap (λ (z : Sat B E L). z.1) is in
    out ∙ ap (λ (ys : List (ℕ × Option B)). (0, Some b) ∷ ys) (sym (ap rest out))

module _ {B E L : Type 0} (list : B → List E) (party : E → ℕ) (label : B → L) where
  -- the ticket is served, and the book is out with the seat
  pub served : (m after : Sat B E L) (n ticket : ℕ) → n ≡ ticket → ticket ≡ m.0.ticket % 2 ^ 64 → Looks list party label (step 1 2 0 0 none) m n after
      → (b : B) × (after ≡ (taking (list b) m.0, (0, Some b) ∷ m.1)) × Lent list party label m.0 b
  served m after n ticket found is told = subst (λ hit. MatchBool hit ((b : B) × (after ≡ (taking (list b) m.0, (0, Some b) ∷ m.1)) × Lent list party label m.0 b) (after ≡ m))
      (eq-eqb n (m.0.ticket % 2 ^ 64) (found ∙ is)) told

module _ {B E L : Type 0} (party : E → ℕ) (test : L → List E → Type 0) where
  -- what two passes have seen begins what the joined one has
  pub joined_begins : (v w : View E L) (out : List (ℕ × Option B)) (m after : Sat B E L) (xs ys : List E) → m ≡ (joined party v w, out) → v.seen ≡ xs → w.seen ≡ ys → Compares party test (step 1 0 0 0 none) m 0 after
      → IsPrefix xs after.0.seen × IsPrefix ys after.0.seen
  joined_begins v w out m after xs ys is first second told =
      let at_join = subst (λ (z : Sat B E L). Compares party test (step 1 0 0 0 none) z 0 after) is told in
      let h = at_join.1 in
      let meets = longer_meets v.seen w.seen h.0 h.1 h.2 in
      let long = ap (λ (z : Sat B E L). z.0.seen) (sym at_join.0) in
      (subst (λ (x : List E × List E). IsPrefix x.0 x.1) (λ i. (first i, long i)) meets.0, subst (λ (x : List E × List E). IsPrefix x.0 x.1) (λ i. (second i, long i)) meets.1)

module _ {B E L : Type 0} (list : B → List E) (party : E → ℕ) (label : B → L) (test : L → List E → Type 0) where
  abbrev Rule : State (Option B) (View E L) → Type 0
  Rule = Kept list party label test

  -- a table as it is made
  pub begins_as : (b told : B) (p : ℕ) (slots : List (Option B)) → slots ≡ Some b ∷ [] → told ≡ b → list b ≡ [] → test (label b) (list b) → p < 65536 → Rule (opening (0 ∷ 0 ∷ 0 ∷ []) slots (first_view (label told) p))
  begins_as b told p slots laid is blank t small = subst (λ (x : List (Option B) × B). Rule (opening (0 ∷ 0 ∷ 0 ∷ []) x.0 (first_view (label x.1) p))) (λ i. (sym laid i, sym is i)) (begins list party label test b p blank t small)

  -- a seat is cut for a party whose number the split was told
  pub cuts : (id : ℕ) (v : View E L) (p name : ℕ) → v.phase ≡ Resting → v.gives ≡ true → is_in p v.given ≡ false → p < 65536 → p ≡ name → Splits Rule id v (giving name v) (newcomer name v)
  cuts id v p name rests gives fresh small is = subst (λ (n : ℕ). Splits Rule id v (giving n v) (newcomer n v)) is (splits list party label test id v p rests gives fresh small)

  -- the holder may add the entry by which its book grew
  pub may_add : (slots id : ℕ) (m : Sat B E L) (v : View E L) (b : B) (before now : ℕ) → m ≡ with_book v b → v.phase ≡ Holding → before ≡ length v.base → now ≡ length (list b) → before < now → GrewBy party v.party v.base (list b)
      → Some (label b) ≡ v.label → length (list b) ≤ 2 ^ 40 → test (label b) (list b) → Allows Rule slots id m 0 (λ n. (n + 1) % 2 ^ 64) (Adds list (step slots 0 1 0 none) m)
  may_add slots id m v b before now is holds was count more (inl same) named room t = absurd (omega (arith, was, count, more, ap length same))
  may_add slots id m v b before now is holds was count more (inr grew) named room t =
      subst (λ (z : Sat B E L). Allows Rule slots id z 0 (λ n. (n + 1) % 2 ^ 64) (Adds list (step slots 0 1 0 none) z)) (sym is) (adds list party label test slots id v b grew.0 holds grew.1 grew.2 named room t)

  -- the holder may end its turn once the history is its book's list
  pub may_end : (slots id : ℕ) (m : Sat B E L) (v : View E L) (b : B) → m ≡ with_book (adding (list b) v) b → v.phase ≡ Holding → Some (label b) ≡ v.label → Allows Rule slots id m 2 (λ n. (n + 1) % 2 ^ 64) (Ends (step slots 2 1 0 none) m)
  may_end slots id m v b is holds named =
      subst (λ (z : Sat B E L). Allows Rule slots id z 2 (λ n. (n + 1) % 2 ^ 64) (Ends (step slots 2 1 0 none) z)) (sym is) (ends list party label test slots id (adding (list b) v) b holds refl named)

  -- what the book of a closed table is to the last pass
  abbrev pub Closing : Knowledge E L → B → Type 0
  Closing k b = (list b ≡ k.seen) × (Some (label b) ≡ k.label) × ((p : ℕ) → entries_by party p (list b) ≡ entries_under p (account party k)) × ((p : ℕ) → is_in p k.given ≡ is_named p (account party k))

  -- the slot of a closed table has the book
  pub closes_as : (id : ℕ) (v after : View E L) (lock name : LockName) (k : Knowledge E L) (words : List ℕ) (slots : List (Option B)) (out : Option B) → after ≡ v → shown lock v ≡ k → is_in_turn v.phase ≡ false → IsPassOf name k
      → IsLastPass party k → Final (Seen Rule id after) words slots → get_elem? slots 0 ≡ some out → (b : B) × (out ≡ Some b) × Closing k b
  closes_as id v after lock name k words slots out same is idle pass last final taken =
      let rests = pass_rests lock name v k is idle pass in
      let all : IsLastPass party (shown lock v) = subst (IsLastPass party) (sym is) last in
      let at_end : Final (Seen Rule id v) words slots = subst (λ (z : View E L). Final (Seen Rule id z) words slots) same final in
      let c = closes list party label test id v words slots rests all.0 all.1 at_end in
      (c.0, some-injective out (Some c.0) (sym taken ∙ c.1), subst (λ (z : Knowledge E L). Closing z c.0) is (c.2, c.3, c.4, c.5))

  -- the same of the book that was found in the slot
  pub closed_book : (k : Knowledge E L) (out : Option B) (b : B) → out ≡ Some b → (x : B) × (out ≡ Some x) × Closing k x → Closing k b
  closed_book k out b is x = subst (Closing k) (ap (λ (o : Option B). unwrap_or o b) (sym x.1 ∙ is)) x.2

  pub not_empty : (k : Knowledge E L) (out : Option B) → out ≡ None → (x : B) × (out ≡ Some x) × Closing k x → ⊥
  not_empty k out is x = cc (x.1, is)
