-- What a seat knows stays true while others make steps, and where a seat stands in the queue.
use Rattle.std.proofs.Common.{◌≡◌, ◌≢◌, ℕ, ◌+◌, ◌-◌, ◌%◌, ◌^◌, ◌<◌, ◌≤◌, ◌==◌, Bool, true, false, List, [], ◌∷◌, ◌++◌, length, set, Some, None, Option, refl, sym, ap, ◌∙◌, subst, arith}
use mathlib.Core.Logic.{dite}
use mathlib.Core.Option.{some, none}
use mathlib.Core.Option as maybe
use mathlib.Core.List.{IsPrefix}
use native.Mathlib.Decide.{ℕ_discrete}
use lib.ListN.{get_elem?}
use lib.Seq.{set-get_or}
use Rattle.std_collections.proofs.IndexTableLemmas.Probe.{pigeonhole, Into, OneToOne}
use Rattle.atomic_table.specs.Table.{State}
use Rattle.atomic_table.proofs.Lists.{set_again}
use Rattle.desk_lock.specs.Passes.{is_in, entries_by}
use Rattle.desk_lock.specs.Rules.{is_live, is_in_turn, Tale, Fits, InTurn, Holds, Kept}
use Rattle.desk_lock.specs.declared.plays.View.{View}
use Rattle.desk_lock.specs.declared.plays.Phase.{Phase}
use Rattle.desk_lock.specs.declared.plays.Phase.TheVariants.{Spent, Resting, Waiting, Holding}
use Rattle.desk_lock.proofs.Lists.{prefix_trans, same_seat, here_set, else_set}

-- who has a turn makes steps
pub turn_lives : (phase : Phase) → is_in_turn phase ≡ true → is_live phase ≡ true
turn_lives Spent e = e
turn_lives Resting e = refl
turn_lives Waiting e = refl
turn_lives Holding e = refl

module _ {E L : Type 0} where
  -- the ticket's seat is in turn still, after a step of one seat
  pub turn_stays : (vs : List (View E L)) (id k t : ℕ) (v w : View E L) → get_elem? vs id ≡ some v → (is_in_turn v.phase ≡ true → v.ticket ≡ t → (is_in_turn w.phase ≡ true) × (w.ticket ≡ t)) → InTurn vs k t → InTurn (set vs id w) k t
  turn_stays vs id k t v w at keep x = dite (ℕ_discrete k id)
      (λ e. let same : x.0 ≡ v = same_seat vs id x.0 v (subst (λ j. get_elem? vs j ≡ some x.0) e x.1) at in
      let now = keep (subst (λ (z : View E L). is_in_turn z.phase ≡ true) same x.2) (ap (λ (z : View E L). z.ticket) (sym same) ∙ x.3) in
      (w, subst (λ j. get_elem? (set vs id w) j ≡ some w) (sym e) (here_set vs id v w at), now.0, now.1))
      (λ n. (x.0, else_set vs id k x.0 w n x.1, x.2, x.3))

  pub hold_stays : (vs : List (View E L)) (id k : ℕ) (v w : View E L) → get_elem? vs id ≡ some v → (v.phase ≡ Holding → w.phase ≡ Holding) → Holds vs k → Holds (set vs id w) k
  hold_stays vs id k v w at keep x = dite (ℕ_discrete k id)
      (λ e. let same : x.0 ≡ v = same_seat vs id x.0 v (subst (λ j. get_elem? vs j ≡ some x.0) e x.1) at in
      (w, subst (λ j. get_elem? (set vs id w) j ≡ some w) (sym e) (here_set vs id v w at), keep (subst (λ (z : View E L). z.phase ≡ Holding) same x.2)))
      (λ n. (x.0, else_set vs id k x.0 w n x.1, x.2))

module _ {E L : Type 0} (party : E → ℕ) (test : L → List E → Type 0) where
  -- what a seat knows does not rest on where it stands in the queue
  pub refit : (g : Tale E L) (i : ℕ) (v : View E L) (phase : Phase) (ticket : ℕ) (base : List E) → Fits party test g i v → Fits party test g i (record v { phase = phase; ticket = ticket; base = base })
  refit g i v phase ticket base f = record {
    labelled = f.labelled;
    begins = f.begins;
    passed = f.passed;
    owned = f.owned;
    counted = f.counted;
    whole = f.whole;
    ends = f.ends;
    keeps = f.keeps;
    mine_begins = f.mine_begins;
    mine_whole = f.mine_whole;
    theirs_begins = f.theirs_begins;
  }

  -- the history grew by entries of parties that others have
  pub outgrown : (g : Tale E L) (i : ℕ) (v : View E L) (h : List E) → Fits party test g i v → IsPrefix g.hist h → ((p : ℕ) → g.owner p ≡ i → entries_by party p g.hist ≡ entries_by party p h) → Fits party test (record g { hist = h }) i v
  outgrown g i v h f grew others = record {
    labelled = f.labelled;
    begins = prefix_trans v.seen g.hist h f.begins grew;
    passed = f.passed;
    owned = f.owned;
    counted = f.counted;
    whole = f.whole ∙ others v.party f.owned;
    ends = λ p named. let e = f.ends p named in (e.0, e.1, e.2, e.3 ∙ others p e.0, e.4 ∙ others p e.0);
    keeps = f.keeps;
    mine_begins = prefix_trans v.mine g.hist h f.mine_begins grew;
    mine_whole = f.mine_whole ∙ others v.party f.owned;
    theirs_begins = prefix_trans v.theirs g.hist h f.theirs_begins grew;
  }

  -- parties were given, or have another seat, and none of this seat's is touched
  pub reowned : (g : Tale E L) (i : ℕ) (v : View E L) (owner : ℕ → ℕ) (given : ℕ → Bool) (keeper : ℕ) (ps : List ℕ) → Fits party test g i v
      → ((p : ℕ) → g.given p ≡ true → g.owner p ≡ i → (owner p ≡ i) × (given p ≡ true)) → (v.gives ≡ true → (keeper ≡ i) × ((p : ℕ) → is_in p ps ≡ given p))
      → Fits party test (record g { owner = owner; given = given; keeper = keeper }) i (record v { given = ps })
  reowned g i v owner given keeper ps f same keeps = record {
    labelled = f.labelled;
    begins = f.begins;
    passed = f.passed;
    owned = (same v.party f.counted f.owned).0;
    counted = (same v.party f.counted f.owned).1;
    whole = f.whole;
    ends = λ p named. let e = f.ends p named in let s = same p e.1 e.0 in (s.0, s.1, e.2, e.3, e.4);
    keeps = keeps;
    mine_begins = f.mine_begins;
    mine_whole = f.mine_whole;
    theirs_begins = f.theirs_begins;
  }

module _ {B E L : Type 0} (list : B → List E) (party : E → ℕ) (label : B → L) (test : L → List E → Type 0) where
  abbrev St : Type 0
  St = State (Option B) (View E L)

  abbrev Rule : St → Type 0
  Rule = Kept list party label test

  -- a load that changes no view
  pub unmoved : (s : St) (i id : ℕ) (v : View E L) → Rule s → get_elem? s.views id ≡ some v → Rule record { words = set s.words i (Rattle.std.proofs.Common.get_or s.words i 0); homes = s.homes; views = set s.views id v }
  unmoved s i id v r at = subst (λ (x : List ℕ × List (View E L)). Rule record { words = x.0; homes = s.homes; views = x.1 })
      (λ k. (sym (set-get_or s.words i 0) k, sym (set_again s.views id v at) k)) r

  -- the seat of a ticket that is out, as the rule knows it
  seated : (s : St) (r : Rule s) (t : ℕ) → r.q.served ≤ t → t < r.q.drawn → (v : View E L) × (get_elem? s.views (r.q.turn t) ≡ some v) × (v.ticket ≡ t) × Fits party test r.g (r.q.turn t) v
  seated s r t low high = let x = r.turns t low high in (x.0, x.1, x.3, (r.each (r.q.turn t) x.0 x.1 (turn_lives x.0.phase x.2)).0)

  abbrev party_or : maybe.Option (View E L) → ℕ
  party_or none = 0
  party_or (some v) = v.party

  -- the party of the ticket that is served as the k-th from now
  abbrev queued : (s : St) → Rule s → ℕ → ℕ
  queued s r k = party_or (get_elem? s.views (r.q.turn (r.q.served + k)))

  -- no more tickets are out than there are parties
  pub few : (s : St) (r : Rule s) → r.q.drawn ≤ r.q.served + 65536
  few s r =
      let n : ℕ = r.q.drawn - r.q.served in
      let into : Into (queued s r) n 65536 = λ k low. let x = seated s r (r.q.served + k) (omega arith) (omega arith) in
      subst (λ p. p < 65536) (sym (ap party_or x.1)) (r.numbers x.0.party x.3.counted) in
      let one : OneToOne (queued s r) n = λ j k a b e. let x = seated s r (r.q.served + j) (omega arith) (omega arith) in let y = seated s r (r.q.served + k) (omega arith) (omega arith) in
      let parties : x.0.party ≡ y.0.party = sym (ap party_or x.1) ∙ (e ∙ ap party_or y.1) in
      let seats : r.q.turn (r.q.served + j) ≡ r.q.turn (r.q.served + k) = sym x.3.owned ∙ (ap r.g.owner parties ∙ y.3.owned) in
      let same : x.0 ≡ y.0 = same_seat s.views (r.q.turn (r.q.served + k)) x.0 y.0 (subst (λ (i : ℕ). get_elem? s.views i ≡ some x.0) seats x.1) y.1 in
      let tickets : r.q.served + j ≡ r.q.served + k = sym x.2 ∙ (ap (λ (z : View E L). z.ticket) same ∙ y.2) in omega arith in
      let most = pigeonhole n 65536 (queued s r) into one in omega arith
