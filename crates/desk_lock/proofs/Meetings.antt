-- The first seat, a seat cut in two, two seats made one, and the last state keep the rule.
use Rattle.std.proofs.Common.{◌≡◌, ℕ, zero, suc, ◌<◌, ◌==◌, leb, Bool, true, false, cond, ◌||◌, List, [], ◌∷◌, ◌++◌, length, set, Some, Option, refl, sym, ap, ◌∙◌, subst, ⊎_elim, arith, append-nil, true≢false, eq-eqb, ne_eqb, eqb-true}
use Rattle.std.proofs.lemmas.Bool.{false_from_ne_true}
use mathlib.Core.Option.{some, none, some-injective, some-ne-none}
use mathlib.Core.Option as maybe
use lib.ListN.{get_elem?}
use Rattle.atomic_table.specs.Table.{State, opening, Splits, Joins, Final, Seen}
use Rattle.atomic_table.proofs.Lists.{set_else, at_longer}
use Rattle.desk_lock.specs.Passes.{Account, is_in, is_named, entries_under, all_named, entries_by, longer}
use Rattle.desk_lock.specs.Rules.{is_live, first_view, giving, newcomer, leaving, spent_view, joined, Tale, Queue, Fits, Stands, Home, InTurn, Holds, Kept}
use Rattle.desk_lock.specs.declared.plays.View.{View}
use Rattle.desk_lock.specs.declared.plays.Phase.TheVariants.{Resting, Holding}
use Rattle.desk_lock.proofs.Lists.{longer_meets, longer_has, by_none, by_between, all_seen, or_left, or_right, or_none, or_either, under_none, named-append, under-append, each_named, same_seat, at_append, seats_stay, put, put_here, put_else}
use Rattle.desk_lock.proofs.Seats.{reowned, turn_stays, hold_stays}
use Rattle.desk_lock.proofs.Turns.{known, out_of_turn, not_both}

only_seat : {A : Type 0} (P : ℕ → A → Type 0) (a : A) → P 0 a → (i : ℕ) (b : A) → get_elem? (a ∷ []) i ≡ some b → P i b
only_seat P a h zero b e = subst (P 0) (some-injective a b e) h
only_seat P a h (suc i) b e = absurd (some-ne-none b (sym e))

-- the seat `other` becomes the seat `id`
abbrev moved : ℕ → ℕ → ℕ → ℕ
moved other id k = cond (k == other) id k

moved_here : (other id k : ℕ) → k ≡ other → moved other id k ≡ id
moved_here other id k e = ap (λ b. cond b id k) (eq-eqb k other e)

moved_else : (other id k : ℕ) → (k ≡ other → ⊥) → moved other id k ≡ k
moved_else other id k n = ap (λ b. cond b id k) (ne_eqb k other n)

module _ {E L : Type 0} where
  longer_turn : (vs : List (View E L)) (w : View E L) (k t : ℕ) → InTurn vs k t → InTurn (vs ++ w ∷ []) k t
  longer_turn vs w k t x = (x.0, at_longer vs (w ∷ []) k x.0 x.1, x.2, x.3)

  longer_hold : (vs : List (View E L)) (w : View E L) (k : ℕ) → Holds vs k → Holds (vs ++ w ∷ []) k
  longer_hold vs w k x = (x.0, at_longer vs (w ∷ []) k x.0 x.1, x.2)

module _ {E L : Type 0} (party : E → ℕ) (test : L → List E → Type 0) (g : Tale E L) where
  abbrev acc : View E L → Account E
  acc v = (v.party, entries_by party v.party v.seen) ∷ v.ended

  -- a party that ended in a seat isn't the seat's own
  own_apart : (i : ℕ) (v : View E L) → Fits party test g i v → is_named v.party v.ended ≡ false
  own_apart i v f = false_from_ne_true (is_named v.party v.ended) (λ named. (f.ends v.party named).2 refl)

  -- what a seat's account names is the seat's
  named_owned : (i : ℕ) (v : View E L) → Fits party test g i v → (p : ℕ) → is_named p (acc v) ≡ true → (g.owner p ≡ i) × (g.given p ≡ true)
  named_owned i v f p named = ⊎_elim (λ is. subst (λ (q : ℕ). (g.owner q ≡ i) × (g.given q ≡ true)) (eqb-true v.party p is) (f.owned, f.counted))
      (λ later. let e = f.ends p later.1 in (e.0, e.1)) (or_either (v.party == p) (is_named p v.ended) named)

  -- a seat's account has the entries of each party that it names, and the seat has seen them
  named_entries : (i : ℕ) (v : View E L) → Fits party test g i v → (p : ℕ) → is_named p (acc v) ≡ true
      → (entries_under p (acc v) ≡ entries_by party p g.hist) × (entries_by party p v.seen ≡ entries_by party p g.hist)
  named_entries i v f p named = ⊎_elim
      (λ is. subst (λ (q : ℕ). (entries_under q (acc v) ≡ entries_by party q g.hist) × (entries_by party q v.seen ≡ entries_by party q g.hist)) (eqb-true v.party p is) (
        ap (λ b. cond b (entries_by party v.party v.seen) [] ++ entries_under v.party v.ended) (eq-eqb v.party v.party refl)
            ∙ (ap (λ zs. entries_by party v.party v.seen ++ zs) (under_none v.party v.ended (own_apart i v f)) ∙ (append-nil (entries_by party v.party v.seen) ∙ f.whole)),
        f.whole,
      ))
      (λ later. let e = f.ends p later.1 in (ap (λ b. cond b (entries_by party v.party v.seen) [] ++ entries_under p v.ended) later.0 ∙ e.3, e.4))
      (or_either (v.party == p) (is_named p v.ended) named)

  -- the party that ended, after two seats met
  abbrev Ended : ℕ → ℕ → View E L → View E L → ℕ → Type 0
  Ended id other v w q = (moved other id (g.owner q) ≡ id) × (g.given q ≡ true) × (q ≡ v.party → ⊥) × (entries_under q (v.ended ++ acc w) ≡ entries_by party q g.hist) × (entries_by party q (longer v.seen w.seen) ≡ entries_by party q g.hist)

  joined_ends : (id other : ℕ) (v w : View E L) → (other ≡ id → ⊥) → Fits party test g id v → Fits party test g other w → (q : ℕ) → is_named q (v.ended ++ acc w) ≡ true → Ended id other v w q
  joined_ends id other v w ne f h q named =
      let meets = longer_meets v.seen w.seen g.hist f.begins h.begins in ⊎_elim
      (λ first. let e = f.ends q first in
      let absent : is_named q (acc w) ≡ false = false_from_ne_true (is_named q (acc w)) (λ there. ne (sym (named_owned other w h q there).0 ∙ e.0)) in (
        ap (moved other id) e.0 ∙ moved_else other id id (λ x. ne (sym x)),
        e.1,
        e.2,
        under-append q v.ended (acc w) ∙ (ap (λ zs. entries_under q v.ended ++ zs) (under_none q (acc w) absent) ∙ (append-nil (entries_under q v.ended) ∙ e.3)),
        by_between party q v.seen (longer v.seen w.seen) g.hist meets.0 meets.2 e.4,
      ))
      (λ later. let o = named_owned other w h q later.1 in let e = named_entries other w h q later.1 in (
        moved_here other id (g.owner q) o.0,
        o.1,
        λ is. ne (sym o.0 ∙ (ap g.owner is ∙ f.owned)),
        under-append q v.ended (acc w) ∙ (ap (λ zs. zs ++ entries_under q (acc w)) (under_none q v.ended later.0) ∙ e.0),
        by_between party q w.seen (longer v.seen w.seen) g.hist meets.1 meets.2 e.1,
      ))
      (or_either (is_named q v.ended) (is_named q (acc w)) (sym (named-append q v.ended (acc w)) ∙ named))

  joined_keeps : (id other : ℕ) (v w : View E L) → (other ≡ id → ⊥) → Fits party test g id v → Fits party test g other w → (b : Bool) → v.gives ≡ b → (b || w.gives) ≡ true
      → (moved other id g.keeper ≡ id) × ((q : ℕ) → is_in q (cond b v.given w.given) ≡ g.given q)
  joined_keeps id other v w ne f h true gives one = let k = f.keeps gives in (ap (moved other id) k.0 ∙ moved_else other id id (λ x. ne (sym x)), k.1)
  joined_keeps id other v w ne f h false gives one = let k = h.keeps one in (moved_here other id g.keeper k.0, k.1)

  -- what the seat knows in which two were made one
  joined_fits : (id other : ℕ) (v w : View E L) → (other ≡ id → ⊥) → Fits party test g id v → Fits party test g other w
      → Fits party test (record g { owner = λ p. moved other id (g.owner p); keeper = moved other id g.keeper }) id (joined party v w)
  joined_fits id other v w ne f h = let meets = longer_meets v.seen w.seen g.hist f.begins h.begins in record {
    labelled = f.labelled;
    begins = meets.2;
    passed = longer_has (test g.name) v.seen w.seen f.passed h.passed (leb (length w.seen) (length v.seen));
    owned = ap (moved other id) f.owned ∙ moved_else other id id (λ x. ne (sym x));
    counted = f.counted;
    whole = by_between party v.party v.seen (longer v.seen w.seen) g.hist meets.0 meets.2 f.whole;
    ends = joined_ends id other v w ne f h;
    keeps = joined_keeps id other v w ne f h v.gives refl;
    mine_begins = f.begins;
    mine_whole = f.whole;
    theirs_begins = h.begins;
  }

  -- what a seat knows that stands by while the two were made one
  beside : (id other j : ℕ) (d : View E L) → (j ≡ other → ⊥) → Fits party test g j d → Fits party test (record g { owner = λ p. moved other id (g.owner p); keeper = moved other id g.keeper }) j d
  beside id other j d apart f = reowned party test g j d (λ p. moved other id (g.owner p)) g.given (moved other id g.keeper) d.given f
      (λ p given owns. (ap (moved other id) owns ∙ moved_else other id j apart, given))
      (λ gives. let k = f.keeps gives in (ap (moved other id) k.0 ∙ moved_else other id j apart, k.1))

module _ {B E L : Type 0} (list : B → List E) (party : E → ℕ) (label : B → L) (test : L → List E → Type 0) where
  abbrev Rule : State (Option B) (View E L) → Type 0
  Rule = Kept list party label test

  -- a table as it is made
  pub begins : (b : B) (p : ℕ) → list b ≡ [] → test (label b) (list b) → p < 65536 → Rule (opening (0 ∷ 0 ∷ 0 ∷ []) (Some b ∷ []) (first_view (label b) p))
  begins b p blank t small =
      let g : Tale E L = record { hist = []; name = label b; owner = λ _. 0; given = λ q. (p == q) || false; keeper = 0 } in
      let q : Queue = record { drawn = 0; served = 0; held = false; turn = λ _. 0 } in
      let pass : test (label b) [] = subst (test (label b)) blank t in
      record {
        g = g;
        q = q;
        words = refl;
        short = omega arith;
        home = (b, refl, blank, refl);
        passed = pass;
        parties = λ _ _. refl;
        numbers = λ k given. ⊎_elim (λ is. subst (λ (n : ℕ). n < 65536) (eqb-true p k is) small) (λ later. absurd (true≢false (sym later.1))) (or_either (p == k) false given);
        each = only_seat (λ j d. is_live d.phase ≡ true → Fits party test g j d × Stands q [] j d.ticket d.base d.phase) (first_view (label b) p) (λ _. (
          record {
            labelled = refl;
            begins = ([], refl);
            passed = pass;
            owned = refl;
            counted = or_left (p == p) false (eq-eqb p p refl);
            whole = refl;
            ends = λ k named. absurd (true≢false (sym named));
            keeps = λ _. (refl, λ k. refl);
            mine_begins = ([], refl);
            mine_whole = refl;
            theirs_begins = ([], refl);
          },
          tt,
        ));
        order = omega arith;
        turns = λ k low high. absurd (omega arith);
        holder = λ held. absurd (true≢false (sym held));
      }

  -- a seat for a new party
  pub splits : (id : ℕ) (v : View E L) (p : ℕ) → v.phase ≡ Resting → v.gives ≡ true → is_in p v.given ≡ false → p < 65536 → Splits Rule id v (giving p v) (newcomer p v)
  splits id v p rests gives fresh small s r at =
      let g : Tale E L = r.g in
      let left : View E L = giving p v in
      let right : View E L = newcomer p v in
      let n : ℕ = length (set s.views id left) in
      let fit = (known list party label test s r id v Resting at rests refl).0 in
      let keeper = fit.keeps gives in
      let absent : g.given p ≡ false = sym (keeper.1 p) ∙ fresh in
      let none : entries_by party p g.hist ≡ [] = r.parties p absent in
      let owner : ℕ → ℕ = put g.owner p n in
      let given : ℕ → Bool = λ q. (p == q) || g.given q in
      let after : Tale E L = record g { owner = owner; given = given } in
      let same : (j q : ℕ) → g.given q ≡ true → g.owner q ≡ j → (owner q ≡ j) × (given q ≡ true) =
      λ j q was owns. (put_else g.owner p n q (λ e. true≢false (sym was ∙ (ap g.given (sym e) ∙ absent))) ∙ owns, or_right (p == q) (g.given q) was) in
      let P : ℕ → View E L → Type 0 = λ j d. is_live d.phase ≡ true → Fits party test after j d × Stands r.q g.hist j d.ticket d.base d.phase in
      let first : (j : ℕ) (d : View E L) → get_elem? (set s.views id left) j ≡ some d → P j d = seats_stay P s.views id left
      (λ live. (reowned party test g id v owner given g.keeper (p ∷ v.given) fit (same id) (λ _. (keeper.0, λ q. ap (λ b. (p == q) || b) (keeper.1 q))), (r.each id v at live).1))
      (λ j d other there live. let o = r.each j d there live in
      (reowned party test g j d owner given g.keeper d.given o.0 (same j) (λ also. absurd (other (sym (o.0.keeps also).0 ∙ keeper.0))), o.1)) in
      let last : P n right = λ _. (
        record {
          labelled = fit.labelled;
          begins = fit.begins;
          passed = fit.passed;
          owned = put_here g.owner p n;
          counted = or_left (p == p) (g.given p) (eq-eqb p p refl);
          whole = by_none party p v.seen g.hist fit.begins none ∙ sym none;
          ends = λ k named. absurd (true≢false (sym named));
          keeps = λ also. absurd (true≢false (sym also));
          mine_begins = (g.hist, refl);
          mine_whole = sym none;
          theirs_begins = (g.hist, refl);
        },
        tt,
      ) in
      record {
        g = after;
        q = r.q;
        words = r.words;
        short = r.short;
        home = r.home;
        passed = r.passed;
        parties = λ q no. r.parties q (or_none (p == q) (g.given q) no).1;
        numbers = λ q is. ⊎_elim (λ e. subst (λ (k : ℕ). k < 65536) (eqb-true p q e) small) (λ later. r.numbers q later.1) (or_either (p == q) (g.given q) is);
        each = λ j d there. ⊎_elim (λ e. first j d e) (λ (e : (j ≡ n) × (right ≡ d)). subst (λ (x : ℕ × View E L). P x.0 x.1) (λ i. (sym e.0 i, e.1 i)) last) (at_append (set s.views id left) right d j there);
        order = r.order;
        turns = λ t low high. longer_turn (set s.views id left) right (r.q.turn t) t (turn_stays s.views id (r.q.turn t) t v left at (λ now tick. (now, tick)) (r.turns t low high));
        holder = λ held. let x = r.holder held in (x.0, longer_hold (set s.views id left) right (r.q.turn r.q.served) (hold_stays s.views id (r.q.turn r.q.served) v left at (λ now. now) x.1));
      }

  -- a seat that makes no step, beside the one whose knowledge it shows
  pub leaves : (id : ℕ) (v : View E L) → Splits Rule id v v (leaving v)
  leaves id v s r at =
      let P : ℕ → View E L → Type 0 = λ j d. is_live d.phase ≡ true → Fits party test r.g j d × Stands r.q r.g.hist j d.ticket d.base d.phase in
      let first : (j : ℕ) (d : View E L) → get_elem? (set s.views id v) j ≡ some d → P j d = seats_stay P s.views id v (r.each id v at) (λ j d other there. r.each j d there) in
      record {
        g = r.g;
        q = r.q;
        words = r.words;
        short = r.short;
        home = r.home;
        passed = r.passed;
        parties = r.parties;
        numbers = r.numbers;
        each = λ j d there. ⊎_elim (λ e. first j d e) (λ (e : (j ≡ length (set s.views id v)) × (leaving v ≡ d)). subst (λ (z : View E L). P j z) e.1 (λ live. absurd (true≢false (sym live)))) (at_append (set s.views id v) (leaving v) d j there);
        order = r.order;
        turns = λ t low high. longer_turn (set s.views id v) (leaving v) (r.q.turn t) t (turn_stays s.views id (r.q.turn t) t v v at (λ now tick. (now, tick)) (r.turns t low high));
        holder = λ held. let x = r.holder held in (x.0, longer_hold (set s.views id v) (leaving v) (r.q.turn r.q.served) (hold_stays s.views id (r.q.turn r.q.served) v v at (λ now. now) x.1));
      }

  -- two seats made one
  pub joins : (id : ℕ) (v : View E L) (other : ℕ) (w : View E L) → v.phase ≡ Resting → w.phase ≡ Resting → Joins Rule id v other w (joined party v w) spent_view
  joins id v other w rests stops s r at ne there =
      let g : Tale E L = r.g in
      let both : View E L = joined party v w in
      let where_w : get_elem? s.views other ≡ some w = sym (set_else s.views id other both ne) ∙ there in
      let f = (known list party label test s r id v Resting at rests refl).0 in
      let h = (known list party label test s r other w Resting where_w stops refl).0 in
      let after : Tale E L = record g { owner = λ p. moved other id (g.owner p); keeper = moved other id g.keeper } in
      let P : ℕ → View E L → Type 0 = λ j d. is_live d.phase ≡ true → Fits party test after j d × Stands r.q g.hist j d.ticket d.base d.phase in
      let Q : ℕ → View E L → Type 0 = λ j d. (j ≡ other → ⊥) → P j d in
      let first : (j : ℕ) (d : View E L) → get_elem? (set s.views id both) j ≡ some d → Q j d = seats_stay Q s.views id both
      (λ _ live. (joined_fits party test g id other v w ne f h, (r.each id v at live).1))
      (λ j d _ seen apart live. let o = r.each j d seen live in (beside party test g id other j d apart o.0, o.1)) in
      let quiet : (t k : ℕ) → InTurn s.views k t → InTurn (set (set s.views id both) other spent_view) k t = λ t k x.
      turn_stays (set s.views id both) other k t w spent_view there (λ now _. absurd (out_of_turn w.phase stops now)) (turn_stays s.views id k t v both at (λ now tick. (now, tick)) x) in
      record {
        g = after;
        q = r.q;
        words = r.words;
        short = r.short;
        home = r.home;
        passed = r.passed;
        parties = r.parties;
        numbers = r.numbers;
        each = seats_stay P (set s.views id both) other spent_view (λ live. absurd (true≢false (sym live))) (λ j d apart seen. first j d seen apart);
        order = r.order;
        turns = λ t low high. quiet t (r.q.turn t) (r.turns t low high);
        holder = λ held. let x = r.holder held in (
          x.0,
          hold_stays (set s.views id both) other (r.q.turn r.q.served) w spent_view there (λ now. absurd (not_both w.phase stops now))
              (hold_stays s.views id (r.q.turn r.q.served) v both at (λ now. now) x.1),
        );
      }

  -- every party that was given is the last seat's
  all_owned : (id : ℕ) (v : View E L) (s : State (Option B) (View E L)) (r : Rule s) → Fits party test r.g id v → v.gives ≡ true → all_named v.given (acc party test r.g v) ≡ true → (p : ℕ) → r.g.given p ≡ true → is_named p (acc party test r.g v) ≡ true
  all_owned id v s r f gives all p given = each_named p v.given (acc party test r.g v) all ((f.keeps gives).1 p ∙ given)

  -- the book isn't out
  no_hold : (id : ℕ) (v : View E L) (s : State (Option B) (View E L)) (r : Rule s) → get_elem? s.views id ≡ some v → v.phase ≡ Resting → Fits party test r.g id v → v.gives ≡ true → all_named v.given (acc party test r.g v) ≡ true → r.q.held ≡ false
  no_hold id v s r at rests f gives all = false_from_ne_true r.q.held (λ held.
      let x = (r.holder held).1 in
      let fit = (known list party label test s r (r.q.turn r.q.served) x.0 Holding x.1 x.2 refl).0 in
      let owner = (named_owned party test r.g id v f x.0.party (all_owned id v s r f gives all x.0.party fit.counted)).0 in
      let seat : r.q.turn r.q.served ≡ id = sym fit.owned ∙ owner in
      let same : x.0 ≡ v = same_seat s.views id x.0 v (subst (λ (k : ℕ). get_elem? s.views k ≡ some x.0) seat x.1) at in
      not_both v.phase rests (subst (λ (z : View E L). z.phase ≡ Holding) same x.2))

  -- what the last seat's account has of each party, and what it has seen of it
  abbrev Settled : (s : State (Option B) (View E L)) → Rule s → View E L → ℕ → Bool → Type 0
  Settled s r v p given = (entries_by party p v.seen ≡ entries_by party p r.g.hist) × (entries_by party p r.g.hist ≡ entries_under p (acc party test r.g v)) × (given ≡ is_named p (acc party test r.g v))

  settled : (id : ℕ) (v : View E L) (s : State (Option B) (View E L)) (r : Rule s) → Fits party test r.g id v → v.gives ≡ true → all_named v.given (acc party test r.g v) ≡ true → (p : ℕ) (given : Bool) → r.g.given p ≡ given → Settled s r v p given
  settled id v s r f gives all p true given = let named = all_owned id v s r f gives all p given in let e = named_entries party test r.g id v f p named in (e.1, sym e.0, sym named)
  settled id v s r f gives all p false given =
      let none = r.parties p given in
      let absent : is_named p (acc party test r.g v) ≡ false = false_from_ne_true (is_named p (acc party test r.g v)) (λ named. true≢false (sym (named_owned party test r.g id v f p named).1 ∙ given)) in
      (by_none party p v.seen r.g.hist f.begins none ∙ sym none, none ∙ sym (under_none p (acc party test r.g v) absent), sym absent)

  -- The last state, where all passes were joined: the book lies in the slot, its list was seen whole, and the account has the entries of each party
  pub closes : (id : ℕ) (v : View E L) (words : List ℕ) (slots : List (Option B)) → v.phase ≡ Resting → v.gives ≡ true → all_named v.given ((v.party, entries_by party v.party v.seen) ∷ v.ended) ≡ true → Final (Seen Rule id v) words slots
      → (b : B) × (get_elem? slots 0 ≡ some (Some b)) × (list b ≡ v.seen) × (Some (label b) ≡ v.label) × ((p : ℕ) → entries_by party p (list b) ≡ entries_under p ((v.party, entries_by party v.party v.seen) ∷ v.ended))
      × ((p : ℕ) → is_in p v.given ≡ is_named p ((v.party, entries_by party v.party v.seen) ∷ v.ended))
  closes id v words slots rests gives all last =
      let s = last.0 in
      let r : Rule s = last.1.0 in
      let f = (known list party label test s r id v Resting last.1.1 rests refl).0 in
      let each : (p : ℕ) → Settled s r v p (r.g.given p) = λ p. settled id v s r f gives all p (r.g.given p) refl in
      let home : Home list label r.g.hist r.g.name false s.homes = subst (λ (h : Bool). Home list label r.g.hist r.g.name h s.homes) (no_hold id v s r last.1.1 rests f gives all) r.home in
      let whole : v.seen ≡ r.g.hist = all_seen party v.seen r.g.hist f.begins (λ p. (each p).0) in (
        home.0,
        last.4 0 (Some home.0) (ap (λ (hs : List (maybe.Option (Option B))). get_elem? hs 0) home.1),
        home.2 ∙ sym whole,
        ap (λ (l : L). Some l) home.3 ∙ sym f.labelled,
        λ p. ap (entries_by party p) home.2 ∙ (each p).1,
        λ p. (f.keeps gives).1 p ∙ (each p).2,
      )
