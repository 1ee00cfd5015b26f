-- Drawing a ticket, taking the book, and ending the turn keep the rule.
use Rattle.std.proofs.Common.{◌≡◌, ℕ, ◌+◌, ◌%◌, ◌^◌, ◌<◌, ◌≤◌, ◌==◌, Bool, true, false, List, [], ◌∷◌, length, set, get_or, Some, Option, MatchBool, refl, sym, ap, ◌∙◌, subst, arith, true≢false, eqb-true, unwrap_or}
use mathlib.Core.Logic.{dite}
use mathlib.Core.Option.{some, none}
use mathlib.Core.Option as maybe
use mathlib.Core.List.{IsPrefix}
use native.Mathlib.Decide.{ℕ_discrete}
use lib.ListN.{get_elem?}
use lib.Seq.{set-get_or}
use Rattle.atomic_table.specs.Table.{State, step, Act, keeps, takes, gives, Valid, stepped, carried_after, Allows}
use Rattle.desk_lock.specs.Passes.{entries_by}
use Rattle.desk_lock.specs.Rules.{is_live, is_in_turn, drawing, taking, ending, Queue, Fits, Stands, Home, InTurn, Holds, Kept, Sat, Draws, Looks, Lent, Ends}
use Rattle.desk_lock.specs.declared.plays.View.{View}
use Rattle.desk_lock.specs.declared.plays.Phase.{Phase}
use Rattle.desk_lock.specs.declared.plays.Phase.TheVariants.{Spent, Resting, Waiting, Holding}
use Rattle.desk_lock.proofs.Lists.{put, put_here, put_else, same_seat, here_set, seats_stay}
use Rattle.desk_lock.proofs.Seats.{refit, turn_stays, hold_stays, unmoved, few}

pub out_of_turn : (p : Phase) → p ≡ Resting → is_in_turn p ≡ true → ⊥
out_of_turn p rests now = true≢false (sym now ∙ ap is_in_turn rests)

pub not_both : (p : Phase) → p ≡ Resting → p ≡ Holding → ⊥
not_both p rests holds = out_of_turn p rests (ap is_in_turn holds)

abbrev is_waiting : Phase → Bool
is_waiting Spent = false
is_waiting Resting = false
is_waiting Waiting = true
is_waiting Holding = false

not_waiting : (p : Phase) → p ≡ Waiting → p ≡ Holding → ⊥
not_waiting p waits holds = true≢false (sym (ap is_waiting waits) ∙ ap is_waiting holds)

abbrev drawn_by : Queue → ℕ → Queue
drawn_by q id = record { drawn = q.drawn + 1; served = q.served; held = q.held; turn = put q.turn q.drawn id }

abbrev lent_out : Queue → Queue
lent_out q = record { drawn = q.drawn; served = q.served; held = true; turn = q.turn }

abbrev next_turn : Queue → Queue
next_turn q = record { drawn = q.drawn; served = q.served + 1; held = false; turn = q.turn }

module _ {E : Type 0} (q : Queue) (hist : List E) where
  draw_stands : (id j ticket : ℕ) (base : List E) (phase : Phase) → (q.held ≡ true → q.served < q.drawn) → Stands q hist j ticket base phase → Stands (drawn_by q id) hist j ticket base phase
  draw_stands id j ticket base Spent out st = tt
  draw_stands id j ticket base Resting out st = tt
  draw_stands id j ticket base Waiting out st = let h : ticket < q.drawn = st.2 in (put_else q.turn q.drawn id ticket (λ e. omega arith) ∙ st.0, st.1, omega arith)
  draw_stands id j ticket base Holding out st = let h = out st.2 in (put_else q.turn q.drawn id q.served (λ e. omega arith) ∙ st.0, st.1, st.2, st.3)

  take_stands : (j ticket : ℕ) (base : List E) (phase : Phase) → Stands q hist j ticket base phase → Stands (lent_out q) hist j ticket base phase
  take_stands j ticket base Spent st = tt
  take_stands j ticket base Resting st = tt
  take_stands j ticket base Waiting st = st
  take_stands j ticket base Holding st = (st.0, st.1, refl, st.3)

  end_stands : (id j ticket : ℕ) (base : List E) (phase : Phase) → (j ≡ id → ⊥) → q.turn q.served ≡ id → Stands q hist j ticket base phase → Stands (next_turn q) hist j ticket base phase
  end_stands id j ticket base Spent other turn st = tt
  end_stands id j ticket base Resting other turn st = tt
  end_stands id j ticket base Waiting other turn st =
      let later : ticket ≡ q.served → ⊥ = λ e. other (sym st.0 ∙ (ap q.turn e ∙ turn)) in let low : q.served ≤ ticket = st.1 in (st.0, omega arith, st.2)
  end_stands id j ticket base Holding other turn st = absurd (other (sym st.0 ∙ turn))

module _ {B E L : Type 0} (list : B → List E) (party : E → ℕ) (label : B → L) (test : L → List E → Type 0) where
  abbrev Rule : State (Option B) (View E L) → Type 0
  Rule = Kept list party label test

  -- what the rule says of a seat that is in this phase
  pub known : (s : State (Option B) (View E L)) (r : Rule s) (id : ℕ) (v : View E L) (phase : Phase) → get_elem? s.views id ≡ some v → v.phase ≡ phase → is_live phase ≡ true
      → Fits party test r.g id v × Stands r.q r.g.hist id v.ticket v.base phase
  known s r id v phase at is live = let k = r.each id v at (subst (λ p. is_live p ≡ true) (sym is) live) in
      (k.0, subst (λ p. Stands r.q r.g.hist id v.ticket v.base p) is k.1)

  -- kind 1
  pub draws : (slots id : ℕ) (me : Sat B E L) → me.0.phase ≡ Resting → Allows Rule slots id me 1 (λ n. (n + 1) % 2 ^ 64) (Draws (step slots 1 1 0 none) me)
  draws slots id me rests s r wide at small =
      let v : View E L = me.0 in
      let q : Queue = r.q in
      let w : View E L = drawing q.drawn v in
      let mine = known s r id v Resting at rests refl in
      let out : q.held ≡ true → q.served < q.drawn = λ h. (r.holder h).0 in
      let next : (q.drawn % 2 ^ 64 + 1) % 2 ^ 64 ≡ (q.drawn + 1) % 2 ^ 64 = omega arith in
      let order : q.served ≤ q.drawn = r.order in (
        w,
        keeps,
        tt,
        record {
          g = r.g;
          q = drawn_by q id;
          words = ap (λ (ws : List ℕ). set ws 1 ((get_or ws 1 0 + 1) % 2 ^ 64)) r.words ∙ ap (λ (d : ℕ). length r.g.hist ∷ d ∷ q.served % 2 ^ 64 ∷ []) next;
          short = r.short;
          home = r.home;
          passed = r.passed;
          parties = r.parties;
          numbers = r.numbers;
          each = seats_stay (λ j d. is_live d.phase ≡ true → Fits party test r.g j d × Stands (drawn_by q id) r.g.hist j d.ticket d.base d.phase) s.views id w
              (λ _. (refit party test r.g id v Waiting q.drawn v.base mine.0, (put_here q.turn q.drawn id, order, omega arith)))
              (λ j d other there live. let o = r.each j d there live in (o.0, draw_stands q r.g.hist id j d.ticket d.base d.phase out o.1));
          order = omega arith;
          turns = λ t low high. dite (ℕ_discrete q.drawn t)
              (λ e. subst (λ (u : ℕ). InTurn (set s.views id w) (put q.turn q.drawn id u) u) e (subst (λ (k : ℕ). InTurn (set s.views id w) k q.drawn) (sym (put_here q.turn q.drawn id)) (w, here_set s.views id v w at, refl, refl)))
              (λ n. subst (λ (k : ℕ). InTurn (set s.views id w) k t) (sym (put_else q.turn q.drawn id t n))
              (turn_stays s.views id (q.turn t) t v w at (λ now _. absurd (out_of_turn v.phase rests now)) (r.turns t low (omega arith))));
          holder = λ h. let x = r.holder h in (
            omega (arith, x.0),
            subst (λ (k : ℕ). Holds (set s.views id w) k) (sym (put_else q.turn q.drawn id q.served (λ e. omega (arith, x.0))))
                (hold_stays s.views id (q.turn q.served) v w at (λ now. absurd (not_both v.phase rests now)) x.1),
          );
        },
        (q.drawn, ap (λ (ws : List ℕ). get_or ws 1 0) r.words, refl),
      )

  abbrev Told : Sat B E L → Sat B E L → Bool → Type 0
  Told me me' hit = MatchBool hit ((b : B) × (me' ≡ (taking (list b) me.0, (0, Some b) ∷ me.1)) × Lent list party label me.0 b) (me' ≡ me)

  abbrev Goes : State (Option B) (View E L) → ℕ → Sat B E L → Bool → Type 0
  Goes s id me hit = (w : View E L) × (a : Act (Option B)) × Valid s.homes me.1 a × Rule (stepped s 2 (get_or s.words 2 0) id me.1 w a) × Told me (w, carried_after me.1 a) hit

  -- the ticket is served: the seat takes the book
  take_it : (id : ℕ) (me : Sat B E L) → me.0.phase ≡ Waiting → (s : State (Option B) (View E L)) (r : Rule s) → get_elem? s.views id ≡ some me.0 → me.0.ticket ≡ r.q.served
      → (held : Bool) → r.q.held ≡ held → Home list label r.g.hist r.g.name held s.homes → Goes s id me true
  take_it id me waits s r at mine true held home =
      let v : View E L = me.0 in
      let stand = (known s r id v Waiting at waits refl).1 in
      let x = (r.holder held).1 in
      let seat : r.q.turn r.q.served ≡ id = ap r.q.turn (sym mine) ∙ stand.0 in
      let same : x.0 ≡ v = same_seat s.views id x.0 v (subst (λ (k : ℕ). get_elem? s.views k ≡ some x.0) seat x.1) at in
      absurd (not_waiting v.phase waits (subst (λ (z : View E L). z.phase ≡ Holding) same x.2))
  take_it id me waits s r at mine false held home =
      let v : View E L = me.0 in
      let q : Queue = r.q in
      let b : B = home.0 in
      let w : View E L = taking (list b) v in
      let known = known s r id v Waiting at waits refl in
      let fit = known.0 in
      let stand = known.1 in
      let seat : q.turn q.served ≡ id = ap q.turn (sym mine) ∙ stand.0 in
      let high : v.ticket < q.drawn = stand.2 in
      let is : list b ≡ r.g.hist = home.2 in (
        w,
        takes 0 (Some b),
        ap (λ (hs : List (maybe.Option (Option B))). get_elem? hs 0) home.1,
        record {
          g = r.g;
          q = lent_out q;
          words = set-get_or s.words 2 0 ∙ r.words;
          short = r.short;
          home = ap (λ (hs : List (maybe.Option (Option B))). set hs 0 none) home.1;
          passed = r.passed;
          parties = r.parties;
          numbers = r.numbers;
          each = seats_stay (λ j d. is_live d.phase ≡ true → Fits party test r.g j d × Stands (lent_out q) r.g.hist j d.ticket d.base d.phase) s.views id w
              (λ _. (refit party test r.g id v Holding v.ticket (list b) fit, (seat, mine, refl, is)))
              (λ j d other there live. let o = r.each j d there live in (o.0, take_stands q r.g.hist j d.ticket d.base d.phase o.1));
          order = r.order;
          turns = λ t low up. turn_stays s.views id (q.turn t) t v w at (λ _ tick. (refl, tick)) (r.turns t low up);
          holder = λ _. (omega arith, (w, subst (λ (k : ℕ). get_elem? (set s.views id w) k ≡ some w) (sym seat) (here_set s.views id v w at), refl));
        },
        (
          b,
          refl,
          (
            ap (λ (l : L). Some l) home.3 ∙ sym fit.labelled,
            subst (λ (h : List E). IsPrefix v.seen h) (sym is) fit.begins,
            ap (entries_by party v.party) is ∙ sym fit.whole,
            subst (λ (h : List E). length h ≤ 2 ^ 40) (sym is) r.short,
          ),
        ),
      )

  looks_by : (id : ℕ) (me : Sat B E L) → me.0.phase ≡ Waiting → (s : State (Option B) (View E L)) (r : Rule s) → get_elem? s.views id ≡ some me.0 → (hit : Bool) → (get_or s.words 2 0 == me.0.ticket % 2 ^ 64) ≡ hit → Goes s id me hit
  looks_by id me waits s r at true hit =
      let stand = (known s r id me.0 Waiting at waits refl).1 in
      let low : r.q.served ≤ me.0.ticket = stand.1 in
      let high : me.0.ticket < r.q.drawn = stand.2 in
      let bound : r.q.drawn ≤ r.q.served + 65536 = few list party label test s r in
      let found : get_or s.words 2 0 ≡ r.q.served % 2 ^ 64 = ap (λ (ws : List ℕ). get_or ws 2 0) r.words in
      let same : r.q.served % 2 ^ 64 ≡ me.0.ticket % 2 ^ 64 = sym found ∙ eqb-true (get_or s.words 2 0) (me.0.ticket % 2 ^ 64) hit in
      let mine : me.0.ticket ≡ r.q.served = omega arith in
      take_it id me waits s r at mine r.q.held refl r.home
  looks_by id me waits s r at false hit = (me.0, keeps, tt, unmoved list party label test s 2 id me.0 r at, refl)

  -- kind 2
  pub looks : (slots id : ℕ) (me : Sat B E L) → me.0.phase ≡ Waiting → Allows Rule slots id me 2 (λ n. n) (Looks list party label (step slots 2 0 0 none) me)
  looks slots id me waits s r wide at small = looks_by id me waits s r at (get_or s.words 2 0 == me.0.ticket % 2 ^ 64) refl

  -- kind 6
  pub ends : (slots id : ℕ) (v : View E L) (b : B) → v.phase ≡ Holding → list b ≡ v.base → Some (label b) ≡ v.label → Allows Rule slots id (v, (0, Some b) ∷ []) 2 (λ n. (n + 1) % 2 ^ 64) (Ends (step slots 2 1 0 none) (v, (0, Some b) ∷ []))
  ends slots id v b holds same named s r wide at small =
      let q : Queue = r.q in
      let w : View E L = ending v in
      let mine = known s r id v Holding at holds refl in
      let stand = mine.1 in
      let turn : q.turn q.served ≡ id = stand.0 in
      let ticket : v.ticket ≡ q.served = stand.1 in
      let more : q.served < q.drawn = (r.holder stand.2).0 in
      let empty : s.homes ≡ none ∷ [] = subst (λ (h : Bool). Home list label r.g.hist r.g.name h s.homes) stand.2 r.home in
      let next : (q.served % 2 ^ 64 + 1) % 2 ^ 64 ≡ (q.served + 1) % 2 ^ 64 = omega arith in
      let name : label b ≡ r.g.name = ap (λ (o : Option L). unwrap_or o (label b)) (named ∙ mine.0.labelled) in (
        w,
        gives,
        tt,
        record {
          g = r.g;
          q = next_turn q;
          words = ap (λ (ws : List ℕ). set ws 2 ((get_or ws 2 0 + 1) % 2 ^ 64)) r.words ∙ ap (λ (d : ℕ). length r.g.hist ∷ q.drawn % 2 ^ 64 ∷ d ∷ []) next;
          short = r.short;
          home = (b, ap (λ (hs : List (maybe.Option (Option B))). set hs 0 (some (Some b))) empty, same ∙ stand.3, name);
          passed = r.passed;
          parties = r.parties;
          numbers = r.numbers;
          each = seats_stay (λ j d. is_live d.phase ≡ true → Fits party test r.g j d × Stands (next_turn q) r.g.hist j d.ticket d.base d.phase) s.views id w
              (λ _. (refit party test r.g id v Resting v.ticket v.base mine.0, tt))
              (λ j d other there live. let o = r.each j d there live in (o.0, end_stands q r.g.hist id j d.ticket d.base d.phase other turn o.1));
          order = omega arith;
          turns = λ t low high. turn_stays s.views id (q.turn t) t v w at (λ _ tick. absurd (omega arith)) (r.turns t (omega arith) high);
          holder = λ h. absurd (true≢false (sym h));
        },
        refl,
      )
