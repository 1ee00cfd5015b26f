-- Adding an entry and looking at the history keep the rule.
use Rattle.std.proofs.Common.{◌≡◌, ℕ, ◌+◌, ◌%◌, ◌^◌, ◌<◌, ◌≤◌, Bool, true, false, List, [], ◌∷◌, ◌++◌, length, set, get_or, Some, Option, refl, sym, ap, ◌∙◌, subst, arith, length-append, unwrap_or}
use mathlib.Core.Option.{some, none}
use mathlib.Core.List.{IsPrefix}
use lib.Seq.{set-get_or}
use Rattle.atomic_table.specs.Table.{State, step, keeps, Allows}
use Rattle.desk_lock.specs.Passes.{entries_by}
use Rattle.desk_lock.specs.Rules.{is_live, seeing, adding, Queue, Fits, Stands, Home, Kept, Sat, Adds, Shows, Compares}
use Rattle.desk_lock.specs.declared.plays.View.{View}
use Rattle.desk_lock.specs.declared.plays.Phase.{Phase}
use Rattle.desk_lock.specs.declared.plays.Phase.TheVariants.{Spent, Resting, Waiting, Holding}
use Rattle.desk_lock.proofs.Lists.{prefix_self, prefix_trans, by_other, by_none, seats_stay}
use Rattle.desk_lock.proofs.Seats.{outgrown, turn_stays, hold_stays, unmoved}
use Rattle.desk_lock.proofs.Turns.{known}

add_stands : {E : Type 0} (q : Queue) (hist after : List E) (id j ticket : ℕ) (base : List E) (phase : Phase) → (j ≡ id → ⊥) → q.turn q.served ≡ id → Stands q hist j ticket base phase → Stands q after j ticket base phase
add_stands q hist after id j ticket base Spent other turn st = tt
add_stands q hist after id j ticket base Resting other turn st = tt
add_stands q hist after id j ticket base Waiting other turn st = st
add_stands q hist after id j ticket base Holding other turn st = absurd (other (sym st.0 ∙ turn))

home_out : {B E L : Type 0} (list : B → List E) (label : B → L) (hist after : List E) (name : L) (homes : List (mathlib.Core.Option.Option (Option B))) (held : Bool) → held ≡ true → Home list label hist name held homes → Home list label after name held homes
home_out list label hist after name homes true held h = h
home_out list label hist after name homes false held h = absurd (cc held)

module _ {B E L : Type 0} (list : B → List E) (party : E → ℕ) (label : B → L) (test : L → List E → Type 0) where
  abbrev Rule : State (Option B) (View E L) → Type 0
  Rule = Kept list party label test

  -- the test beside the label that a seat shows
  tested : (v : View E L) (name : L) (xs : List E) → v.label ≡ Some name → test name xs → (l : L) → v.label ≡ Some l → test l xs
  tested v name xs labelled t l e = subst (λ (z : L). test z xs) (ap (λ (o : Option L). unwrap_or o l) (sym labelled ∙ e)) t

  -- kind 4
  pub adds : (slots id : ℕ) (v : View E L) (b : B) (e : E) → v.phase ≡ Holding → list b ≡ v.base ++ e ∷ [] → party e ≡ v.party → Some (label b) ≡ v.label → length (list b) ≤ 2 ^ 40
      → test (label b) (list b) → Allows Rule slots id (v, (0, Some b) ∷ []) 0 (λ n. (n + 1) % 2 ^ 64) (Adds list (step slots 0 1 0 none) (v, (0, Some b) ∷ []))
  adds slots id v b e holds grew by named room t s r wide at small =
      let w : View E L = adding (list b) v in
      let hist : List E = r.g.hist in
      let mine = known list party label test s r id v Holding at holds refl in
      let fit = mine.0 in
      let stand = mine.1 in
      let is : list b ≡ hist ++ e ∷ [] = grew ∙ ap (λ (xs : List E). xs ++ e ∷ []) stand.3 in
      let front : IsPrefix hist (list b) = (e ∷ [], sym is) in
      let others : (p : ℕ) → (party e ≡ p → ⊥) → entries_by party p hist ≡ entries_by party p (list b) = λ p other. sym (ap (entries_by party p) is ∙ by_other party p hist e other) in
      let name : label b ≡ r.g.name = ap (λ (o : Option L). unwrap_or o (label b)) (named ∙ fit.labelled) in
      let pass : test r.g.name (list b) = subst (λ (z : L). test z (list b)) name t in
      let count : (length hist + 1) % 2 ^ 64 ≡ length (list b) = omega (arith, ap length is, length-append hist (e ∷ [])) in (
        w,
        keeps,
        tt,
        record {
          g = record r.g { hist = list b };
          q = r.q;
          words = ap (λ (ws : List ℕ). set ws 0 ((get_or ws 0 0 + 1) % 2 ^ 64)) r.words ∙ ap (λ (n : ℕ). n ∷ r.q.drawn % 2 ^ 64 ∷ r.q.served % 2 ^ 64 ∷ []) count;
          short = room;
          home = home_out list label hist (list b) r.g.name s.homes r.q.held stand.2 r.home;
          passed = pass;
          parties = λ p absent. sym (others p (λ here. Rattle.std.proofs.Common.true≢false (sym fit.counted ∙ (ap r.g.given (sym by ∙ here) ∙ absent)))) ∙ r.parties p absent;
          numbers = r.numbers;
          each = seats_stay (λ j d. is_live d.phase ≡ true → Fits party test (record r.g { hist = list b }) j d × Stands r.q (list b) j d.ticket d.base d.phase) s.views id w
              (λ _. (
                record {
                  labelled = fit.labelled;
                  begins = prefix_self (list b);
                  passed = pass;
                  owned = fit.owned;
                  counted = fit.counted;
                  whole = refl;
                  ends = λ p ended. let x = fit.ends p ended in (x.0, x.1, x.2, x.3 ∙ others p (λ here. x.2 (sym here ∙ by)), refl);
                  keeps = fit.keeps;
                  mine_begins = prefix_self (list b);
                  mine_whole = refl;
                  theirs_begins = prefix_trans v.theirs hist (list b) fit.theirs_begins front;
                },
                subst (λ (p : Phase). Stands r.q (list b) id v.ticket (list b) p) (sym holds) (stand.0, stand.1, stand.2, refl),
              ))
              (λ j d other there live. let o = r.each j d there live in
              (outgrown party test r.g j d (list b) o.0 front (λ p owns. others p (λ here. other (sym owns ∙ (ap r.g.owner (sym here ∙ by) ∙ fit.owned)))), add_stands r.q hist (list b) id j d.ticket d.base d.phase other stand.0 o.1));
          order = r.order;
          turns = λ t low high. turn_stays s.views id (r.q.turn t) t v w at (λ now tick. (now, tick)) (r.turns t low high);
          holder = λ h. let x = r.holder h in (x.0, hold_stays s.views id (r.q.turn r.q.served) v w at (λ now. now) x.1);
        },
        (ap (λ (ws : List ℕ). get_or ws 0 0) r.words ∙ sym (ap length stand.3), refl),
      )

  -- kind 7
  pub shows : (slots id : ℕ) (me : Sat B E L) → is_live me.0.phase ≡ true → Allows Rule slots id me 0 (λ n. n) (Shows party test (step slots 0 0 0 none) me)
  shows slots id me live s r wide at small =
      let v : View E L = me.0 in
      let hist : List E = r.g.hist in
      let w : View E L = seeing hist v in
      let mine = r.each id v at live in
      let fit = mine.0 in (
        w,
        keeps,
        tt,
        record {
          g = r.g;
          q = r.q;
          words = set-get_or s.words 0 0 ∙ r.words;
          short = r.short;
          home = r.home;
          passed = r.passed;
          parties = r.parties;
          numbers = r.numbers;
          each = seats_stay (λ j d. is_live d.phase ≡ true → Fits party test r.g j d × Stands r.q hist j d.ticket d.base d.phase) s.views id w
              (λ _. (
                record {
                  labelled = fit.labelled;
                  begins = prefix_self hist;
                  passed = r.passed;
                  owned = fit.owned;
                  counted = fit.counted;
                  whole = refl;
                  ends = λ p ended. let x = fit.ends p ended in (x.0, x.1, x.2, x.3, refl);
                  keeps = fit.keeps;
                  mine_begins = prefix_self hist;
                  mine_whole = refl;
                  theirs_begins = fit.theirs_begins;
                },
                mine.1,
              ))
              (λ j d other there alive. r.each j d there alive);
          order = r.order;
          turns = λ t low high. turn_stays s.views id (r.q.turn t) t v w at (λ now tick. (now, tick)) (r.turns t low high);
          holder = λ h. let x = r.holder h in (x.0, hold_stays s.views id (r.q.turn r.q.served) v w at (λ now. now) x.1);
        },
        (
          hist,
          refl,
          sym (ap (λ (ws : List ℕ). get_or ws 0 0) r.words),
          fit.begins,
          sym fit.whole,
          tested v r.g.name hist fit.labelled r.passed,
          λ holds. sym ((known list party label test s r id v Holding at holds refl).1.3),
        ),
      )

  -- a load that compares what a seat knows with the history
  pub compares : (slots id : ℕ) (me : Sat B E L) → is_live me.0.phase ≡ true → Allows Rule slots id me 0 (λ n. n) (Compares party test (step slots 0 0 0 none) me)
  compares slots id me live s r wide at small =
      let v : View E L = me.0 in
      let fit = (r.each id v at live).0 in (
        v,
        keeps,
        tt,
        unmoved list party label test s 0 id v r at,
        (
          refl,
          (r.g.hist, fit.mine_begins, fit.theirs_begins, fit.mine_whole, fit.whole),
          tested v r.g.name v.seen fit.labelled fit.passed,
          λ gives p absent. by_none party p v.seen r.g.hist fit.begins (r.parties p (sym ((fit.keeps gives).1 p) ∙ absent)),
        ),
      )
