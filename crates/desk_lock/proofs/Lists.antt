-- Beginnings of lists, the entries of one party, accounts, and lists read by place.
use Rattle.std.proofs.Common.{◌≡◌, ◌≢◌, ◌⊎◌, ℕ, zero, suc, ◌<◌, ◌≤◌, ◌==◌, leb, Bool, true, false, cond, ◌&&◌, ◌||◌, List, [], ◌∷◌, ◌++◌, length, set, refl, sym, ap, ◌∙◌, subst, ⊎_elim, inl, inr, arith, append_assoc, append-nil, length-append, eq-eqb, ne_eqb, eqb-true}
use Rattle.std.proofs.lemmas.List.Elements.{filter-append}
use Rattle.std.proofs.lemmas.Bool.{leb-true, leb-false}
use mathlib.Core.Option.{some, some-injective, some-ne-none}
use mathlib.Core.List.{IsPrefix}
use lib.ListN.{get_elem?}
use Rattle.atomic_table.proofs.Lists.{at_set, set_else, set_here}
use Rattle.desk_lock.specs.Passes.{Account, is_in, is_named, entries_under, all_named, entries_by, longer}

-- ---- beginnings
-- each list begins with itself
pub prefix_self : {A : Type 0} (xs : List A) → IsPrefix xs xs
prefix_self xs = ([], append-nil xs)

pub prefix_trans : {A : Type 0} (xs ys zs : List A) → IsPrefix xs ys → IsPrefix ys zs → IsPrefix xs zs
prefix_trans xs ys zs p q = (p.0 ++ q.0, sym (append_assoc xs p.0 q.0) ∙ (ap (λ w. w ++ q.0) p.1 ∙ q.1))

-- a beginning is no longer than the whole
pub prefix_length : {A : Type 0} (xs ys : List A) → IsPrefix xs ys → length xs ≤ length ys
prefix_length xs ys p = omega (arith, ap length p.1, length-append xs p.0)

-- of two beginnings of one list the shorter begins the longer
pub prefix_shorter : {A : Type 0} (xs ys zs : List A) → IsPrefix xs zs → IsPrefix ys zs → length xs ≤ length ys → IsPrefix xs ys
prefix_shorter [] ys zs p q le = (ys, refl)
prefix_shorter (x ∷ xs) [] zs p q le = absurd (omega arith)
prefix_shorter (x ∷ xs) (y ∷ ys) [] p q le = absurd (cc (p.1))
prefix_shorter (x ∷ xs) (y ∷ ys) (z ∷ zs) p q le =
    let heads : x ≡ y = cc (p.1, q.1) in
    let rest = prefix_shorter xs ys zs (p.0, cc (p.1)) (q.0, cc (q.1)) (omega arith) in
    (rest.0, cc (heads, rest.1))

-- a beginning as long as the whole is the whole
pub prefix_whole : {A : Type 0} (xs ys : List A) → IsPrefix xs ys → length ys ≤ length xs → xs ≡ ys
prefix_whole [] [] p le = refl
prefix_whole [] (y ∷ ys) p le = absurd (omega arith)
prefix_whole (x ∷ xs) [] p le = absurd (cc (p.1))
prefix_whole (x ∷ xs) (y ∷ ys) p le = let rest = prefix_whole xs ys (p.0, cc (p.1)) (omega arith) in cc (p.1, rest)

nothing : {A : Type 0} (xs ys : List A) → xs ++ ys ≡ [] → xs ≡ []
nothing [] ys e = refl
nothing (x ∷ xs) ys e = absurd (cc e)

-- nothing follows where the whole is as long
nothing_after : {A : Type 0} (xs ys : List A) → length (xs ++ ys) ≤ length xs → ys ≡ []
nothing_after xs [] le = refl
nothing_after xs (y ∷ ys) le = absurd (omega (arith, length-append xs (y ∷ ys)))

-- both lists begin the longer of them, and it begins what both begin
pub longer_by : {A : Type 0} (xs ys zs : List A) → IsPrefix xs zs → IsPrefix ys zs → (b : Bool) → leb (length ys) (length xs) ≡ b → IsPrefix xs (cond b xs ys) × IsPrefix ys (cond b xs ys) × IsPrefix (cond b xs ys) zs
longer_by xs ys zs p q true e = (prefix_self xs, prefix_shorter ys xs zs q p (leb-true (length ys) (length xs) e), p)
longer_by xs ys zs p q false e =
    let h : length xs < length ys = leb-false (length ys) (length xs) e in
    (prefix_shorter xs ys zs p q (omega arith), prefix_self ys, q)

pub longer_meets : {A : Type 0} (xs ys zs : List A) → IsPrefix xs zs → IsPrefix ys zs → IsPrefix xs (longer xs ys) × IsPrefix ys (longer xs ys) × IsPrefix (longer xs ys) zs
longer_meets xs ys zs p q = longer_by xs ys zs p q (leb (length ys) (length xs)) refl

-- what holds of both lists holds of the longer
pub longer_has : {A : Type 0} (P : List A → Type 0) (xs ys : List A) → P xs → P ys → (b : Bool) → P (cond b xs ys)
longer_has P xs ys p q true = p
longer_has P xs ys p q false = q

-- ---- the entries of one party
module _ {E : Type 0} (party : E → ℕ) where
  -- an entry of another party adds none of this one
  pub by_other : (p : ℕ) (xs : List E) (e : E) → (party e ≡ p → ⊥) → entries_by party p (xs ++ e ∷ []) ≡ entries_by party p xs
  by_other p xs e other = filter-append (λ x. party x == p) xs (e ∷ [])
      ∙ (ap (λ b. entries_by party p xs ++ cond b (e ∷ []) []) (ne_eqb (party e) p other) ∙ append-nil (entries_by party p xs))

  -- an entry of this party is added to its entries
  pub by_own : (p : ℕ) (xs : List E) (e : E) → party e ≡ p → entries_by party p (xs ++ e ∷ []) ≡ entries_by party p xs ++ e ∷ []
  by_own p xs e is = filter-append (λ x. party x == p) xs (e ∷ [])
      ∙ ap (λ b. entries_by party p xs ++ cond b (e ∷ []) []) (eq-eqb (party e) p is)

  -- the entries of a party in a beginning begin its entries in the whole
  pub by_prefix : (p : ℕ) (xs ys : List E) → IsPrefix xs ys → IsPrefix (entries_by party p xs) (entries_by party p ys)
  by_prefix p xs ys pre = (entries_by party p pre.0, sym (filter-append (λ x. party x == p) xs pre.0) ∙ ap (entries_by party p) pre.1)

  -- where the whole has none, a beginning has none
  pub by_none : (p : ℕ) (xs ys : List E) → IsPrefix xs ys → entries_by party p ys ≡ [] → entries_by party p xs ≡ []
  by_none p xs ys pre none = nothing (entries_by party p xs) (entries_by party p pre.0) (sym (filter-append (λ x. party x == p) xs pre.0) ∙ (ap (entries_by party p) pre.1 ∙ none))

  -- where a beginning of a beginning has all of a party's entries, so has what lies between
  pub by_between : (p : ℕ) (xs ys zs : List E) → IsPrefix xs ys → IsPrefix ys zs → entries_by party p xs ≡ entries_by party p zs → entries_by party p ys ≡ entries_by party p zs
  by_between p xs ys zs a b all = let f = by_prefix p xs ys a in let g = by_prefix p ys zs b in
      prefix_whole (entries_by party p ys) (entries_by party p zs) g (omega (arith, prefix_length (entries_by party p xs) (entries_by party p ys) f, ap length all))

  ending : (xs ys rest : List E) → xs ++ rest ≡ ys → ((p : ℕ) → entries_by party p xs ≡ entries_by party p ys) → xs ≡ ys
  ending xs ys [] is all = sym (append-nil xs) ∙ is
  ending xs ys (e ∷ es) is all =
      let split : entries_by party (party e) ys ≡ entries_by party (party e) xs ++ entries_by party (party e) (e ∷ es) = ap (entries_by party (party e)) (sym is) ∙ filter-append (λ x. party x == party e) xs (e ∷ es) in
      let one : entries_by party (party e) (e ∷ es) ≡ e ∷ entries_by party (party e) es = ap (λ b. cond b (e ∷ entries_by party (party e) es) (entries_by party (party e) es)) (eq-eqb (party e) (party e) refl) in
      absurd (omega (arith, ap length (all (party e) ∙ split), length-append (entries_by party (party e) xs) (entries_by party (party e) (e ∷ es)), ap length one))

  -- a beginning that has all entries of each party is the whole
  pub all_seen : (xs ys : List E) → IsPrefix xs ys → ((p : ℕ) → entries_by party p xs ≡ entries_by party p ys) → xs ≡ ys
  all_seen xs ys pre all = ending xs ys pre.0 pre.1 all

-- ---- numbers and accounts
pub or_left : (a b : Bool) → a ≡ true → (a || b) ≡ true
or_left a b e = ap (λ x. x || b) e

pub or_right : (a b : Bool) → b ≡ true → (a || b) ≡ true
or_right true b e = refl
or_right false b e = e

pub or_none : (a b : Bool) → (a || b) ≡ false → (a ≡ false) × (b ≡ false)
or_none true b e = absurd (cc e)
or_none false b e = (refl, e)

or_assoc : (a b c : Bool) → (a || (b || c)) ≡ ((a || b) || c)
or_assoc true b c = refl
or_assoc false b c = refl

and_both : (a b : Bool) → (a && b) ≡ true → (a ≡ true) × (b ≡ true)
and_both true b e = (refl, e)
and_both false b e = absurd (cc e)

pub or_either : (a b : Bool) → (a || b) ≡ true → (a ≡ true) ⊎ ((a ≡ false) × (b ≡ true))
or_either true b e = inl refl
or_either false b e = inr (refl, e)

module _ {E : Type 0} where
  -- an account that does not name the party has no entries under it
  pub under_none : (p : ℕ) (xs : Account E) → is_named p xs ≡ false → entries_under p xs ≡ []
  under_none p [] no_name = refl
  under_none p (x ∷ xs) no_name = let none = or_none (x.0 == p) (is_named p xs) no_name in
      ap (λ b. cond b x.1 [] ++ entries_under p xs) none.0 ∙ under_none p xs none.1

  pub named-append : (p : ℕ) (xs ys : Account E) → is_named p (xs ++ ys) ≡ (is_named p xs || is_named p ys)
  named-append p [] ys = refl
  named-append p (x ∷ xs) ys = ap (λ b. (x.0 == p) || b) (named-append p xs ys) ∙ or_assoc (x.0 == p) (is_named p xs) (is_named p ys)

  pub under-append : (p : ℕ) (xs ys : Account E) → entries_under p (xs ++ ys) ≡ entries_under p xs ++ entries_under p ys
  under-append p [] ys = refl
  under-append p (x ∷ xs) ys = ap (λ zs. cond (x.0 == p) x.1 [] ++ zs) (under-append p xs ys) ∙ sym (append_assoc (cond (x.0 == p) x.1 []) (entries_under p xs) (entries_under p ys))

  -- where all are named, each is
  pub each_named : (p : ℕ) (ps : List ℕ) (xs : Account E) → all_named ps xs ≡ true → is_in p ps ≡ true → is_named p xs ≡ true
  each_named p [] xs all here = absurd (cc here)
  each_named p (q ∷ ps) xs all here = let both = and_both (is_named q xs) (all_named ps xs) all in
      ⊎_elim (λ is. subst (λ (r : ℕ). is_named r xs ≡ true) (eqb-true q p is) both.0) (λ later. each_named p ps xs both.1 later.1) (or_either (q == p) (is_in p ps) here)

-- ---- lists read by place
module _ {A : Type 0} where
  pub at_below : (l : List A) (i : ℕ) (a : A) → get_elem? l i ≡ some a → i < length l
  at_below [] i a e = absurd (some-ne-none a (sym e))
  at_below (x ∷ xs) zero a e = omega arith
  at_below (x ∷ xs) (suc i) a e = let h = at_below xs i a e in omega arith

  pub same_seat : (l : List A) (i : ℕ) (a b : A) → get_elem? l i ≡ some a → get_elem? l i ≡ some b → a ≡ b
  same_seat l i a b p q = some-injective a b (sym p ∙ q)

  -- what was put at a place that there is stands there
  pub here_set : (l : List A) (i : ℕ) (a b : A) → get_elem? l i ≡ some a → get_elem? (set l i b) i ≡ some b
  here_set l i a b e = set_here l i b (at_below l i a e)

  pub else_set : (l : List A) (i j : ℕ) (a b : A) → j ≢ i → get_elem? l j ≡ some a → get_elem? (set l i b) j ≡ some a
  else_set l i j a b n e = set_else l i j b n ∙ e

  -- at a longer list: one of its first places, or the last
  pub at_append : (l : List A) (a b : A) (j : ℕ) → get_elem? (l ++ a ∷ []) j ≡ some b → (get_elem? l j ≡ some b) ⊎ ((j ≡ length l) × (a ≡ b))
  at_append [] a b zero e = inr (refl, some-injective a b e)
  at_append [] a b (suc j) e = absurd (some-ne-none b (sym e))
  at_append (x ∷ xs) a b zero e = inl e
  at_append (x ∷ xs) a b (suc j) e = ⊎_elim inl (λ t. inr (ap suc t.0, t.1)) (at_append xs a b j e)

  -- a fact of each seat, after one seat has a new view
  pub seats_stay : (P : ℕ → A → Type 0) (l : List A) (i : ℕ) (b : A) → P i b → ((j : ℕ) (d : A) → j ≢ i → get_elem? l j ≡ some d → P j d) → (j : ℕ) (d : A) → get_elem? (set l i b) j ≡ some d → P j d
  seats_stay P l i b mine others j d e = ⊎_elim (λ (t : (j ≡ i) × (b ≡ d)). subst (λ (x : ℕ × A). P x.0 x.1) (λ k. (sym t.0 k, t.1 k)) mine)
      (λ (t : (j ≢ i) × (get_elem? l j ≡ some d)). others j d t.0 t.1) (at_set l i j b d e)

-- ---- a function with another value at one number
abbrev pub put : {A : Type 0} → (ℕ → A) → ℕ → A → ℕ → A
put f q x j = cond (q == j) x (f j)

pub put_here : {A : Type 0} (f : ℕ → A) (q : ℕ) (x : A) → put f q x q ≡ x
put_here f q x = ap (λ b. cond b x (f q)) (eq-eqb q q refl)

pub put_else : {A : Type 0} (f : ℕ → A) (q : ℕ) (x : A) (j : ℕ) → (q ≡ j → ⊥) → put f q x j ≡ f j
put_else f q x j other = ap (λ b. cond b x (f j)) (ne_eqb q j other)
