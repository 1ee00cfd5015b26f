-- The passes of an office that end in one again.
use Rattle.std.proofs.Common.{◌≡◌, ◌∙◌, ap, sym, refl, subst, inl, inr, ◌⊎◌, ⊎_elim, ℕ, ◌==◌, Bool, true, false, cond, ◌||◌, List, [], ◌∷◌, ◌++◌, map, reverse, arith, Option, Some, unwrap_or}
use Rattle.std.specs.Prelude.{All, remove, slice_index_or}
use Rattle.std.proofs.lemmas.List.{reverse-append}
use Rattle.std.proofs.lemmas.List.Elements.{All-cons, All-pop}
use Rattle.series_tables.specs.Fits.{FitsPlan}
use Rattle.series_tables.specs.declared.input.Input.{Input}
use Rattle.series_tables.specs.Plan.{PlanShape}
use Rattle.accounts_history.specs.History.{party_of}
use Rattle.accounts_history.specs.declared.entry.Entry.{Entry}
use Rattle.desk_lock.specs.Passes.{Account, IsJoined, IsLastPass, IsSameButSeen, LockName, account, is_in, is_named}
use Rattle.desk_lock.proofs.Gathering.{all_named_from}
use Rattle.desk_lock.proofs.Lists.{named-append, or_either, or_left, or_right}
use Rattle.office.specs.Gathered.{AreAll, AreReady, IsGathered, IsReady, is_among}
use Rattle.office.specs.Holds.{Known}
use Rattle.office.specs.Opening.{first_passes, knowing_pass, new_pass, other_parties}

-- a test of one or another
or_assoc : (a b c : Bool) → ((a || b) || c) ≡ (a || (b || c))
or_assoc true b c = refl
or_assoc false b c = refl

among-append : (party : ℕ) (some more : List Known) → is_among party (some ++ more) ≡ (is_among party some || is_among party more)
among-append party [] more = refl
among-append party (pass ∷ some) more =
    let here : Bool = (pass.party == party) || is_named party pass.ended in
    ap (λ (b : Bool). here || b) (among-append party some more) ∙ sym (or_assoc here (is_among party some) (is_among party more))

-- a party of one pass, and where it stands in what the pass accounts for
among_one : (party : ℕ) (pass : Known) → is_among party (pass ∷ []) ≡ true → is_named party (account party_of pass) ≡ true
among_one party pass among = ⊎_elim (λ here. here) (λ none. absurd (let never : false ≡ true = none.1 in cc)) (or_either ((pass.party == party) || is_named party pass.ended) false among)

one_among : (party : ℕ) (pass : Known) → is_named party (account party_of pass) ≡ true → is_among party (pass ∷ []) ≡ true
one_among party pass named = or_left ((pass.party == party) || is_named party pass.ended) false named

-- two passes of one party in which the same parties ended
named_alike : (party : ℕ) (one two : Known) → two.party ≡ one.party → two.ended ≡ one.ended → is_named party (account party_of one) ≡ true → is_named party (account party_of two) ≡ true
named_alike party one two is ended named =
    ap (λ (n : ℕ). (n == party) || is_named party two.ended) is ∙ ap (λ (e : Account Entry). (one.party == party) || is_named party e) ended ∙ named

-- the pass itself, later on
pub gathered_none : (first used : Known) → first.live ≡ true → IsSameButSeen first used → IsGathered first [] used
gathered_none first used live same = (
  same.0,
  same.1 ∙ live,
  same.2,
  same.3,
  same.5,
  same.6,
  λ party among. one_among party used (named_alike party first used same.3 same.4 (among_one party first among)),
)

-- the pass in which the others ended, once one more was joined into it
pub gathers : (first rest one used after : Known) (others : List Known) → first.gives ≡ true → IsGathered first others rest → IsSameButSeen one used → IsJoined party_of rest used after → IsGathered first (others ++ one ∷ []) after
gathers first rest one used after others gives gathered same joined = (
  joined.0 ∙ gathered.0,
  joined.1,
  joined.2 ∙ gathered.2,
  joined.3 ∙ gathered.3,
  joined.6 ∙ ap (λ (b : Bool). b || used.gives) (gathered.4 ∙ gives) ∙ sym gives,
  joined.7 ∙ ap (λ (b : Bool). cond b rest.given used.given) (gathered.4 ∙ gives) ∙ gathered.5,
  λ party among. one_among party after (ends party (or_either (is_among party (first ∷ others)) (is_among party (one ∷ [])) (sym (among-append party (first ∷ others) (one ∷ [])) ∙ among))),
)
  where
    splits : (party : ℕ) → is_named party after.ended ≡ (is_named party rest.ended || is_named party (account party_of used))
    splits party = ap (is_named party) joined.5 ∙ named-append party rest.ended (account party_of used)

    of_rest : (party : ℕ) → is_named party (account party_of rest) ≡ true → is_named party (account party_of after) ≡ true
    of_rest party named = ⊎_elim
        (λ own_one. or_left (after.party == party) (is_named party after.ended) (ap (λ (n : ℕ). n == party) joined.3 ∙ own_one))
        (λ ended. or_right (after.party == party) (is_named party after.ended) (splits party ∙ or_left (is_named party rest.ended) (is_named party (account party_of used)) ended.1))
        (or_either (rest.party == party) (is_named party rest.ended) named)

    of_used : (party : ℕ) → is_named party (account party_of used) ≡ true → is_named party (account party_of after) ≡ true
    of_used party named = or_right (after.party == party) (is_named party after.ended) (splits party ∙ or_right (is_named party rest.ended) (is_named party (account party_of used)) named)

    ends : (party : ℕ) → (is_among party (first ∷ others) ≡ true) ⊎ ((is_among party (first ∷ others) ≡ false) × (is_among party (one ∷ []) ≡ true)) → is_named party (account party_of after) ≡ true
    ends party (inl before) = of_rest party (among_one party rest (gathered.6 party before))
    ends party (inr last) = of_used party (named_alike party one used same.3 same.4 (among_one party one last.1))

-- the pass in which all others ended is the last one
pub gathered_last : (first after : Known) (others : List Known) → AreAll first others → IsGathered first others after → IsLastPass party_of after
gathered_last first after others all gathered = (
  gathered.4 ∙ all.0,
  all_named_from after.given (account party_of after) (λ party there. among_one party after (gathered.6 party (all.1 party (sym (ap (is_in party) gathered.5) ∙ there)))),
)

-- a number that stands in one of two lists, or in a list that is turned round
in-append : (n : ℕ) (xs ys : List ℕ) → is_in n (xs ++ ys) ≡ (is_in n xs || is_in n ys)
in-append n [] ys = refl
in-append n (x ∷ xs) ys = ap (λ (b : Bool). (x == n) || b) (in-append n xs ys) ∙ sym (or_assoc (x == n) (is_in n xs) (is_in n ys))

in_turned : (n : ℕ) (xs : List ℕ) → is_in n (reverse xs) ≡ true → is_in n xs ≡ true
in_turned n [] there = there
in_turned n (x ∷ xs) there = by (or_either (is_in n (reverse xs)) (is_in n (x ∷ [])) (sym (in-append n (reverse xs) (x ∷ [])) ∙ (sym (ap (is_in n) (reverse-append (x ∷ []) xs)) ∙ there))) (in_turned n xs)
  where
    by : (is_in n (reverse xs) ≡ true) ⊎ ((is_in n (reverse xs) ≡ false) × (is_in n (x ∷ []) ≡ true)) → (is_in n (reverse xs) ≡ true → is_in n xs ≡ true) → is_in n (x ∷ xs) ≡ true
    by (inl later) rest = or_right (x == n) (is_in n xs) (rest later)
    by (inr first) rest = ⊎_elim (λ is. or_left (x == n) (is_in n xs) is) (λ none. absurd (let never : false ≡ true = none.1 in cc)) (or_either (x == n) false first.1)

-- each party with a new pass is among these passes
among_new : (lock : LockName) (plan : PlanShape) (party : ℕ) (parties : List ℕ) → is_in party parties ≡ true → is_among party (map (new_pass lock plan) parties) ≡ true
among_new lock plan party [] there = there
among_new lock plan party (p ∷ parties) there = by (or_either (p == party) (is_in party parties) there) (among_new lock plan party parties)
  where
    by : (p == party ≡ true) ⊎ ((p == party ≡ false) × (is_in party parties ≡ true)) → (is_in party parties ≡ true → is_among party (map (new_pass lock plan) parties) ≡ true)
        → (((p == party) || false) || is_among party (map (new_pass lock plan) parties)) ≡ true
    by (inl here) rest = or_left ((p == party) || false) (is_among party (map (new_pass lock plan) parties)) (or_left (p == party) false here)
    by (inr later) rest = or_right ((p == party) || false) (is_among party (map (new_pass lock plan) parties)) (rest later.1)

-- the passes with which an office opens are all its passes
pub all_first : (lock : LockName) (plan : PlanShape) (parties : List ℕ) → AreAll (knowing_pass lock plan parties) (map (new_pass lock plan) parties)
all_first lock plan parties = (refl, λ party there. by party (or_either (is_in party (reverse parties)) (is_in party (1 ∷ [])) (sym (in-append party (reverse parties) (1 ∷ [])) ∙ there)))
  where
    by : (party : ℕ) → (is_in party (reverse parties) ≡ true) ⊎ ((is_in party (reverse parties) ≡ false) × (is_in party (1 ∷ []) ≡ true)) → is_among party (knowing_pass lock plan parties ∷ map (new_pass lock plan) parties) ≡ true
    by party (inl other) = or_right ((1 == party) || false) (is_among party (map (new_pass lock plan) parties)) (among_new lock plan party parties (in_turned party parties other))
    by party (inr first) = or_left ((1 == party) || false) (is_among party (map (new_pass lock plan) parties)) first.1

-- a pass as it is
same_itself : (pass : Known) → IsSameButSeen pass pass
same_itself pass = (refl, refl, refl, refl, refl, refl, refl)

-- two passes that are all are one last pass once they are joined
pub joined_last : (first second after : Known) → first.live ≡ true → AreAll first (second ∷ []) → IsJoined party_of first second after → IsLastPass party_of after
joined_last first second after live all joined =
    gathered_last first after (second ∷ []) all (gathers first first second second after [] all.0 (gathered_none first first live (same_itself first)) (same_itself second) joined)

-- an open pass of a plan that all the inputs fit
pub ready_with : (lock : LockName) (plan : PlanShape) (inputs : List Input) (pass : Known) → All (FitsPlan plan) inputs → pass.lock ≡ lock → pass.live ≡ true → pass.label ≡ Some plan → IsReady lock inputs pass
ready_with lock plan inputs pass fit of_lock live label =
    ((of_lock, live), λ other is. subst (λ (p : PlanShape). All (FitsPlan p) inputs) (ap (λ (o : Option PlanShape). unwrap_or o plan) (sym label ∙ is)) fit)

-- the pass that was given first, of a plan that all the inputs fit
pub knowing_ready : (lock : LockName) (plan : PlanShape) (parties : List ℕ) (inputs : List Input) (pass : Known) → All (FitsPlan plan) inputs → pass ≡ knowing_pass lock plan parties → IsReady lock inputs pass
knowing_ready lock plan parties inputs pass fit is = ready_with lock plan inputs pass fit (ap (λ (k : Known). k.lock) is) (ap (λ (k : Known). k.live) is) (ap (λ (k : Known). k.label) is)

new_ready : (lock : LockName) (plan : PlanShape) (inputs : List Input) (parties : List ℕ) → All (FitsPlan plan) inputs → All (IsReady lock inputs) (map (new_pass lock plan) parties)
new_ready lock plan inputs [] fit = λ k d below. absurd (omega (arith, below))
new_ready lock plan inputs (party ∷ parties) fit =
    All-cons (IsReady lock inputs) (new_pass lock plan party) (map (new_pass lock plan) parties) (ready_with lock plan inputs (new_pass lock plan party) fit refl refl refl) (new_ready lock plan inputs parties fit)

-- the passes with which an office opens, the first one apart
pub opened_apart : (lock : LockName) (plan : PlanShape) (desks workers : ℕ) (inputs : List Input) (first : Known) (passes rest : List Known) → All (FitsPlan plan) inputs → passes ≡ first_passes lock plan desks workers → first ≡ slice_index_or passes 0 first
    → rest ≡ remove passes 0 → IsReady lock inputs first × AreReady lock inputs rest × AreAll first rest
opened_apart lock plan desks workers inputs first passes rest fit are head tail = (
  knowing_ready lock plan parties inputs first fit first_is,
  record { each = subst (λ (ks : List Known). All (IsReady lock inputs) ks) (sym rest_is) (new_ready lock plan inputs parties fit) },
  subst (λ (ks : List Known). AreAll first ks) (sym rest_is) (subst (λ (k : Known). AreAll k (map (new_pass lock plan) parties)) (sym first_is) (all_first lock plan parties)),
)
  where
    parties : List ℕ
    parties = other_parties desks workers

    first_is : first ≡ knowing_pass lock plan parties
    first_is = head ∙ ap (λ (ks : List Known). slice_index_or ks 0 first) are

    rest_is : rest ≡ map (new_pass lock plan) parties
    rest_is = tail ∙ ap (λ (ks : List Known). remove ks 0) are

-- the passes that are left once the last one is taken off
pub popped_ready : (lock : LockName) (inputs : List Input) (old new : List Known) (last : Known) → AreReady lock inputs old → old ≡ new ++ last ∷ [] → AreReady lock inputs new × IsReady lock inputs last
popped_ready lock inputs old new last ready are =
    let both = All-pop (IsReady lock inputs) old new (Some last) are ready.each in
    (record { each = both.0 }, both.1)
