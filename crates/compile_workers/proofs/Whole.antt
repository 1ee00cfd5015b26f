-- All parties of an office, from its first passes to its closed history.
use Rattle.std.proofs.Common.{◌≡◌, ◌∙◌, ap, sym, refl, subst, ℕ, zero, suc, ◌+◌, ◌-◌, ◌<◌, ◌≤◌, ◌==◌, ◌||◌, Bool, true}
use Rattle.std.proofs.Common.{false, List, [], ◌∷◌, ◌++◌, length, map, reverse, Option, Some, None, arith, append-nil}
use Rattle.std.proofs.Common.{cond, eq-eqb, eqb-true, ne_eqb, unwrap_or}
use Rattle.std.specs.Prelude.{All, IsSome, filter}
use Rattle.std.specs.List.{cons_option, range_with_len}
use Rattle.std.specs.Option.{option_map}
use Rattle.std.proofs.lemmas.List.{reverse-append, reverse-reverse}
use Rattle.std.proofs.lemmas.List.Elements.{All-append, All-cons, All-head, All-nil, All-tail}
use Rattle.std.proofs.lemmas.List.Elements.{filter-append, filter_map-append}
use Rattle.series_tables.specs.Plan.{PlanShape}
use Rattle.accounts_history.specs.History.{IsLawful, Sent, journal, party_of, sent_in}
use Rattle.accounts_history.specs.declared.entry.Entry.{Entry}
use Rattle.desk_lock.specs.Passes.{Account, IsLastPass, IsPassOf, IsSameButSeen, LockName, account, entries_by}
use Rattle.desk_lock.specs.Passes.{IsClosed, IsTested, entries_under, is_in, is_named}
use Rattle.desk_lock.proofs.Gathering.{all_named_from}
use Rattle.desk_lock.proofs.Lists.{or_none, under-append}
use Rattle.office.specs.Gathered.{is_among}
use Rattle.office.specs.Holds.{Known}
use Rattle.office.specs.Opening.{first_passes, new_pass, other_parties}
use Rattle.office.specs.Seen.{SentNothing, sent_by}
use Rattle.office.proofs.Gathering.{all_first}
use Rattle.compile_workers.specs.DeskEnd.{Ends}
use Rattle.compile_workers.specs.Parties.{AreJoined, AreOfDesks, AreServed, CanJoin, Did, HasRun, HaveRun, IsOpening}
use Rattle.compile_workers.specs.Parties.{IsPlaced, Place, accounts_of, desk_ends_in, ends_in, passes_in, place_of}
use Rattle.compile_workers.specs.Parties.{places_with}
use Rattle.compile_workers.specs.declared.desk.DeskEnd.{DeskEnd}
use Rattle.compile_workers.specs.declared.desk.DeskEnd.TheVariants.{Memory}
use Rattle.compile_workers.proofs.Closing.{AreNumbered, all_among, among_named, no_ends, of_desks, run-reverse}
use Rattle.compile_workers.proofs.Closing.{sent_own, served_from}
use Rattle.compile_workers.proofs.Ends.{unbegun_end}
use Rattle.compile_workers.proofs.Gathered.{AreAlone, AreApart, AreSettled, parties_of, settle, under_all}
use Rattle.compile_workers.proofs.Gathered.{under_another, under_own}
use Rattle.compile_workers.proofs.Placing.{ends_reversed}

-- ---- the passes that come back

-- each of the second passes is that of the first ones, later on
abbrev pub AreSame : List Known → List Known → Type 0
AreSame [] [] = Unit {0}
AreSame (pass ∷ passes) (used ∷ more) = IsSameButSeen pass used × AreSame passes more
AreSame [] (used ∷ more) = ⊥
AreSame (pass ∷ passes) [] = ⊥

one_same : (plan : PlanShape) (pass : Known) (old new : Place) (passes : List Known) (news : List Place)
    → old.pass ≡ Some pass → HasRun plan old new → AreSame passes (passes_in news)
    → AreSame (pass ∷ passes) (passes_in (new ∷ news))
one_same plan pass old new passes news was ran rest =
    let given_is : ran.given ≡ pass = ap (λ (o : Option Known). unwrap_or o pass) (sym ran.was ∙ was) in
    subst (λ (o : Option Known). AreSame (pass ∷ passes) (cons_option o (passes_in news))) (sym ran.is)
    (subst (λ (k : Known). IsSameButSeen k ran.pass) given_is ran.same, rest)

pub same_passes : (plan : PlanShape) (passes : List Known) (ends : List Ends) (news : List Place)
    → HaveRun plan (places_with passes ends) news → AreSame passes (passes_in news)
same_passes plan [] ends [] run = tt
same_passes plan [] ends (new ∷ news) run = absurd run
same_passes plan (pass ∷ passes) [] [] run = absurd run
same_passes plan (pass ∷ passes) (end ∷ ends) [] run = absurd run
same_passes plan (pass ∷ passes) [] (new ∷ news) run =
    one_same plan pass (place_of (Some pass) None Memory) new passes news refl run.0
    (same_passes plan passes [] news run.1)
same_passes plan (pass ∷ passes) (end ∷ ends) (new ∷ news) run =
    one_same plan pass (place_of (Some pass) (Some end) Memory) new passes news refl run.0
    (same_passes plan passes ends news run.1)

same_parties : (passes used : List Known) → AreSame passes used → parties_of used ≡ parties_of passes
same_parties [] [] same = refl
same_parties [] (one ∷ more) same = absurd same
same_parties (pass ∷ passes) [] same = absurd same
same_parties (pass ∷ passes) (one ∷ more) same =
    ap (λ (n : ℕ). n ∷ parties_of more) same.0.3
    ∙ ap (λ (w : List ℕ). pass.party ∷ w) (same_parties passes more same.1)

same_among : (party : ℕ) (passes used : List Known) → AreSame passes used
    → is_among party used ≡ is_among party passes
same_among party [] [] same = refl
same_among party [] (one ∷ more) same = absurd same
same_among party (pass ∷ passes) [] same = absurd same
same_among party (pass ∷ passes) (one ∷ more) same =
    ap (λ (n : ℕ). ((n == party) || is_named party one.ended) || is_among party more) same.0.3
    ∙ ap (λ (e : Account Entry). ((pass.party == party) || is_named party e) || is_among party more) same.0.4
    ∙ ap (λ (b : Bool). ((pass.party == party) || is_named party pass.ended) || b)
    (same_among party passes more same.1)

-- ---- passes that nobody has used

abbrev pub AreFresh : List Known → Type 0
AreFresh [] = Unit {0}
AreFresh (pass ∷ passes) = ((pass.ended ≡ []) × (pass.seen ≡ [])) × AreFresh passes

alone_used : (passes used : List Known) → AreSame passes used → AreFresh passes → AreAlone used
alone_used [] [] same fresh = tt
alone_used [] (one ∷ more) same fresh = absurd same
alone_used (pass ∷ passes) [] same fresh = absurd same
alone_used (pass ∷ passes) (one ∷ more) same fresh =
    (same.0.4 ∙ fresh.0.0, alone_used passes more same.1 fresh.1)

fresh_new : (lock : LockName) (plan : PlanShape) (parties : List ℕ) → AreFresh (map (new_pass lock plan) parties)
fresh_new lock plan [] = tt
fresh_new lock plan (party ∷ parties) = ((refl, refl), fresh_new lock plan parties)

parties_new : (lock : LockName) (plan : PlanShape) (parties : List ℕ)
    → parties_of (map (new_pass lock plan) parties) ≡ parties
parties_new lock plan [] = refl
parties_new lock plan (party ∷ parties) = ap (λ (w : List ℕ). party ∷ w) (parties_new lock plan parties)

numbered_new : (lock : LockName) (plan : PlanShape) (number : ℕ) (ends : List Ends) (more : List ℕ)
    → AreNumbered number (map (new_pass lock plan) (range_with_len number (length ends) ++ more)) ends
numbered_new lock plan number [] more = tt
numbered_new lock plan number (end ∷ ends) more = (refl, numbered_new lock plan (number + 1) ends more)

-- ---- numbers that are apart

below : (number first count : ℕ) → number < first → is_in number (range_with_len first count) ≡ false
below number first zero small = refl
below number first (suc count) small =
    ap (λ (b : Bool). b || is_in number (range_with_len (first + 1) count))
    (ne_eqb first number (λ is. omega (arith, is, small)))
    ∙ below number (first + 1) count (omega (arith, small))

not_in_two : (number : ℕ) (xs ys : List ℕ) → is_in number xs ≡ false → is_in number ys ≡ false
    → is_in number (xs ++ ys) ≡ false
not_in_two number [] ys none other = other
not_in_two number (x ∷ xs) ys none other =
    let parts = or_none (x == number) (is_in number xs) none in
    ap (λ (b : Bool). b || is_in number (xs ++ ys)) parts.0 ∙ not_in_two number xs ys parts.1 other

apart_one : (first count : ℕ) → AreApart (range_with_len first count)
apart_one first zero = tt
apart_one first (suc count) = (below first (first + 1) count (omega arith), apart_one (first + 1) count)

-- two rows of numbers, the second behind the first
apart_two : (first count second more : ℕ) → first + count ≤ second
    → AreApart (range_with_len first count ++ range_with_len second more)
apart_two first zero second more behind = apart_one second more
apart_two first (suc count) second more behind = (
  not_in_two first (range_with_len (first + 1) count) (range_with_len second more)
      (below first (first + 1) count (omega arith)) (below first second more (omega (arith, behind))),
  apart_two (first + 1) count second more (omega (arith, behind)),
)

-- ---- who sent nothing

sent-two : (party : ℕ) (some more : List Entry)
    → sent_by party (some ++ more) ≡ sent_by party some ++ sent_by party more
sent-two party some more =
    ap (filter (λ (s : Sent). s.party == party)) (filter_map-append sent_in some more)
    ∙ filter-append (λ (s : Sent). s.party == party) (journal some) (journal more)

one_quiet : (party : ℕ) (used : Known) (rest : List Known) → used.ended ≡ []
    → ((used.party == party) ≡ true → sent_by party used.seen ≡ [])
    → sent_by party (entries_under party (accounts_of rest)) ≡ []
    → sent_by party (entries_under party (accounts_of (used ∷ rest))) ≡ []
one_quiet party used rest ended when later =
    ap (sent_by party) (under-append party (account party_of used) (accounts_of rest))
    ∙ sent-two party (entries_under party (account party_of used)) (entries_under party (accounts_of rest))
    ∙ ap (λ (w : List Sent). sent_by party (entries_under party (account party_of used)) ++ w) later
    ∙ append-nil (sent_by party (entries_under party (account party_of used)))
    ∙ by (used.party == party) refl
  where
    by : (b : Bool) → (used.party == party) ≡ b → sent_by party (entries_under party (account party_of used)) ≡ []
    by true is =
        let same : used.party ≡ party = eqb-true used.party party is in
        subst (λ (p : ℕ). sent_by p (entries_under p (account party_of used)) ≡ []) same
        (ap (sent_by used.party) (under_own used ended)
        ∙ sent_own used.party used.seen
        ∙ subst (λ (p : ℕ). sent_by p used.seen ≡ []) (sym same) (when is))
    by false is = ap (sent_by party) (under_another party used ended is)

ran_quiet : (plan : PlanShape) (party : ℕ) (pass : Known) (old new : Place) (news : List Place)
    → old.pass ≡ Some pass → (ran : HasRun plan old new) → pass.ended ≡ []
    → (ran.given ≡ pass → (ran.pass.party == party) ≡ true → sent_by party ran.pass.seen ≡ [])
    → sent_by party (entries_under party (accounts_of (passes_in news))) ≡ []
    → sent_by party (entries_under party (accounts_of (passes_in (new ∷ news)))) ≡ []
ran_quiet plan party pass old new news was ran ended when later =
    let given_is : ran.given ≡ pass = ap (λ (o : Option Known). unwrap_or o pass) (sym ran.was ∙ was) in
    subst
    (λ (o : Option Known). sent_by party (entries_under party (accounts_of (cons_option o (passes_in news)))) ≡ [])
    (sym ran.is)
    (one_quiet party ran.pass (passes_in news) (ran.same.4 ∙ ap (λ (k : Known). k.ended) given_is ∙ ended)
    (when given_is) later)

worker_sent : (plan : PlanShape) (given used : Known) (o : Option Ends) (end : DeskEnd) → Did plan given used None o end
    → SentNothing given.party given.seen used.seen
worker_sent plan given used None end did = did
worker_sent plan given used (Some ends) end did = absurd did

from_nothing : (party : ℕ) (before seen : List Entry) → before ≡ [] → SentNothing party before seen
    → sent_by party seen ≡ []
from_nothing party before seen none sent =
    ap (sent_by party) (sent.1 ∙ ap (λ (w : List Entry). w ++ sent.0) none) ∙ sent.2

-- whoever isn't one of the desks has sent nothing
all_quiet : (plan : PlanShape) (party number : ℕ) (passes : List Known) (ends : List Ends) (news : List Place)
    → HaveRun plan (places_with passes ends) news → AreFresh passes → AreNumbered number passes ends
    → is_in party (range_with_len number (length ends)) ≡ false
    → sent_by party (entries_under party (accounts_of (passes_in news))) ≡ []
all_quiet plan party number [] ends [] run fresh numbered outside = refl
all_quiet plan party number [] ends (new ∷ news) run fresh numbered outside = absurd run
all_quiet plan party number (pass ∷ passes) [] [] run fresh numbered outside = absurd run
all_quiet plan party number (pass ∷ passes) (end ∷ ends) [] run fresh numbered outside = absurd run
all_quiet plan party number (pass ∷ passes) [] (new ∷ news) run fresh numbered outside =
    let ran : HasRun plan (place_of (Some pass) None Memory) new = run.0 in
    ran_quiet plan party pass (place_of (Some pass) None Memory) new news refl ran fresh.0.0
    (λ given_is its. from_nothing party ran.given.seen ran.pass.seen
    (ap (λ (k : Known). k.seen) given_is ∙ fresh.0.1)
    (subst (λ (p : ℕ). SentNothing p ran.given.seen ran.pass.seen)
    (sym ran.same.3 ∙ eqb-true ran.pass.party party its)
    (worker_sent plan ran.given ran.pass new.ends new.end ran.did)))
    (all_quiet plan party number passes [] news run.1 fresh.1 tt outside)
all_quiet plan party number (pass ∷ passes) (end ∷ ends) (new ∷ news) run fresh numbered outside =
    let ran : HasRun plan (place_of (Some pass) (Some end) Memory) new = run.0 in
    let parts = or_none (number == party) (is_in party (range_with_len (number + 1) (length ends))) outside in
    ran_quiet plan party pass (place_of (Some pass) (Some end) Memory) new news refl ran fresh.0.0
    (λ given_is its. absurd (let never : true ≡ false =
    sym its
    ∙ ap (λ (n : ℕ). n == party) (ran.same.3 ∙ ap (λ (k : Known). k.party) given_is ∙ numbered.0)
    ∙ parts.0 in cc))
    (all_quiet plan party (number + 1) passes ends news run.1 fresh.1 numbered.1 parts.1)

-- ---- before and after the parties run

all_turned : (P : Place → Type 0) (places : List Place) → All P places → All P (reverse places)
all_turned P [] all = all
all_turned P (place ∷ places) all =
    subst (λ (w : List Place). All P w) (sym (reverse-append (place ∷ []) places))
    (All-append P (reverse places) (place ∷ []) (all_turned P places (All-tail P place places all))
    (All-cons P place [] (All-head P place places all) (All-nil P)))

-- each of some passes is one with which a party can begin
abbrev pub AreOpening : LockName → PlanShape → List Known → Type 0
AreOpening lock plan [] = Unit {0}
AreOpening lock plan (pass ∷ passes) = IsOpening lock plan pass × AreOpening lock plan passes

opening_new : (lock : LockName) (plan : PlanShape) (parties : List ℕ)
    → AreOpening lock plan (map (new_pass lock plan) parties)
opening_new lock plan [] = tt
opening_new lock plan (party ∷ parties) =
    (record { pass_of = (refl, refl); label = refl; unused = refl }, opening_new lock plan parties)

pub opening_first : (lock : LockName) (plan : PlanShape) (desks workers : ℕ)
    → AreOpening lock plan (first_passes lock plan desks workers)
opening_first lock plan desks workers = (
  record { pass_of = (refl, refl); label = refl; unused = refl },
  opening_new lock plan (other_parties desks workers),
)

pub opening_all : (lock : LockName) (plan : PlanShape) (desks workers : ℕ) (passes : List Known)
    → passes ≡ first_passes lock plan desks workers → AreOpening lock plan passes
opening_all lock plan desks workers passes are =
    subst (λ (w : List Known). AreOpening lock plan w) (sym are) (opening_first lock plan desks workers)

all_placed : (lock : LockName) (plan : PlanShape) (passes : List Known) (ends : List Ends)
    → AreOpening lock plan passes → All (IsPlaced lock plan) (places_with passes ends)
all_placed lock plan [] ends opening = All-nil (IsPlaced lock plan)
all_placed lock plan (pass ∷ passes) [] opening =
    All-cons (IsPlaced lock plan) (place_of (Some pass) None Memory) (places_with passes []) opening.0
    (all_placed lock plan passes [] opening.1)
all_placed lock plan (pass ∷ passes) (end ∷ ends) opening =
    All-cons (IsPlaced lock plan) (place_of (Some pass) (Some end) Memory) (places_with passes ends) opening.0
    (all_placed lock plan passes ends opening.1)

-- each party may begin in its place
pub may_begin : (lock : LockName) (plan : PlanShape) (passes : List Known) (ends : List Ends) (places : List Place)
    → AreOpening lock plan passes → reverse places ≡ places_with passes ends → All (IsPlaced lock plan) places
may_begin lock plan passes ends places opening are =
    subst (λ (w : List Place). All (IsPlaced lock plan) w) (reverse-reverse places)
    (all_turned (IsPlaced lock plan) (reverse places)
    (subst (λ (w : List Place). All (IsPlaced lock plan) w) (sym are) (all_placed lock plan passes ends opening)))

-- each has a pass when it comes back
pub have_passes : (plan : PlanShape) (olds news : List Place) → HaveRun plan olds news
    → All (λ place. IsSome place.pass) news
have_passes plan [] [] run = All-nil (λ (place : Place). IsSome place.pass)
have_passes plan [] (new ∷ news) run = absurd run
have_passes plan (old ∷ olds) [] run = absurd run
have_passes plan (old ∷ olds) (new ∷ news) run =
    let ran : HasRun plan old new = run.0 in
    All-cons (λ (place : Place). IsSome place.pass) new news
    (subst (λ (o : Option Known). IsSome o) (sym ran.is) refl) (have_passes plan olds news run.1)

still_open : (lock : LockName) (plan : PlanShape) (passes used : List Known) → AreOpening lock plan passes
    → AreSame passes used → All (IsPassOf lock) used
still_open lock plan [] [] opening same = All-nil (λ (p : Known). IsPassOf lock p)
still_open lock plan [] (one ∷ more) opening same = absurd same
still_open lock plan (pass ∷ passes) [] opening same = absurd same
still_open lock plan (pass ∷ passes) (one ∷ more) opening same =
    All-cons (λ (p : Known). IsPassOf lock p) one more
    (same.0.0 ∙ opening.0.pass_of.0, same.0.1 ∙ opening.0.pass_of.1)
    (still_open lock plan passes more opening.1 same.1)

-- and can be joined
pub can_join : (lock : LockName) (plan : PlanShape) (desks workers : ℕ) (used : List Known)
    → AreSame (first_passes lock plan desks workers) used → CanJoin lock used
can_join lock plan desks workers [] same = absurd same
can_join lock plan desks workers (first ∷ more) same = (
  same.0.5,
  still_open lock plan (first_passes lock plan desks workers) (first ∷ more)
      (opening_first lock plan desks workers) same,
)

-- the first passes can be joined
same_self : (passes : List Known) → AreSame passes passes
same_self [] = tt
same_self (pass ∷ passes) = ((refl, refl, refl, refl, refl, refl, refl), same_self passes)

pub can_open : (lock : LockName) (plan : PlanShape) (desks workers : ℕ) (passes : List Known)
    → passes ≡ first_passes lock plan desks workers → CanJoin lock passes
can_open lock plan desks workers passes are =
    subst (λ (w : List Known). CanJoin lock w) (sym are)
    (can_join lock plan desks workers (first_passes lock plan desks workers)
    (same_self (first_passes lock plan desks workers)))

-- the pass into which all were joined is the office's, with its plan, and the last one
pub joined_of : (lock : LockName) (plan : PlanShape) (desks workers : ℕ) (pass : Known) (used : List Known)
    → AreSame (first_passes lock plan desks workers) used → AreJoined used pass
    → IsPassOf lock pass × (pass.label ≡ Some plan)
joined_of lock plan desks workers pass [] same joined = absurd same
joined_of lock plan desks workers pass (first ∷ more) same joined =
    ((joined.lock ∙ same.0.0, joined.live ∙ same.0.1), joined.label ∙ same.0.2)

pub joined_last : (lock : LockName) (plan : PlanShape) (desks workers : ℕ) (pass : Known) (used : List Known)
    → AreSame (first_passes lock plan desks workers) used → AreJoined used pass → IsLastPass party_of pass
joined_last lock plan desks workers pass [] same joined = absurd same
joined_last lock plan desks workers pass (first ∷ more) same joined = (
  joined.gives ∙ same.0.5,
  all_named_from pass.given (account party_of pass) (λ party there.
      ap (is_named party) joined.accounts
      ∙ among_named party (first ∷ more)
      (same_among party (first_passes lock plan desks workers) (first ∷ more) same
      ∙ (all_first lock plan (other_parties desks workers)).1 party
      (sym (ap (is_in party) (joined.given ∙ same.0.6)) ∙ there))),
)

-- the same of passes that nobody used
pub unused_of : (lock : LockName) (plan : PlanShape) (desks workers : ℕ) (pass : Known) (passes : List Known)
    → passes ≡ first_passes lock plan desks workers → AreJoined passes pass
    → IsPassOf lock pass × (pass.label ≡ Some plan) × IsLastPass party_of pass
unused_of lock plan desks workers pass passes are joined =
    let same : AreSame (first_passes lock plan desks workers) passes =
    subst (λ (w : List Known). AreSame (first_passes lock plan desks workers) w) (sym are)
    (same_self (first_passes lock plan desks workers)) in
    let of_lock = joined_of lock plan desks workers pass passes same joined in
    (of_lock.0, of_lock.1, joined_last lock plan desks workers pass passes same joined)

-- the parties come back with the first passes, later on
pub back_same : (lock : LockName) (plan : PlanShape) (desks workers : ℕ) (ends : List Ends) (placed ran : List Place)
    (passes : List Known) → passes ≡ first_passes lock plan desks workers
    → reverse placed ≡ places_with passes ends → HaveRun plan placed ran
    → AreSame (first_passes lock plan desks workers) (passes_in (reverse ran))
back_same lock plan desks workers ends placed ran passes are put run =
    same_passes plan (first_passes lock plan desks workers) ends (reverse ran)
    (subst (λ (w : List Place). HaveRun plan w (reverse ran))
    (put ∙ ap (λ (w : List Known). places_with w ends) are) (run-reverse plan placed ran run))

pub back_can : (lock : LockName) (plan : PlanShape) (desks workers : ℕ) (ends : List Ends) (placed ran : List Place)
    (passes : List Known) → passes ≡ first_passes lock plan desks workers
    → reverse placed ≡ places_with passes ends → HaveRun plan placed ran
    → CanJoin lock (passes_in (reverse ran))
back_can lock plan desks workers ends placed ran passes are put run =
    can_join lock plan desks workers (passes_in (reverse ran))
    (back_same lock plan desks workers ends placed ran passes are put run)

-- and of passes that come back from their places
pub back_of : (lock : LockName) (plan : PlanShape) (desks workers : ℕ) (pass : Known) (ends : List Ends)
    (placed ran : List Place) (passes : List Known) → passes ≡ first_passes lock plan desks workers
    → reverse placed ≡ places_with passes ends → HaveRun plan placed ran → AreJoined (passes_in (reverse ran)) pass
    → IsPassOf lock pass × (pass.label ≡ Some plan) × IsLastPass party_of pass
back_of lock plan desks workers pass ends placed ran passes are put run joined =
    let same = back_same lock plan desks workers ends placed ran passes are put run in
    let of_lock = joined_of lock plan desks workers pass (passes_in (reverse ran)) same joined in
    (of_lock.0, of_lock.1, joined_last lock plan desks workers pass (passes_in (reverse ran)) same joined)

-- what a closed office has is lawful under its plan
pub closed_lawful : (plan : PlanShape) (pass closed : Known) (history : List Entry) → IsClosed pass closed
    → history ≡ pass.seen → pass.label ≡ Some plan → IsTested IsLawful closed → IsLawful plan history
closed_lawful plan pass closed history is whole label tested =
    subst (λ (h : List Entry). IsLawful plan h) (is.4 ∙ sym whole) (tested plan (is.2 ∙ label))

-- ---- the whole

module _ (lock : LockName) (plan : PlanShape) (workers : ℕ) (end : Ends) (ends : List Ends)
    (few : length (end ∷ ends) ≤ 16) where
  abbrev pub behind : List ℕ
  behind = other_parties (length (end ∷ ends)) workers

  abbrev pub opened : List Known
  opened = first_passes lock plan (length (end ∷ ends)) workers

  less : length (end ∷ ends) - 1 ≡ length ends
  less = omega arith

  numbered : AreNumbered 1 opened (end ∷ ends)
  numbered = (
    refl,
    subst (λ (k : ℕ). AreNumbered 2 (map (new_pass lock plan) (range_with_len 2 k ++ range_with_len 17 workers)) ends)
        (sym less) (numbered_new lock plan 2 ends (range_with_len 17 workers)),
  )

  opened_fresh : AreFresh opened
  opened_fresh = ((refl, refl), fresh_new lock plan behind)

  apart : AreApart (parties_of opened)
  apart = subst (λ (w : List ℕ). AreApart (1 ∷ w)) (sym (parties_new lock plan behind))
      (subst (λ (k : ℕ). AreApart (1 ∷ (range_with_len 2 k ++ range_with_len 17 workers))) (sym less)
      (apart_two 1 (length (end ∷ ends)) 17 workers (omega (arith, few))))

  module _ (pass : Known) where
    accounts_are : (used : List Known) → AreJoined used pass → account party_of pass ≡ accounts_of used
    accounts_are [] joined = absurd joined
    accounts_are (first ∷ more) joined = joined.accounts

    module _ (each : (p : ℕ) → entries_by party_of p pass.seen ≡ entries_under p (account party_of pass)) where
      settled : (used : List Known) → AreSame opened used → AreJoined used pass → AreSettled pass.seen used
      settled [] same joined = absurd joined
      settled (first ∷ more) same joined =
          settle (first ∷ more) (first ∷ more) pass joined.accounts each joined.begins
          (under_all (first ∷ more) (alone_used opened (first ∷ more) same opened_fresh)
          (subst (λ (w : List ℕ). AreApart w) (sym (same_parties opened (first ∷ more) same)) apart))

      -- once the office is closed, each desk was served over its history
      pub all_served : (news : List Place) → HaveRun plan (places_with opened (end ∷ ends)) news
          → AreJoined (passes_in news) pass → IsLawful plan pass.seen
          → AreServed plan (journal pass.seen) 1 (end ∷ ends) (ends_in news) (desk_ends_in news)
      all_served news run joined lawful =
          served_from plan pass.seen lawful 1 opened (end ∷ ends) news run
          (settled (passes_in news) (same_passes plan opened (end ∷ ends) news run) joined) numbered

      -- and none but desks sent anything
      pub all_of_desks : (news : List Place) → HaveRun plan (places_with opened (end ∷ ends)) news
          → AreJoined (passes_in news) pass → AreOfDesks (length (end ∷ ends)) (journal pass.seen)
      all_of_desks news run joined =
          of_desks (length (end ∷ ends)) (journal pass.seen)
          (all_among (range_with_len 1 (length (end ∷ ends))) (journal pass.seen) (λ party outside.
          sym (sent_own party pass.seen)
          ∙ ap (sent_by party) (each party ∙ ap (entries_under party) (accounts_are (passes_in news) joined))
          ∙ all_quiet plan party 1 opened (end ∷ ends) news run opened_fresh numbered outside))

-- ---- what serving all parties is worth

module _ (lock : LockName) (plan : PlanShape) (workers : ℕ) where
  both_of : (olds : List Ends) (news : List Place) (pass : Known) → 1 ≤ length olds → length olds ≤ 16
      → HaveRun plan (places_with (first_passes lock plan (length olds) workers) olds) news
      → AreJoined (passes_in news) pass → IsLawful plan pass.seen
      → ((p : ℕ) → entries_by party_of p pass.seen ≡ entries_under p (account party_of pass))
      → AreServed plan (journal pass.seen) 1 olds (ends_in news) (desk_ends_in news)
      × AreOfDesks (length olds) (journal pass.seen)
  both_of [] news pass some few run joined lawful each = absurd (omega (arith, some))
  both_of (end ∷ ends) news pass some few run joined lawful each = (
    all_served lock plan workers end ends few pass each news run joined lawful,
    all_of_desks lock plan workers end ends few pass each news run joined,
  )

  pub parties_served : (passes : List Known) (olds news : List Ends) (ended : List DeskEnd) (placed ran : List Place)
      (pass : Known) (history : List Entry) → 1 ≤ length olds → length olds ≤ 16
      → passes ≡ first_passes lock plan (length olds) workers → reverse placed ≡ places_with passes olds
      → HaveRun plan placed ran → AreJoined (passes_in (reverse ran)) pass → IsLawful plan pass.seen
      → news ≡ ends_in (reverse ran) → ended ≡ desk_ends_in (reverse ran) → history ≡ pass.seen
      → ((p : ℕ) → entries_by party_of p history ≡ entries_under p (account party_of pass))
      → AreServed plan (journal history) 1 olds news ended × AreOfDesks (length olds) (journal history)
  parties_served passes olds news ended placed ran pass history some few are put run joined lawful desks ends whole
      each =
      let ordered : HaveRun plan (places_with (first_passes lock plan (length olds) workers) olds) (reverse ran) =
      subst (λ (w : List Place). HaveRun plan w (reverse ran))
      (put ∙ ap (λ (w : List Known). places_with w olds) are) (run-reverse plan placed ran run) in
      let both = both_of olds (reverse ran) pass some few ordered joined lawful
      (λ p. ap (entries_by party_of p) (sym whole) ∙ each p) in (
        subst (λ (h : List Entry). AreServed plan (journal h) 1 olds news ended) (sym whole)
            (subst (λ (w : List Ends). AreServed plan (journal pass.seen) 1 olds w ended) (sym desks)
            (subst (λ (w : List DeskEnd). AreServed plan (journal pass.seen) 1 olds (ends_in (reverse ran)) w)
            (sym ends) both.0)),
        subst (λ (h : List Entry). AreOfDesks (length olds) (journal h)) (sym whole) both.1,
      )

-- where no desk was served, each is as it was
pub none_served : (plan : PlanShape) (number : ℕ) (olds : List Ends)
    → AreServed plan (journal []) number olds olds []
none_served plan number [] = tt
none_served plan number (old ∷ olds) =
    (refl, unbegun_end plan number old.source old.sink [] refl, none_served plan (number + 1) olds)

pub unserved : (plan : PlanShape) (olds news : List Ends) (ended : List DeskEnd) (history : List Entry)
    → history ≡ [] → news ≡ olds → ended ≡ [] → AreServed plan (journal history) 1 olds news ended
unserved plan olds news ended history empty same none =
    subst (λ (h : List Entry). AreServed plan (journal h) 1 olds news ended) (sym empty)
    (subst (λ (w : List Ends). AreServed plan (journal []) 1 olds w ended) (sym same)
    (subst (λ (w : List DeskEnd). AreServed plan (journal []) 1 olds olds w) (sym none) (none_served plan 1 olds)))

-- ---- how much room the ends need

count_new : (lock : LockName) (plan : PlanShape) (parties : List ℕ)
    → length (map (new_pass lock plan) parties) ≡ length parties
count_new lock plan [] = refl
count_new lock plan (party ∷ parties) = ap suc (count_new lock plan parties)

count_range : (first count : ℕ) (more : List ℕ) → count ≤ length (range_with_len first count ++ more)
count_range first zero more = omega arith
count_range first (suc count) more = omega (arith, count_range (first + 1) count more)

-- there is a pass for each desk
pub enough : (lock : LockName) (plan : PlanShape) (workers : ℕ) (olds : List Ends) → 1 ≤ length olds
    → length olds ≤ length (first_passes lock plan (length olds) workers)
enough lock plan workers [] some = absurd (omega (arith, some))
enough lock plan workers (end ∷ ends) some =
    let count : ℕ = length (end ∷ ends) - 1 in
    let parties : List ℕ = range_with_len 2 count ++ range_with_len 17 workers in
    omega (arith, count_new lock plan parties, count_range 2 count (range_with_len 17 workers))

-- as many ends come back as were put
pub ends_count : (plan : PlanShape) (passes : List Known) (ends : List Ends) (news : List Place)
    → HaveRun plan (places_with passes ends) news → length ends ≤ length passes → length (ends_in news) ≡ length ends
ends_count plan [] [] [] run few = refl
ends_count plan [] (end ∷ ends) [] run few = absurd (omega (arith, few))
ends_count plan [] [] (new ∷ news) run few = absurd run
ends_count plan [] (end ∷ ends) (new ∷ news) run few = absurd run
ends_count plan (pass ∷ passes) [] news run few =
    ap (λ (w : List Ends). length w) (no_ends plan (pass ∷ passes) news run).0
ends_count plan (pass ∷ passes) (end ∷ ends) [] run few = absurd run
ends_count plan (pass ∷ passes) (end ∷ ends) (new ∷ news) run few =
    by new.ends run.0.did (ends_count plan passes ends news run.1 (omega (arith, few)))
  where
    by : (o : Option Ends) → Did plan run.0.given run.0.pass (Some end) o new.end → length (ends_in news) ≡ length ends
        → length (cons_option o (ends_in news)) ≡ suc (length ends)
    by None did rest = absurd did
    by (Some told) did rest = ap suc rest

-- ---- an office that nobody used

accounts_joined : (used : List Known) (pass : Known) → AreJoined used pass → account party_of pass ≡ accounts_of used
accounts_joined [] pass joined = absurd joined
accounts_joined (first ∷ more) pass joined = joined.accounts

fresh_under : (party : ℕ) (passes : List Known) → AreFresh passes → entries_under party (accounts_of passes) ≡ []
fresh_under party [] fresh = refl
fresh_under party (pass ∷ passes) fresh =
    under-append party (account party_of pass) (accounts_of passes)
    ∙ ap (λ (w : List Entry). entries_under party (account party_of pass) ++ w) (fresh_under party passes fresh.1)
    ∙ append-nil (entries_under party (account party_of pass))
    ∙ by (pass.party == party) refl
  where
    by : (b : Bool) → (pass.party == party) ≡ b → entries_under party (account party_of pass) ≡ []
    by true is =
        subst (λ (p : ℕ). entries_under p (account party_of pass) ≡ []) (eqb-true pass.party party is)
        (under_own pass fresh.0.0 ∙ ap (entries_by party_of pass.party) fresh.0.1)
    by false is = under_another party pass fresh.0.0 is

-- a history in which nobody made an entry is empty
none_made : (history : List Entry) → ((p : ℕ) → entries_by party_of p history ≡ []) → history ≡ []
none_made [] each = refl
none_made (entry ∷ entries) each =
    let party : ℕ = party_of entry in
    let its : List Entry = entries_by party_of party entries in
    let never : entry ∷ its ≡ [] =
    sym (ap (λ (b : Bool). cond b (entry ∷ its) its) (eq-eqb party party refl)) ∙ each party in
    absurd (cc never)

pub unused_history : (lock : LockName) (plan : PlanShape) (desks workers : ℕ) (passes : List Known) (pass : Known)
    (history : List Entry) → passes ≡ first_passes lock plan desks workers → AreJoined passes pass
    → ((p : ℕ) → entries_by party_of p history ≡ entries_under p (account party_of pass)) → history ≡ []
unused_history lock plan desks workers passes pass history are joined each =
    none_made history (λ p. each p ∙ ap (entries_under p) (accounts_joined passes pass joined)
    ∙ fresh_under p passes (subst (λ (w : List Known). AreFresh w) (sym are)
    ((refl, refl), fresh_new lock plan (other_parties desks workers))))

-- as many ends come back as were put, whatever their order
pub ends_back : (lock : LockName) (plan : PlanShape) (workers : ℕ) (olds : List Ends) (placed ran : List Place)
    (passes : List Known) → 1 ≤ length olds → passes ≡ first_passes lock plan (length olds) workers
    → reverse placed ≡ places_with passes olds → HaveRun plan placed ran
    → length (ends_in (reverse ran)) ≡ length olds
ends_back lock plan workers olds placed ran passes some are put run =
    ends_count plan passes olds (reverse ran)
    (subst (λ (w : List Place). HaveRun plan w (reverse ran)) put (run-reverse plan placed ran run))
    (subst (λ (w : List Known). length olds ≤ length w) (sym are) (enough lock plan workers olds some))

desk_ends_count : (places : List Place) → length (desk_ends_in places) ≡ length (ends_in places)
desk_ends_count [] = refl
desk_ends_count (place ∷ places) = by place.ends (desk_ends_count places)
  where
    by : (o : Option Ends) → length (desk_ends_in places) ≡ length (ends_in places)
        → length (cons_option (option_map (λ told. place.end) o) (desk_ends_in places))
        ≡ length (cons_option o (ends_in places))
    by None rest = rest
    by (Some told) rest = ap suc rest

-- and there is an end of each desk
pub ended_back : (lock : LockName) (plan : PlanShape) (workers : ℕ) (olds : List Ends) (placed ran : List Place)
    (passes : List Known) (ended : List DeskEnd) → 1 ≤ length olds
    → passes ≡ first_passes lock plan (length olds) workers → reverse placed ≡ places_with passes olds
    → HaveRun plan placed ran → ended ≡ desk_ends_in (reverse ran) → length ended ≡ length olds
ended_back lock plan workers olds placed ran passes ended some are put run is =
    ap (λ (w : List DeskEnd). length w) is
    ∙ desk_ends_count (reverse ran)
    ∙ ends_back lock plan workers olds placed ran passes some are put run

-- there are passes enough for so many desks
pub enough_for : (lock : LockName) (plan : PlanShape) (workers desks : ℕ) (olds : List Ends) (passes : List Known)
    → 1 ≤ desks → length olds ≡ desks → passes ≡ first_passes lock plan desks workers → desks ≤ length passes
enough_for lock plan workers desks olds passes some count are =
    let all : length olds ≤ length passes =
    subst (λ (w : List Known). length olds ≤ length w)
    (sym (are ∙ ap (λ (n : ℕ). first_passes lock plan n workers) (sym count)))
    (enough lock plan workers olds (omega (arith, some, count))) in
    omega (arith, all, count)

module _ (lock : LockName) (plan : PlanShape) (workers desks : ℕ) (olds : List Ends) (placed ran : List Place)
    (passes : List Known) (some : 1 ≤ desks) (few : desks ≤ 16) (count : length olds ≡ desks)
    (are : passes ≡ first_passes lock plan desks workers) (put : reverse placed ≡ places_with passes olds)
    (run : HaveRun plan placed ran) where
  first_of : passes ≡ first_passes lock plan (length olds) workers
  first_of = are ∙ ap (λ (n : ℕ). first_passes lock plan n workers) (sym count)

  -- there is room enough for the ends that come back
  pub room_for_all : (room : ℕ) → desks ≤ room → length (ends_in ran) ≤ room
  room_for_all room fits =
      let back = ends_back lock plan workers olds placed ran passes (omega (arith, some, count)) first_of put run in
      omega (arith, back, ends_reversed ran, count, fits)

  -- each desk has an end
  pub each_ended : (ended : List DeskEnd) → ended ≡ desk_ends_in (reverse ran) → length ended ≡ desks
  each_ended ended is =
      ended_back lock plan workers olds placed ran passes ended (omega (arith, some, count)) first_of put run is ∙ count

  module _ (pass closed : Known) (history : List Entry) (joined : AreJoined (passes_in (reverse ran)) pass)
      (ends : IsClosed pass closed) (whole : history ≡ pass.seen) (tested : IsTested IsLawful closed)
      (each : (p : ℕ) → entries_by party_of p history ≡ entries_under p (account party_of pass)) where
    all_of : (news : List Ends) (ended : List DeskEnd) → news ≡ ends_in (reverse ran)
        → ended ≡ desk_ends_in (reverse ran)
        → AreServed plan (journal history) 1 olds news ended × AreOfDesks (length olds) (journal history)
    all_of news ended news_are ended_are =
        let label = (back_of lock plan desks workers pass olds placed ran passes are put run joined).1 in
        parties_served lock plan workers passes olds news ended placed ran pass history (omega (arith, some, count))
        (omega (arith, few, count)) first_of put run joined
        (subst (λ (h : List Entry). IsLawful plan h) ends.4 (tested plan (ends.2 ∙ label)))
        news_are ended_are whole each

    -- each desk was served over the closed history
    pub served_all : (news : List Ends) (ended : List DeskEnd) → news ≡ ends_in (reverse ran)
        → ended ≡ desk_ends_in (reverse ran) → AreServed plan (journal history) 1 olds news ended
    served_all news ended news_are ended_are = (all_of news ended news_are ended_are).0

    -- and none but desks sent anything
    pub sent_by_desks : AreOfDesks desks (journal history)
    sent_by_desks =
        subst (λ (n : ℕ). AreOfDesks n (journal history)) count
        (all_of (ends_in (reverse ran)) (desk_ends_in (reverse ran)) refl refl).1
