-- Parties that are put into their places, and taken back.
use Rattle.std.proofs.Common.{◌≡◌, ◌∙◌, ap, sym, refl, subst, ℕ, zero, suc, ◌+◌, ◌<◌, ◌≤◌, List, [], ◌∷◌, ◌++◌}
use Rattle.std.proofs.Common.{length}
use Rattle.std.proofs.Common.{map, reverse, Option, Some, None, arith, append_assoc, append-nil, length-append}
use Rattle.std.specs.Prelude.{All, IsSome, remove, slice_index_or}
use Rattle.std.specs.List.{cons_option}
use Rattle.std.specs.Option.{option_map, option_to_list}
use Rattle.std.proofs.lemmas.List.{length-map, map-append, reverse-append}
use Rattle.std.proofs.lemmas.List.Elements.{All-append, All-cons, All-head, All-nil, All-tail}
use Rattle.std.proofs.lemmas.List.Elements.{filter_map-append}
use mathlib.Core.List.{IsPrefix}
use Rattle.series_tables.specs.Plan.{PlanShape}
use Rattle.accounts_history.specs.History.{party_of}
use Rattle.desk_lock.specs.Passes.{IsJoined, IsPassOf, LockName, own}
use Rattle.office.specs.Holds.{Known}
use Rattle.compile_workers.specs.DeskEnd.{Ends}
use Rattle.compile_workers.specs.Parties.{AreJoined, CanJoin, HasRun, HaveRun, Place, PutsParty, TakesParty}
use Rattle.compile_workers.specs.Parties.{desk_ends_in}
use Rattle.compile_workers.specs.Parties.{ends_in, passes_in, place_of, places_with}
use Rattle.compile_workers.specs.declared.desk.DeskEnd.{DeskEnd}
use Rattle.compile_workers.specs.declared.desk.DeskEnd.TheVariants.{Memory}
use Rattle.compile_workers.proofs.Gathered.{joined_first, joins_more}

-- ---- into their places

-- the last pass is a worker's, where there are no more ends than passes before it
with_worker : (passes : List Known) (pass : Known) (ends : List Ends) → length ends ≤ length passes
    → places_with (passes ++ pass ∷ []) ends ≡ places_with passes ends ++ place_of (Some pass) None Memory ∷ []
with_worker [] pass [] few = refl
with_worker [] pass (end ∷ ends) few = absurd (let never : suc (length ends) ≤ 0 = few in omega arith)
with_worker (one ∷ passes) pass [] few =
    ap (λ (w : List Place). place_of (Some one) None Memory ∷ w) (with_worker passes pass [] (omega arith))
with_worker (one ∷ passes) pass (end ∷ ends) few =
    ap (λ (w : List Place). place_of (Some one) (Some end) Memory ∷ w)
    (with_worker passes pass ends (omega (arith, few)))

-- it is a desk's, with the last ends, where there are as many
with_desk : (passes : List Known) (pass : Known) (ends : List Ends) (end : Ends) → length ends ≡ length passes
    → places_with (passes ++ pass ∷ []) (ends ++ end ∷ [])
    ≡ places_with passes ends ++ place_of (Some pass) (Some end) Memory ∷ []
with_desk [] pass [] end same = refl
with_desk [] pass (other ∷ ends) end same = absurd (let never : suc (length ends) ≡ 0 = same in omega arith)
with_desk (one ∷ passes) pass [] end same = absurd (let never : 0 ≡ suc (length passes) = same in omega arith)
with_desk (one ∷ passes) pass (other ∷ ends) end same =
    ap (λ (w : List Place). place_of (Some one) (Some other) Memory ∷ w)
    (with_desk passes pass ends end (omega (arith, same)))

-- what is still to be put and what was put are all places
abbrev pub ArePlaced : List Known → List Ends → List Place → List Place → Type 0
ArePlaced passes ends places all = places_with passes ends ++ reverse places ≡ all

pub placed_none : (passes : List Known) (ends : List Ends) → ArePlaced passes ends [] (places_with passes ends)
placed_none passes ends = append-nil (places_with passes ends)

-- one party more was put
one_put : (rest : List Place) (place : Place) (before after all : List Place) → after ≡ before ++ place ∷ []
    → (rest ++ place ∷ []) ++ reverse before ≡ all → rest ++ reverse after ≡ all
one_put rest place before after all is had =
    ap (λ (w : List Place). rest ++ reverse w) is
    ∙ ap (λ (w : List Place). rest ++ w) (reverse-append before (place ∷ []))
    ∙ sym (append_assoc rest (place ∷ []) (reverse before))
    ∙ had

pub placed_worker : (passes left : List Known) (ends : List Ends) (before after all : List Place)
    → PutsParty passes left None before after → length ends ≤ length left → ArePlaced passes ends before all
    → ArePlaced left ends after all
placed_worker passes left ends before after all puts few had =
    one_put (places_with left ends) (place_of (Some puts.0) None Memory) before after all puts.2
    (ap (λ (w : List Place). w ++ reverse before) (sym (with_worker left puts.0 ends few))
    ∙ ap (λ (w : List Known). places_with w ends ++ reverse before) (sym puts.1)
    ∙ had)

pub placed_desk : (passes left : List Known) (ends rest : List Ends) (end : Ends) (before after all : List Place)
    → ends ≡ rest ++ end ∷ [] → PutsParty passes left (Some end) before after → length rest ≡ length left
    → ArePlaced passes ends before all → ArePlaced left rest after all
placed_desk passes left ends rest end before after all ends_are puts same had =
    one_put (places_with left rest) (place_of (Some puts.0) (Some end) Memory) before after all puts.2
    (ap (λ (w : List Place). w ++ reverse before) (sym (with_desk left puts.0 rest end same))
    ∙ ap (λ (w : List Known). places_with w (rest ++ end ∷ []) ++ reverse before) (sym puts.1)
    ∙ ap (λ (w : List Ends). places_with passes w ++ reverse before) (sym ends_are)
    ∙ had)

-- the last of some ends is that which was popped
pub mapped_last : {A B : Type 0} (f : A → B) (all rest : List A) (popped : Option A) (last : A)
    → all ≡ rest ++ option_to_list popped → popped ≡ Some last → map f all ≡ map f rest ++ f last ∷ []
mapped_last f all rest popped last are is =
    ap (map f) (are ∙ ap (λ o. rest ++ option_to_list o) is) ∙ map-append f rest (last ∷ [])

-- where nothing is in a list, nothing is in what is made of it
pub mapped_none : {A B : Type 0} (f : A → B) (all : List A) → all ≡ [] → map f all ≡ []
mapped_none f all none = ap (map f) none

-- as many as before stand in what is made of a list
pub mapped_same : {A B : Type 0} (f : A → B) (all : List A) (count : ℕ) → length all ≡ count → length (map f all) ≡ count
mapped_same f all count is = length-map all f ∙ is

pub mapped_few : {A B : Type 0} (f : A → B) (all : List A) (count : ℕ) → length all ≤ count → length (map f all) ≤ count
mapped_few f all count few = omega (arith, length-map all f, few)

-- one less is left behind the last one
pub popped_one : {A : Type 0} (all rest : List A) (popped : Option A) (last : A)
    → all ≡ rest ++ option_to_list popped → popped ≡ Some last → length all ≡ suc (length rest)
popped_one all rest popped last are is =
    ap (λ (w : List _). length w) (are ∙ ap (λ o. rest ++ option_to_list o) is)
    ∙ length-append rest (last ∷ []) ∙ omega arith

-- one pass less is left, and one place more is taken
pub put_passes : (passes left : List Known) (ends : Option Ends) (before after : List Place)
    → PutsParty passes left ends before after → length passes ≡ suc (length left)
put_passes passes left ends before after puts =
    ap (λ (w : List Known). length w) puts.1 ∙ length-append left (puts.0 ∷ []) ∙ omega arith

pub put_places : (passes left : List Known) (ends : Option Ends) (before after : List Place)
    → PutsParty passes left ends before after → length after ≡ suc (length before)
put_places passes left ends before after puts =
    ap (λ (w : List Place). length w) puts.2
    ∙ length-append before (place_of (Some puts.0) ends Memory ∷ []) ∙ omega arith

-- ---- running

-- what each call did at its place, all calls did
pub have_run : (plan : PlanShape) (olds news : List Place) → length news ≡ length olds
    → ((i : ℕ) (d : Place) → i < length olds → HasRun plan (slice_index_or olds i d) (slice_index_or news i d))
    → HaveRun plan olds news
have_run plan [] [] same each = tt
have_run plan [] (new ∷ news) same each = absurd (let never : suc (length news) ≡ 0 = same in omega arith)
have_run plan (old ∷ olds) [] same each = absurd (let never : 0 ≡ suc (length olds) = same in omega arith)
have_run plan (old ∷ olds) (new ∷ news) same each = (
  each zero old (omega arith),
  have_run plan olds news (omega (arith, same)) (λ i d inside. each (suc i) d (omega (arith, inside))),
)

-- ---- back from their places

-- what was taken back of all places: these first ones, whose passes were joined into one
pub record AreTaken (all done rest : List Place) (pass : Known) (desks : List Ends) (ends : List DeskEnd)
    : Type 0 where
  pub parts : all ≡ done ++ reverse rest
  pub joined : AreJoined (passes_in done) pass
  pub desks_are : desks ≡ ends_in done
  pub ends_are : ends ≡ desk_ends_in done

-- the one that there is, or none
one_of : {A : Type 0} (o : Option A) → option_to_list o ≡ cons_option o []
one_of None = refl
one_of (Some x) = refl

-- the first one
pub taken_first : (places left : List Place) (pass : Known) (before desks : List Ends) (ended ends : List DeskEnd)
    → before ≡ [] → ended ≡ [] → TakesParty places left pass before desks ended ends
    → (done : List Place) × AreTaken (reverse places) done left pass desks ends
taken_first places left pass before desks ended ends none no_end takes =
    let last : Place = takes.0 in (
      last ∷ [],
      record {
        parts = ap (λ (w : List Place). reverse w) takes.1 ∙ reverse-append left (last ∷ []);
        joined = subst (λ (o : Option Known). AreJoined (cons_option o []) pass) (sym takes.2) (joined_first pass);
        desks_are = takes.3 ∙ ap (λ (w : List Ends). w ++ option_to_list last.ends) none ∙ one_of last.ends;
        ends_are = takes.4
            ∙ ap (λ (w : List DeskEnd). w ++ option_to_list (option_map (λ told. last.end) last.ends)) no_end
            ∙ one_of (option_map (λ told. last.end) last.ends);
      },
    )

-- what two lists of places have, one behind the other
passes_in-append : (some more : List Place) → passes_in (some ++ more) ≡ passes_in some ++ passes_in more
passes_in-append some more = filter_map-append (λ (place : Place). place.pass) some more

ends_in-append : (some more : List Place) → ends_in (some ++ more) ≡ ends_in some ++ ends_in more
ends_in-append some more = filter_map-append (λ (place : Place). place.ends) some more

desk_ends_in-append : (some more : List Place) → desk_ends_in (some ++ more) ≡ desk_ends_in some ++ desk_ends_in more
desk_ends_in-append some more =
    filter_map-append (λ (place : Place). option_map (λ ends. place.end) place.ends) some more

-- there are as many ends in the other order
pub ends_reversed : (places : List Place) → length (ends_in (reverse places)) ≡ length (ends_in places)
ends_reversed [] = refl
ends_reversed (place ∷ places) =
    ap (λ (w : List Place). length (ends_in w)) (reverse-append (place ∷ []) places)
    ∙ ap (λ (w : List Ends). length w) (ends_in-append (reverse places) (place ∷ []))
    ∙ length-append (ends_in (reverse places)) (ends_in (place ∷ []))
    ∙ ap (λ (n : ℕ). n + length (ends_in (place ∷ []))) (ends_reversed places)
    ∙ by place.ends
  where
    by : (o : Option Ends)
        → length (ends_in places) + length (cons_option o []) ≡ length (cons_option o (ends_in places))
    by None = omega arith
    by (Some ends) = omega arith

-- the ends of places of which one is the last
ends_with_last : (places left : List Place) (last : Place) → places ≡ left ++ last ∷ []
    → length (ends_in places) ≡ length (ends_in left) + length (option_to_list last.ends)
ends_with_last places left last are =
    ap (λ (w : List Place). length (ends_in w)) are
    ∙ ap (λ (w : List Ends). length w) (ends_in-append left (last ∷ []))
    ∙ length-append (ends_in left) (ends_in (last ∷ []))
    ∙ ap (λ (w : List Ends). length (ends_in left) + length w) (sym (one_of last.ends))

-- where the last place is a desk's, there is room for one more
pub room_for_last : (places left : List Place) (last : Place) (taken room : ℕ)
    → places ≡ left ++ last ∷ [] → IsSome last.ends → taken + length (ends_in places) ≤ room → taken < room
room_for_last places left last taken room are is fits =
    let count = ends_with_last places left last are in omega (arith, count, one last.ends is, fits)
  where
    one : (o : Option Ends) → IsSome o → length (option_to_list o) ≡ 1
    one None is = absurd (cc is)
    one (Some told) is = refl

-- there is still room for the desks that are left
pub more_desks : (places left : List Place) (pass : Known) (before after : List Ends) (ended ends : List DeskEnd)
    (room more : ℕ) → TakesParty places left pass before after ended ends
    → length before + length (ends_in places) ≤ room → room ≤ more → length after + length (ends_in left) ≤ more
more_desks places left pass before after ended ends room more takes fits grew =
    let count = ends_with_last places left takes.0 takes.1 in
    let is : length after ≡ length before + length (option_to_list takes.0.ends) =
    ap (λ (w : List Ends). length w) takes.3 ∙ length-append before (option_to_list takes.0.ends) in
    omega (arith, count, is, fits, grew)

as_many : (end : DeskEnd) (o : Option Ends)
    → length (option_to_list (option_map (λ told. end) o)) ≡ length (option_to_list o)
as_many end None = refl
as_many end (Some told) = refl

-- and for their ends
pub more_ends : (places left : List Place) (pass : Known) (before after : List Ends) (ended ends : List DeskEnd)
    (room more : ℕ) → TakesParty places left pass before after ended ends
    → length ended + length (ends_in places) ≤ room → room ≤ more → length ends + length (ends_in left) ≤ more
more_ends places left pass before after ended ends room more takes fits grew =
    let count = ends_with_last places left takes.0 takes.1 in
    let told : length ends ≡ length ended + length (option_to_list (option_map (λ told. takes.0.end) takes.0.ends)) =
    ap (λ (w : List DeskEnd). length w) takes.4
    ∙ length-append ended (option_to_list (option_map (λ told. takes.0.end) takes.0.ends)) in
    omega (arith, count, told, as_many takes.0.end takes.0.ends, fits, grew)

-- at first none were taken
pub first_desks : (places left : List Place) (pass : Known) (before after : List Ends) (ended ends : List DeskEnd)
    (room more : ℕ) → TakesParty places left pass before after ended ends → before ≡ []
    → length (ends_in places) ≤ room → room ≤ more → length after + length (ends_in left) ≤ more
first_desks places left pass before after ended ends room more takes none fits grew =
    let zero_before : length before ≡ 0 = ap (λ (w : List Ends). length w) none in
    more_desks places left pass before after ended ends room more takes (omega (arith, zero_before, fits)) grew

pub first_ends : (places left : List Place) (pass : Known) (before after : List Ends) (ended ends : List DeskEnd)
    (room more : ℕ) → TakesParty places left pass before after ended ends → ended ≡ []
    → length (ends_in places) ≤ room → room ≤ more → length ends + length (ends_in left) ≤ more
first_ends places left pass before after ended ends room more takes none fits grew =
    let zero_ended : length ended ≡ 0 = ap (λ (w : List DeskEnd). length w) none in
    more_ends places left pass before after ended ends room more takes (omega (arith, zero_ended, fits)) grew

-- what is made of a list is as long
pub mapped_to : {A B : Type 0} (f : A → B) (all : List A) (count room : ℕ) → length all + count ≤ room
    → length (map f all) + count ≤ room
mapped_to f all count room fits = omega (arith, length-map all f, fits)

pub mapped_from : {A B : Type 0} (f : A → B) (all : List A) (count room : ℕ) → length (map f all) + count ≤ room
    → length all + count ≤ room
mapped_from f all count room fits = omega (arith, length-map all f, fits)

-- one more pass of the office was joined into those of a list
joined_more : (lock : LockName) (passes : List Known) (pass other after : Known) → CanJoin lock passes
    → AreJoined passes pass → IsJoined party_of pass other after → IsPrefix pass.seen after.seen
    → IsPrefix other.seen after.seen → own party_of after ≡ own party_of pass
    → AreJoined (passes ++ other ∷ []) after
joined_more lock [] pass other after can had joined begins others mine = absurd can
joined_more lock (first ∷ passes) pass other after can had joined begins others mine =
    joins_more first pass other after passes can.0
    (All-head (λ (p : Known). IsPassOf lock p) first passes can.1).1 had joined begins others mine

-- one more, whose pass was joined
pub taken_more : (lock : LockName) (all done places left : List Place) (pass other after : Known)
    (desks more : List Ends) (ends ended : List DeskEnd) → CanJoin lock (passes_in done)
    → AreTaken all done places pass desks ends → TakesParty places left other desks more ends ended
    → IsJoined party_of pass other after → IsPrefix pass.seen after.seen → IsPrefix other.seen after.seen
    → own party_of after ≡ own party_of pass
    → (next : List Place) × AreTaken all next left after more ended
taken_more lock all done places left pass other after desks more ends ended can had takes joined begins others mine =
    let last : Place = takes.0 in
    let passes : passes_in (done ++ last ∷ []) ≡ passes_in done ++ other ∷ [] =
    passes_in-append done (last ∷ [])
    ∙ ap (λ (o : Option Known). passes_in done ++ cons_option o []) takes.2 in (
      done ++ last ∷ [],
      record {
        parts = had.parts
            ∙ ap (λ (w : List Place). done ++ reverse w) takes.1
            ∙ ap (λ (w : List Place). done ++ w) (reverse-append left (last ∷ []))
            ∙ sym (append_assoc done (last ∷ []) (reverse left));
        joined = subst (λ (w : List Known). AreJoined w after) (sym passes)
            (joined_more lock (passes_in done) pass other after can had.joined joined begins others mine);
        desks_are = takes.3
            ∙ ap (λ (w : List Ends). w ++ option_to_list last.ends) had.desks_are
            ∙ ap (λ (w : List Ends). ends_in done ++ w) (one_of last.ends)
            ∙ sym (ends_in-append done (last ∷ []));
        ends_are = takes.4
            ∙ ap (λ (w : List DeskEnd). w ++ option_to_list (option_map (λ told. last.end) last.ends)) had.ends_are
            ∙ ap (λ (w : List DeskEnd). desk_ends_in done ++ w) (one_of (option_map (λ told. last.end) last.ends))
            ∙ sym (desk_ends_in-append done (last ∷ []));
      },
    )

-- of all that are in a list, those in front are, and those behind
pub all_front : {A : Type 0} (P : A → Type 0) (some more : List A) → All P (some ++ more) → All P some
all_front P [] more all = All-nil P
all_front P (one ∷ some) more all =
    All-cons P one some (All-head P one (some ++ more) all)
    (all_front P some more (All-tail P one (some ++ more) all))

all_back : {A : Type 0} (P : A → Type 0) (some more : List A) → All P (some ++ more) → All P more
all_back P [] more all = all
all_back P (one ∷ some) more all = all_back P some more (All-tail P one (some ++ more) all)

-- a place less is left, and what held of all holds of the rest
pub all_left : (P : Place → Type 0) (places left : List Place) (pass : Known) (before after : List Ends)
    (ended ends : List DeskEnd) → TakesParty places left pass before after ended ends → All P places → All P left
all_left P places left pass before after ended ends takes all =
    all_front P left (takes.0 ∷ []) (subst (λ (w : List Place). All P w) takes.1 all)

-- the passes that are still in their places, the next one first
next_passes : (places left : List Place) (pass : Known) (before after : List Ends) (ended ends : List DeskEnd)
    → TakesParty places left pass before after ended ends
    → passes_in (reverse places) ≡ pass ∷ passes_in (reverse left)
next_passes places left pass before after ended ends takes =
    ap (λ (w : List Place). passes_in (reverse w)) takes.1
    ∙ ap (λ (w : List Place). passes_in w) (reverse-append left (takes.0 ∷ []))
    ∙ ap (λ (o : Option Known). cons_option o (passes_in (reverse left))) takes.2

passes_open : (lock : LockName) (passes : List Known) → CanJoin lock passes → All (IsPassOf lock) passes
passes_open lock [] can = absurd can
passes_open lock (first ∷ passes) can = can.1

-- the first pass that is taken is one of the office's
pub first_open : (lock : LockName) (places left : List Place) (pass : Known) (before after : List Ends)
    (ended ends : List DeskEnd) → TakesParty places left pass before after ended ends
    → CanJoin lock (passes_in (reverse places)) → IsPassOf lock pass
first_open lock places left pass before after ended ends takes can =
    All-head (λ (p : Known). IsPassOf lock p) pass (passes_in (reverse left))
    (subst (λ (w : List Known). All (IsPassOf lock) w) (next_passes places left pass before after ended ends takes)
    (passes_open lock (passes_in (reverse places)) can))

front_can : (lock : LockName) (done more : List Known) (pass : Known) → AreJoined done pass
    → CanJoin lock (done ++ more) → CanJoin lock done
front_can lock [] more pass joined can = absurd joined
front_can lock (first ∷ done) more pass joined can =
    (can.0, all_front (λ (p : Known). IsPassOf lock p) (first ∷ done) more can.1)

-- what was taken back could be joined, where all can
pub taken_can : (lock : LockName) (all done rest : List Place) (pass : Known) (desks : List Ends)
    (ends : List DeskEnd) → AreTaken all done rest pass desks ends → CanJoin lock (passes_in all)
    → CanJoin lock (passes_in done)
taken_can lock all done rest pass desks ends had can =
    front_can lock (passes_in done) (passes_in (reverse rest)) pass had.joined
    (subst (λ (w : List Known). CanJoin lock w)
    (ap (λ (w : List Place). passes_in w) had.parts ∙ passes_in-append done (reverse rest)) can)

-- and the next one that is taken is one of the office's
pub next_open : (lock : LockName) (all done places left : List Place) (pass other : Known)
    (desks before after : List Ends) (ends ended more : List DeskEnd) → AreTaken all done places pass desks ends
    → TakesParty places left other before after ended more → CanJoin lock (passes_in all) → IsPassOf lock other
next_open lock all done places left pass other desks before after ends ended more had takes can =
    let parted : passes_in all ≡ passes_in done ++ other ∷ passes_in (reverse left) =
    ap (λ (w : List Place). passes_in w) had.parts
    ∙ passes_in-append done (reverse places)
    ∙ ap (λ (w : List Known). passes_in done ++ w) (next_passes places left other before after ended more takes) in
    All-head (λ (p : Known). IsPassOf lock p) other (passes_in (reverse left))
    (all_back (λ (p : Known). IsPassOf lock p) (passes_in done) (other ∷ passes_in (reverse left))
    (subst (λ (w : List Known). All (IsPassOf lock) w) parted (passes_open lock (passes_in all) can)))

-- where nothing is left in its place, all were joined
pub all_taken : (all done rest : List Place) (pass : Known) (desks : List Ends) (ends : List DeskEnd)
    → length rest ≡ 0 → AreTaken all done rest pass desks ends
    → AreJoined (passes_in all) pass × (desks ≡ ends_in all) × (ends ≡ desk_ends_in all)
all_taken all done [] pass desks ends none had =
    let whole : all ≡ done = had.parts ∙ append-nil done in (
      subst (λ (w : List Place). AreJoined (passes_in w) pass) (sym whole) had.joined,
      had.desks_are ∙ sym (ap (λ (w : List Place). ends_in w) whole),
      had.ends_are ∙ sym (ap (λ (w : List Place). desk_ends_in w) whole),
    )
all_taken all done (place ∷ rest) pass desks ends none had = absurd (omega (arith, none))

-- ---- passes that are joined in their order

-- of all passes these first ones were joined into one, and the rest can be
pub record AreJoining (lock : LockName) (all done rest : List Known) (pass : Known) : Type 0 where
  pub parts : all ≡ done ++ rest
  pub can : CanJoin lock done
  pub joined : AreJoined done pass
  pub of_lock : IsPassOf lock pass
  pub rest_open : All (IsPassOf lock) rest

pub joining_first : (lock : LockName) (all rest : List Known) (pass : Known) → CanJoin lock all
    → pass ≡ slice_index_or all 0 pass → rest ≡ remove all 0 → AreJoining lock all (pass ∷ []) rest pass
joining_first lock [] rest pass can first left = absurd can
joining_first lock (one ∷ more) rest pass can first left =
    let open_one : IsPassOf lock pass =
    subst (λ (p : Known). IsPassOf lock p) (sym first) (All-head (λ (p : Known). IsPassOf lock p) one more can.1) in
    record {
      parts = ap (λ (p : Known). p ∷ more) (sym first) ∙ ap (λ (w : List Known). pass ∷ w) (sym left);
      can = (
        ap (λ (p : Known). p.gives) first ∙ can.0,
        All-cons (λ (p : Known). IsPassOf lock p) pass [] open_one (All-nil (λ (p : Known). IsPassOf lock p)),
      );
      joined = joined_first pass;
      of_lock = open_one;
      rest_open = subst (λ (w : List Known). All (IsPassOf lock) w) (sym left)
          (All-tail (λ (p : Known). IsPassOf lock p) one more can.1);
    }

-- one more can be joined
can_more : (lock : LockName) (done : List Known) (other : Known) → CanJoin lock done → IsPassOf lock other
    → CanJoin lock (done ++ other ∷ [])
can_more lock [] other can of_lock = absurd can
can_more lock (first ∷ done) other can of_lock = (
  can.0,
  All-append (λ (p : Known). IsPassOf lock p) (first ∷ done) (other ∷ []) can.1
      (All-cons (λ (p : Known). IsPassOf lock p) other [] of_lock (All-nil (λ (p : Known). IsPassOf lock p))),
)

pub joining_more : (lock : LockName) (all done rest left : List Known) (pass other after : Known) → 0 < length rest
    → AreJoining lock all done rest pass → other ≡ slice_index_or rest 0 other → left ≡ remove rest 0
    → IsJoined party_of pass other after → IsPrefix pass.seen after.seen → IsPrefix other.seen after.seen
    → own party_of after ≡ own party_of pass → AreJoining lock all (done ++ other ∷ []) left after
joining_more lock all done [] left pass other after some had first tail joined begins others mine =
    absurd (omega (arith, some))
joining_more lock all done (one ∷ more) left pass other after some had first tail joined begins others mine =
    let open_one : IsPassOf lock other =
    subst (λ (p : Known). IsPassOf lock p) (sym first)
    (All-head (λ (p : Known). IsPassOf lock p) one more had.rest_open) in
    record {
      parts = had.parts
          ∙ ap (λ (p : Known). done ++ p ∷ more) (sym first)
          ∙ ap (λ (w : List Known). done ++ other ∷ w) (sym tail)
          ∙ sym (append_assoc done (other ∷ []) left);
      can = can_more lock done other had.can open_one;
      joined = joined_more lock done pass other after had.can had.joined joined begins others mine;
      of_lock = (joined.0 ∙ had.of_lock.0, joined.1);
      rest_open = subst (λ (w : List Known). All (IsPassOf lock) w) (sym tail)
          (All-tail (λ (p : Known). IsPassOf lock p) one more had.rest_open);
    }

pub joining_done : (lock : LockName) (all done rest : List Known) (pass : Known) → length rest ≡ 0
    → AreJoining lock all done rest pass → AreJoined all pass
joining_done lock all done [] pass none had =
    subst (λ (w : List Known). AreJoined w pass) (sym (had.parts ∙ append-nil done)) had.joined
joining_done lock all done (one ∷ rest) pass none had = absurd (omega (arith, none))

-- the next pass that is joined is one of the office's
pub rest_open : (lock : LockName) (rest : List Known) (other : Known) → 0 < length rest
    → other ≡ slice_index_or rest 0 other → All (IsPassOf lock) rest → IsPassOf lock other
rest_open lock [] other some first all = absurd (omega (arith, some))
rest_open lock (one ∷ more) other some first all =
    subst (λ (p : Known). IsPassOf lock p) (sym first) (All-head (λ (p : Known). IsPassOf lock p) one more all)
