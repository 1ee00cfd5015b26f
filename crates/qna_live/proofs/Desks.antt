-- The opening of all files, one desk after the other.
use Rattle.std.proofs.Common.{◌≡◌, ◌∙◌, Bool, ℕ, suc, ◌+◌, ◌-◌, ◌≤◌, ◌<◌, List, [], ◌∷◌, ◌++◌, length, get_or, take, drop, map, refl, sym, ap, subst, inl, inr, arith}
use Rattle.std.specs.Prelude.{◌≢◌, IsTrue}
use Rattle.std.proofs.lemmas.List.{append-nil, map-append, take-append-drop, take_all, take_more}
use Rattle.std.proofs.Math.Seq.{drop-cons}
use Rattle.qna_edges.specs.Names.{StaysKnown}
use Rattle.qna_edges.specs.Paper.{Paper}
use Rattle.qna_edges.specs.Shelves.{Shelves}
use Rattle.qna_edges.specs.declared.status.Status.{Status}
use Rattle.qna_edges.specs.declared.status.Status.TheVariants.{Memory}
use Rattle.qna_parts.specs.Trace.{Trace, trace_of}
use Rattle.compile_workers.specs.DeskEnd.{Ends}
use Rattle.command_words.specs.LiveWords.{DeskFiles}
use Rattle.command_words.specs.Views.{desk_names}
use Rattle.qna_live.specs.Opening.{AreUntouched, EndsUnserved, IsNoneOf, IsRefused, IsUncreated, traces_of}
use Rattle.qna_live.specs.Opened.{AreBack, AreKnown, FailsDesk, FailsJournal, GivesDesk, GivesDesks, OnlyFiles}
use Rattle.qna_live.proofs.Apart.{AreApart, apart-front, none-front}
use Rattle.qna_live.proofs.Given.{back-others, back-out, back-tells, given-named, given-others, given-out, given-tells, gives-more, known-grows, known-more}
use Rattle.qna_live.proofs.Stopping.{stopped}
use Rattle.qna_live.proofs.Traces.{AreSame, same-but}

-- ---- places in a list

drop-at : {X : Type 0} (items : List X) (i : ℕ) (d : X) → i < length items → drop i items ≡ get_or items i d ∷ drop (i + 1) items
drop-at items i d below =
    let next : suc i ≡ i + 1 = omega arith in
    subst (λ (n : ℕ). drop i items ≡ get_or items i d ∷ drop n items) next (drop-cons items i d below)

pub split-at : {X Y : Type 0} (f : X → Y) (items : List X) (i : ℕ) (d : X) → i < length items → map f items ≡ map f (take i items) ++ f (get_or items i d) ∷ map f (drop (i + 1) items)
split-at {X} f items i d below =
    ap (map f) (sym (take-append-drop i items) ∙ ap (λ (xs : List X). take i items ++ xs) (drop-at items i d below)) ∙ map-append f (take i items) (get_or items i d ∷ drop (i + 1) items)

next-at : {X Y : Type 0} (f : X → Y) (items : List X) (i : ℕ) (d : X) → i < length items → map f (take (i + 1) items) ≡ map f (take i items) ++ f (get_or items i d) ∷ []
next-at f items i d below = ap (map f) (take_more items i d below) ∙ map-append f (take i items) (get_or items i d ∷ [])

-- ---- one desk more

-- a desk's own two names differ
pub differ-at : {X : Type 0} (f : X → DeskFiles) (items shown : List X) (i : ℕ) (d : X) → shown ≡ items → i < length shown → AreApart (desk_names (map f items)) → (f (get_or shown i d)).input ≢ (f (get_or shown i d)).output
differ-at {X} f items shown i d same below apart =
    between (map f (take i shown)) (map f (drop (i + 1) shown)) (f (get_or shown i d)) (subst (λ (desks : List DeskFiles). AreApart (desk_names desks)) (ap (map f) (sym same) ∙ split-at f shown i d below) apart)
  where
    between : (done rest : List DeskFiles) (desk : DeskFiles) → AreApart (desk_names (done ++ desk ∷ rest)) → desk.input ≢ desk.output
    between [] rest desk behind = behind.0.0
    between (first ∷ done) rest desk behind = between done rest desk behind.1.1

-- the desks until now, and the next one
pub given-next : {X Y : Type 0} (f : X → DeskFiles) (h : Y → Ends) (items shown : List X) (i : ℕ) (d : X) (old mid new : Shelves) (ends now : List Y) (one : Y) → shown ≡ items → i < length shown → now ≡ ends ++ one ∷ [] →
    GivesDesks old mid (map f (take i items)) (map h ends) → GivesDesk mid new (f (get_or shown i d)) (h one) → GivesDesks old new (map f (take (i + 1) items)) (map h now)
given-next {X} {Y} f h items shown i d old mid new ends now one same below is gave gives =
    subst (λ (desks : List DeskFiles). GivesDesks old new desks (map h now)) (sym (next-at f shown i d below) ∙ ap (λ (xs : List X). map f (take (i + 1) xs)) same)
    (subst (λ (told : List Ends). GivesDesks old new (map f (take i shown) ++ f (get_or shown i d) ∷ []) told) (sym (ap (map h) is ∙ map-append h ends (one ∷ [])))
    (gives-more old mid new (map f (take i shown)) (map h ends) (f (get_or shown i d)) (h one) (subst (λ (xs : List X). GivesDesks old mid (map f (take i xs)) (map h ends)) (sym same) gave) gives))

-- all desks
pub given-all : {X : Type 0} (f : X → DeskFiles) (items shown : List X) (i : ℕ) (old new : Shelves) (ends : List Ends) → shown ≡ items → length shown ≤ i → GivesDesks old new (map f (take i items)) ends → GivesDesks old new (map f items) ends
given-all {X} f items shown i old new ends same all gave =
    let reached : length items ≤ i = subst (λ (xs : List X). length xs ≤ i) same all in
    subst (λ (xs : List X). GivesDesks old new (map f xs) ends) (take_all i items reached) gave

-- names that a cabinet has room for
pub known-next : {Y : Type 0} (h : Y → Ends) (knows new : List ℕ → Type 0) (ends now : List Y) (one : Y) → now ≡ ends ++ one ∷ [] → StaysKnown knows new → AreKnown knows (map h ends) → new (h one).source.name × new (h one).sink.name → AreKnown new (map h now)
known-next {Y} h knows new ends now one is stays known more =
    subst (AreKnown new) (sym (ap (map h) is ∙ map-append h ends (one ∷ []))) (known-more new (map h ends) (h one) (known-grows knows new (map h ends) stays known) more)

-- what is told once the desks' files are open was told before
pub told-before : (old mid : Shelves) (desks : List DeskFiles) (ends : List Ends) (P : Type 0) → GivesDesks old mid desks ends → (IsTrue mid.tells → P) → IsTrue old.tells → P
told-before old mid desks ends P gave fact tells = fact (subst (λ (b : Bool). IsTrue b) (sym (given-tells old mid desks ends gave)) tells)

-- ---- at a fault

untouched : (old new : Shelves) (desks : List DeskFiles) (journal : List ℕ) → AreSame old new desks → new.under journal ≡ old.under journal → AreUntouched (trace_of old new journal) (traces_of old new desks)
untouched old new [] journal same last = last
untouched old new (desk ∷ desks) journal same last = (same.0, same.1, untouched old new desks journal same.2 last)

-- memory was wanting before any file was opened
pub none-opened : (shelves : Shelves) (desks : List DeskFiles) (journal : List ℕ) (before : Paper) → EndsUnserved (traces_of shelves shelves desks) (trace_of shelves shelves journal) before before Memory
none-opened shelves [] journal before = inl (inr (refl, refl, refl))
none-opened shelves (desk ∷ desks) journal before = inl (inl (inr (refl, refl, refl), refl), untouched shelves shelves desks journal (all desks) refl)
  where
    all : (more : List DeskFiles) → AreSame shelves shelves more
    all [] = tt
    all (one ∷ more) = (refl, refl, all more)

none-at : (name : List ℕ) (done rest : List DeskFiles) (desk : DeskFiles) → IsNoneOf name (desk_names (done ++ desk ∷ rest)) → (name ≢ desk.input) × (name ≢ desk.output) × IsNoneOf name (desk_names done)
none-at name [] rest desk none = (none.0, none.1.0, tt)
none-at name (first ∷ done) rest desk none = let later = none-at name done rest desk none.1.1 in (later.0, later.1, (none.0, (none.1.0, later.2)))

apart-at : (done rest : List DeskFiles) (desk : DeskFiles) → AreApart (desk_names (done ++ desk ∷ rest)) → IsNoneOf desk.input (desk_names rest) × IsNoneOf desk.output (desk_names rest)
apart-at [] rest desk apart = (apart.0.1, apart.1.0)
apart-at (first ∷ done) rest desk apart = apart-at done rest desk apart.1.1

outs : (a b c d n : ℕ) → b ≡ a + (n + n) → c ≡ b → d ≡ c - (n + n) → d ≡ a
outs a b c d n first then last = omega arith

desk-failed : (old mid kid new : Shelves) (done rest : List DeskFiles) (desk : DeskFiles) (given : List Ends) (journal : List ℕ) (before after : Paper) (status : Status) → AreApart (desk_names (done ++ desk ∷ rest)) →
    IsNoneOf journal (desk_names (done ++ desk ∷ rest)) → GivesDesks old mid done given → FailsDesk mid kid before after desk status → AreBack kid new given →
    EndsUnserved (traces_of old new (done ++ desk ∷ rest)) (trace_of old new journal) before after status × OnlyFiles old new (journal ∷ desk_names (done ++ desk ∷ rest))
desk-failed old mid kid new done rest desk given journal before after status apart none gave fails came =
    let own = none-at journal done rest desk none in
    let later = apart-at done rest desk apart in (
      stopped old mid kid new done (desk ∷ rest) given journal before after status apart none gave
          (inl (fails.refused, untouched mid kid rest journal (same-but mid kid desk.input desk.output rest fails.others later.0 later.1) (fails.others journal own.0 own.1)))
          (λ name behind other. fails.others name behind.0 behind.1.0) fails.tells came,
      record {
        others = λ name other. let of_all = none-at name done rest desk other.1 in
            back-others kid new done given name (given-named old mid done given gave) came of_all.2 ∙ fails.others name of_all.0 of_all.1 ∙ given-others old mid done given name gave of_all.2;
        tells = back-tells kid new given came ∙ fails.tells ∙ given-tells old mid done given gave;
        out = outs old.out mid.out kid.out new.out (length done) (given-out old mid done given gave) fails.out (back-out kid new done given (given-named old mid done given gave) came);
      },
    )

-- the files of one desk couldn't be had
pub desk-fails : {X : Type 0} (f : X → DeskFiles) (items shown : List X) (i : ℕ) (d : X) (old mid kid new : Shelves) (given : List Ends) (journal : List ℕ) (before start after : Paper) (status : Status) → shown ≡ items → i < length shown →
    AreApart (desk_names (map f items)) → IsNoneOf journal (desk_names (map f items)) → GivesDesks old mid (map f (take i items)) given → FailsDesk mid kid start after (f (get_or shown i d)) status → start ≡ before → AreBack kid new given →
    EndsUnserved (traces_of old new (map f items)) (trace_of old new journal) before after status × OnlyFiles old new (journal ∷ desk_names (map f items))
desk-fails {X} f items shown i d old mid kid new given journal before start after status same below apart none gave fails quiet came =
    let is : map f items ≡ map f (take i shown) ++ f (get_or shown i d) ∷ map f (drop (i + 1) shown) = ap (map f) (sym same) ∙ split-at f shown i d below in
    subst (λ (desks : List DeskFiles). EndsUnserved (traces_of old new desks) (trace_of old new journal) before after status × OnlyFiles old new (journal ∷ desk_names desks)) (sym is)
    (desk-failed old mid kid new (map f (take i shown)) (map f (drop (i + 1) shown)) (f (get_or shown i d)) given journal before after status
    (subst (λ (desks : List DeskFiles). AreApart (desk_names desks)) is apart) (subst (λ (desks : List DeskFiles). IsNoneOf journal (desk_names desks)) is none)
    (subst (λ (xs : List X). GivesDesks old mid (map f (take i xs)) given) (sym same) gave) (subst (λ (p : Paper). FailsDesk mid kid p after (f (get_or shown i d)) status) quiet fails) came)

-- the journal couldn't be created
pub journal-fails : (old mid kid new : Shelves) (desks : List DeskFiles) (given : List Ends) (journal : List ℕ) (before start after : Paper) (status : Status) → AreApart (desk_names desks) → IsNoneOf journal (desk_names desks) →
    GivesDesks old mid desks given → FailsJournal mid kid start after journal status → start ≡ before → AreBack kid new given →
    EndsUnserved (traces_of old new desks) (trace_of old new journal) before after status × OnlyFiles old new (journal ∷ desk_names desks)
journal-fails old mid kid new desks given journal before start after status apart none gave fails quiet came = (
  subst (λ (all : List DeskFiles). EndsUnserved (traces_of old new all) (trace_of old new journal) before after status) (append-nil desks)
      (stopped old mid kid new desks [] given journal before after status
      (subst (λ (all : List DeskFiles). AreApart (desk_names all)) (sym (append-nil desks)) apart) (subst (λ (all : List DeskFiles). IsNoneOf journal (desk_names all)) (sym (append-nil desks)) none)
      gave (inl (subst (λ (p : Paper). IsRefused IsUncreated (trace_of mid kid journal) p after status) quiet fails.refused)) (λ name behind other. fails.others name other) fails.tells came),
  record {
    others = λ name other. back-others kid new desks given name (given-named old mid desks given gave) came other.1 ∙ fails.others name other.0 ∙ given-others old mid desks given name gave other.1;
    tells = back-tells kid new given came ∙ fails.tells ∙ given-tells old mid desks given gave;
    out = outs old.out mid.out kid.out new.out (length desks) (given-out old mid desks given gave) fails.out (back-out kid new desks given (given-named old mid desks given gave) came);
  },
)
