-- The last desk of some was taken.
use Rattle.std.proofs.Common.{◌≡◌, ◌∙◌, ℕ, List, [], ◌∷◌, ◌++◌, map, refl, sym, ap, subst, append_assoc}
use Rattle.std.proofs.lemmas.List.{append-nil, map-append}
use Rattle.qna_edges.specs.Names.{StaysKnown}
use Rattle.qna_edges.specs.Shelves.{BackIn, BackOut, Same, Shelves}
use Rattle.compile_workers.specs.DeskEnd.{Ends}
use Rattle.qna_live.specs.Opened.{AreBack, AreKnown}
use Rattle.qna_live.proofs.Given.{known-front, known-grows, known-last}

pub mapped-last : {X Y : Type 0} (f : X → Y) (items left : List X) (last : X) → items ≡ left ++ last ∷ [] → map f items ≡ map f left ++ f last ∷ []
mapped-last f items left last is = ap (map f) is ∙ map-append f left (last ∷ [])

-- its names are known
pub popped-known : {X : Type 0} (f : X → Ends) (knows : List ℕ → Type 0) (items left : List X) (last : X) → items ≡ left ++ last ∷ [] → AreKnown knows (map f items) → knows (f last).source.name × knows (f last).sink.name
popped-known f knows items left last is known = known-last knows (map f left) (f last) (subst (AreKnown knows) (mapped-last f items left last is) known)

-- and it came back in front of those that came before
pub popped-back : {X : Type 0} (f : X → Ends) (first knows now : List ℕ → Type 0) (old mid between new : Shelves) (items left : List X) (last : X) (all : List Ends) →
    items ≡ left ++ last ∷ [] → StaysKnown knows now → BackIn mid between (f last).source → BackOut between new (f last).sink →
    AreKnown knows (map f items) × StaysKnown first knows × ((done : List Ends) × (all ≡ map f items ++ done) × AreBack old mid done) →
    AreKnown now (map f left) × StaysKnown first now × ((done : List Ends) × (all ≡ map f left ++ done) × AreBack old new done)
popped-back {X} f first knows now old mid between new items left last all is grows in_came out_came so_far = (
  known-grows knows now (map f left) grows (known-front knows (map f left) (f last) (subst (AreKnown knows) (mapped-last f items left last is) so_far.0)),
  (λ n known. grows n (so_far.1 n known)),
  (
    f last ∷ so_far.2.0,
    so_far.2.1 ∙ ap (λ (xs : List Ends). xs ++ so_far.2.0) (mapped-last f items left last is) ∙ append_assoc (map f left) (f last ∷ []) so_far.2.0,
    (mid, between, so_far.2.2, in_came, out_came),
  ),
)

-- none came back yet
pub none-back : {X : Type 0} (f : X → Ends) (knows : List ℕ → Type 0) (old : Shelves) (items : List X) → AreKnown knows (map f items) →
    AreKnown knows (map f items) × StaysKnown knows knows × ((done : List Ends) × (map f items ≡ map f items ++ done) × AreBack old old done)
none-back f knows old items known = (known, (λ n is. is), ([], sym (append-nil (map f items)), record { same = record { all = λ n. refl; tells = refl }; out = refl }))

-- all came back
pub all-back : {X : Type 0} (f : X → Ends) (old new : Shelves) (items : List X) (all : List Ends) → items ≡ [] → ((done : List Ends) × (all ≡ map f items ++ done) × AreBack old new done) → AreBack old new all
all-back {X} f old new items all none back = subst (AreBack old new) (sym (back.1 ∙ ap (λ (xs : List X). map f xs ++ back.0) none)) back.2
