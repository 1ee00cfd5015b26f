-- Desks' files that were opened, and that came back.
use Rattle.std.proofs.Common.{◌≡◌, ◌∙◌, ℕ, ◌+◌, ◌-◌, ◌≤◌, Bool, List, [], ◌∷◌, ◌++◌, length, refl, sym, ap, subst, arith}
use Rattle.std.specs.Prelude.{◌≢◌, IsTrue, IfSome, IsSome, Some}
use Rattle.qna_edges.specs.Count.{capped}
use Rattle.qna_edges.specs.Names.{StaysKnown}
use Rattle.qna_edges.specs.Paper.{Paper}
use Rattle.qna_edges.specs.Shelves.{BackIn, BackOut, GivesSink, GivesSource, Same, Shelf, Shelves}
use Rattle.compile_workers.specs.DeskEnd.{Ends}
use Rattle.command_words.specs.LiveWords.{DeskFiles}
use Rattle.command_words.specs.Views.{desk_names}
use Rattle.qna_live.specs.Opening.{IsNoneOf}
use Rattle.qna_live.specs.Opened.{AreBack, AreKnown, GivesDesk, GivesDesks, IsOpenedDesk}

-- ---- one desk more

-- one desk more was opened
pub gives-more : (old mid new : Shelves) (desks : List DeskFiles) (ends : List Ends) (desk : DeskFiles) (told : Ends) → GivesDesks old mid desks ends → GivesDesk mid new desk told → GivesDesks old new (desks ++ desk ∷ []) (ends ++ told ∷ [])
gives-more old mid new [] [] desk told same gives = (
  new,
  record {
    opened = record {
      source = gives.opened.source;
      sink = gives.opened.sink;
      left = λ tells. let of_mid = gives.opened.left (subst (λ (b : Bool). IsTrue b) (sym same.same.tells) tells) in (of_mid.0 ∙ ap (λ (s : Shelf). s.file) (same.same.all desk.input), of_mid.1);
      held = λ tells. gives.opened.held (subst (λ (b : Bool). IsTrue b) (sym same.same.tells) tells);
    };
    between = gives.between;
    source = record {
      only = record {
        here = subst (λ (s : Shelf). gives.between.under desk.input ≡ record s { sources = s.sources + 1 }) (same.same.all desk.input) gives.source.only.here;
        others = λ n no. gives.source.only.others n no ∙ same.same.all n;
        tells = gives.source.only.tells ∙ same.same.tells;
      };
      out = subst (λ (n : ℕ). gives.between.out ≡ n + 1) same.out gives.source.out;
    };
    sink = gives.sink;
  },
  record { same = record { all = λ n. refl; tells = refl }; out = refl },
)
gives-more old mid new [] (one ∷ more) desk told gave gives = absurd gave
gives-more old mid new (first ∷ desks) [] desk told gave gives = absurd gave
gives-more old mid new (first ∷ desks) (one ∷ more) desk told gave gives = (gave.0, gave.1, gives-more gave.0 mid new desks more desk told gave.2 gives)

-- ---- files that none of them has

pub given-other : (old new : Shelves) (desk : DeskFiles) (told : Ends) (name : List ℕ) → GivesDesk old new desk told → name ≢ desk.input → name ≢ desk.output → new.under name ≡ old.under name
given-other old new desk told name gives one two = gives.sink.only.others name two ∙ gives.source.only.others name one

pub given-others : (old new : Shelves) (desks : List DeskFiles) (ends : List Ends) (name : List ℕ) → GivesDesks old new desks ends → IsNoneOf name (desk_names desks) → new.under name ≡ old.under name
given-others old new [] [] name same none = same.same.all name
given-others old new [] (one ∷ more) name gave none = absurd gave
given-others old new (desk ∷ desks) [] name gave none = absurd gave
given-others old new (desk ∷ desks) (one ∷ more) name gave none =
    given-others gave.0 new desks more name gave.2 none.1.1 ∙ given-other old gave.0 desk one name gave.1 none.0 none.1.0

pub given-tells : (old new : Shelves) (desks : List DeskFiles) (ends : List Ends) → GivesDesks old new desks ends → new.tells ≡ old.tells
given-tells old new [] [] same = same.same.tells
given-tells old new [] (one ∷ more) gave = absurd gave
given-tells old new (desk ∷ desks) [] gave = absurd gave
given-tells old new (desk ∷ desks) (one ∷ more) gave = given-tells gave.0 new desks more gave.2 ∙ gave.1.sink.only.tells ∙ gave.1.source.only.tells

pub given-out : (old new : Shelves) (desks : List DeskFiles) (ends : List Ends) → GivesDesks old new desks ends → new.out ≡ old.out + (length desks + length desks)
given-out old new [] [] same = omega (arith, same.out)
given-out old new [] (one ∷ more) gave = absurd gave
given-out old new (desk ∷ desks) [] gave = absurd gave
given-out old new (desk ∷ desks) (one ∷ more) gave =
    let later = given-out gave.0 new desks more gave.2 in
    let first : gave.1.between.out ≡ old.out + 1 = gave.1.source.out in
    let second : gave.0.out ≡ gave.1.between.out + 1 = gave.1.sink.out in
    omega arith

-- ---- files that came back

-- these ends are of these desks
abbrev pub AreNamed : List DeskFiles → List Ends → Type 0
AreNamed [] [] = Unit {0}
AreNamed (desk ∷ desks) (ends ∷ more) = (ends.source.name ≡ desk.input) × (ends.sink.name ≡ desk.output) × AreNamed desks more
AreNamed [] (ends ∷ more) = ⊥
AreNamed (desk ∷ desks) [] = ⊥

pub given-named : (old new : Shelves) (desks : List DeskFiles) (ends : List Ends) → GivesDesks old new desks ends → AreNamed desks ends
given-named old new [] [] same = tt
given-named old new [] (one ∷ more) gave = absurd gave
given-named old new (desk ∷ desks) [] gave = absurd gave
given-named old new (desk ∷ desks) (one ∷ more) gave = (gave.1.opened.source.0, gave.1.opened.sink.0, given-named gave.0 new desks more gave.2)

pub back-others : (old new : Shelves) (desks : List DeskFiles) (ends : List Ends) (name : List ℕ) → AreNamed desks ends → AreBack old new ends → IsNoneOf name (desk_names desks) → new.under name ≡ old.under name
back-others old new [] [] name named same none = same.same.all name
back-others old new [] (one ∷ more) name named back none = absurd named
back-others old new (desk ∷ desks) [] name named back none = absurd named
back-others old new (desk ∷ desks) (one ∷ more) name named back none =
    back.4.only.others name (λ same. none.1.0 (same ∙ named.1)) ∙ back.3.only.others name (λ same. none.0 (same ∙ named.0)) ∙ back-others old back.0 desks more name named.2 back.2 none.1.1

pub back-tells : (old new : Shelves) (ends : List Ends) → AreBack old new ends → new.tells ≡ old.tells
back-tells old new [] same = same.same.tells
back-tells old new (one ∷ more) back = back.4.only.tells ∙ back.3.only.tells ∙ back-tells old back.0 more back.2

pub back-out : (old new : Shelves) (desks : List DeskFiles) (ends : List Ends) → AreNamed desks ends → AreBack old new ends → new.out ≡ old.out - (length desks + length desks)
back-out old new [] [] named same = omega (arith, same.out)
back-out old new [] (one ∷ more) named back = absurd named
back-out old new (desk ∷ desks) [] named back = absurd named
back-out old new (desk ∷ desks) (one ∷ more) named back =
    let later = back-out old back.0 desks more named.2 back.2 in
    let first : back.1.out ≡ back.0.out - 1 = back.3.out in
    let second : new.out ≡ back.1.out - 1 = back.4.out in
    omega arith

-- ---- names that a cabinet has room for

pub known-grows : (old new : List ℕ → Type 0) (ends : List Ends) → StaysKnown old new → AreKnown old ends → AreKnown new ends
known-grows old new [] stays known = tt
known-grows old new (one ∷ more) stays known = (stays one.source.name known.0, stays one.sink.name known.1, known-grows old new more stays known.2)

pub known-more : (knows : List ℕ → Type 0) (ends : List Ends) (one : Ends) → AreKnown knows ends → knows one.source.name × knows one.sink.name → AreKnown knows (ends ++ one ∷ [])
known-more knows [] one known more = (more.0, more.1, tt)
known-more knows (first ∷ ends) one known more = (known.0, known.1, known-more knows ends one known.2 more)

pub known-front : (knows : List ℕ → Type 0) (ends : List Ends) (one : Ends) → AreKnown knows (ends ++ one ∷ []) → AreKnown knows ends
known-front knows [] one known = tt
known-front knows (first ∷ ends) one known = (known.0, known.1, known-front knows ends one known.2)

pub known-last : (knows : List ℕ → Type 0) (ends : List Ends) (one : Ends) → AreKnown knows (ends ++ one ∷ []) → knows one.source.name × knows one.sink.name
known-last knows [] one known = (known.0, known.1)
known-last knows (first ∷ ends) one known = known-last knows ends one known.2
