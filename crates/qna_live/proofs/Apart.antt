-- Names that differ.
use Rattle.std.proofs.Common.{◌≡◌, ◌∙◌, ℕ, Bool, true, false, List, [], ◌∷◌, ◌++◌, refl, sym}
use Rattle.std.specs.Prelude.{◌≢◌, not, ◌&&◌, ◌||◌}
use Rattle.std.specs.List.{list_any}
use Rattle.std.specs.Str.{bytes_eq}
use Rattle.std.proofs.lemmas.Slice.Eq.{bytes_eq-Decides}
use Rattle.command_words.specs.Command.{is_file_name}
use Rattle.command_words.specs.LiveWords.{DeskFiles, are_different_names}
use Rattle.command_words.specs.Views.{desk_names}
use Rattle.qna_live.specs.Opening.{IsNoneOf}

-- no name stands twice
abbrev pub AreApart : List (List ℕ) → Type 0
AreApart [] = Unit {0}
AreApart (name ∷ names) = IsNoneOf name names × AreApart names

-- both of two tests
pub both-true : (a b : Bool) → (a && b) ≡ true → (a ≡ true) × (b ≡ true)
both-true true true is = (refl, refl)
both-true true false is = absurd (let no = is in cc)
both-true false true is = absurd (let no = is in cc)
both-true false false is = absurd (let no = is in cc)

neither : (a b : Bool) → (a || b) ≡ false → (a ≡ false) × (b ≡ false)
neither false false is = (refl, refl)
neither true true is = absurd (let no = is in cc)
neither true false is = absurd (let no = is in cc)
neither false true is = absurd (let no = is in cc)

not-true : (a : Bool) → not a ≡ true → a ≡ false
not-true false is = refl
not-true true is = absurd (let no = is in cc)

none-of : (name : List ℕ) (names : List (List ℕ)) → list_any (bytes_eq name) names ≡ false → IsNoneOf name names
none-of name [] is = tt
none-of name (other ∷ others) is =
    let parts = neither (bytes_eq name other) (list_any (bytes_eq name) others) is in
    ((λ same. let yes : bytes_eq name other ≡ true = (bytes_eq-Decides name other).1 same in let no : bytes_eq name other ≡ false = parts.0 in absurd (cc)), none-of name others parts.1)

-- names that the words may have differ
pub apart-of : (names : List (List ℕ)) → are_different_names names ≡ true → AreApart names
apart-of [] is = tt
apart-of (name ∷ names) is =
    let parts = both-true (is_file_name name && not (list_any (bytes_eq name) names)) (are_different_names names) is in
    let first = both-true (is_file_name name) (not (list_any (bytes_eq name) names)) parts.0 in
    (none-of name names (not-true (list_any (bytes_eq name) names) first.1), apart-of names parts.1)

-- a name that is none of some and none of more is none of all
pub none-front : (name : List ℕ) (desks more : List DeskFiles) → IsNoneOf name (desk_names (desks ++ more)) → IsNoneOf name (desk_names desks)
none-front name [] more none = tt
none-front name (desk ∷ desks) more none = (none.0, (none.1.0, none-front name desks more none.1.1))

pub none-back : (name : List ℕ) (desks more : List DeskFiles) → IsNoneOf name (desk_names (desks ++ more)) → IsNoneOf name (desk_names more)
none-back name [] more none = none
none-back name (desk ∷ desks) more none = none-back name desks more none.1.1

pub apart-front : (desks more : List DeskFiles) → AreApart (desk_names (desks ++ more)) → AreApart (desk_names desks)
apart-front [] more apart = tt
apart-front (desk ∷ desks) more apart =
    ((apart.0.0, none-front desk.input desks more apart.0.1), (none-front desk.output desks more apart.1.0, apart-front desks more apart.1.1))
