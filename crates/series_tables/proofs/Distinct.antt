-- Names that are names and differ: one more of them, and where each is found.
use Rattle.std.proofs.Common.{◌≡◌, ◌≢◌, ℕ, ◌<◌, ◌≤◌, ◌⊎◌, inl, inr, zero, suc, true, false, List, [], ◌∷◌, ◌++◌, length, take, get_or, position, Some, refl, sym, ap, subst, ◌∙◌, arith, All, IsTrue, length-append}
use Rattle.std.specs.List.{list_any, position_or_len}
use Rattle.std.specs.Prelude.{nat_lt, slice_get}
use Rattle.std.specs.Str.{bytes_eq}
use Rattle.std.proofs.lemmas.List.{get_or_default, get_or_append_left, get_or-take, length-take}
use Rattle.std.proofs.lemmas.List.Elements.{All-append}
use Rattle.std.proofs.lemmas.List.Folds.{list_any_at, list_any_none}
use Rattle.std.proofs.lemmas.List.Sums.{position_or_len_is}
use Rattle.std.proofs.lemmas.Option.{slice_get_within, get_or_from_slice_get}
use Rattle.std.proofs.lemmas.Slice.Eq.{bytes_eq-Decides}
use Rattle.std.proofs.lemmas.Bool.{cases_lt, cases_Bool, lt-ltb}
use Rattle.std.proofs.Math.Seq.{get_or-append_seam}
use Rattle.line_form.specs.Name.{is_name}
use Rattle.series_tables.specs.Items.{AreNames}

-- no names
pub no_names : AreNames []
no_names = record {
  each = λ k d inside. absurd (omega arith);
  apart = λ i j d before inside. absurd (omega arith);
}

-- lists that differ are told apart
unequal : (a b : List ℕ) → a ≢ b → bytes_eq a b ≡ false
unequal a b differ = elim (cases_Bool (bytes_eq a b)) [
  | inl same ↦ absurd (differ ((bytes_eq-Decides a b).0 same))
  | inr apart ↦ apart
]

-- none of some names is a name that isn't among them
absent_at : (names : List (List ℕ)) (name : List ℕ) (i : ℕ) (d : List ℕ) → list_any (bytes_eq name) names ≡ false → i < length names → get_or names i d ≢ name
absent_at names name i d none inside same =
    let here : bytes_eq name (get_or names i d) ≡ true = (bytes_eq-Decides name (get_or names i d)).1 (sym same) in
    let some : list_any (bytes_eq name) names ≡ true = list_any_at (bytes_eq name) names i d inside here in
    let never : true ≡ false = sym some ∙ none in
    cc

-- one more, which is a name and not among them
pub names_more : (names : List (List ℕ)) (name : List ℕ) → AreNames names → IsTrue (is_name name) → list_any (bytes_eq name) names ≡ false → AreNames (names ++ name ∷ [])
names_more names name kept named unused = record {
  each = All-append (λ n. IsTrue (is_name n)) names (name ∷ []) kept.each one;
  apart = λ i j d before inside. by_place i j d before inside (cases_lt j (length names));
}
  where
    one : All (λ n. IsTrue (is_name n)) (name ∷ [])
    one zero d inside = named
    one (suc k) d inside = absurd (omega arith)

    by_place : (i j : ℕ) (d : List ℕ) → i < j → j < length (names ++ name ∷ []) → (j < length names) ⊎ (length names ≤ j) → get_or (names ++ name ∷ []) i d ≢ get_or (names ++ name ∷ []) j d
    by_place i j d before inside (inl early) = λ same.
        kept.apart i j d before early (sym (get_or_append_left names (name ∷ []) d i (omega arith)) ∙ same ∙ get_or_append_left names (name ∷ []) d j early)
    by_place i j d before inside (inr late) = λ same.
        let last : j ≡ length names = omega (arith, length-append names (name ∷ [])) in
        let here : get_or (names ++ name ∷ []) j d ≡ name = ap (λ (k : ℕ). get_or (names ++ name ∷ []) k d) last ∙ get_or-append_seam names name [] d in
        absent_at names name i d unused (omega arith) (sym (get_or_append_left names (name ∷ []) d i (omega arith)) ∙ same ∙ here)

-- each is a name
pub name_at : (names : List (List ℕ)) (node : ℕ) (name : List ℕ) → AreNames names → slice_get names node ≡ Some name → IsTrue (is_name name)
name_at names node name kept item =
    subst (λ n. IsTrue (is_name n)) (get_or_from_slice_get names node name [] item) (kept.each node [] (slice_get_within names node name item))

-- each is found at its place
pub name_found : (names : List (List ℕ)) (node : ℕ) (name : List ℕ) → AreNames names → slice_get names node ≡ Some name → position (bytes_eq name) names ≡ Some node
name_found names node name kept item =
    let inside : node < length names = slice_get_within names node name item in
    let here : get_or names node [] ≡ name = get_or_from_slice_get names node name [] item in
    let at : position_or_len (bytes_eq name) names ≡ node =
    position_or_len_is (bytes_eq name) names node [] (omega arith) (λ k before. unequal name (get_or names k []) (λ same. kept.apart k node [] before inside (sym same ∙ sym here)))
    (λ within. (bytes_eq-Decides name (get_or names node [])).1 (sym here)) in
    let below : nat_lt node (length names) ≡ true = lt-ltb node (length names) inside in
    rw (at, below) refl

-- none before it has its name
pub unused_before : (names : List (List ℕ)) (count : ℕ) → AreNames names → count < length names → list_any (bytes_eq (get_or names count [])) (take count names) ≡ false
unused_before names count kept inside =
    list_any_none (bytes_eq (get_or names count [])) (take count names) (λ k d within.
    let before : k < count = omega (arith, length-take count names) in
    let read : get_or (take count names) k d ≡ get_or names k d = get_or-take count names k d before in
    let there : get_or names count [] ≡ get_or names count d = get_or_default names count [] d inside in
    unequal (get_or names count []) (get_or (take count names) k d) (λ same. kept.apart k count d before inside (sym read ∙ sym same ∙ there)))
