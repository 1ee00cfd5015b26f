-- Names kept in a set, seen as lists of bytes.
use Rattle.std.proofs.Common.{◌≡◌, ℕ, Bool, false, ◌||◌, cond, not, ◌+◌, position, List, [], ◌∷◌, ◌++◌, map, refl, sym, ap, ◌∙◌}
use Rattle.std.specs.List.{list_any, prefix_len, AllZip, each_same}
use Rattle.std.specs.Str.{bytes_eq}
use Rattle.std.proofs.lemmas.List.{length-map, map-append}

-- whether an element passes a test, after a function of each
pub list_any_map : {X Y : Type 0} (test : Y → Bool) (f : X → Y) (xs : List X) → list_any test (map f xs) ≡ list_any (λ x. test (f x)) xs
list_any_map test f [] = refl
list_any_map test f (x ∷ xs) = ap (λ rest. test (f x) || rest) (list_any_map test f xs)

pub ruleset names_of_keys = (list_any_map, length-map, map-append)

-- the keys once one that no key equals was inserted
pub keys_with_new_key : {X : Type 0} (name_of : X → List ℕ) (kept keys : List X) (key : X) (name : List ℕ) → name_of key ≡ name →
    keys ≡ cond (list_any (λ other. bytes_eq (name_of key) (name_of other)) kept) kept (kept ++ key ∷ []) →
    list_any (bytes_eq name) (map name_of kept) ≡ false → keys ≡ kept ++ key ∷ []
keys_with_new_key name_of kept keys key name named inserted absent =
    let own : list_any (λ other. bytes_eq (name_of key) (name_of other)) kept ≡ false = rw named (sym (list_any_map (bytes_eq name) name_of kept) ∙ absent) in
    rw (inserted, own) refl

-- the names of these
pub names_with_new_key : {X : Type 0} (name_of : X → List ℕ) (kept keys : List X) (key : X) (name : List ℕ) → name_of key ≡ name → keys ≡ kept ++ key ∷ [] →
    map name_of keys ≡ map name_of kept ++ name ∷ []
names_with_new_key name_of kept keys key name named added = rw (added, map-append, named) refl

-- the names of keys that are copies
pub names_of_copies : {X : Type 0} (name_of : X → List ℕ) (length_of : X → ℕ) (keys copies : List X) →
    AllZip (λ key copy. AllZip (λ x y. y ≡ x) (name_of key) (name_of copy) × (length_of copy ≡ length_of key)) keys copies → map name_of copies ≡ map name_of keys
names_of_copies name_of length_of [] [] h = refl
names_of_copies name_of length_of [] (copy ∷ copies) h = absurd h
names_of_copies name_of length_of (key ∷ keys) [] h = absurd h
names_of_copies name_of length_of (key ∷ keys) (copy ∷ copies) h =
    let same : name_of copy ≡ name_of key = each_same (name_of key) (name_of copy) h.0.0 in
    rw (same, names_of_copies name_of length_of keys copies h.1) refl

-- how many pass a test from the front on, after a function of each
pub prefix_len_map : {X Y : Type 0} (test : Y → Bool) (f : X → Y) (xs : List X) → prefix_len test (map f xs) ≡ prefix_len (λ x. test (f x)) xs
prefix_len_map test f [] = refl
prefix_len_map test f (x ∷ xs) = ap (λ rest. cond (test (f x)) (1 + rest) 0) (prefix_len_map test f xs)

-- the first place that passes a test, after a function of each
pub position_map : {X Y : Type 0} (test : Y → Bool) (f : X → Y) (xs : List X) → position test (map f xs) ≡ position (λ x. test (f x)) xs
position_map test f xs = rw (prefix_len_map (λ y. not (test y)) f xs, length-map xs f) refl
