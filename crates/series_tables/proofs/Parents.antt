-- Parents, each before its children.
use Rattle.std.proofs.Common.{◌≡◌, ℕ, ◌+◌, ◌<◌, ◌≤◌, ◌⊎◌, inl, inr, zero, suc, Bool, true, false, ◌||◌, not, List, [], ◌∷◌, ◌++◌, length, set, take, drop, get_or, Option, Some, None, IfSome, refl, sym, ap, subst, ◌∙◌, arith, length-append}
use Rattle.std.specs.Option.{ForSome}
use Rattle.std.specs.List.{list_any}
use Rattle.std.specs.Prelude.{◌==◌}
use Rattle.std.proofs.lemmas.List.{get_or_default, get_or_append_left, get_or-set_same, get_or-set_other, length-set, take-append-drop}
use Rattle.std.proofs.lemmas.List.FromFn.{fill_by_all, get_or-map-range_with_len, length-map-range_with_len}
use Rattle.std.proofs.lemmas.List.Folds.{list_any-append}
use Rattle.std.proofs.Math.Seq.{get_or-append_seam, take-suc}
use Rattle.std.proofs.lemmas.Bool.{cases_lt, cases_eq}
use Rattle.series_tables.specs.Items.{ItemList, AreBackward, leaf_flags, leaf_flags_behind, marked}
use Rattle.series_tables.specs.Plan.{is_parent}

-- what holds of whatever an option has holds of what it has
if_some : {X : Type 0} (P : X → Type 0) (o : Option X) → ForSome o P → IfSome o P
if_some P None h = tt
if_some P (Some x) h = h x refl

-- the parent of an item has a smaller number, however it is read from the list
pub smaller_parent : (parents : List (Option ℕ)) (node : ℕ) (parent : Option ℕ) → AreBackward parents → node < length parents → parent ≡ get_or parents node parent
    → IfSome parent (λ p. p < node)
smaller_parent parents node parent back within read =
    let here : get_or parents node None ≡ parent = sym (read ∙ get_or_default parents node parent None within) in
    if_some (λ p. p < node) parent (subst (λ (o : Option ℕ). ForSome o (λ p. p < node)) here (back node within))

-- an item more, whose parent is one of those before it
pub backward_more : (parents : List (Option ℕ)) (parent : Option ℕ) → AreBackward parents → ForSome parent (λ p. p < length parents) → AreBackward (parents ++ parent ∷ [])
backward_more parents parent back smaller node within p read = by_place (cases_lt node (length parents))
  where
    by_place : (node < length parents) ⊎ (length parents ≤ node) → p < node
    by_place (inl before) = back node before p (sym (get_or_append_left parents (parent ∷ []) None node before) ∙ read)
    by_place (inr last) =
        let at : node ≡ length parents = omega (arith, length-append parents (parent ∷ [])) in
        let here : parent ≡ Some p = sym (get_or-append_seam parents parent [] None) ∙ ap (λ (k : ℕ). get_or (parents ++ parent ∷ []) k None) (sym at) ∙ read in
        let low : p < length parents = smaller p here in
        omega arith

-- items from equal names and equal parents
pub same_items : (names others : List (List ℕ)) (parents more : List (Option ℕ)) → names ≡ others → parents ≡ more
    → (let items : ItemList = record { names = names; parents = parents } in items) ≡ record { names = others; parents = more }
same_items names others parents more e f = rw (e, f) refl

-- the invariant of items with one more
pub kept_more : {X : Type 0} (kept keys : List X) (key : X) (parents now : List (Option ℕ)) (parent : Option ℕ) (n : ℕ) → keys ≡ kept ++ key ∷ [] → now ≡ parents ++ parent ∷ []
    → length parents ≡ length kept → AreBackward parents → n ≡ length kept → n < 512 → ForSome parent (λ p. p < n)
    → (length keys ≤ 512) × (length now ≡ length keys) × AreBackward now
kept_more kept keys key parents now parent n keyed added long back number few smaller =
    let more : length keys ≡ length kept + 1 = ap length keyed ∙ length-append kept (key ∷ []) in
    let same : length now ≡ length parents + 1 = ap length added ∙ length-append parents (parent ∷ []) in
    let small : ForSome parent (λ p. p < length parents) = subst (λ (m : ℕ). ForSome parent (λ p. p < m)) (number ∙ sym long) smaller in
    (omega arith, omega arith, subst AreBackward (sym added) (backward_more parents parent back small))

-- items of whom none before a place has this one as its parent: the first item has none, and each parent comes before its children
none_before : (parents : List (Option ℕ)) (node count : ℕ) → AreBackward parents → count ≤ node + 1 → count ≤ length parents → list_any (is_parent node) (take count parents) ≡ false
none_before parents node zero back few within = refl
none_before parents node (suc count) back few within =
    rw (
      take-suc parents count None (omega arith),
      list_any-append (is_parent node) (take count parents) (get_or parents count None ∷ []),
      none_before parents node count back (omega arith) (omega arith),
    )
    (by_parent (get_or parents count None) (back count (omega arith)))
  where
    by_parent : (parent : Option ℕ) → ForSome parent (λ p. p < count) → (list_any (is_parent node) (parent ∷ [])) ≡ false
    by_parent None smaller = refl
    by_parent (Some p) smaller = let low : p < count = smaller p refl in grind arith

-- so those with this parent are behind it
pub parents_behind : (parents : List (Option ℕ)) (node : ℕ) → AreBackward parents → node < length parents → list_any (is_parent node) parents ≡ list_any (is_parent node) (drop (suc node) parents)
parents_behind parents node back within =
    ap (list_any (is_parent node)) (sym (take-append-drop (suc node) parents)) ∙ list_any-append (is_parent node) (take (suc node) parents) (drop (suc node) parents)
    ∙ rw (none_before parents node (suc node) back (omega arith) (omega arith)) refl

-- one more parent that isn't this one changes nothing, and this one takes the flag away
kept_flag : (before test : Bool) → test ≡ false → not before ≡ not (before || (test || false))
kept_flag true test e = refl
kept_flag false test e = rw e refl

taken_flag : (before test : Bool) → test ≡ true → false ≡ not (before || (test || false))
taken_flag true test e = refl
taken_flag false test e = rw e refl

marked_flag : (parent : Option ℕ) (flags : List Bool) (k : ℕ) (before : Bool) → k < length flags → get_or flags k false ≡ not before → get_or (marked parent flags) k false ≡ not (before || list_any (is_parent k) (parent ∷ []))
marked_flag None flags k before inside is = is ∙ kept_flag before false refl
marked_flag (Some p) flags k before inside is = elim (cases_eq k p) [
  | inl same ↦ subst (λ (n : ℕ). get_or (set flags n false) k false ≡ not (before || ((n == k) || false))) same (get_or-set_same flags k false false inside ∙ taken_flag before (k == k) (grind arith))
  | inr apart ↦ get_or-set_other flags p k false false apart ∙ is ∙ kept_flag before (p == k) (grind arith)
]

-- a turn over the parents
pub flag_more : (parents : List (Option ℕ)) (node k : ℕ) (flags : List Bool) → node < length parents → k < length flags → get_or flags k false ≡ not (list_any (is_parent k) (take node parents))
    → get_or (marked (get_or parents node None) flags) k false ≡ not (list_any (is_parent k) (take (suc node) parents))
flag_more parents node k flags within inside before =
    rw (take-suc parents node None within, list_any-append (is_parent k) (take node parents) (get_or parents node None ∷ []))
    (marked_flag (get_or parents node None) flags k (list_any (is_parent k) (take node parents)) inside before)

pub length-marked : (parent : Option ℕ) (flags : List Bool) → length (marked parent flags) ≡ length flags
length-marked None flags = refl
length-marked (Some p) flags = length-set flags p false

-- flags that are right everywhere are the flags
pub flags_all : (parents : List (Option ℕ)) (flags : List Bool) → length flags ≡ length parents → ((k : ℕ) → k < length parents → get_or flags k false ≡ not (list_any (is_parent k) parents)) → flags ≡ leaf_flags parents
unfolding leaf_flags
flags_all parents flags long each = fill_by_all (λ node. not (list_any (is_parent node) parents)) flags (length parents) false long each

-- an item's flag
pub flag_at : (parents : List (Option ℕ)) (node : ℕ) (d : Bool) → node < length parents → get_or (leaf_flags parents) node d ≡ not (list_any (is_parent node) parents)
unfolding leaf_flags
flag_at parents node d within = get_or-map-range_with_len (λ n. not (list_any (is_parent n) parents)) 0 (length parents) node node d within (omega arith)

pub flag_behind_at : (parents : List (Option ℕ)) (node : ℕ) (d : Bool) → node < length parents → get_or (leaf_flags_behind parents) node d ≡ not (list_any (is_parent node) (drop (suc node) parents))
unfolding leaf_flags_behind
flag_behind_at parents node d within = get_or-map-range_with_len (λ n. not (list_any (is_parent n) (drop (suc n) parents))) 0 (length parents) node node d within (omega arith)

pub length-flags : (parents : List (Option ℕ)) → length (leaf_flags parents) ≡ length parents
unfolding leaf_flags
length-flags parents = length-map-range_with_len (λ node. not (list_any (is_parent node) parents)) 0 (length parents)

-- the flags by the items behind are the same
pub flags_behind : (parents : List (Option ℕ)) → AreBackward parents → leaf_flags parents ≡ leaf_flags_behind parents
unfolding leaf_flags_behind
flags_behind parents back =
    fill_by_all (λ node. not (list_any (is_parent node) (drop (suc node) parents))) (leaf_flags parents) (length parents) false (length-flags parents)
    (λ k within. flag_at parents k false within ∙ ap not (parents_behind parents k back within))

-- the same read from flags that are the flags
pub leaf_from_flag : (parents : List (Option ℕ)) (flags : List Bool) (node : ℕ) (flag : Bool) → flags ≡ leaf_flags parents → node < length flags → flag ≡ get_or flags node flag → flag ≡ not (list_any (is_parent node) parents)
leaf_from_flag parents flags node flag same within read =
    read ∙ ap (λ (l : List Bool). get_or l node flag) same ∙ flag_at parents node flag (omega (arith, ap length same, length-flags parents))

pub behind_from_flag : (parents : List (Option ℕ)) (flags : List Bool) (node : ℕ) (flag : Bool) → flags ≡ leaf_flags parents → flags ≡ leaf_flags_behind parents → node < length flags → flag ≡ get_or flags node flag
    → flag ≡ not (list_any (is_parent node) (drop (suc node) parents))
behind_from_flag parents flags node flag same behind within read =
    read ∙ ap (λ (l : List Bool). get_or l node flag) behind ∙ flag_behind_at parents node flag (omega (arith, ap length same, length-flags parents))
