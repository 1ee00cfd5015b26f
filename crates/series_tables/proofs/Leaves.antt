-- The leaves under items: where they stand in the tree, and that no more stand under the children of an item than there are items behind it.
use Rattle.std.proofs.Common.{◌≡◌, ℕ, ◌+◌, ◌<◌, ◌≤◌, zero, suc, Bool, true, false, ◌||◌, cond, List, [], ◌∷◌, length, map, drop, get_or, Option, Some, None, refl, ap, ◌∙◌, arith, length-append}
use Rattle.std.specs.Prelude.{nat_lt, nat_eq}
use Rattle.std.specs.List.{list_any, flat_map, AllByRecursion}
use Rattle.series_tables.specs.Plan.{PlanShape, is_parent}
use Rattle.series_tables.specs.Tree.{of_children, leaves_of, leaves_from, leaves_under}

-- an item for each parent
pub leaves_count : (item : ℕ) (parents : List (Option ℕ)) → length (leaves_from item parents) ≡ length parents
unfolding leaves_from
leaves_count item [] = refl
leaves_count item (parent ∷ parents) = ap suc (leaves_count (suc item) parents)

-- what is said of the items from one on, without the first few, is said of the items behind those
pub leaves_drop : (count item : ℕ) (parents : List (Option ℕ)) → drop count (leaves_from item parents) ≡ leaves_from (item + count) (drop count parents)
unfolding leaves_from
leaves_drop zero item parents = ap (λ (n : ℕ). leaves_from n parents) (let same : item ≡ item + 0 = omega arith in same)
leaves_drop (suc count) item [] = refl
leaves_drop (suc count) item (parent ∷ parents) =
    leaves_drop count (suc item) parents ∙ ap (λ (n : ℕ). leaves_from n (drop count parents)) (let same : suc item + count ≡ item + suc count = omega arith in same)

-- the first of what is left
first_left : {X : Type 0} (xs : List X) (count : ℕ) (d : X) → get_or xs count d ≡ get_or (drop count xs) 0 d
first_left [] zero d = refl
first_left [] (suc count) d = refl
first_left (x ∷ xs) zero d = refl
first_left (x ∷ xs) (suc count) d = first_left xs count d

-- the parents from an item on are its own and those behind it
pub parents_from_item : (parents : List (Option ℕ)) (item : ℕ) → item < length parents → drop item parents ≡ get_or parents item None ∷ drop (suc item) parents
parents_from_item [] item within = absurd (omega arith)
parents_from_item (parent ∷ parents) zero within = refl
parents_from_item (parent ∷ parents) (suc item) within = parents_from_item parents item (omega arith)

-- the leaves under an item are made of those under its children
pub leaves_under_item : (plan : PlanShape) (item : ℕ) → item < length plan.parents →
    leaves_under plan item ≡ leaves_of item (of_children item (drop (suc item) plan.parents) (leaves_from (suc item) (drop (suc item) plan.parents)))
unfolding leaves_from
leaves_under_item plan item within =
    let none : 0 + item ≡ item = omega arith in
    first_left (leaves_from 0 plan.parents) item []
    ∙ ap (λ (lists : List (List ℕ)). get_or lists 0 []) (leaves_drop item 0 plan.parents ∙ ap (λ (n : ℕ). leaves_from n (drop item plan.parents)) none ∙ ap (leaves_from item) (parents_from_item plan.parents item within))

-- no item behind has a parent that none has
pub no_children : {X : Type 0} (item : ℕ) (parents : List (Option ℕ)) (xs : List X) → list_any (is_parent item) parents ≡ false → of_children item parents xs ≡ []
no_children item [] xs none = refl
no_children item (parent ∷ parents) [] none = refl
no_children {X = X} item (parent ∷ parents) (x ∷ xs) none = by_parent (is_parent item parent) (no_children item parents xs) none
  where
    by_parent : (b : Bool) → (list_any (is_parent item) parents ≡ false → of_children item parents xs ≡ []) → (b || list_any (is_parent item) parents) ≡ false
        → cond b (x ∷ of_children item parents xs) (of_children item parents xs) ≡ []
    by_parent true rest e = absurd (let never : true ≡ false = e in cc)
    by_parent false rest e = rest e

-- an item that some item behind it has as its parent has a child
pub some_child : {X : Type 0} (item : ℕ) (parents : List (Option ℕ)) (xs : List X) → length xs ≡ length parents → list_any (is_parent item) parents ≡ true → 0 < length (of_children item parents xs)
some_child item [] xs long some = absurd (let never : false ≡ true = some in cc)
some_child item (parent ∷ parents) [] long some = absurd (omega (arith, long))
some_child {X = X} item (parent ∷ parents) (x ∷ xs) long some = by_parent (is_parent item parent) (some_child item parents xs (omega (arith, long))) some
  where
    by_parent : (b : Bool) → (list_any (is_parent item) parents ≡ true → 0 < length (of_children item parents xs)) → (b || list_any (is_parent item) parents) ≡ true
        → 0 < length (cond b (x ∷ of_children item parents xs) (of_children item parents xs))
    by_parent true rest e = omega arith
    by_parent false rest e = rest e

-- what the children have of what is made of each
pub of_children-map : {X Y : Type 0} (f : X → Y) (item : ℕ) (parents : List (Option ℕ)) (xs : List X) → of_children item parents (map f xs) ≡ map f (of_children item parents xs)
of_children-map f item [] xs = refl
of_children-map f item (parent ∷ parents) [] = refl
of_children-map {X = X} {Y = Y} f item (parent ∷ parents) (x ∷ xs) = by_parent (is_parent item parent) (of_children-map f item parents xs)
  where
    by_parent : (b : Bool) → of_children item parents (map f xs) ≡ map f (of_children item parents xs)
        → cond b (f x ∷ of_children item parents (map f xs)) (of_children item parents (map f xs)) ≡ map f (cond b (x ∷ of_children item parents xs) (of_children item parents xs))
    by_parent true rest = ap (λ (ys : List Y). f x ∷ ys) rest
    by_parent false rest = rest

-- what holds of each holds of the children's
children_each : {X : Type 0} (P : X → Type 0) (item : ℕ) (parents : List (Option ℕ)) (xs : List X) → AllByRecursion P xs → AllByRecursion P (of_children item parents xs)
children_each P item [] xs each = tt
children_each P item (parent ∷ parents) [] each = tt
children_each {X = X} P item (parent ∷ parents) (x ∷ xs) each = by_parent (is_parent item parent) (children_each P item parents xs each.1)
  where
    by_parent : (b : Bool) → AllByRecursion P (of_children item parents xs) → AllByRecursion P (cond b (x ∷ of_children item parents xs) (of_children item parents xs))
    by_parent true rest = (each.0, rest)
    by_parent false rest = rest

-- the number of leaves in lists of them
abbrev pub number_of : List (List ℕ) → ℕ
number_of lists = length (flat_map (λ leaves. leaves) lists)

-- an item has a leaf under it where its children have
some_leaf : (item : ℕ) (children : List (List ℕ)) → AllByRecursion (λ leaves. 0 < length leaves) children → 0 < length (leaves_of item children)
some_leaf item [] each = omega arith
some_leaf item (first ∷ children) each = omega (arith, each.0, length-append first (flat_map (λ leaves. leaves) children))

-- so each item has one
each_has_leaf : (item : ℕ) (parents : List (Option ℕ)) → AllByRecursion (λ leaves. 0 < length leaves) (leaves_from item parents)
unfolding leaves_from
each_has_leaf item [] = tt
each_has_leaf item (parent ∷ parents) =
    let behind = each_has_leaf (suc item) parents in
    (some_leaf item (of_children item parents (leaves_from (suc item) parents)) (children_each (λ leaves. 0 < length leaves) item parents (leaves_from (suc item) parents) behind), behind)

-- each child has a leaf under it
pub children_have_leaves : (item first : ℕ) (parents : List (Option ℕ)) → AllByRecursion (λ leaves. 0 < length leaves) (of_children item parents (leaves_from first parents))
children_have_leaves item first parents = children_each (λ leaves. 0 < length leaves) item parents (leaves_from first parents) (each_has_leaf first parents)

-- the number of leaves under the items whose parent passes a test
abbrev weight : (Option ℕ → Bool) → List (Option ℕ) → List (List ℕ) → ℕ
weight test [] lists = 0
weight test (parent ∷ parents) [] = 0
weight test (parent ∷ parents) (leaves ∷ lists) = cond (test parent) (length leaves) 0 + weight test parents lists

-- the leaves under an item's children weigh as many as they are
children_weight : (item : ℕ) (parents : List (Option ℕ)) (lists : List (List ℕ)) → number_of (of_children item parents lists) ≡ weight (is_parent item) parents lists
children_weight item [] lists = refl
children_weight item (parent ∷ parents) [] = refl
children_weight item (parent ∷ parents) (leaves ∷ lists) = by_parent (is_parent item parent) (children_weight item parents lists)
  where
    by_parent : (b : Bool) → number_of (of_children item parents lists) ≡ weight (is_parent item) parents lists
        → number_of (cond b (leaves ∷ of_children item parents lists) (of_children item parents lists)) ≡ cond b (length leaves) 0 + weight (is_parent item) parents lists
    by_parent true rest = length-append leaves (flat_map (λ l. l) (of_children item parents lists)) ∙ ap (λ (n : ℕ). length leaves + n) rest
    by_parent false rest = let same : weight (is_parent item) parents lists ≡ 0 + weight (is_parent item) parents lists = omega arith in rest ∙ same

-- a parent that stands before an item, or none
abbrev is_before : ℕ → Option ℕ → Bool
is_before item None = true
is_before item (Some parent) = nat_lt parent item

-- a test that fewer pass weighs less
weight_less : (test other : Option ℕ → Bool) → ((parent : Option ℕ) → test parent ≡ true → other parent ≡ true) → (parents : List (Option ℕ)) (lists : List (List ℕ)) → weight test parents lists ≤ weight other parents lists
weight_less test other implies [] lists = omega arith
weight_less test other implies (parent ∷ parents) [] = omega arith
weight_less test other implies (parent ∷ parents) (leaves ∷ lists) = by_tests (test parent) (other parent) (implies parent) (weight_less test other implies parents lists)
  where
    by_tests : (one two : Bool) → (one ≡ true → two ≡ true) → weight test parents lists ≤ weight other parents lists →
        cond one (length leaves) 0 + weight test parents lists ≤ cond two (length leaves) 0 + weight other parents lists
    by_tests true true both rest = omega (arith, rest)
    by_tests true false both rest = absurd (let never : false ≡ true = both refl in cc)
    by_tests false true both rest = omega (arith, rest)
    by_tests false false both rest = omega (arith, rest)

-- a parent before the next item is one before this item or this item
weight_split : (item : ℕ) (parents : List (Option ℕ)) (lists : List (List ℕ)) → weight (is_before (suc item)) parents lists ≡ weight (is_before item) parents lists + weight (is_parent item) parents lists
weight_split item [] lists = refl
weight_split item (parent ∷ parents) [] = refl
weight_split item (parent ∷ parents) (leaves ∷ lists) = let own = one parent (length leaves) in let rest = weight_split item parents lists in omega (arith, own, rest)
  where
    one : (parent : Option ℕ) (n : ℕ) → cond (is_before (suc item) parent) n 0 ≡ cond (is_before item parent) n 0 + cond (is_parent item parent) n 0
    one None n = let same : n ≡ n + 0 = omega arith in same
    one (Some p) n = by_tests (nat_lt p (suc item)) (nat_lt p item) (nat_eq p item) refl refl refl
      where
        by_tests : (next before here : Bool) → nat_lt p (suc item) ≡ next → nat_lt p item ≡ before → nat_eq p item ≡ here → cond next n 0 ≡ cond before n 0 + cond here n 0
        by_tests true true true a b c = absurd (grind arith)
        by_tests true true false a b c = let same : n ≡ n + 0 = omega arith in same
        by_tests true false true a b c = let same : n ≡ 0 + n = omega arith in same
        by_tests true false false a b c = absurd (grind arith)
        by_tests false true here a b c = absurd (grind arith)
        by_tests false false true a b c = absurd (grind arith)
        by_tests false false false a b c = refl

-- an item has one leaf, or as many as its children
leaves_size : (item : ℕ) (children : List (List ℕ)) → length (leaves_of item children) ≤ 1 + number_of children
leaves_size item [] = omega arith
leaves_size item (first ∷ children) = omega arith

-- no more leaves stand under the items whose parents stand before them all than there are items
outer_few : (item : ℕ) (parents : List (Option ℕ)) → weight (is_before item) parents (leaves_from item parents) ≤ length parents
unfolding leaves_from
outer_few item [] = omega arith
outer_few item (parent ∷ parents) =
    let behind : List (List ℕ) = leaves_from (suc item) parents in
    let own = leaves_size item (of_children item parents behind) in
    let rest = outer_few (suc item) parents in
    by_test (is_before item parent) own (children_weight item parents behind) (weight_split item parents behind) rest
  where
    by_test : (b : Bool) → length (leaves_of item (of_children item parents (leaves_from (suc item) parents))) ≤ 1 + number_of (of_children item parents (leaves_from (suc item) parents)) →
        number_of (of_children item parents (leaves_from (suc item) parents)) ≡ weight (is_parent item) parents (leaves_from (suc item) parents) →
        weight (is_before (suc item)) parents (leaves_from (suc item) parents) ≡ weight (is_before item) parents (leaves_from (suc item) parents) + weight (is_parent item) parents (leaves_from (suc item) parents) →
        weight (is_before (suc item)) parents (leaves_from (suc item) parents) ≤ length parents →
        cond b (length (leaves_of item (of_children item parents (leaves_from (suc item) parents)))) 0 + weight (is_before item) parents (leaves_from (suc item) parents) ≤ suc (length parents)
    by_test true own same split rest = omega (arith, own, same, split, rest)
    by_test false own same split rest = omega (arith, same, split, rest)

-- so no more stand under the children of an item before them
pub children_few : (item first : ℕ) (parents : List (Option ℕ)) → item < first → number_of (of_children item parents (leaves_from first parents)) ≤ length parents
children_few item first parents before =
    let less = weight_less (is_parent item) (is_before first) is_one parents (leaves_from first parents) in
    omega (arith, children_weight item parents (leaves_from first parents), less, outer_few first parents)
  where
    is_one : (parent : Option ℕ) → is_parent item parent ≡ true → is_before first parent ≡ true
    is_one None e = absurd (let never : false ≡ true = e in cc)
    is_one (Some p) e = grind arith
