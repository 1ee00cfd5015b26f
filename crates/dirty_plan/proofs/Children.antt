-- The children of an item among the items from one on, and among all items.
use Rattle.std.proofs.Common.{◌≡◌, ◌∙◌, ap, sym, refl, inl, inr, ℕ, zero, suc, ◌<◌, Bool, true, false, ◌||◌, ◌&&◌, cond, List, [], ◌∷◌, length, drop, get_or, Option, None, Some, arith}
use Rattle.std.specs.List.{list_any}
use Rattle.std.specs.Option.{ForSome}
use Rattle.std.proofs.Math.ListN.{get_or-eq_default}
use Rattle.std.proofs.lemmas.Bool.{cases_lt}
use Rattle.std.proofs.lemmas.Bool.Decides.{nat_tests}
use Rattle.series_tables.specs.Items.{AreBackward}
use Rattle.series_tables.specs.Plan.{is_parent}
use Rattle.series_tables.specs.Tree.{of_children}
use Rattle.dirty_plan.specs.Round.{children_of}
use Rattle.dirty_plan.specs.declared.job.JobState.{JobState}

-- they are the first of these items, where it is a child, and those among the items behind it
pub of_children-drop : {X : Type 0} (item k : ℕ) (parents : List (Option ℕ)) (xs : List X) (d : X) → length parents ≡ length xs → k < length xs
    → of_children item (drop k parents) (drop k xs)
    ≡ cond (is_parent item (get_or parents k None)) (get_or xs k d ∷ of_children item (drop (suc k) parents) (drop (suc k) xs)) (of_children item (drop (suc k) parents) (drop (suc k) xs))
of_children-drop item k [] [] d same within = absurd (omega arith)
of_children-drop item k [] (x ∷ xs) d same within = absurd (omega arith)
of_children-drop item k (parent ∷ parents) [] d same within = absurd (omega arith)
of_children-drop item zero (parent ∷ parents) (x ∷ xs) d same within = refl
of_children-drop item (suc k) (parent ∷ parents) (x ∷ xs) d same within = of_children-drop item k parents xs d (omega arith) (omega arith)

-- some child passes a test where the first of these items is a child that does, or one behind it does
pub any_child-drop : {X : Type 0} (test : X → Bool) (item k next : ℕ) (parents : List (Option ℕ)) (xs : List X) (d : X) → length parents ≡ length xs → k < length xs → next ≡ suc k
    → list_any test (of_children item (drop k parents) (drop k xs))
    ≡ ((is_parent item (get_or parents k None) && test (get_or xs k d)) || list_any test (of_children item (drop next parents) (drop next xs)))
any_child-drop {X = X} test item k next parents xs d same within e =
    ap (list_any test) (of_children-drop item k parents xs d same within) ∙ by_parent (is_parent item (get_or parents k None))
    ∙ ap (λ (n : ℕ). (is_parent item (get_or parents k None) && test (get_or xs k d)) || list_any test (of_children item (drop n parents) (drop n xs))) (sym e)
  where
    behind : List X
    behind = of_children item (drop (suc k) parents) (drop (suc k) xs)

    by_parent : (b : Bool) → list_any test (cond b (get_or xs k d ∷ behind) behind) ≡ ((b && test (get_or xs k d)) || list_any test behind)
    by_parent true = refl
    by_parent false = refl

-- without items no children
no_items : {X : Type 0} (item : ℕ) (parents : List (Option ℕ)) → of_children {X = X} item parents [] ≡ []
no_items item [] = refl
no_items item (parent ∷ parents) = refl

-- the first few items can be left out where none of them is a child
of_children_behind : {X : Type 0} (item n : ℕ) (parents : List (Option ℕ)) (xs : List X) → ((k : ℕ) → k < n → is_parent item (get_or parents k None) ≡ false)
    → of_children item parents xs ≡ of_children item (drop n parents) (drop n xs)
of_children_behind item zero parents xs none = refl
of_children_behind item (suc n) [] xs none = refl
of_children_behind {X = X} item (suc n) (parent ∷ parents) [] none = sym (no_items {X = X} item (drop n parents))
of_children_behind {X = X} item (suc n) (parent ∷ parents) (x ∷ xs) none =
    ap (λ (b : Bool). cond b (x ∷ of_children item parents xs) (of_children item parents xs)) (none 0 (omega arith))
    ∙ of_children_behind item n parents xs (λ k below. none (suc k) (omega (arith, below)))

-- no item up to a parent is its child
no_child_before : (item : ℕ) (parents : List (Option ℕ)) → AreBackward parents → (k : ℕ) → k < suc item → is_parent item (get_or parents k None) ≡ false
no_child_before item parents backward k below = elim (cases_lt k (length parents)) [
  | inl inside ↦ by_parent (get_or parents k None) (backward k inside)
  | inr past ↦ ap (is_parent item) (get_or-eq_default parents None past)
]
  where
    by_parent : (parent : Option ℕ) → ForSome parent (λ p. p < k) → is_parent item parent ≡ false
    by_parent None smaller = refl
    by_parent (Some p) smaller = let less : p < k = smaller p refl in let apart : is_parent item (Some p) ≡ false = grind (arith, nat_tests) in apart

-- an item's children are all items whose parent it is
pub children_are_all : (parents : List (Option ℕ)) (jobs : List JobState) (item : ℕ) → AreBackward parents → of_children item parents jobs ≡ children_of parents item jobs
children_are_all parents jobs item backward = of_children_behind item (suc item) parents jobs (no_child_before item parents backward)
