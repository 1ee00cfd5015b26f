-- The items of a trial make a plan.
use Rattle.std.proofs.Common.{◌≡◌, ◌≢◌, ◌∙◌, ◌<◌, ◌≤◌, ◌+◌, ◌-◌, ◌/◌, ◌%◌, ◌==◌, ℕ, Bool, true, false, List, [], ◌∷◌, ◌++◌, sym, refl, ap₂, Option, arith, Some, None}
use Rattle.std.specs.Prelude.{if◌then◌else◌}
use Rattle.std.specs.Option.{ForSome}
use Rattle.std.proofs.lemmas.Bool.Decides.{nat_tests}
use Rattle.std.proofs.lemmas.List.{map_push}
use Rattle.std.proofs.lemmas.List.FromFn.{get_or-map-range_with_len, length-map-range_with_len, map-range_with_len_more}
use Rattle.line_form.specs.Name.{is_name, is_name_byte}
use Rattle.series_tables.specs.IsPlan.{IsPlan, names_of, parents_of, plan_with}
use Rattle.series_tables.specs.Items.{AreBackward, AreNames}
use Rattle.series_tables.specs.Plan.{PlanShape}
use Rattle.series_tables.specs.declared.item.Item.{Item}
use Rattle.trial_gen.specs.TrialPlan.{trial_name, trial_names, trial_parent, trial_parents, plan_of_trial}

-- a digit may stand in a name
digit_fits : (digit : ℕ) → digit < 10 → is_name_byte (48 + digit) ≡ true
digit_fits digit few = grind (arith, nat_tests)

-- the name of an item is a name
name_is : (number : ℕ) → is_name (trial_name number) ≡ true
name_is number =
    let first : is_name_byte (48 + number / 100 % 10) ≡ true = digit_fits (number / 100 % 10) (omega arith) in
    let second : is_name_byte (48 + number / 10 % 10) ≡ true = digit_fits (number / 10 % 10) (omega arith) in
    let third : is_name_byte (48 + number % 10) ≡ true = digit_fits (number % 10) (omega arith) in
    rw (first, second, third) refl

-- the names of two of the first thousand differ
names_differ : (i j : ℕ) → i < j → j < 1000 → trial_name i ≢ trial_name j
names_differ i j before few = λ same.
    let first : 48 + i / 100 % 10 ≡ 48 + j / 100 % 10 = cc in
    let second : 48 + i / 10 % 10 ≡ 48 + j / 10 % 10 = cc in
    let third : 48 + i % 10 ≡ 48 + j % 10 = cc in
    omega arith

-- a parent's number is smaller
parent_before : (number : ℕ) → ForSome (trial_parent number) (λ parent. parent < number)
parent_before number = go (number == 0) refl
  where
    go : (b : Bool) → (number == 0) ≡ b → ForSome (if b then None else Some ((number - 1) / 4)) (λ parent. parent < number)
    go true e = λ parent is. absurd (cc)
    go false e = λ parent is.
        let same : (number - 1) / 4 ≡ parent = cc in
        grind (arith, nat_tests)

names_are : (items : ℕ) → items ≤ 512 → AreNames (trial_names items)
names_are items few = record {
  each = λ k d below.
      let within : k < items = omega (arith, length-map-range_with_len trial_name 0 items) in
      rw (get_or-map-range_with_len trial_name 0 items k k d within (omega arith)) (name_is k);
  apart = λ i j d before below.
      let within : j < items = omega (arith, length-map-range_with_len trial_name 0 items) in
      rw (get_or-map-range_with_len trial_name 0 items i i d (omega arith) (omega arith), get_or-map-range_with_len trial_name 0 items j j d within (omega arith))
      (names_differ i j before (omega arith));
}

parents_are : (items : ℕ) → AreBackward (trial_parents items)
parents_are items = λ k below.
    let within : k < items = omega (arith, length-map-range_with_len trial_parent 0 items) in
    rw (get_or-map-range_with_len trial_parent 0 items k k None within (omega arith)) (parent_before k)

-- the plan of a trial keeps what every plan keeps
pub trial_is_plan : (items years : ℕ) → items ≤ 512 → years ≤ 64 → IsPlan (plan_of_trial items years)
unfolding plan_of_trial
trial_is_plan items years few short = record {
  first = omega arith;
  last = omega arith;
  reference = omega arith;
  few = omega (arith, length-map-range_with_len trial_name 0 items);
  names = names_are items few;
  parented = length-map-range_with_len trial_parent 0 items ∙ sym (length-map-range_with_len trial_name 0 items);
  parents = parents_are items;
}

-- the plan of items with the names and the parents of a trial's
pub made_plan : (items years : ℕ) (made : List Item) → names_of made ≡ trial_names items → parents_of made ≡ trial_parents items → plan_with 2000 ((years - 1) / 2) made ≡ plan_of_trial items years
unfolding plan_of_trial
made_plan items years made names parents =
    ap₂ (λ (ns : List (List ℕ)) (ps : List (Option ℕ)). let plan : PlanShape = record { start = 2000; reference = (years - 1) / 2; names = ns; parents = ps } in plan) names parents

-- one item more
pub item_more : (number : ℕ) (made : List Item) (item : Item) → names_of made ≡ trial_names number → item.name.items ≡ trial_name number → names_of (made ++ item ∷ []) ≡ trial_names (number + 1)
item_more number made item are is =
    map_push (λ (i : Item). i.name.items) made item ∙ ap₂ (λ (ns : List (List ℕ)) (n : List ℕ). ns ++ n ∷ []) are is ∙ sym (map-range_with_len_more trial_name 0 number number (omega arith))

pub parent_more : (number : ℕ) (made : List Item) (item : Item) → parents_of made ≡ trial_parents number → item.parent ≡ trial_parent number → parents_of (made ++ item ∷ []) ≡ trial_parents (number + 1)
parent_more number made item are is =
    map_push (λ (i : Item). i.parent) made item ∙ ap₂ (λ (ps : List (Option ℕ)) (p : Option ℕ). ps ++ p ∷ []) are is ∙ sym (map-range_with_len_more trial_parent 0 number number (omega arith))
