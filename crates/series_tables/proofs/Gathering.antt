-- What one more entry makes of what is gathered.
use Rattle.std.proofs.Common.{◌≡◌, ℕ, Bool, true, false, cond, List, [], ◌∷◌, ◌++◌, Option, Some, None, refl, ap, ◌∙◌, append_assoc}
use Rattle.std.specs.Option.{is_some}
use Rattle.std.specs.List.{filter_map}
use Rattle.std.proofs.lemmas.List.{append-nil}
use Rattle.std.proofs.lemmas.List.Elements.{filter_map-append}
use Rattle.series_tables.specs.declared.cause.PlanCause.TheVariants.{NoStart, Twice, Year, NoParent, TooMany}
use Rattle.series_tables.specs.PlanLine.{PlanEntry, start_entry, reference_entry, item_entry}
use Rattle.series_tables.specs.Plan.{Gathered, gathered, earliest, start_year, reference_year, item_name, parent_among, parents_from, cause_of_entry, is_second, is_early, is_out_of_range, is_orphan, is_past_last}
use Rattle.series_tables.specs.PlanReading.{with_entry}

-- where the first cause that applies is none, none applies
no_cause : (early second out orphan past : Bool)
    → cond early (Some NoStart) (cond second (Some Twice) (cond out (Some Year) (cond orphan (Some NoParent) (cond past (Some TooMany) None)))) ≡ None
    → (early ≡ false) × (second ≡ false) × (out ≡ false) × (past ≡ false)
no_cause true second out orphan past h = cc
no_cause false true out orphan past h = cc
no_cause false false true orphan past h = cc
no_cause false false false true past h = cc
no_cause false false false false true h = cc
no_cause false false false false false h = (refl, refl, refl, refl)

-- what an entry meets that isn't refused
pub record IsFree (before : Gathered) (entry : PlanEntry) : Type 0 where
  pub late : is_early before entry ≡ false
  pub single : is_second before entry ≡ false
  pub within : is_out_of_range before entry ≡ false
  pub few : is_past_last before entry ≡ false

-- an entry that isn't refused meets it
pub free_entry : (before : Gathered) (entry : PlanEntry) → cause_of_entry before entry ≡ None → IsFree before entry
unfolding cause_of_entry
free_entry before entry h =
    let tests = no_cause (is_early before entry) (is_second before entry) (is_out_of_range before entry) (is_orphan before entry) (is_past_last before entry) h in
    record { late = tests.0; single = tests.1; within = tests.2; few = tests.3 }

-- the first year of some, where one comes behind none
earliest_more : (years : List ℕ) (year : ℕ) → is_some (earliest years) ≡ false → earliest (years ++ year ∷ []) ≡ Some year
earliest_more [] year h = refl
earliest_more (first ∷ years) year h = cc

-- the parents of entries behind entries
pub parents_from-append : (names : List (List ℕ)) (xs ys : List PlanEntry) → parents_from names (xs ++ ys) ≡ parents_from names xs ++ parents_from (names ++ filter_map item_name xs) ys
unfolding parents_from
parents_from-append names [] ys = rw (append-nil names) refl
parents_from-append names (start_entry year ∷ xs) ys = parents_from-append names xs ys
parents_from-append names (reference_entry year ∷ xs) ys = parents_from-append names xs ys
parents_from-append names (item_entry name parent ∷ xs) ys =
    ap (λ (ps : List (Option ℕ)). parent_among names parent ∷ ps) (parents_from-append (names ++ name ∷ []) xs ys
    ∙ ap (λ (ns : List (List ℕ)). parents_from (names ++ name ∷ []) xs ++ parents_from ns ys) (append_assoc names (name ∷ []) (filter_map item_name xs)))

-- what is gathered, from its parts
alike : (s t : Option ℕ) (r q : Option ℕ) (n m : List (List ℕ)) (p o : List (Option ℕ)) → s ≡ t → r ≡ q → n ≡ m → p ≡ o
    → (let g : Gathered = record { start = s; reference = r; names = n; parents = p } in g) ≡ record { start = t; reference = q; names = m; parents = o }
alike s t r q n m p o e f g h = rw (e, f, g, h) refl

-- a list with nothing added
same_with : {X : Type 0} (f : PlanEntry → Option X) (entries : List PlanEntry) (entry : PlanEntry) → f entry ≡ None → filter_map f (entries ++ entry ∷ []) ≡ filter_map f entries
same_with f entries entry h = filter_map-append f entries (entry ∷ []) ∙ rw h (append-nil (filter_map f entries))

-- the years of entries of which one is added
years_with : (f : PlanEntry → Option ℕ) (entries : List PlanEntry) (entry : PlanEntry) (year : ℕ) → f entry ≡ Some year → is_some (earliest (filter_map f entries)) ≡ false
    → earliest (filter_map f (entries ++ entry ∷ [])) ≡ Some year
years_with f entries entry year h none =
    ap earliest (filter_map-append f entries (entry ∷ []) ∙ rw h refl) ∙ earliest_more (filter_map f entries) year none

-- one more entry, which isn't refused
pub gathered_more : (entries : List PlanEntry) (entry : PlanEntry) → cause_of_entry (gathered entries) entry ≡ None → gathered (entries ++ entry ∷ []) ≡ with_entry (gathered entries) entry
unfolding gathered parents_from
gathered_more entries (start_entry year) h =
    let free = free_entry (gathered entries) (start_entry year) h in
    alike _ _ _ _ _ _ _ _ (years_with start_year entries (start_entry year) year refl free.single) (ap earliest (same_with reference_year entries (start_entry year) refl))
    (same_with item_name entries (start_entry year) refl) (parents_from-append [] entries (start_entry year ∷ []) ∙ append-nil (parents_from [] entries))
gathered_more entries (reference_entry year) h =
    let free = free_entry (gathered entries) (reference_entry year) h in
    alike _ _ _ _ _ _ _ _ (ap earliest (same_with start_year entries (reference_entry year) refl)) (years_with reference_year entries (reference_entry year) year refl free.single)
    (same_with item_name entries (reference_entry year) refl) (parents_from-append [] entries (reference_entry year ∷ []) ∙ append-nil (parents_from [] entries))
gathered_more entries (item_entry name parent) h =
    alike _ _ _ _ _ _ _ _ (ap earliest (same_with start_year entries (item_entry name parent) refl)) (ap earliest (same_with reference_year entries (item_entry name parent) refl))
    (filter_map-append item_name entries (item_entry name parent ∷ [])) (parents_from-append [] entries (item_entry name parent ∷ []))
