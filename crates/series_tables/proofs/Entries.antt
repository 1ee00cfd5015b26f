-- Records by how many fields they have, and what an entry meets that isn't refused.
use Rattle.std.proofs.Common.{◌≡◌, ◌≢◌, ◌<◌, ◌≤◌, ℕ, Bool, true, false, cond, not, ◌&&◌, nat_le, codes, IsTrue, List, [], ◌∷◌, length, get_or, Option, Some, None, refl, subst, arith}
use Rattle.std.specs.Option.{is_some, unwrap_or, option_map}
use Rattle.std.specs.List.{list_any}
use Rattle.std.specs.Str.{bytes_eq}
use Rattle.std.proofs.lemmas.Bool.Decides.{nat_tests}
use Rattle.line_form.specs.Name.{is_name}
use Rattle.period_keys.specs.Period.{is_within, year_of}
use Rattle.series_tables.specs.PlanLine.{PlanEntry, start_entry, reference_entry, item_entry, entry_of, year_entry, named_entry}
use Rattle.series_tables.specs.Plan.{Gathered, cause_of_entry}
use Rattle.series_tables.specs.PlanEntries.{IsNamed, IsReferenceInRange}
use Rattle.series_tables.proofs.Gathering.{free_entry}

-- a record of two fields is those fields
pub two_fields : (fields : List (List ℕ)) → length fields ≡ 2 → entry_of fields ≡ year_entry (get_or fields 0 []) (get_or fields 1 [])
unfolding entry_of
two_fields [] e = absurd (omega arith)
two_fields (a ∷ []) e = absurd (omega arith)
two_fields (a ∷ b ∷ []) e = refl
two_fields (a ∷ b ∷ c ∷ fields) e = absurd (omega arith)

-- a record of three fields is those fields
pub three_fields : (fields : List (List ℕ)) → length fields ≡ 3 → entry_of fields ≡ named_entry (get_or fields 0 []) (get_or fields 1 []) (get_or fields 2 [])
unfolding entry_of
three_fields [] e = absurd (omega arith)
three_fields (a ∷ []) e = absurd (omega arith)
three_fields (a ∷ b ∷ []) e = absurd (omega arith)
three_fields (a ∷ b ∷ c ∷ []) e = refl
three_fields (a ∷ b ∷ c ∷ d ∷ fields) e = absurd (omega arith)

-- no other record says anything
pub other_fields : (fields : List (List ℕ)) → length fields ≢ 2 → length fields ≢ 3 → entry_of fields ≡ None
unfolding entry_of
other_fields [] h i = refl
other_fields (a ∷ []) h i = refl
other_fields (a ∷ b ∷ []) h i = absurd (h refl)
other_fields (a ∷ b ∷ c ∷ []) h i = absurd (i refl)
other_fields (a ∷ b ∷ c ∷ d ∷ fields) h i = refl

-- a record of two fields says no item
year_no_item : (start reference : Bool) (year : Option ℕ) (name parent : List ℕ) → cond start (option_map start_entry year) (cond reference (option_map reference_entry year) None) ≡ Some (item_entry name parent) → ⊥
year_no_item true reference None name parent e = cc
year_no_item true reference (Some year) name parent e = cc
year_no_item false true None name parent e = cc
year_no_item false true (Some year) name parent e = cc
year_no_item false false year name parent e = cc

-- one of three says an item whose name is a name
item_named : (right named : Bool) (name parent other more : List ℕ) → is_name name ≡ named → cond (right && named) (Some (item_entry name parent)) None ≡ Some (item_entry other more) → IsTrue (is_name other)
item_named true true name parent other more tested e = let same : name ≡ other = cc in subst (λ n. IsTrue (is_name n)) same tested
item_named true false name parent other more tested e = absurd (let never : ◌≡◌ {A = Option PlanEntry} None (Some (item_entry other more)) = e in cc)
item_named false named name parent other more tested e = absurd (let never : ◌≡◌ {A = Option PlanEntry} None (Some (item_entry other more)) = e in cc)

-- so the name of an item that a record says is a name
pub entry_named : (fields : List (List ℕ)) (entry : PlanEntry) → entry_of fields ≡ Some entry → IsNamed entry
unfolding entry_of
entry_named fields (start_entry year) e = tt
entry_named fields (reference_entry year) e = tt
entry_named [] (item_entry name parent) e = absurd (let never : ◌≡◌ {A = Option PlanEntry} None (Some (item_entry name parent)) = e in cc)
entry_named (a ∷ []) (item_entry name parent) e = absurd (let never : ◌≡◌ {A = Option PlanEntry} None (Some (item_entry name parent)) = e in cc)
entry_named (a ∷ b ∷ []) (item_entry name parent) e = absurd (year_no_item (bytes_eq a (codes "start")) (bytes_eq a (codes "reference")) (year_of b) name parent e)
entry_named (a ∷ b ∷ c ∷ []) (item_entry name parent) e = item_named (bytes_eq a (codes "item")) (is_name b) b c name parent refl e
entry_named (a ∷ b ∷ c ∷ d ∷ fields) (item_entry name parent) e = absurd (let never : ◌≡◌ {A = Option PlanEntry} None (Some (item_entry name parent)) = e in cc)

-- a first year that isn't refused: it is in range, and none stands before it
pub start_taken : (before : Gathered) (year : ℕ) → cause_of_entry before (start_entry year) ≡ None → (is_some before.start ≡ false) × (1900 ≤ year) × (year ≤ 2200)
start_taken before year h =
    let free = free_entry before (start_entry year) h in
    let single : is_some before.start ≡ false = free.single in
    let within : not (nat_le 1900 year && nat_le year 2200) ≡ false = free.within in
    (single, grind (arith, nat_tests), grind (arith, nat_tests))

-- the reference year stays in range with a first year behind none
pub reference_kept : (start reference : Option ℕ) (year : ℕ) → is_some start ≡ false → IsReferenceInRange start reference → IsReferenceInRange (Some year) reference
reference_kept start None year none h = tt
reference_kept None (Some reference) year none h = absurd h
reference_kept (Some start) (Some reference) year none h = cc

-- a reference year that isn't refused is in range
pub reference_taken : (before : Gathered) (year : ℕ) → cause_of_entry before (reference_entry year) ≡ None → IsReferenceInRange before.start (Some year)
reference_taken before year h =
    let free = free_entry before (reference_entry year) h in
    by_start before.start free.late free.within
  where
    by_start : (start : Option ℕ) → not (is_some start) ≡ false → not (is_within (unwrap_or start 0) year) ≡ false → IsReferenceInRange start (Some year)
    by_start None late within = cc
    by_start (Some start) late within = (grind (arith, nat_tests), grind (arith, nat_tests))

-- an item that isn't refused: no item has its name, and fewer than 512 stand before it
pub item_taken : (before : Gathered) (name parent : List ℕ) → cause_of_entry before (item_entry name parent) ≡ None
    → (list_any (bytes_eq name) before.names ≡ false) × (length before.names < 512)
item_taken before name parent h =
    let free = free_entry before (item_entry name parent) h in
    let single : list_any (bytes_eq name) before.names ≡ false = free.single in
    let few : nat_le 512 (length before.names) ≡ false = free.few in
    (single, grind (arith, nat_tests))
