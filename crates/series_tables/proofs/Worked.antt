-- Plans worked on the definitions.
use Rattle.std.proofs.Common.{◌≡◌, true, false, List, [], ◌∷◌, Some, None, Ok, Err, codes, refl}
use Rattle.series_tables.specs.declared.cause.PlanCause.TheVariants.{Form, NoStart, Twice, Year, NoParent}
use Rattle.series_tables.specs.PlanLine.{PlanEntry, start_entry, reference_entry, item_entry, entry_of}
use Rattle.series_tables.specs.Plan.{PlanShape, gathered, parents_from, cause_of, cause_of_entry, is_leaf, plan_given}
use Rattle.series_tables.specs.Tree.{leaves_from, leaves_under}

-- what records say
start_said : entry_of (codes "start" ∷ codes "2021" ∷ []) ≡ Some (start_entry 2021)
unfolding entry_of
start_said = refl

short_year : entry_of (codes "start" ∷ codes "21" ∷ []) ≡ None
unfolding entry_of
short_year = refl

item_said : entry_of (codes "item" ∷ codes "FOOD" ∷ codes "TOTAL" ∷ []) ≡ Some (item_entry (codes "FOOD") (codes "TOTAL"))
unfolding entry_of
item_said = refl

blank_in_name : entry_of (codes "item" ∷ codes "A B" ∷ [] ∷ []) ≡ None
unfolding entry_of
blank_in_name = refl

-- a year and a total over two items
abbrev total : List PlanEntry
total = start_entry 2021 ∷ item_entry (codes "T") [] ∷ item_entry (codes "A") (codes "T") ∷ reference_entry 2084 ∷ item_entry (codes "B") (codes "T") ∷ []

-- its plan
abbrev total_plan : PlanShape
total_plan = record { start = 2021; reference = 63; names = codes "T" ∷ codes "A" ∷ codes "B" ∷ []; parents = None ∷ Some 0 ∷ Some 0 ∷ [] }

total_given : plan_given (gathered total) 6 ≡ Ok total_plan
unfolding gathered parents_from
total_given = refl

total_is_inner : is_leaf total_plan 0 ≡ false
total_is_inner = refl

item_is_leaf : is_leaf total_plan 2 ≡ true
item_is_leaf = refl

-- causes behind it and behind nothing
no_record : cause_of (gathered total) None ≡ Some Form
no_record = refl

-- an item may stand under a leaf, which is then none any more
parent_taken : cause_of_entry (gathered total) (item_entry (codes "C") (codes "A")) ≡ None
unfolding cause_of_entry gathered parents_from
parent_taken = refl

no_such_parent : cause_of_entry (gathered total) (item_entry (codes "D") (codes "C")) ≡ Some NoParent
unfolding cause_of_entry gathered parents_from
no_such_parent = refl

-- an item isn't its own parent
no_own_parent : cause_of_entry (gathered total) (item_entry (codes "D") (codes "D")) ≡ Some NoParent
unfolding cause_of_entry gathered parents_from
no_own_parent = refl

reference_early : cause_of_entry (gathered []) (reference_entry 1800) ≡ Some NoStart
unfolding cause_of_entry gathered parents_from
reference_early = refl

item_early : cause_of_entry (gathered []) (item_entry (codes "C") []) ≡ Some NoStart
unfolding cause_of_entry gathered parents_from
item_early = refl

start_again : cause_of_entry (gathered total) (start_entry 1800) ≡ Some Twice
unfolding cause_of_entry gathered parents_from
start_again = refl

name_again : cause_of_entry (gathered total) (item_entry (codes "B") []) ≡ Some Twice
unfolding cause_of_entry gathered parents_from
name_again = refl

reference_again : cause_of_entry (gathered total) (reference_entry 1800) ≡ Some Twice
unfolding cause_of_entry gathered parents_from
reference_again = refl

year_too_late : cause_of_entry (gathered []) (start_entry 2201) ≡ Some Year
unfolding cause_of_entry gathered parents_from
year_too_late = refl

last_year : cause_of_entry (gathered []) (start_entry 2200) ≡ None
unfolding cause_of_entry gathered parents_from
last_year = refl

-- a reference year behind the first year 2021
reference_too_early : cause_of_entry (gathered (start_entry 2021 ∷ [])) (reference_entry 2020) ≡ Some Year
unfolding cause_of_entry gathered parents_from
reference_too_early = refl

first_reference : cause_of_entry (gathered (start_entry 2021 ∷ [])) (reference_entry 2021) ≡ None
unfolding cause_of_entry gathered parents_from
first_reference = refl

last_reference : cause_of_entry (gathered (start_entry 2021 ∷ [])) (reference_entry 2084) ≡ None
unfolding cause_of_entry gathered parents_from
last_reference = refl

reference_too_late : cause_of_entry (gathered (start_entry 2021 ∷ [])) (reference_entry 2085) ≡ Some Year
unfolding cause_of_entry gathered parents_from
reference_too_late = refl

-- without a reference year the first year is it
no_reference : plan_given (gathered (start_entry 2021 ∷ [])) 2 ≡ Ok (record { start = 2021; reference = 0; names = []; parents = [] })
unfolding gathered parents_from
no_reference = refl

-- without a first year
no_year : plan_given (gathered []) 1 ≡ Err (record { line = 1; cause = NoStart })
unfolding gathered parents_from
no_year = refl

-- the leaves under a total, and under an item that stands under one of its parts
leaves_of_total : leaves_under total_plan 0 ≡ 1 ∷ 2 ∷ []
unfolding leaves_from
leaves_of_total = refl

abbrev deep_plan : PlanShape
deep_plan = record { start = 2021; reference = 0; names = codes "T" ∷ codes "G" ∷ codes "A" ∷ codes "R" ∷ codes "B" ∷ []; parents = None ∷ Some 0 ∷ Some 0 ∷ None ∷ Some 1 ∷ [] }

leaves_of_deep : leaves_under deep_plan 0 ≡ 4 ∷ 2 ∷ []
unfolding leaves_from
leaves_of_deep = refl

leaf_of_itself : leaves_under deep_plan 3 ≡ 3 ∷ []
unfolding leaves_from
leaf_of_itself = refl
