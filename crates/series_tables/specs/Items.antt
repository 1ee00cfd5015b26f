-- The items of a plan, as lists of their names and parents.
use Rattle.std.specs.Prelude.{ℕ, suc, ◌<◌, ◌≢◌, Bool, false, not, IsTrue, List, EachIndex, All, map, drop, length}
use Rattle.std.specs.Prelude.{slice_index_or, slice_set, Option, Some, None}
use Rattle.std.specs.List.{AllPairs, list_any, range_with_len}
use Rattle.std.specs.Option.{ForSome}
use Rattle.line_form.specs.Name.{is_name}
use Rattle.series_tables.specs.Plan.{is_parent}

-- the items' names and the numbers of their parents, in the order of the items
pub record ItemList : Type 0 where
  pub names : List (List ℕ)
  pub parents : List (Option ℕ)

-- each is a name, and no two are one
pub record AreNames (names : List (List ℕ)) : Type 0 where
  pub each : All (λ name. IsTrue (is_name name)) names
  pub apart : AllPairs (λ name later. name ≢ later) names

-- a parent's number is smaller than its child's
abbrev pub AreBackward : List (Option ℕ) → Type 0
AreBackward parents = EachIndex parents (λ node. ForSome (slice_index_or parents node None) (λ parent. parent < node))

-- for each item whether it is a leaf, and the same by the items behind it alone
unfoldable pub leaf_flags : List (Option ℕ) → List Bool
leaf_flags parents = map (λ node. not (list_any (is_parent node) parents)) (range_with_len 0 (length parents))

unfoldable pub leaf_flags_behind : List (Option ℕ) → List Bool
leaf_flags_behind parents =
    map (λ node. not (list_any (is_parent node) (drop (suc node) parents))) (range_with_len 0 (length parents))

-- the flags once an item is known to be a parent, or none is
abbrev pub marked : Option ℕ → List Bool → List Bool
marked None flags = flags
marked (Some parent) flags = slice_set flags parent false
