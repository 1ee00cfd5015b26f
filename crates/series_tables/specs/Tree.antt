-- The classification tree of a plan: the leaves under each item. A parent stands before its children, so what is said
-- of the items from one on is enough to say it of the item before them.
use Rattle.std.specs.Prelude.{ℕ, suc, List, [], ◌∷◌, slice_index_or, Option, if◌then◌else◌}
use Rattle.std.specs.List.{flat_map}
use Rattle.series_tables.specs.Plan.{PlanShape, is_parent}

-- of what each of some items has, whose parents these are, that of the children of one item
abbrev pub of_children : {X : Type 0} → ℕ → List (Option ℕ) → List X → List X
of_children item [] xs = []
of_children item (parent ∷ parents) [] = []
of_children item (parent ∷ parents) (x ∷ xs) =
    if is_parent item parent then x ∷ of_children item parents xs else of_children item parents xs

-- the leaves under an item, from those under each of its children: without children it is a leaf itself
abbrev pub leaves_of : ℕ → List (List ℕ) → List ℕ
leaves_of item [] = item ∷ []
leaves_of item (first ∷ children) = flat_map (λ leaves. leaves) (first ∷ children)

-- the leaves under each item from one on, whose parents these are
unfoldable pub leaves_from : ℕ → List (Option ℕ) → List (List ℕ)
leaves_from item [] = []
leaves_from item (parent ∷ parents) =
    leaves_of item (of_children item parents (leaves_from (suc item) parents)) ∷ leaves_from (suc item) parents

-- the leaves under an item of a plan
abbrev pub leaves_under : PlanShape → ℕ → List ℕ
leaves_under plan item = slice_index_or (leaves_from 0 plan.parents) item []
