-- The leaves that inputs name.
use Rattle.std.proofs.Common.{◌≡◌, ◌∙◌, ap, refl, ℕ, Bool, ◌||◌, List, [], ◌∷◌, map}
use Rattle.std.specs.List.{list_any}
use Rattle.series_tables.specs.Plan.{PlanShape}
use Rattle.series_tables.specs.Tree.{leaves_under}
use Rattle.dirty_plan.specs.Round.{first_state, opened_jobs}
use Rattle.dirty_plan.specs.Touched.{is_touched, items_of}

-- two tests with the same answers pass the same lists
list_any-same : {X : Type 0} (one other : X → Bool) → ((x : X) → one x ≡ other x) → (xs : List X) → list_any one xs ≡ list_any other xs
list_any-same one other same [] = refl
list_any-same one other same (x ∷ xs) =
    ap (λ (b : Bool). b || list_any one xs) (same x) ∙ ap (λ (b : Bool). other x || b) (list_any-same one other same xs)

map-same : {X Y : Type 0} (one other : X → Y) → ((x : X) → one x ≡ other x) → (xs : List X) → map one xs ≡ map other xs
map-same one other same [] = refl
map-same {Y = Y} one other same (x ∷ xs) =
    ap (λ (y : Y). y ∷ map one xs) (same x) ∙ ap (λ (ys : List Y). other x ∷ ys) (map-same one other same xs)

-- the jobs of a round rest on which leaves are named, and not on how that is told
pub opened_jobs-same : (plan : PlanShape) (one other : ℕ → Bool) → ((leaf : ℕ) → one leaf ≡ other leaf) → opened_jobs plan one ≡ map (λ item. first_state (is_touched plan other item)) (items_of plan)
unfolding opened_jobs
opened_jobs-same plan one other same =
    map-same (λ item. first_state (is_touched plan one item)) (λ item. first_state (is_touched plan other item))
    (λ item. ap first_state (list_any-same one other same (leaves_under plan item))) (items_of plan)
