-- The sums of settled children stay in range, so one more child can be added.
use Rattle.std.proofs.Common.{◌≡◌, ◌∙◌, ap, sym, refl, subst, inl, inr, ℕ, zero, suc, ◌+◌, ◌-◌, ◌*◌, ◌^◌, ◌≤◌, ◌<◌, ℤ, pos, ◌+ℤ◌, unsigned_abs, Bool, true, false, cond, ◌&&◌, List, [], ◌∷◌, length, map, drop, get_or, Option, Some, None, arith, length-append, length-drop}
use Rattle.std.specs.Prelude.{not}
use Rattle.std.specs.List.{All, flat_map, range_with_len}
use Rattle.std.proofs.Math.Nat.{mul-le-mul_left}
use Rattle.std.proofs.lemmas.Bool.{cases_lt}
use Rattle.std.proofs.lemmas.Int.{ints}
use Rattle.std.proofs.lemmas.List.{get_or-drop, get_or_past}
use Rattle.aggregate_tree.specs.Leaves.{cells_at}
use Rattle.aggregate_tree.specs.Sum.{Sum, with_child}
use Rattle.aggregate_tree.specs.Tallies.{IsSumOf, no_tally, tally_at, tally_of, with_cells, AreValueSums, AreVolumeSums}
use Rattle.aggregate_tree.specs.declared.tally.Tally.{Tally}
use Rattle.aggregate_tree.proofs.Combining.{amount_of}
use Rattle.annual_overlap.specs.Years.{IsSizedCell}
use Rattle.price_base.specs.Cells.{cell_at, total}
use Rattle.price_base.specs.declared.Cell.{Cell}
use Rattle.price_base.specs.declared.Cell.TheVariants.{Missing, Value, NoBase, NoLink, Range}
use Rattle.series_tables.specs.Fits.{FitsPlan}
use Rattle.series_tables.specs.Plan.{PlanShape, is_parent}
use Rattle.series_tables.specs.Tree.{of_children, leaves_from, leaves_under}
use Rattle.series_tables.specs.declared.input.Input.{Input}
use Rattle.series_tables.proofs.Leaves.{number_of, leaves_count, leaves_drop, children_few}
use Rattle.dirty_plan.specs.Round.{is_unfinished}
use Rattle.dirty_plan.specs.declared.job.JobState.{JobState}
use Rattle.round_works.specs.Making.{settled, settled_from, values_after, volumes_after, IsSumFrom}
use Rattle.node_compile.proofs.Figures.{items_sized}
use Rattle.round_works.proofs.Settling.{settled_few}

-- a cell's number is within the cell's size
amount_sized : (most : ℕ) (cell : Cell) → IsSizedCell most cell → unsigned_abs (amount_of cell) ≤ most
amount_sized most (Value value) small = small
amount_sized most Missing small = omega arith
amount_sized most NoBase small = omega arith
amount_sized most NoLink small = omega arith
amount_sized most Range small = omega arith

-- a sum with one more cell grows by that cell's size at most
total_grows : (m n : ℕ) (cell : Cell) (cells : List Cell) → unsigned_abs (amount_of cell) ≤ m → unsigned_abs (total cells) ≤ n → unsigned_abs (total (cell ∷ cells)) ≤ m + n
total_grows m n (Value value) cells small rest = larger value (total cells) small rest
  where
    larger : (a b : ℤ) → unsigned_abs a ≤ m → unsigned_abs b ≤ n → unsigned_abs (a +ℤ b) ≤ m + n
    larger a b ha hb = omega (arith, ints)
total_grows m n Missing cells small rest = omega arith
total_grows m n NoBase cells small rest = omega arith
total_grows m n NoLink cells small rest = omega arith
total_grows m n Range cells small rest = omega arith

-- the settled ones of so many items, each within so much a leaf, come to at most so much a leaf
settled_total : (most t item first n : ℕ) (parents : List (Option ℕ)) (jobs : List JobState) (f : ℕ → List Cell) (leaves : List (List ℕ)) → length leaves ≡ n →
    ((k : ℕ) → k < n → unsigned_abs (amount_of (cell_at (f (first + k)) t)) ≤ most * length (get_or leaves k [])) →
    unsigned_abs (total (cells_at (settled item parents jobs (map f (range_with_len first n))) t)) ≤ most * number_of (settled item parents jobs leaves)
settled_total most t item first n [] jobs f leaves same each = omega arith
settled_total most t item first n (p ∷ ps) [] f leaves same each = omega arith
settled_total most t item first zero (p ∷ ps) (j ∷ jobs) f leaves same each = omega arith
settled_total most t item first (suc n) (p ∷ ps) (j ∷ jobs) f [] same each = absurd (omega arith)
settled_total most t item first (suc n) (p ∷ ps) (j ∷ jobs) f (own ∷ leaves) same each =
    by (is_parent item p && not (is_unfinished j)) here
    (settled_total most t item (first + 1) n ps jobs f leaves (omega arith)
    (λ k below. subst (λ (i : ℕ). unsigned_abs (amount_of (cell_at (f i) t)) ≤ most * length (get_or leaves k [])) (let next : first + suc k ≡ first + 1 + k = omega arith in next) (each (suc k) (omega arith))))
  where
    rest : List (List Cell)
    rest = settled item ps jobs (map f (range_with_len (first + 1) n))

    others : List (List ℕ)
    others = settled item ps jobs leaves

    here : unsigned_abs (amount_of (cell_at (f first) t)) ≤ most * length own
    here = subst (λ (i : ℕ). unsigned_abs (amount_of (cell_at (f i) t)) ≤ most * length own) (let none : first + 0 ≡ first = omega arith in none) (each 0 (omega arith))

    by : (b : Bool) → unsigned_abs (amount_of (cell_at (f first) t)) ≤ most * length own → unsigned_abs (total (cells_at rest t)) ≤ most * number_of others →
        unsigned_abs (total (cells_at (cond b (f first ∷ rest) rest) t)) ≤ most * number_of (cond b (own ∷ others) others)
    by false one more = more
    by true one more =
        let grown : unsigned_abs (total (cell_at (f first) t ∷ cells_at rest t)) ≤ most * length own + most * number_of others = total_grows (most * length own) (most * number_of others) (cell_at (f first) t) (cells_at rest t) one more in
        let both : number_of (own ∷ others) ≡ length own + number_of others = length-append own (flat_map (λ l. l) others) in
        subst (λ (n : ℕ). unsigned_abs (total (cell_at (f first) t ∷ cells_at rest t)) ≤ most * n) (sym both) (omega arith)

-- no more leaves stand under the settled children than under all
settled_within : (item : ℕ) (parents : List (Option ℕ)) (jobs : List JobState) (leaves : List (List ℕ)) → number_of (settled item parents jobs leaves) ≤ number_of (of_children item parents leaves)
settled_within item [] jobs leaves = omega arith
settled_within item (p ∷ ps) [] leaves = omega arith
settled_within item (p ∷ ps) (j ∷ jobs) [] = omega arith
settled_within item (p ∷ ps) (j ∷ jobs) (own ∷ leaves) = by (is_parent item p) (not (is_unfinished j)) (settled_within item ps jobs leaves)
  where
    some : List (List ℕ)
    some = settled item ps jobs leaves

    all : List (List ℕ)
    all = of_children item ps leaves

    by : (b u : Bool) → number_of some ≤ number_of all → number_of (cond (b && u) (own ∷ some) some) ≤ number_of (cond b (own ∷ all) all)
    by false u rest = rest
    by true false rest = omega (arith, length-append own (flat_map (λ l. l) all))
    by true true rest = omega (arith, length-append own (flat_map (λ l. l) all), length-append own (flat_map (λ l. l) some))

-- so a sum of settled children is within 512 times as much as a leaf may have
settled_sums : (most : ℕ) (plan : PlanShape) (jobs : List JobState) (f : ℕ → List Cell) (item first : ℕ) (tallies : List Tally) → item < first → length plan.parents ≤ 512 →
    ((i : ℕ) → i < length plan.parents → (t : ℕ) → IsSizedCell (most * length (leaves_under plan i)) (cell_at (f i) t)) →
    IsSumOf (settled_from plan jobs f item first) tallies → (t : ℕ) → unsigned_abs (tally_at tallies t).sum ≤ most * 512
settled_sums most plan jobs f item first tallies before few each sum t = elim (cases_lt t (length tallies)) [
  | inl below ↦
      let sized : unsigned_abs (total (cells_at (settled_from plan jobs f item first) t)) ≤ most * number_of (settled item parents (drop first jobs) leaves) =
      settled_total most t item first (length plan.parents - first) parents (drop first jobs) f leaves count inside in
      let some = settled_within item parents (drop first jobs) leaves in
      let all : number_of (of_children item parents leaves) ≤ length parents = children_few item first parents before in
      let most_leaves : number_of (settled item parents (drop first jobs) leaves) ≤ 512 = omega (arith, some, all, length-drop first plan.parents, few) in
      let bound = mul-le-mul_left most most_leaves in
      subst (λ (tally : Tally). unsigned_abs tally.sum ≤ most * 512) (sym (sum.each t below)) (omega (arith, sized, bound))
  | inr past ↦ subst (λ (tally : Tally). unsigned_abs tally.sum ≤ most * 512) (sym (get_or_past tallies t no_tally past)) (omega arith)
]
  where
    parents : List (Option ℕ)
    parents = drop first plan.parents

    leaves : List (List ℕ)
    leaves = leaves_from first parents

    count : length leaves ≡ length plan.parents - first
    count = leaves_count first parents ∙ length-drop first plan.parents

    under : (k : ℕ) → get_or leaves k [] ≡ leaves_under plan (first + k)
    under k =
        let none : 0 + first ≡ first = omega arith in
        ap (λ (n : ℕ). get_or (leaves_from n parents) k []) (sym none) ∙ ap (λ (l : List (List ℕ)). get_or l k []) (sym (leaves_drop first 0 plan.parents))
        ∙ get_or-drop first (leaves_from 0 plan.parents) k []

    inside : (k : ℕ) → k < length plan.parents - first → unsigned_abs (amount_of (cell_at (f (first + k)) t)) ≤ most * length (get_or leaves k [])
    inside k below =
        subst (λ (l : List ℕ). unsigned_abs (amount_of (cell_at (f (first + k)) t)) ≤ most * length l) (sym (under k))
        (amount_sized (most * length (leaves_under plan (first + k))) (cell_at (f (first + k)) t) (each (first + k) (omega arith) t))

-- sums of values, and of volumes, after inputs that fit the plan are in range
pub values_in_range : (plan : PlanShape) (inputs : List Input) (jobs : List JobState) (item first : ℕ) (tallies : List Tally) → item < first → length plan.parents ≤ 512 → All (FitsPlan plan) inputs →
    IsSumOf (settled_from plan jobs (values_after plan inputs) item first) tallies → AreValueSums tallies
values_in_range plan inputs jobs item first tallies before few fits sum t =
    let size = settled_sums (10 ^ 24) plan jobs (values_after plan inputs) item first tallies before few (λ i inside. (items_sized plan inputs i fits inside).value.sizes) sum t in
    omega (arith, size)

-- and sums of volumes
pub volumes_in_range : (plan : PlanShape) (inputs : List Input) (jobs : List JobState) (item first : ℕ) (tallies : List Tally) → item < first → length plan.parents ≤ 512 → All (FitsPlan plan) inputs →
    IsSumOf (settled_from plan jobs (volumes_after plan inputs) item first) tallies → AreVolumeSums tallies
volumes_in_range plan inputs jobs item first tallies before few fits sum t =
    let size = settled_sums (10 ^ 15) plan jobs (volumes_after plan inputs) item first tallies before few (λ i inside. (items_sized plan inputs i fits inside).prev.sizes) sum t in
    omega (arith, size)

-- what a sum and one child more must be
pub record CanTake (value prev : List Cell) (sum : Sum) : Type 0 where
  pub children : sum.children < 512
  pub quarters : length value ≤ length sum.value
  pub values : AreValueSums (with_cells value sum.value)
  pub volumes : AreVolumeSums (with_cells prev sum.prev)

-- a sum can take the child whose flows make it the sum of settled children
pub can_take : (plan : PlanShape) (inputs : List Input) (jobs : List JobState) (item first child : ℕ) (sum : Sum) → item < first → child < length plan.parents → length plan.parents ≤ 512 →
    All (FitsPlan plan) inputs → length sum.value ≡ 256 → IsSumFrom plan inputs jobs item first (with_child (values_after plan inputs child) (volumes_after plan inputs child) sum) →
    CanTake (values_after plan inputs child) (volumes_after plan inputs child) sum
can_take plan inputs jobs item first child sum before inside few fits room made = record {
  children = omega (arith, made.count, settled_few item (drop first plan.parents) (drop first jobs) (map (values_after plan inputs) (range_with_len first (length plan.parents - first))), length-drop first plan.parents);
  quarters = omega (arith, (items_sized plan inputs child fits inside).value.few, room);
  values = values_in_range plan inputs jobs item first (with_cells (values_after plan inputs child) sum.value) before few fits made.value;
  volumes = volumes_in_range plan inputs jobs item first (with_cells (volumes_after plan inputs child) sum.prev) before few fits made.prev;
}
