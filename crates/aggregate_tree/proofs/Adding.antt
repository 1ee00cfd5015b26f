-- Adding up what was added up is adding up all leaves.
use Rattle.std.proofs.Common.{◌≡◌, ◌∙◌, ap, sym, refl, inl, inr, ℕ, zero, suc, ◌<◌, ◌≤◌, max, List, [], ◌∷◌, ◌++◌, map, length, get_or, arith}
use Rattle.std.specs.List.{All}
use Rattle.std.proofs.Math.IntN.{+ℤ_idr}
use Rattle.std.proofs.lemmas.Bool.{cases_lt}
use Rattle.std.proofs.lemmas.List.{get_or_past, map-append}
use Rattle.std.proofs.lemmas.List.FromFn.{fill_by_all, length-map-range_with_len, get_or-map-range_with_len}
use Rattle.price_base.specs.declared.Cell.{Cell}
use Rattle.price_base.specs.declared.Cell.TheVariants.{Missing, Value, NoBase, NoLink, Range}
use Rattle.price_base.specs.Cells.{cell_at, combined, IsFlow}
use Rattle.aggregate_tree.specs.Leaves.{cells_at, longest, added, HasLeaf, all_leaves}
use Rattle.aggregate_tree.proofs.Combining.{plus, combined-cons, combined-append}

-- a sum is as long as its longest list
pub length-added : (lists : List (List Cell)) → length (added lists) ≡ longest lists
unfolding added
length-added lists = length-map-range_with_len (λ t. combined (cells_at lists t)) 0 (longest lists)

get_or-added : (lists : List (List Cell)) (t : ℕ) → t < longest lists → get_or (added lists) t Missing ≡ combined (cells_at lists t)
unfolding added
get_or-added lists t below = get_or-map-range_with_len (λ t. combined (cells_at lists t)) 0 (longest lists) t t Missing below (omega arith)

-- past the end of all lists the first is missing, and so is the sum
past_all : (first : List Cell) (lists : List (List Cell)) (t : ℕ) → longest (first ∷ lists) ≤ t → combined (cells_at (first ∷ lists) t) ≡ Missing
past_all first lists t past =
    let missing : get_or first t Missing ≡ Missing = get_or_past first t Missing (omega arith) in ap (λ cell. combined (cell ∷ cells_at lists t)) missing

-- each quarter of a sum of some lists, also past its end
pub cell_at-added : (lists : List (List Cell)) → HasLeaf lists → (t : ℕ) → cell_at (added lists) t ≡ combined (cells_at lists t)
cell_at-added [] has t = absurd (omega arith)
cell_at-added (first ∷ lists) has t = elim (cases_lt t (longest (first ∷ lists))) [
  | inl below ↦ get_or-added (first ∷ lists) t below
  | inr past ↦ get_or_past (added (first ∷ lists)) t Missing (let long : length (added (first ∷ lists)) ≡ longest (first ∷ lists) = length-added (first ∷ lists) in omega arith)
      ∙ sym (past_all first lists t past)
]

longest-append : (xs ys : List (List Cell)) → longest (xs ++ ys) ≡ max (longest xs) (longest ys)
longest-append [] ys = omega arith
longest-append (x ∷ xs) ys = omega (arith, longest-append xs ys)

longest_over_leaves : (children : List (List (List Cell))) → longest (map added children) ≡ longest (all_leaves children)
longest_over_leaves [] = refl
longest_over_leaves (leaves ∷ children) =
    ap (λ n. max n (longest (map added children))) (length-added leaves) ∙ ap (λ n. max (longest leaves) n) (longest_over_leaves children) ∙ sym (longest-append leaves (all_leaves children))

-- each quarter over children is that over all leaves
quarter_over_leaves : (children : List (List (List Cell))) → All HasLeaf children → (t : ℕ) → combined (cells_at (map added children) t) ≡ combined (cells_at (all_leaves children) t)
quarter_over_leaves [] all t = refl
quarter_over_leaves (leaves ∷ children) all t =
    let here : cell_at (added leaves) t ≡ combined (cells_at leaves t) = cell_at-added leaves (all zero [] (omega arith)) t in
    let later : combined (cells_at (map added children) t) ≡ combined (cells_at (all_leaves children) t) = quarter_over_leaves children (λ k d below. all (suc k) d (omega arith)) t in
    combined-cons (cell_at (added leaves) t) (cells_at (map added children) t) ∙ ap (λ cell. plus cell (combined (cells_at (map added children) t))) here
    ∙ ap (λ cell. plus (combined (cells_at leaves t)) cell) later ∙ sym (combined-append (cells_at leaves t) (cells_at (all_leaves children) t))
    ∙ ap combined (sym (map-append (λ cells. cell_at cells t) leaves (all_leaves children)))

pub sum_over_leaves : (children : List (List (List Cell))) → All HasLeaf children → added (map added children) ≡ added (all_leaves children)
unfolding added
sum_over_leaves children all =
    fill_by_all (λ t. combined (cells_at (all_leaves children) t)) (added (map added children)) (longest (all_leaves children)) Missing (length-added (map added children) ∙ longest_over_leaves children)
    (λ k below. get_or-added (map added children) k (let same : longest (map added children) ≡ longest (all_leaves children) = longest_over_leaves children in omega arith) ∙ quarter_over_leaves children all k)

-- one cell that is no mark of a link is its own sum
one_cell : (cell : Cell) → IsFlow cell → combined (cell ∷ []) ≡ cell
one_cell Missing flow = refl
one_cell (Value value) flow = ap Value (+ℤ_idr value)
one_cell NoBase flow = refl
one_cell NoLink flow = absurd (flow refl)
one_cell Range flow = refl

pub leaf_alone : (cells : List Cell) → All IsFlow cells → added (cells ∷ []) ≡ cells
unfolding added
leaf_alone cells flows =
    sym (fill_by_all (λ t. combined (cells_at (cells ∷ []) t)) cells (longest (cells ∷ [])) Missing (omega arith)
    (λ k below. sym (one_cell (get_or cells k Missing) (flows k Missing (omega arith)))))
