-- A tally says what the cells of its quarter come to.
use Rattle.std.proofs.Common.{◌≡◌, ◌∙◌, ap, sym, refl, inl, inr, ℕ, zero, suc, ◌+◌, ◌-◌, ◌≤◌, max, nat_lt, Bool, true, false, if◌then◌else◌, List, [], ◌∷◌, map, length, get_or, take, arith}
use Rattle.std.specs.Prelude.{◌||◌, slice_get, Some}
use Rattle.std.specs.List.{list_any, range_with_len, prefix_len}
use Rattle.std.proofs.lemmas.Bool.{cases_lt, lt-ltb, le-ltb}
use Rattle.std.proofs.lemmas.Bool.Decides.{nat_tests}
use Rattle.std.proofs.lemmas.List.{get_or_past}
use Rattle.std.proofs.lemmas.List.FromFn.{fill_by_all}
use Rattle.std.proofs.lemmas.Option.{slice_get-get_or, slice_get_past}
use Rattle.price_base.specs.declared.Cell.{Cell}
use Rattle.price_base.specs.declared.Cell.TheVariants.{Missing, Value, NoBase, NoLink, Range}
use Rattle.price_base.specs.Cells.{is_missing, is_no_base, is_range, total, combined}
use Rattle.aggregate_tree.specs.declared.tally.Tally.{Tally}
use Rattle.aggregate_tree.specs.Leaves.{cells_at, longest, added}
use Rattle.aggregate_tree.specs.Tallies.{count_of, no_tally, tally_of, IsSumOf, cell_of, is_reached, cells_of, with_cell}

counted_more : (here : Bool) (n : ℕ) (later : Bool) → nat_lt 0 n ≡ later → nat_lt 0 (if here then 1 + n else n) ≡ (here || later)
counted_more true n later e = lt-ltb 0 (1 + n) (omega arith)
counted_more false n later e = e

-- a count is above zero exactly where an element passes
pub counted : {X : Type 0} (test : X → Bool) (xs : List X) → nat_lt 0 (count_of test xs) ≡ list_any test xs
counted test [] = refl
counted test (x ∷ xs) = counted_more (test x) (count_of test xs) (list_any test xs) (counted test xs)

pub cell_of-tally_of : (lists : List (List Cell)) (t : ℕ) → cell_of (tally_of lists t) ≡ combined (cells_at lists t)
cell_of-tally_of lists t = rw (counted is_missing (cells_at lists t), counted is_no_base (cells_at lists t), counted is_range (cells_at lists t)) refl

below_max : (t a b : ℕ) → (nat_lt t a || nat_lt t b) ≡ nat_lt t (max a b)
below_max t a b = grind (arith, nat_tests)

some_longer : (lists : List (List Cell)) (t : ℕ) → list_any (λ cells. nat_lt t (length cells)) lists ≡ nat_lt t (longest lists)
some_longer [] t = sym (le-ltb t 0 (omega arith))
some_longer (cells ∷ lists) t = ap (λ later. nat_lt t (length cells) || later) (some_longer lists t) ∙ below_max t (length cells) (longest lists)

-- a quarter is reached where the longest list has it
pub is_reached-tally_of : (lists : List (List Cell)) (t : ℕ) → is_reached (tally_of lists t) ≡ nat_lt t (longest lists)
is_reached-tally_of lists t = counted (λ cells. nat_lt t (length cells)) lists ∙ some_longer lists t

cells_of_more : (reached : Bool) (tally : Tally) (tallies : List Tally) (n : ℕ) → map cell_of (take (if reached then 1 + n else 0) (tally ∷ tallies)) ≡ (if reached then cell_of tally ∷ map cell_of (take n tallies) else [])
cells_of_more true tally tallies n = let e : 1 + n ≡ suc n = omega arith in rw e refl
cells_of_more false tally tallies n = refl

pub cells_of-cons : (tally : Tally) (tallies : List Tally) → cells_of (tally ∷ tallies) ≡ (if is_reached tally then cell_of tally ∷ cells_of tallies else [])
cells_of-cons tally tallies = cells_of_more (is_reached tally) tally tallies (prefix_len is_reached tallies)

cells_from : (lists : List (List Cell)) (n a m : ℕ) → m ≤ n → m ≡ longest lists - a → cells_of (map (tally_of lists) (range_with_len a n)) ≡ map (λ t. combined (cells_at lists t)) (range_with_len a m)
cells_from lists zero a zero few left = refl
cells_from lists zero a (suc m) few left = absurd (omega arith)
cells_from lists (suc n) a zero few left =
    let ended : is_reached (tally_of lists a) ≡ false = is_reached-tally_of lists a ∙ le-ltb a (longest lists) (omega arith) in
    cells_of-cons (tally_of lists a) (map (tally_of lists) (range_with_len (a + 1) n))
    ∙ ap (λ reached. if reached then cell_of (tally_of lists a) ∷ cells_of (map (tally_of lists) (range_with_len (a + 1) n)) else []) ended
cells_from lists (suc n) a (suc m) few left =
    let there : is_reached (tally_of lists a) ≡ true = is_reached-tally_of lists a ∙ lt-ltb a (longest lists) (omega arith) in
    cells_of-cons (tally_of lists a) (map (tally_of lists) (range_with_len (a + 1) n))
    ∙ ap (λ reached. if reached then cell_of (tally_of lists a) ∷ cells_of (map (tally_of lists) (range_with_len (a + 1) n)) else []) there
    ∙ ap (λ cell. cell ∷ cells_of (map (tally_of lists) (range_with_len (a + 1) n))) (cell_of-tally_of lists a)
    ∙ ap (λ cells. combined (cells_at lists a) ∷ cells) (cells_from lists n (a + 1) m (omega arith) (omega arith))

-- the cells of a sum of lists are their sum
pub cells_of_sum : (lists : List (List Cell)) (tallies : List Tally) → IsSumOf lists tallies → cells_of tallies ≡ added lists
unfolding added
cells_of_sum lists tallies sum =
    let all : tallies ≡ map (tally_of lists) (range_with_len 0 (length tallies)) = fill_by_all (tally_of lists) tallies (length tallies) no_tally refl sum.each in
    ap cells_of all ∙ cells_from lists (length tallies) 0 (longest lists) sum.room (omega arith)

-- a tally of one more list, from that list's cell and whether the list has the quarter
abbrev tally_from : Cell → Bool → List (List Cell) → ℕ → Tally
tally_from cell here lists t = record {
  sum = total (cell ∷ cells_at lists t);
  present = if here then 1 + count_of (λ cells. nat_lt t (length cells)) lists else count_of (λ cells. nat_lt t (length cells)) lists;
  missing = count_of is_missing (cell ∷ cells_at lists t);
  no_base = count_of is_no_base (cell ∷ cells_at lists t);
  range = count_of is_range (cell ∷ cells_at lists t);
}

with_some : (cell : Cell) (lists : List (List Cell)) (t : ℕ) → with_cell (Some cell) (tally_of lists t) ≡ tally_from cell true lists t
with_some Missing lists t = refl
with_some (Value value) lists t = refl
with_some NoBase lists t = refl
with_some NoLink lists t = refl
with_some Range lists t = refl

-- a tally with the cell of one more list is that of the lists and this one
pub with_cell-tally_of : (cells : List Cell) (lists : List (List Cell)) (t : ℕ) → with_cell (slice_get cells t) (tally_of lists t) ≡ tally_of (cells ∷ lists) t
with_cell-tally_of cells lists t = elim (cases_lt t (length cells)) [
  | inl below ↦ ap (λ got. with_cell got (tally_of lists t)) (slice_get-get_or cells t Missing below) ∙ with_some (get_or cells t Missing) lists t
      ∙ ap (λ here. tally_from (get_or cells t Missing) here lists t) (sym (lt-ltb t (length cells) below))
  | inr past ↦ ap (λ got. with_cell got (tally_of lists t)) (slice_get_past cells t past) ∙ ap (λ cell. tally_from cell false lists t) (sym (get_or_past cells t Missing past))
      ∙ ap (λ here. tally_from (get_or cells t Missing) here lists t) (sym (le-ltb t (length cells) past))
]
