-- Tallies with one more list, place by place.
use Rattle.std.proofs.Common.{◌≡◌, ◌∙◌, ap, sym, refl, subst, inl, inr, ℕ, zero, suc, ◌+◌, ◌<◌, ◌≤◌, Bool, true, false, if◌then◌else◌, List, [], ◌∷◌, map, length, get_or, take, drop, ◌++◌, ℤ, unsigned_abs, ◌^◌, ◌*◌, arith}
use Rattle.std.specs.Prelude.{slice_get, Option, Some, None}
use Rattle.std.specs.List.{prefix_len, take_while}
use Rattle.std.proofs.Math.Seq.{take-length}
use Rattle.std.proofs.Math.ListN.{drop_of_length-le}
use Rattle.std.proofs.lemmas.List.Sums.{prefix_len_is}
use Rattle.std.proofs.lemmas.Bool.{cases_lt}
use Rattle.std.proofs.lemmas.List.{get_or_past, get_or-map, append-nil}
use Rattle.std.proofs.lemmas.List.FromFn.{fill_by_all, length-map-range_with_len, get_or-map-range_with_len}
use Rattle.std.proofs.lemmas.Option.{slice_get-get_or, slice_get_past}
use Rattle.price_base.specs.declared.Cell.{Cell}
use Rattle.price_base.specs.declared.Cell.TheVariants.{Missing, Value, NoBase, NoLink, Range}
use Rattle.aggregate_tree.specs.declared.tally.Tally.{Tally}
use Rattle.aggregate_tree.specs.Leaves.{longest}
use Rattle.aggregate_tree.specs.Tallies.{no_tally, tally_at, IsSumOf, with_cell, with_cells, AreCounts, AreValueSums, AreVolumeSums, cell_of, is_reached}
use Rattle.aggregate_tree.proofs.Counts.{with_cell-tally_of}

pub length-with_cells : (cells : List Cell) (tallies : List Tally) → length (with_cells cells tallies) ≡ length tallies
unfolding with_cells
length-with_cells cells tallies = length-map-range_with_len (λ t. with_cell (slice_get cells t) (tally_at tallies t)) 0 (length tallies)

pub tally_at-with_cells : (cells : List Cell) (tallies : List Tally) (t : ℕ) → t < length tallies → tally_at (with_cells cells tallies) t ≡ with_cell (slice_get cells t) (tally_at tallies t)
unfolding with_cells
tally_at-with_cells cells tallies t below = get_or-map-range_with_len (λ t. with_cell (slice_get cells t) (tally_at tallies t)) 0 (length tallies) t t no_tally below (omega arith)

-- what each place is written to makes the tallies with one more list
pub with_cells_all : (cells : List Cell) (old new : List Tally) → length new ≡ length old → ((k : ℕ) → k < length old → get_or new k no_tally ≡ with_cell (slice_get cells k) (get_or old k no_tally)) → new ≡ with_cells cells old
unfolding with_cells
with_cells_all cells old new same written = fill_by_all (λ t. with_cell (slice_get cells t) (tally_at old t)) new (length old) no_tally same written

-- no list was added yet
pub empty_is_sum : (quarters : ℕ) (tallies : List Tally) → ((k : ℕ) → get_or tallies k no_tally ≡ no_tally) → IsSumOf [] tallies
empty_is_sum quarters tallies none = record { room = omega arith; each = λ t below. none t }

-- the sum of some lists, with one more
pub sum_more : (cells : List Cell) (lists : List (List Cell)) (tallies : List Tally) → length cells ≤ length tallies → IsSumOf lists tallies → IsSumOf (cells ∷ lists) (with_cells cells tallies)
sum_more cells lists tallies short sum = record {
  room = let same : length (with_cells cells tallies) ≡ length tallies = length-with_cells cells tallies in let room : longest lists ≤ length tallies = sum.room in omega arith;
  each = λ t below. let under : t < length tallies = omega (arith, length-with_cells cells tallies) in
      tally_at-with_cells cells tallies t under ∙ ap (with_cell (slice_get cells t)) (sum.each t under) ∙ with_cell-tally_of cells lists t;
}

counts_with : (most : ℕ) (got : Option Cell) (tally : Tally) → AreCounts most tally → AreCounts (most + 1) (with_cell got tally)
counts_with most None tally c = record { present = omega arith; missing = omega arith; no_base = omega arith; range = omega arith }
counts_with most (Some Missing) tally c = record { present = omega arith; missing = omega arith; no_base = omega arith; range = omega arith }
counts_with most (Some (Value value)) tally c = record { present = omega arith; missing = omega arith; no_base = omega arith; range = omega arith }
counts_with most (Some NoBase) tally c = record { present = omega arith; missing = omega arith; no_base = omega arith; range = omega arith }
counts_with most (Some NoLink) tally c = record { present = omega arith; missing = omega arith; no_base = omega arith; range = omega arith }
counts_with most (Some Range) tally c = record { present = omega arith; missing = omega arith; no_base = omega arith; range = omega arith }

no_counts : (most : ℕ) → AreCounts most no_tally
no_counts most = record { present = omega arith; missing = omega arith; no_base = omega arith; range = omega arith }

-- each count rises by one at most
pub counts_more : (most : ℕ) (cells : List Cell) (tallies : List Tally) → ((t : ℕ) → AreCounts most (tally_at tallies t)) → (t : ℕ) → AreCounts (most + 1) (tally_at (with_cells cells tallies) t)
counts_more most cells tallies counts t = elim (cases_lt t (length tallies)) [
  | inl below ↦ subst (λ (tally : Tally). AreCounts (most + 1) tally) (sym (tally_at-with_cells cells tallies t below)) (counts_with most (slice_get cells t) (tally_at tallies t) (counts t))
  | inr past ↦ subst (λ (tally : Tally). AreCounts (most + 1) tally) (sym (get_or_past (with_cells cells tallies) t no_tally (omega (arith, length-with_cells cells tallies)))) (no_counts (most + 1))
]

-- how many lists have the quarter, with one more list
abbrev present_with : Bool → ℕ → ℕ
present_with here n = if here then 1 + n else n

abbrev is_there : Option Cell → Bool
is_there None = false
is_there (Some cell) = true

present_is : (got : Option Cell) (tally : Tally) → (with_cell got tally).present ≡ present_with (is_there got) tally.present
present_is None tally = refl
present_is (Some Missing) tally = refl
present_is (Some (Value value)) tally = refl
present_is (Some NoBase) tally = refl
present_is (Some NoLink) tally = refl
present_is (Some Range) tally = refl

same_there : (xs ys : List Cell) (t : ℕ) → length xs ≡ length ys → is_there (slice_get xs t) ≡ is_there (slice_get ys t)
same_there xs ys t same = elim (cases_lt t (length xs)) [
  | inl below ↦ ap is_there (slice_get-get_or xs t Missing below) ∙ sym (ap is_there (slice_get-get_or ys t Missing (omega arith)))
  | inr past ↦ ap is_there (slice_get_past xs t past) ∙ sym (ap is_there (slice_get_past ys t (omega arith)))
]

-- two lists of one length leave the counts of lists that have a quarter the same
pub same_present_more : (xs ys : List Cell) (value prev : List Tally) → length xs ≡ length ys → length prev ≡ length value → ((t : ℕ) → (tally_at value t).present ≡ (tally_at prev t).present) →
    (t : ℕ) → (tally_at (with_cells xs value) t).present ≡ (tally_at (with_cells ys prev) t).present
same_present_more xs ys value prev same as_long present t = elim (cases_lt t (length value)) [
  | inl below ↦ ap (λ (tally : Tally). tally.present) (tally_at-with_cells xs value t below) ∙ present_is (slice_get xs t) (tally_at value t)
      ∙ ap (λ here. present_with here (tally_at value t).present) (same_there xs ys t same) ∙ ap (λ n. present_with (is_there (slice_get ys t)) n) (present t)
      ∙ sym (ap (λ (tally : Tally). tally.present) (tally_at-with_cells ys prev t (omega arith)) ∙ present_is (slice_get ys t) (tally_at prev t))
  | inr past ↦ ap (λ (tally : Tally). tally.present) (get_or_past (with_cells xs value) t no_tally (omega (arith, length-with_cells xs value)))
      ∙ sym (ap (λ (tally : Tally). tally.present) (get_or_past (with_cells ys prev) t no_tally (omega (arith, length-with_cells ys prev))))
]

sum_at : (cells : List Cell) (tallies : List Tally) (t : ℕ) → t < length tallies → (tally_at (with_cells cells tallies) t).sum ≡ (with_cell (slice_get cells t) (tally_at tallies t)).sum
sum_at cells tallies t below = ap (λ (tally : Tally). tally.sum) (tally_at-with_cells cells tallies t below)

-- sums in their range are far from where the code's numbers end
pub value_sums_fit : (cells : List Cell) (tallies : List Tally) → AreValueSums (with_cells cells tallies) → (t : ℕ) → t < length tallies → unsigned_abs (with_cell (slice_get cells t) (tally_at tallies t)).sum ≤ 10 ^ 27
value_sums_fit cells tallies sums t below =
    let small : unsigned_abs (with_cell (slice_get cells t) (tally_at tallies t)).sum < 10 ^ 27 = subst (λ (z : ℤ). unsigned_abs z < 10 ^ 27) (sum_at cells tallies t below) (sums t) in omega arith

pub volume_sums_fit : (cells : List Cell) (tallies : List Tally) → AreVolumeSums (with_cells cells tallies) → (t : ℕ) → t < length tallies → unsigned_abs (with_cell (slice_get cells t) (tally_at tallies t)).sum ≤ 10 ^ 27
volume_sums_fit cells tallies sums t below =
    let small : unsigned_abs (with_cell (slice_get cells t) (tally_at tallies t)).sum ≤ 512 * 10 ^ 15 = subst (λ (z : ℤ). unsigned_abs z ≤ 512 * 10 ^ 15) (sum_at cells tallies t below) (sums t) in omega arith

-- what a vector holds after all of it was written
pub written_back : (n : ℕ) (items changed whole : List Tally) → n ≡ length items → changed ≡ whole → length whole ≡ length items → take n (changed ++ drop (length changed) items) ≡ whole
written_back n items changed whole len is same =
    subst (λ (list : List Tally). take n (list ++ drop (length list) items) ≡ whole) (sym is)
    (ap (λ rest. take n (whole ++ rest)) (drop_of_length-le items (omega arith)) ∙ ap (λ list. take n list) (append-nil whole) ∙ ap (λ k. take k whole) (len ∙ sym same) ∙ take-length whole)

-- where each quarter is reached, all are
pub all_reached : (tallies : List Tally) → ((k : ℕ) → k < length tallies → is_reached (get_or tallies k no_tally) ≡ true) → tallies ≡ take_while is_reached tallies
all_reached tallies reached =
    let all : prefix_len is_reached tallies ≡ length tallies = prefix_len_is is_reached tallies (length tallies) no_tally (omega arith) reached (λ below. absurd (omega arith)) in
    sym (ap (λ n. take n tallies) all ∙ take-length tallies)

-- two lists of tallies have the same cells where each quarter has
pub same_cells : (xs ys : List Tally) → length xs ≡ length ys → ((k : ℕ) → k < length xs → cell_of (get_or xs k no_tally) ≡ cell_of (get_or ys k no_tally)) → map cell_of xs ≡ map cell_of ys
same_cells [] [] same each = refl
same_cells [] (y ∷ ys) same each = absurd (omega arith)
same_cells (x ∷ xs) [] same each = absurd (omega arith)
same_cells (x ∷ xs) (y ∷ ys) same each =
    ap (λ cell. cell ∷ map cell_of xs) (each zero (omega arith)) ∙ ap (λ cells. cell_of y ∷ cells) (same_cells xs ys (omega arith) (λ k below. each (suc k) (omega arith)))

pub same_cell : (xs ys : List Tally) (k : ℕ) → k < length xs → k < length ys → map cell_of xs ≡ map cell_of ys → cell_of (get_or xs k no_tally) ≡ cell_of (get_or ys k no_tally)
same_cell xs ys k here there same =
    sym (get_or-map cell_of xs k no_tally Missing here) ∙ ap (λ cells. get_or cells k Missing) same ∙ get_or-map cell_of ys k no_tally Missing there
