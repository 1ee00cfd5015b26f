-- What holds of each sum, and of its cells.
use Rattle.std.proofs.Common.{◌≡◌, ◌∙◌, ap, sym, refl, subst, ℕ, zero, suc, ◌+◌, ◌<◌, ◌≤◌, nat_lt, ℤ, Bool, true, false, if◌then◌else◌, List, [], ◌∷◌, length, get_or, arith}
use Rattle.std.specs.List.{All, prefix_len, take_while}
use Rattle.std.proofs.lemmas.List.{get_or_default, length-map, length-take}
use Rattle.std.proofs.lemmas.List.Elements.{All-map, All-take}
use Rattle.price_base.specs.declared.Cell.{Cell}
use Rattle.price_base.specs.declared.Cell.TheVariants.{Missing, Value, NoBase, Range}
use Rattle.price_base.specs.Cells.{IsFlow}
use Rattle.aggregate_tree.specs.declared.tally.Tally.{Tally}
use Rattle.aggregate_tree.specs.Tallies.{no_tally, tally_at, cell_of, is_reached, cells_of, with_cells, IsValueSum, IsVolumeSum, AreValueSums, AreVolumeSums, IsValueInRange, IsVolumeInRange}
use Rattle.aggregate_tree.specs.Sum.{IsKept}
use Rattle.aggregate_tree.proofs.Counts.{cells_of-cons}
use Rattle.aggregate_tree.proofs.Places.{length-with_cells, counts_more, same_present_more}

pub kept_more : (children : ℕ) (value prev : List Tally) (xs ys : List Cell) → IsKept children value prev → children < 512 → length xs ≡ length ys →
    AreValueSums (with_cells xs value) → AreVolumeSums (with_cells ys prev) → IsKept (children + 1) (with_cells xs value) (with_cells ys prev)
kept_more children value prev xs ys kept few same value_sums prev_sums = record {
  few_children = omega arith;
  few_quarters = omega (arith, length-with_cells xs value);
  as_long = omega (arith, length-with_cells xs value, length-with_cells ys prev);
  value_counts = counts_more children xs value kept.value_counts;
  prev_counts = counts_more children ys prev kept.prev_counts;
  value_sums = value_sums;
  prev_sums = prev_sums;
  same_present = same_present_more xs ys value prev same kept.as_long kept.same_present;
}

length-cells_of : (tally : Tally) (tallies : List Tally) → length (cells_of (tally ∷ tallies)) ≡ (if is_reached tally then suc (length (cells_of tallies)) else 0)
length-cells_of tally tallies = ap length (cells_of-cons tally tallies) ∙ length_if (is_reached tally)
  where
    length_if : (reached : Bool) → length (if reached then cell_of tally ∷ cells_of tallies else []) ≡ (if reached then suc (length (cells_of tallies)) else 0)
    length_if true = refl
    length_if false = refl

-- a sum has as many volumes as values
pub same_cells_length : (value prev : List Tally) → length prev ≡ length value → ((t : ℕ) → (tally_at value t).present ≡ (tally_at prev t).present) → length (cells_of value) ≡ length (cells_of prev)
same_cells_length [] [] same present = refl
same_cells_length [] (y ∷ prev) same present = absurd (omega arith)
same_cells_length (x ∷ value) [] same present = absurd (omega arith)
same_cells_length (x ∷ value) (y ∷ prev) same present =
    length-cells_of x value ∙ ap (λ n. if nat_lt 0 n then suc (length (cells_of value)) else 0) (present zero)
    ∙ ap (λ n. if is_reached y then suc n else 0) (same_cells_length value prev (omega arith) (λ t. present (suc t))) ∙ sym (length-cells_of y prev)

-- a sum has no more cells than it has room for
pub cells_few : (tallies : List Tally) → length (cells_of tallies) ≤ length tallies
cells_few tallies = omega (arith, length-map (take_while is_reached tallies) cell_of, length-take (prefix_len is_reached tallies) tallies)

-- no cell of a sum is the mark of a link
cell_flow : (missing no_base range : Bool) (sum : ℤ) → IsFlow (if missing then Missing else (if no_base then NoBase else (if range then Range else Value sum)))
cell_flow true no_base range sum e = cc
cell_flow false true range sum e = cc
cell_flow false false true sum e = cc
cell_flow false false false sum e = cc

pub flows_of_sum : (tallies : List Tally) → All IsFlow (cells_of tallies)
flows_of_sum tallies =
    All-map IsFlow cell_of (take_while is_reached tallies) (λ k d below. let tally : Tally = get_or (take_while is_reached tallies) k d in cell_flow (nat_lt 0 tally.missing) (nat_lt 0 tally.no_base) (nat_lt 0 tally.range) tally.sum)

value_cell : (missing no_base range : Bool) (sum : ℤ) → IsValueSum sum → IsValueInRange (if missing then Missing else (if no_base then NoBase else (if range then Range else Value sum)))
value_cell true no_base range sum h = tt
value_cell false true range sum h = tt
value_cell false false true sum h = tt
value_cell false false false sum h = h

volume_cell : (missing no_base range : Bool) (sum : ℤ) → IsVolumeSum sum → IsVolumeInRange (if missing then Missing else (if no_base then NoBase else (if range then Range else Value sum)))
volume_cell true no_base range sum h = tt
volume_cell false true range sum h = tt
volume_cell false false true sum h = tt
volume_cell false false false sum h = h

pub values_in_range : (tallies : List Tally) → AreValueSums tallies → All IsValueInRange (cells_of tallies)
values_in_range tallies sums =
    All-map IsValueInRange cell_of (take_while is_reached tallies)
    (All-take (λ tally. IsValueInRange (cell_of tally)) (prefix_len is_reached tallies) tallies
    (λ k d below. subst (λ (tally : Tally). IsValueInRange (cell_of tally)) (get_or_default tallies k no_tally d below)
    (let tally : Tally = tally_at tallies k in value_cell (nat_lt 0 tally.missing) (nat_lt 0 tally.no_base) (nat_lt 0 tally.range) tally.sum (sums k))))

pub volumes_in_range : (tallies : List Tally) → AreVolumeSums tallies → All IsVolumeInRange (cells_of tallies)
volumes_in_range tallies sums =
    All-map IsVolumeInRange cell_of (take_while is_reached tallies)
    (All-take (λ tally. IsVolumeInRange (cell_of tally)) (prefix_len is_reached tallies) tallies
    (λ k d below. subst (λ (tally : Tally). IsVolumeInRange (cell_of tally)) (get_or_default tallies k no_tally d below)
    (let tally : Tally = tally_at tallies k in volume_cell (nat_lt 0 tally.missing) (nat_lt 0 tally.no_base) (nat_lt 0 tally.range) tally.sum (sums k))))
