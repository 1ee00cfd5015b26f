-- How far a sum grows with one more child: for callers that know how large each child's numbers are.
use Rattle.std.proofs.Common.{◌≡◌, ◌∙◌, ap, sym, refl, subst, inl, inr, ℕ, ◌+◌, ◌<◌, ◌≤◌, ◌^◌, ◌*◌, ℤ, ◌+ℤ◌, unsigned_abs, true, List, length, get_or, arith}
use Rattle.std.specs.Prelude.{slice_get, Option, Some, None, unwrap_or}
use Rattle.std.proofs.Math.IntN.{+ℤ_idl}
use Rattle.std.proofs.lemmas.Int.{ints}
use Rattle.std.specs.List.{All, list_all}
use Rattle.std.proofs.lemmas.Bool.{cases_lt, leb-true}
use Rattle.std.proofs.lemmas.List.Sums.{AllPass-from_list_all}
use Rattle.std.proofs.lemmas.List.{get_or_past}
use Rattle.std.proofs.lemmas.Option.{unwrap_or-slice_get}
use Rattle.price_base.specs.declared.Cell.{Cell}
use Rattle.price_base.specs.declared.Cell.TheVariants.{Missing, Value, NoBase, NoLink, Range}
use Rattle.price_base.specs.Cells.{cell_at, IsFlow}
use Rattle.aggregate_tree.specs.declared.tally.Tally.{Tally}
use Rattle.aggregate_tree.specs.Tallies.{no_tally, tally_at, with_cell, with_cells, AreValueSums, AreVolumeSums}
use Rattle.aggregate_tree.specs.Small.{is_small_cell}
use Rattle.aggregate_tree.proofs.Combining.{amount_of}
use Rattle.aggregate_tree.proofs.Places.{length-with_cells, tally_at-with_cells}

size-+ℤ : (a b : ℤ) (m n : ℕ) → unsigned_abs a ≤ m → unsigned_abs b ≤ n → unsigned_abs (a +ℤ b) ≤ m + n
size-+ℤ a b m n ha hb = omega (arith, ints)

sum_with : (got : Option Cell) (tally : Tally) → (with_cell got tally).sum ≡ amount_of (unwrap_or got Missing) +ℤ tally.sum
sum_with None tally = sym (+ℤ_idl tally.sum)
sum_with (Some Missing) tally = sym (+ℤ_idl tally.sum)
sum_with (Some (Value value)) tally = refl
sum_with (Some NoBase) tally = sym (+ℤ_idl tally.sum)
sum_with (Some NoLink) tally = sym (+ℤ_idl tally.sum)
sum_with (Some Range) tally = sym (+ℤ_idl tally.sum)

-- with a child whose numbers are at most so large each sum grows by as much at most
pub sums_grow : (size most : ℕ) (cells : List Cell) (tallies : List Tally) → ((t : ℕ) → unsigned_abs (amount_of (cell_at cells t)) ≤ size) → ((t : ℕ) → unsigned_abs (tally_at tallies t).sum ≤ most) →
    (t : ℕ) → unsigned_abs (tally_at (with_cells cells tallies) t).sum ≤ size + most
sums_grow size most cells tallies small sums t = elim (cases_lt t (length tallies)) [
  | inl below ↦ subst (λ (z : ℤ). unsigned_abs z ≤ size + most)
      (sym (ap (λ (tally : Tally). tally.sum) (tally_at-with_cells cells tallies t below) ∙ sum_with (slice_get cells t) (tally_at tallies t) ∙ ap (λ cell. amount_of cell +ℤ (tally_at tallies t).sum) (unwrap_or-slice_get cells t Missing)))
      (size-+ℤ (amount_of (cell_at cells t)) (tally_at tallies t).sum size most (small t) (sums t))
  | inr past ↦ subst (λ (tally : Tally). unsigned_abs tally.sum ≤ size + most) (sym (get_or_past (with_cells cells tallies) t no_tally (omega (arith, length-with_cells cells tallies)))) (omega arith)
]

small_amount : (cell : Cell) → is_small_cell cell ≡ true → unsigned_abs (amount_of cell) ≤ 10 ^ 6
small_amount (Value value) small = leb-true (unsigned_abs value) (10 ^ 6) small
small_amount Missing small = omega arith
small_amount NoBase small = omega arith
small_amount NoLink small = omega arith
small_amount Range small = omega arith

-- the numbers of small cells, also past their end
pub small_amounts : (cells : List Cell) → list_all is_small_cell cells ≡ true → (t : ℕ) → unsigned_abs (amount_of (cell_at cells t)) ≤ 10 ^ 6
small_amounts cells small t = elim (cases_lt t (length cells)) [
  | inl below ↦ small_amount (get_or cells t Missing) (AllPass-from_list_all is_small_cell cells small t Missing below)
  | inr past ↦ subst (λ (cell : Cell). unsigned_abs (amount_of cell) ≤ 10 ^ 6) (sym (get_or_past cells t Missing past)) (omega arith)
]

small_flow : (cell : Cell) → is_small_cell cell ≡ true → IsFlow cell
small_flow Missing small e = cc
small_flow (Value value) small e = cc
small_flow NoBase small e = cc
small_flow NoLink small e = absurd (cc)
small_flow Range small e = cc

pub small_flows : (cells : List Cell) → list_all is_small_cell cells ≡ true → All IsFlow cells
small_flows cells small k d below = small_flow (get_or cells k d) (AllPass-from_list_all is_small_cell cells small k d below)

-- what a sum with room for at most 512 such children owes, and how large it is then
pub small_value_sums : (n : ℕ) (cells : List Cell) (tallies : List Tally) → n < 512 → list_all is_small_cell cells ≡ true → ((t : ℕ) → unsigned_abs (tally_at tallies t).sum ≤ n * 10 ^ 6) → AreValueSums (with_cells cells tallies)
small_value_sums n cells tallies few small sums t =
    let grown : unsigned_abs (tally_at (with_cells cells tallies) t).sum ≤ 10 ^ 6 + n * 10 ^ 6 = sums_grow (10 ^ 6) (n * 10 ^ 6) cells tallies (small_amounts cells small) sums t in omega arith

pub small_volume_sums : (n : ℕ) (cells : List Cell) (tallies : List Tally) → n < 512 → list_all is_small_cell cells ≡ true → ((t : ℕ) → unsigned_abs (tally_at tallies t).sum ≤ n * 10 ^ 6) → AreVolumeSums (with_cells cells tallies)
small_volume_sums n cells tallies few small sums t =
    let grown : unsigned_abs (tally_at (with_cells cells tallies) t).sum ≤ 10 ^ 6 + n * 10 ^ 6 = sums_grow (10 ^ 6) (n * 10 ^ 6) cells tallies (small_amounts cells small) sums t in omega arith

pub small_sums_more : (n : ℕ) (cells : List Cell) (tallies new : List Tally) → new ≡ with_cells cells tallies → list_all is_small_cell cells ≡ true → ((t : ℕ) → unsigned_abs (tally_at tallies t).sum ≤ n * 10 ^ 6) →
    (t : ℕ) → unsigned_abs (tally_at new t).sum ≤ (n + 1) * 10 ^ 6
small_sums_more n cells tallies new is small sums t = subst (λ (list : List Tally). unsigned_abs (tally_at list t).sum ≤ (n + 1) * 10 ^ 6) (sym is)
    (let grown : unsigned_abs (tally_at (with_cells cells tallies) t).sum ≤ 10 ^ 6 + n * 10 ^ 6 = sums_grow (10 ^ 6) (n * 10 ^ 6) cells tallies (small_amounts cells small) sums t in omega arith)
