-- What a sum keeps of each quarter, so that its cell is known and a child can be put in or taken out: the sum of the
-- values, and how many of the children's cells are of each mark. It is this product's own.
use Rattle.std.specs.Prelude.{◌≡◌, ℕ, ◌+◌, ◌^◌, ◌*◌, ◌≤◌, ◌<◌, nat_lt, ℤ, pos, ◌+ℤ◌, Bool, if◌then◌else◌, List, [], ◌∷◌}
use Rattle.std.specs.Prelude.{map, length, unsigned_abs, slice_get, slice_index_or, Option, Some, None, IfSome}
use Rattle.std.specs.List.{range_with_len, take_while}
use Rattle.price_base.specs.declared.Cell.{Cell}
use Rattle.price_base.specs.declared.Cell.TheVariants.{Missing, Value, NoBase, NoLink, Range}
use Rattle.price_base.specs.Cells.{is_missing, is_no_base, is_range, number_of, total}
use Rattle.aggregate_tree.specs.declared.tally.Tally.{Tally}
use Rattle.aggregate_tree.specs.Leaves.{cells_at, longest}

-- how many elements pass a test
abbrev pub count_of : {X : Type 0} → (X → Bool) → List X → ℕ
count_of test [] = 0
count_of test (x ∷ xs) = if test x then 1 + count_of test xs else count_of test xs

-- the tally of no children
abbrev pub no_tally : Tally
no_tally = record { sum = pos 0; present = 0; missing = 0; no_base = 0; range = 0 }

-- the tally of a quarter over lists of cells; how many lists have the quarter is counted too
abbrev pub tally_of : List (List Cell) → ℕ → Tally
tally_of lists t = record {
  sum = total (cells_at lists t);
  present = count_of (λ cells. nat_lt t (length cells)) lists;
  missing = count_of is_missing (cells_at lists t);
  no_base = count_of is_no_base (cells_at lists t);
  range = count_of is_range (cells_at lists t);
}

-- the tally of a quarter; past the end it is that of no children
abbrev pub tally_at : List Tally → ℕ → Tally
tally_at tallies t = slice_index_or tallies t no_tally

-- the tallies are those of the lists, and no list is longer
pub record IsSumOf (lists : List (List Cell)) (tallies : List Tally) : Type 0 where
  pub room : longest lists ≤ length tallies
  pub each : (t : ℕ) → t < length tallies → tally_at tallies t ≡ tally_of lists t

-- the cell of a quarter from its tally: the first mark that was counted, else the sum
abbrev pub cell_of : Tally → Cell
cell_of tally =
    if nat_lt 0 tally.missing then Missing
    else (if nat_lt 0 tally.no_base then NoBase
    else (if nat_lt 0 tally.range then Range else Value tally.sum))

-- a list has the quarter
abbrev pub is_reached : Tally → Bool
is_reached tally = nat_lt 0 tally.present

-- the cells of the quarters before the first that no list has
abbrev pub cells_of : List Tally → List Cell
cells_of tallies = map cell_of (take_while is_reached tallies)

-- a tally with the cell of one more list, or with none where that list has ended
abbrev pub with_cell : Option Cell → Tally → Tally
with_cell None tally = record {
  sum = tally.sum;
  present = tally.present;
  missing = 1 + tally.missing;
  no_base = tally.no_base;
  range = tally.range;
}
with_cell (Some Missing) tally = record {
  sum = tally.sum;
  present = 1 + tally.present;
  missing = 1 + tally.missing;
  no_base = tally.no_base;
  range = tally.range;
}
with_cell (Some (Value value)) tally = record {
  sum = value +ℤ tally.sum;
  present = 1 + tally.present;
  missing = tally.missing;
  no_base = tally.no_base;
  range = tally.range;
}
with_cell (Some NoBase) tally = record {
  sum = tally.sum;
  present = 1 + tally.present;
  missing = tally.missing;
  no_base = 1 + tally.no_base;
  range = tally.range;
}
with_cell (Some NoLink) tally = record {
  sum = tally.sum;
  present = 1 + tally.present;
  missing = tally.missing;
  no_base = tally.no_base;
  range = tally.range;
}
with_cell (Some Range) tally = record {
  sum = tally.sum;
  present = 1 + tally.present;
  missing = tally.missing;
  no_base = tally.no_base;
  range = 1 + tally.range;
}

-- the tallies with one more list
unfoldable pub with_cells : List Cell → List Tally → List Tally
with_cells cells tallies =
    map (λ t. with_cell (slice_get cells t) (tally_at tallies t)) (range_with_len 0 (length tallies))

-- the counts of a tally are at most so many
pub record AreCounts (most : ℕ) (tally : Tally) : Type 0 where
  pub present : tally.present ≤ most
  pub missing : tally.missing ≤ most
  pub no_base : tally.no_base ≤ most
  pub range : tally.range ≤ most

-- the range of a sum of values, in whole currency units
abbrev pub IsValueSum : ℤ → Type 0
IsValueSum z = unsigned_abs z < 10 ^ 27

-- the range of a sum of volumes at previous-year prices, in the same unit
abbrev pub IsVolumeSum : ℤ → Type 0
IsVolumeSum z = unsigned_abs z ≤ 512 * 10 ^ 15

-- in each quarter the sum of the values among the cells is in range
abbrev pub AreValueSums : List Tally → Type 0
AreValueSums tallies = (t : ℕ) → IsValueSum (tally_at tallies t).sum

abbrev pub AreVolumeSums : List Tally → Type 0
AreVolumeSums tallies = (t : ℕ) → IsVolumeSum (tally_at tallies t).sum

-- a cell of values, or of volumes, whose number, where it has one, is in the range of sums
abbrev pub IsValueInRange : Cell → Type 0
IsValueInRange cell = IfSome (number_of cell) IsValueSum

abbrev pub IsVolumeInRange : Cell → Type 0
IsVolumeInRange cell = IfSome (number_of cell) IsVolumeSum
