-- Figures of the years of an item, each from the four quarters of the year.
use Rattle.std.specs.Prelude.{ℕ, ◌+◌, ◌*◌, ◌/◌, ◌≤◌, ℤ, List, [], ◌∷◌, map, length, unsigned_abs, IfSome, unwrap_or}
use Rattle.std.specs.List.{range_with_len}
use Rattle.price_base.specs.declared.Cell.{Cell}
use Rattle.price_base.specs.Cells.{cell_at, combined, number_of}

-- how many years have one of so many quarters
abbrev pub year_count : ℕ → ℕ
year_count quarters = (quarters + 3) / 4

-- the cells of the four quarters of a year; a quarter that isn't there is missing
abbrev pub quarters_in : List Cell → ℕ → List Cell
quarters_in cells y =
    cell_at cells (4 * y) ∷ cell_at cells (4 * y + 1) ∷ cell_at cells (4 * y + 2) ∷ cell_at cells (4 * y + 3) ∷ []

-- the cell of a year: the sum of its four quarters, or the first mark among them in the order of sums
abbrev pub year_cell : List Cell → ℕ → Cell
year_cell cells y = combined (quarters_in cells y)

-- the cells of the years that have a quarter
unfoldable pub years_of : List Cell → List Cell
years_of cells = map (year_cell cells) (range_with_len 0 (year_count (length cells)))

-- the number in a cell; a mark has none, and stands for a number that does not matter
abbrev pub number_or : ℤ → Cell → ℤ
number_or other cell = unwrap_or (number_of cell) other

-- a cell whose number, where it has one, is at most so large in size
abbrev pub IsSizedCell : ℕ → Cell → Type 0
IsSizedCell size cell = IfSome (number_of cell) (λ number. unsigned_abs number ≤ size)
