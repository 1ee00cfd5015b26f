-- Cells: figures or marks, and what a sum of cells is.
use Rattle.std.specs.Prelude.{◌≢◌, ℕ, ℤ, pos, ◌+ℤ◌, Bool, true, false, if◌then◌else◌, List, [], ◌∷◌, slice_index_or}
use Rattle.std.specs.Prelude.{Option, Some, None}
use Rattle.std.specs.List.{list_any}
use Rattle.price_base.specs.declared.Cell.{Cell}
use Rattle.price_base.specs.declared.Cell.TheVariants.{Missing, Value, NoBase, NoLink, Range}

-- the cell of a quarter; past the end it is missing
abbrev pub cell_at : List Cell → ℕ → Cell
cell_at cells t = slice_index_or cells t Missing

-- a cell of an item's flows: a value, or any mark but that of a link
abbrev pub IsFlow : Cell → Type 0
IsFlow cell = cell ≢ NoLink

-- tests for the three marks of flows
abbrev pub is_missing : Cell → Bool
is_missing Missing = true
is_missing _ = false

abbrev pub is_no_base : Cell → Bool
is_no_base NoBase = true
is_no_base _ = false

abbrev pub is_range : Cell → Bool
is_range Range = true
is_range _ = false

-- the number in a cell; a mark has none
abbrev pub number_of : Cell → Option ℤ
number_of (Value number) = Some number
number_of _ = None

-- the sum of the values among cells
abbrev pub total : List Cell → ℤ
total [] = pos 0
total (Value value ∷ cells) = value +ℤ total cells
total (Missing ∷ cells) = total cells
total (NoBase ∷ cells) = total cells
total (NoLink ∷ cells) = total cells
total (Range ∷ cells) = total cells

-- the cell of a sum: the first mark that occurs, in the order missing, no base, range; else the sum of the values
abbrev pub combined : List Cell → Cell
combined cells =
    if list_any is_missing cells then Missing
    else (if list_any is_no_base cells then NoBase
    else (if list_any is_range cells then Range else Value (total cells)))
