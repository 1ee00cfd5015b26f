-- Cells of the tests, whose numbers are so small that no sum of a few of them comes near its range.
use Rattle.std.specs.Prelude.{◌^◌, nat_le, Bool, true, false, unsigned_abs}
use Rattle.price_base.specs.declared.Cell.{Cell}
use Rattle.price_base.specs.declared.Cell.TheVariants.{Missing, Value, NoBase, NoLink, Range}

-- a mark of flows, or a number at most 10^6 in size
abbrev pub is_small_cell : Cell → Bool
is_small_cell (Value value) = nat_le (unsigned_abs value) (10 ^ 6)
is_small_cell NoLink = false
is_small_cell Missing = true
is_small_cell NoBase = true
is_small_cell Range = true
