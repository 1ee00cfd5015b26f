-- The chained quarters of an item. A complete year shares its level out in proportion to the quarters' volumes; a
-- quarter of another year is linked by the level over the value of the year before (chapter 8 of the IMF Quarterly
-- National Accounts Manual, 2017; the share-out, ranges and marks are this product's own).
use Rattle.std.specs.Prelude.{ℕ, ◌/◌, ◌%◌, ◌^◌, zero, suc, ℤ, pos, ◌*ℤ◌, int_le, nat_le, if◌then◌else◌, List}
use Rattle.std.specs.Prelude.{map, length, unsigned_abs}
use Rattle.std.specs.List.{range_with_len}
use Rattle.ratio_arith.specs.Division.{round_of}
use Rattle.sum_rounding.specs.ShareOut.{share_of}
use Rattle.price_base.specs.declared.Cell.{Cell}
use Rattle.price_base.specs.declared.Cell.TheVariants.{Value, NoLink, Range}
use Rattle.price_base.specs.Cells.{cell_at}
use Rattle.annual_overlap.specs.declared.Ratio.{Ratio}
use Rattle.annual_overlap.specs.declared.Ratio.TheVariants.{Of, Broken}
use Rattle.annual_overlap.specs.Years.{quarters_in, number_or}

-- the four quarters of a complete year with that level and that volume
abbrev pub complete_year : Cell → ℤ → List Cell → List Cell
complete_year (Value level) volume quarters =
    if int_le volume (pos 0) then map (λ quarter. NoLink) quarters
    else map Value (share_of (map (λ quarter. level *ℤ number_or (pos 0) quarter) quarters) volume level)
complete_year mark volume quarters = map (λ quarter. mark) quarters

-- the first of two cells that is a mark
abbrev pub first_mark : Cell → Cell → Cell
first_mark (Value number) second = second
first_mark mark second = mark

-- the level over the value of a year, by which the quarters of the year after are linked
abbrev pub rate_of : Cell → Cell → Ratio
rate_of (Value level) (Value value) =
    if int_le value (pos 0) then Broken NoLink
    else (if int_le value (pos (10 ^ 18)) then Of level value else Broken Range)
rate_of (Value level) mark = Broken mark
rate_of mark value = Broken mark

-- the rate of the quarters of a year; the first year has no year before, and so the mark of its volume or else of its
-- value
abbrev pub rate_at : List Cell → List Cell → List Cell → ℕ → Ratio
rate_at values volumes levels zero = Broken (first_mark (cell_at volumes 0) (cell_at values 0))
rate_at values volumes levels (suc y) = rate_of (cell_at levels y) (cell_at values y)

-- a chained quarter within its range
abbrev pub quarter_within : ℤ → Cell
quarter_within quarter = if nat_le (unsigned_abs quarter) (10 ^ 19) then Value quarter else Range

-- a quarter of a year that isn't complete: its volume times the rate; its own mark comes before that of the rate
abbrev pub linked_quarter : Ratio → Cell → Cell
linked_quarter (Of level value) (Value volume) = quarter_within (round_of (level *ℤ volume) value)
linked_quarter (Broken mark) (Value volume) = mark
linked_quarter rate mark = mark

-- the four quarters of a year; it is complete where its value and its volume are numbers, and then no quarter has a
-- mark
abbrev pub chained_year : Cell → Cell → Cell → Ratio → List Cell → List Cell
chained_year (Value value) (Value volume) level rate quarters = complete_year level volume quarters
chained_year value volume level rate quarters = map (linked_quarter rate) quarters

-- the chained quarters of a year, from the cells of the years, and the quarters' volumes
abbrev pub chained_in : List Cell → List Cell → List Cell → List Cell → ℕ → List Cell
chained_in values volumes levels quarters y =
    chained_year (cell_at values y) (cell_at volumes y) (cell_at levels y)
    (rate_at values volumes levels y) (quarters_in quarters y)

-- a chained quarter
abbrev pub chained_at : List Cell → List Cell → List Cell → List Cell → ℕ → Cell
chained_at values volumes levels quarters t = cell_at (chained_in values volumes levels quarters (t / 4)) (t % 4)

-- the chained quarters
unfoldable pub chained_of : List Cell → List Cell → List Cell → List Cell → List Cell
chained_of values volumes levels quarters =
    map (chained_at values volumes levels quarters) (range_with_len 0 (length quarters))
