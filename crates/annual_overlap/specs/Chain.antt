-- The chain of an item's years by annual overlap, after chapter 8 of the IMF Quarterly National Accounts Manual (2017):
-- the year's volume at previous-year prices over the value of the year before links the two years. Levels in
-- ten-thousandths, rounded at each link, and the marks are this product's own.
use Rattle.std.specs.Prelude.{ℕ, ◌+◌, ◌-◌, ◌^◌, zero, suc, nat_lt, ℤ, pos, ◌+ℤ◌, ◌*ℤ◌, int_le, ◌&&◌, ◌||◌}
use Rattle.std.specs.Prelude.{if◌then◌else◌, List, map, length}
use Rattle.std.specs.List.{range_with_len}
use Rattle.ratio_arith.specs.Division.{round_of, ceil_of}
use Rattle.price_base.specs.declared.Cell.{Cell}
use Rattle.price_base.specs.declared.Cell.TheVariants.{Value, NoLink, Range}
use Rattle.price_base.specs.Cells.{cell_at}
use Rattle.annual_overlap.specs.declared.Ratio.{Ratio}
use Rattle.annual_overlap.specs.declared.Ratio.TheVariants.{Of, Broken}
use Rattle.annual_overlap.specs.declared.Point.{Point}
use Rattle.annual_overlap.specs.declared.Point.TheVariants.{Known, Marked}

-- the link of a year to the year before: its volume over the value before, where both are above zero and the value is
-- in range
abbrev pub link_of : Cell → Cell → Ratio
link_of (Value before) (Value volume) =
    if int_le volume (pos 0) || int_le before (pos 0) then Broken NoLink
    else (if int_le before (pos (10 ^ 18)) then Of volume before else Broken Range)
link_of before (Value volume) = Broken before
link_of before mark = Broken mark

-- the link between a year and the next
abbrev pub link_after : List Cell → List Cell → ℕ → Ratio
link_after values volumes y = link_of (cell_at values y) (cell_at volumes (y + 1))

-- a level and its drift, where both are in range
abbrev pub point_within : ℤ → ℤ → Point
point_within level drift =
    if int_le level (pos (10 ^ 19)) && int_le drift (pos (10 ^ 19)) then Known level drift else Marked Range

-- a level and its drift moved by the ratio of two numbers: the level is rounded, the drift is rounded up and grows by
-- one for that rounding
abbrev pub moved : ℤ → ℤ → ℤ → ℤ → Point
moved level drift over under = point_within (round_of (level *ℤ over) under) (ceil_of (drift *ℤ over) under +ℤ pos 1)

-- the level of a year from that of the year before: times the link
abbrev pub step_forward : Point → Ratio → Point
step_forward (Marked mark) link = Marked mark
step_forward (Known level drift) (Broken mark) = Marked mark
step_forward (Known level drift) (Of volume before) = moved level drift volume before

-- the level of a year from that of the year after: divided by the link
abbrev pub step_backward : Point → Ratio → Point
step_backward (Marked mark) link = Marked mark
step_backward (Known level drift) (Broken mark) = Marked mark
step_backward (Known level drift) (Of volume before) = moved level drift before volume

-- the level of the reference year is its value, in ten-thousandths and without drift
abbrev pub reference_point : Cell → Point
reference_point (Value value) =
    if int_le value (pos 0) then Marked NoLink
    else (if int_le value (pos (10 ^ 15)) then Known (pos 10000 *ℤ value) (pos 0) else Marked Range)
reference_point mark = Marked mark

-- the level so many years after the reference year
abbrev pub years_after : List Cell → List Cell → ℕ → ℕ → Point
years_after values volumes reference zero = reference_point (cell_at values reference)
years_after values volumes reference (suc n) =
    step_forward (years_after values volumes reference n) (link_after values volumes (reference + n))

-- the level so many years before the reference year
abbrev pub years_before : List Cell → List Cell → ℕ → ℕ → Point
years_before values volumes reference zero = reference_point (cell_at values reference)
years_before values volumes reference (suc n) =
    step_backward (years_before values volumes reference n) (link_after values volumes (reference - suc n))

-- the level of a year, reached from the reference year
abbrev pub point_at : List Cell → List Cell → ℕ → ℕ → Point
point_at values volumes reference y =
    if nat_lt y reference then years_before values volumes reference (reference - y)
    else years_after values volumes reference (y - reference)

-- the levels of the years, with their drifts
unfoldable pub points_of : List Cell → List Cell → ℕ → List Point
points_of values volumes reference = map (point_at values volumes reference) (range_with_len 0 (length values))

-- the level's cell
abbrev pub level_cell : Point → Cell
level_cell (Known level drift) = Value level
level_cell (Marked mark) = mark

-- the drift's cell: the same mark where the level is one
abbrev pub drift_cell : Point → Cell
drift_cell (Known level drift) = Value drift
drift_cell (Marked mark) = mark
