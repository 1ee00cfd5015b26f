-- An item's chain as a whole.
use Rattle.std.specs.Prelude.{◌≡◌, ℕ, ℤ, pos, ◌<ℤ◌, List, map}
use Rattle.price_base.specs.declared.Cell.{Cell}
use Rattle.price_base.specs.declared.Cell.TheVariants.{Value}
use Rattle.price_base.specs.Cells.{cell_at}
use Rattle.sum_rounding.specs.ShareOut.{sum_of}
use Rattle.annual_overlap.specs.declared.ChainTable.{ChainTable}
use Rattle.annual_overlap.specs.Years.{quarters_in, years_of}
use Rattle.annual_overlap.specs.Chain.{points_of, level_cell, drift_cell}
use Rattle.annual_overlap.specs.Quarters.{chained_of}

-- the chain of an item's values and volumes at previous-year prices, quarter by quarter, with that reference year
unfoldable pub chain_of : List Cell → List Cell → ℕ → ChainTable
chain_of value prev reference =
    let values : List Cell = years_of value in
    let volumes : List Cell = years_of prev in
    let levels : List Cell = map level_cell (points_of values volumes reference) in
    record {
      value = values;
      prev = volumes;
      level = levels;
      drift = map drift_cell (points_of values volumes reference);
      quarter = chained_of values volumes levels prev;
    }

-- cells are all numbers, and these add up to that sum; no mark is among them
abbrev pub AreNumbersAddingTo : ℤ → List Cell → Type 0
AreNumbersAddingTo sum cells = (numbers : List ℤ) × (cells ≡ map Value numbers) × (sum_of numbers ≡ sum)

-- the quarters of each complete year with a level and a volume above zero are four numbers that add up to the level
abbrev pub DoQuartersAddUp : ChainTable → Type 0
DoQuartersAddUp table =
    (y : ℕ) (value volume level : ℤ) → cell_at table.value y ≡ Value value → cell_at table.prev y ≡ Value volume →
    cell_at table.level y ≡ Value level → pos 0 <ℤ volume → AreNumbersAddingTo level (quarters_in table.quarter y)
