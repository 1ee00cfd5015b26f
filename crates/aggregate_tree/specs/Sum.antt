-- A sum of children as contracts see it.
use Rattle.std.specs.Prelude.{◌≡◌, ℕ, ◌+◌, ◌≤◌, List, length, replicate}
use Rattle.price_base.specs.declared.Cell.{Cell}
use Rattle.aggregate_tree.specs.declared.tally.Tally.{Tally}
use Rattle.aggregate_tree.specs.Tallies.{no_tally, tally_at, cells_of, with_cells}
use Rattle.aggregate_tree.specs.Tallies.{AreCounts, AreValueSums, AreVolumeSums}

-- how many children were added, and the tallies of their values and of their volumes at previous-year prices
pub record Sum : Type 0 where
  pub children : ℕ
  pub value : List Tally
  pub prev : List Tally

-- the sum of no children, with room for so many quarters
abbrev pub empty_sum : ℕ → Sum
empty_sum quarters = record { children = 0; value = replicate quarters no_tally; prev = replicate quarters no_tally }

-- the sum with one more child of these values and volumes
abbrev pub with_child : List Cell → List Cell → Sum → Sum
with_child value prev sum =
    record { children = sum.children + 1; value = with_cells value sum.value; prev = with_cells prev sum.prev }

-- two sums have the same cells
abbrev pub HaveSameCells : Sum → Sum → Type 0
HaveSameCells one other = (cells_of one.value ≡ cells_of other.value) × (cells_of one.prev ≡ cells_of other.prev)

-- what holds of each sum
pub record IsKept (children : ℕ) (value prev : List Tally) : Type 0 where
  pub few_children : children ≤ 512
  pub few_quarters : length value ≤ 512
  pub as_long : length prev ≡ length value
  pub value_counts : (t : ℕ) → AreCounts children (tally_at value t)
  pub prev_counts : (t : ℕ) → AreCounts children (tally_at prev t)
  pub value_sums : AreValueSums value
  pub prev_sums : AreVolumeSums prev
  pub same_present : (t : ℕ) → (tally_at value t).present ≡ (tally_at prev t).present
