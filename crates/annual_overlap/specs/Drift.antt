-- What the drift of a level is worth: how far the level can be from the exact chained volume, which is never rounded.
-- It is this product's own.
use Rattle.std.specs.Prelude.{◌≡◌, ℕ, ◌+◌, ◌-◌, zero, suc, ℤ, pos, ◌*ℤ◌, ◌<ℤ◌, List, IsSomeAnd}
use Rattle.ratio_arith.specs.Nearness.{IsNear}
use Rattle.price_base.specs.declared.Cell.{Cell}
use Rattle.price_base.specs.declared.Cell.TheVariants.{Value}
use Rattle.price_base.specs.Cells.{cell_at, number_of}
use Rattle.annual_overlap.specs.Years.{number_or}

-- the product of the numbers of so many years from a year on; it is one where there are none
abbrev pub product_from : List Cell → ℕ → ℕ → ℤ
product_from cells start zero = pos 1
product_from cells start (suc n) = product_from cells start n *ℤ number_or (pos 1) (cell_at cells (start + n))

-- the exact chained volume of a year as one fraction: the reference year's value times the product of the links between
-- the two years, each a volume over the value before, or of their inverses for a year before the reference year. Of the
-- two spans one is always empty.
abbrev pub exact_num : List Cell → List Cell → ℕ → ℕ → ℤ
exact_num values volumes reference y =
    number_or (pos 1) (cell_at values reference) *ℤ product_from volumes (reference + 1) (y - reference)
    *ℤ product_from values y (reference - y)

abbrev pub exact_den : List Cell → List Cell → ℕ → ℕ → ℤ
exact_den values volumes reference y =
    product_from values reference (y - reference) *ℤ product_from volumes (y + 1) (reference - y)

-- a level in ten-thousandths is apart from the fraction num/den, which has a positive den, by at most the drift
abbrev pub IsWithinDrift : ℤ → Cell → ℤ → ℤ → Type 0
IsWithinDrift level cell num den =
    IsSomeAnd (number_of cell) (λ drift. (pos 0 <ℤ den) × IsNear (pos 10000 *ℤ num) (level *ℤ den) (drift *ℤ den))

-- each level that is a number is within its drift, which is then a number, of ten thousand times the exact chained
-- volume
abbrev pub AreWithinDrift : List Cell → List Cell → ℕ → List Cell → List Cell → Type 0
AreWithinDrift values volumes reference levels drifts =
    (y : ℕ) (level : ℤ) → cell_at levels y ≡ Value level →
    IsWithinDrift level (cell_at drifts y) (exact_num values volumes reference y) (exact_den values volumes reference y)
