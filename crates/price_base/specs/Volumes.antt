-- Volumes at previous-year prices of a leaf, after chapter 8 of the IMF Quarterly National Accounts Manual (2017): a
-- quarter's quantity at the average price of the year before. The quantity of a leaf, its ranges and the base of the
-- first year are this product's own.
use Rattle.std.specs.Prelude.{ℕ, ◌+◌, ◌-◌, ◌*◌, ◌/◌, ◌^◌, ◌≤◌, ℤ, pos, ◌+ℤ◌, ◌*ℤ◌, int_le, nat_le, Bool}
use Rattle.std.specs.Prelude.{IsTrue, ◌&&◌, if◌then◌else◌, List, map, length, slice_get, slice_index_or, unsigned_abs}
use Rattle.std.specs.Prelude.{Option, Some, None}
use Rattle.std.specs.List.{range_with_len}
use Rattle.ratio_arith.specs.Division.{round_of}
use Rattle.price_base.specs.declared.Cell.{Cell}
use Rattle.price_base.specs.declared.Cell.TheVariants.{Missing, Value, NoBase, Range}
use Rattle.price_base.specs.declared.Sold.{Sold}
use Rattle.price_base.specs.declared.Base.{Base}

-- a price that the tables take
abbrev pub IsPrice : ℕ → Type 0
IsPrice price = (1 ≤ price) × (price ≤ 10 ^ 9)

-- the quantity behind a value at a price, in millionths
abbrev pub quantity_of : ℤ → ℕ → ℤ
quantity_of value price = round_of (value *ℤ pos (10 ^ 6)) (pos price)

-- at most 10^15 in size
abbrev pub is_small : ℤ → Bool
is_small z = nat_le (unsigned_abs z) (10 ^ 15)

-- four numbers at most 10^15 in size
abbrev pub are_small : ℤ → ℤ → ℤ → ℤ → Bool
are_small a b c d = (is_small a && is_small b) && (is_small c && is_small d)

-- a quarter's value and quantity, where it has a value and a price
abbrev pub sold_of : Option ℤ → Option ℕ → Option Sold
sold_of (Some value) (Some price) = Some (record { value = value; quantity = quantity_of value price })
sold_of value price = None

-- what is sold in the quarter t of a leaf
abbrev pub sold_at : List ℤ → List (Option ℕ) → ℕ → Option Sold
sold_at values prices t = sold_of (slice_get values t) (slice_index_or prices t None)

-- a year's value and quantity, and whether its value and the quantities of its quarters are small
abbrev pub base_from : Sold → Sold → Sold → Sold → Base
base_from a b c d = record {
  value = a.value +ℤ b.value +ℤ c.value +ℤ d.value;
  quantity = a.quantity +ℤ b.quantity +ℤ c.quantity +ℤ d.quantity;
  small = is_small (a.value +ℤ b.value +ℤ c.value +ℤ d.value) && are_small a.quantity b.quantity c.quantity d.quantity;
}

-- the sizes of what is sold in a quarter
abbrev pub IsSoldInRange : Sold → Type 0
IsSoldInRange sold = (unsigned_abs sold.value ≤ 10 ^ 24) × (unsigned_abs sold.quantity ≤ 10 ^ 30)

-- the sizes of a base
abbrev pub IsBaseInRange : Base → Type 0
IsBaseInRange base =
    (IsTrue base.small → unsigned_abs base.value ≤ 10 ^ 15) × (unsigned_abs base.quantity ≤ 4 * 10 ^ 30)

-- a year is a base where each of its four quarters has a value and a price
abbrev pub base_of : Option Sold → Option Sold → Option Sold → Option Sold → Option Base
base_of (Some a) (Some b) (Some c) (Some d) = Some (base_from a b c d)
base_of a b c d = None

-- the base that the four quarters from a leaf's quarter start on make
abbrev pub base_at : List ℤ → List (Option ℕ) → ℕ → Option Base
base_at values prices start =
    base_of (sold_at values prices start) (sold_at values prices (start + 1))
    (sold_at values prices (start + 2)) (sold_at values prices (start + 3))

-- the first quarter of the base of a quarter's year: the year before, and for the first year itself
abbrev pub base_start : ℕ → ℕ
base_start t = 4 * (t / 4 - 1)

-- a volume within its range
abbrev pub volume_within : ℤ → Cell
volume_within volume = if is_small volume then Value volume else Range

-- the quarter's quantity at the base's average price, or the first mark whose case holds
abbrev pub volume_of : Option Base → Option Sold → Cell
volume_of (Some base) (Some own) =
    if is_small own.quantity && base.small
    then (if int_le base.quantity (pos 0) then NoBase else volume_within
    (round_of (own.quantity *ℤ base.value) base.quantity))
    else Range
volume_of base own = Missing

-- the volume cell of the quarter t of a leaf
abbrev pub volume_at : List ℤ → List (Option ℕ) → ℕ → Cell
volume_at values prices t = volume_of (base_at values prices (base_start t)) (sold_at values prices t)

-- the volume cells of a leaf, quarter by quarter
unfoldable pub volumes_of : List ℤ → List (Option ℕ) → List Cell
volumes_of values prices = map (volume_at values prices) (range_with_len 0 (length values))
