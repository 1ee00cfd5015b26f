-- Division of whole numbers of either sign by a positive one: the floor, the ceiling, and the rounding to the nearest
-- whole with halves up.
use Rattle.std.specs.Prelude.{ℤ, pos, ◌+ℤ◌, ◌*ℤ◌, ◌≤ℤ◌, ◌<ℤ◌, neg_ℤ}
use Rattle.std.specs.Int.{int_div_euclid}

-- the floor of n/d, for a positive d
abbrev pub floor_of : ℤ → ℤ → ℤ
floor_of n d = int_div_euclid n d

-- the ceiling of n/d, for a positive d
abbrev pub ceil_of : ℤ → ℤ → ℤ
ceil_of n d = neg_ℤ (floor_of (neg_ℤ n) d)

-- n/d to the nearest whole number, halves up, for a positive d
abbrev pub round_of : ℤ → ℤ → ℤ
round_of n d = floor_of (pos 2 *ℤ n +ℤ d) (pos 2 *ℤ d)

-- q is the greatest whole number at most n/d
pub record IsFloor (n d q : ℤ) : Type 0 where
  pub at_most : (d *ℤ q) ≤ℤ n
  pub close : n <ℤ (d *ℤ q +ℤ d)

-- q is the least whole number at least n/d
pub record IsCeiling (n d q : ℤ) : Type 0 where
  pub at_least : n ≤ℤ (d *ℤ q)
  pub close : (d *ℤ q) <ℤ (n +ℤ d)

-- q is the whole number nearest to n/d: at most half above it, and less than half below it, so halves go up
pub record IsNearest (n d q : ℤ) : Type 0 where
  pub at_most_half_above : (pos 2 *ℤ (d *ℤ q)) ≤ℤ (pos 2 *ℤ n +ℤ d)
  pub below_half_under : (pos 2 *ℤ n) <ℤ (pos 2 *ℤ (d *ℤ q) +ℤ d)
