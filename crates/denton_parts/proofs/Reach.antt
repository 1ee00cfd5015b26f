-- How far a year's levels, and the values that are made of them, reach.
use Rattle.std.specs.Prelude.{◌≡◌, ℕ, ◌+◌, ◌*◌, ◌^◌, ◌≤◌, ◌<◌, List, [], ◌∷◌, slice_index, ℤ, pos, ◌+ℤ◌, ◌-ℤ◌, ◌*ℤ◌, ◌<ℤ◌, unsigned_abs}
use Rattle.std.proofs.Common.{refl, arith, get_or}
use Rattle.std.proofs.lemmas.Int.{unsigned_abs-mul}
use Rattle.std.proofs.Math.Nat.{pow-le-pow_right, one-le-pow, mul-le-mul, mul-le-mul_right, le_of_mul-le-mul_left, mul-le-mul_left}
use Rattle.ratio_arith.specs.Division.{floor_of, IsFloor, IsNearest}
use Rattle.ratio_arith.specs.Nearness.{IsNear}
use Rattle.ratio_arith.proofs.Floors.{floor_size}
use Rattle.ratio_arith.proofs.Linear.{linear, literal_product}
use Rattle.ratio_arith.proofs.Order.{size-*ℤ}
use Rattle.ratio_arith.proofs.Ring.{same_by_ring, var, num, ◌⊕◌, ◌⊗◌}
use Rattle.denton_parts.specs.Changes.{change_of}
use Rattle.denton_parts.specs.Level.{floored_change, rises, level_of, level_in, level_unit, ratio_floor}
use Rattle.denton_parts.specs.Year.{BenchmarkedYear, AreIndicators, IsMultiplier, year_sum}
use Rattle.denton_parts.proofs.Sizes.{weighed_within, rise_size}

-- the floor of a change between two multipliers is within 10^15
change_within : (left right : ℤ) (sum before : ℕ) → IsMultiplier left → IsMultiplier right → 1 ≤ sum → before ≤ sum → unsigned_abs (floor_of (change_of left right sum before).numerator (pos sum)) ≤ 10 ^ 15
change_within left right sum before first second some within =
    let bounds = weighed_within left right (pos sum) (pos before) (10 ^ 15) first second (omega (arith, linear)) (omega (arith, linear)) in
    floor_size (left *ℤ (pos sum -ℤ pos before) +ℤ right *ℤ pos before) (pos sum) (10 ^ 15) (omega (arith, linear)) bounds.0 bounds.1

-- each quarter's rise is within three times that
rise_within : (indicators : List ℕ) (left right : ℤ) (j : ℕ) → AreIndicators indicators → IsMultiplier left → IsMultiplier right → unsigned_abs (get_or (rises indicators left right) j (pos 0)) ≤ 3 * 10 ^ 15
rise_within indicators left right j are first second =
    let one = change_within left right (year_sum indicators) (slice_index indicators 0) first second (omega (arith, are.first.0)) (omega arith) in
    let two = change_within left right (year_sum indicators) (slice_index indicators 0 + slice_index indicators 1) first second (omega (arith, are.first.0)) (omega arith) in
    let three = change_within left right (year_sum indicators) (slice_index indicators 0 + slice_index indicators 1 + slice_index indicators 2) first second (omega (arith, are.first.0)) (omega arith) in
    all (floored_change indicators left right 1) (floored_change indicators left right 2) (floored_change indicators left right 3) one two three
  where
    all : (a b c : ℤ) → unsigned_abs a ≤ 10 ^ 15 → unsigned_abs b ≤ 10 ^ 15 → unsigned_abs c ≤ 10 ^ 15 → unsigned_abs (get_or (pos 0 ∷ a ∷ (a +ℤ b) ∷ (a +ℤ b +ℤ c) ∷ []) j (pos 0)) ≤ 3 * 10 ^ 15
    all a b c ha hb hc = rise_size a (a +ℤ b) (a +ℤ b +ℤ c) j ha (omega (arith, linear)) (omega (arith, linear))

-- the parts of a level are small beside the sum
level_parts : (base a b c d : ℤ) (i j k sum : ℕ) → unsigned_abs base ≤ 10 ^ 13 * sum → unsigned_abs a ≤ i * (3 * 10 ^ 15) → unsigned_abs b ≤ j * (3 * 10 ^ 15) → unsigned_abs c ≤ k * (3 * 10 ^ 15) → unsigned_abs d ≤ sum * (3 * 10 ^ 15) → i + j + k ≤ sum →
    unsigned_abs (base -ℤ (a +ℤ b +ℤ c) +ℤ d) ≤ 7 * 10 ^ 15 * sum
level_parts base a b c d i j k sum hbase ha hb hc hd all = omega (arith, linear)

-- a level is within 7 * 10^15 times the year's indicator sum
pub level_within : (indicators : List ℕ) (bench : ℤ) (k : ℕ) (left right : ℤ) (j : ℕ) → AreIndicators indicators → IsMultiplier left → IsMultiplier right → 10 ^ k * unsigned_abs bench ≤ 10 ^ 13 * year_sum indicators →
    unsigned_abs (level_of indicators bench k left right j) ≤ 7 * 10 ^ 15 * year_sum indicators
level_within indicators bench k left right j are first second fits =
    let base : unsigned_abs (pos (10 ^ k) *ℤ bench) ≤ 10 ^ 13 * year_sum indicators = omega (arith, unsigned_abs-mul (pos (10 ^ k)) bench) in
    let one = size-*ℤ (pos (slice_index indicators 1)) (get_or (rises indicators left right) 1 (pos 0)) (slice_index indicators 1) (3 * 10 ^ 15) (omega arith) (rise_within indicators left right 1 are first second) in
    let two = size-*ℤ (pos (slice_index indicators 2)) (get_or (rises indicators left right) 2 (pos 0)) (slice_index indicators 2) (3 * 10 ^ 15) (omega arith) (rise_within indicators left right 2 are first second) in
    let three = size-*ℤ (pos (slice_index indicators 3)) (get_or (rises indicators left right) 3 (pos 0)) (slice_index indicators 3) (3 * 10 ^ 15) (omega arith) (rise_within indicators left right 3 are first second) in
    let own = size-*ℤ (pos (year_sum indicators)) (get_or (rises indicators left right) j (pos 0)) (year_sum indicators) (3 * 10 ^ 15) (omega arith) (rise_within indicators left right j are first second) in
    level_parts (pos (10 ^ k) *ℤ bench) (pos (slice_index indicators 1) *ℤ get_or (rises indicators left right) 1 (pos 0)) (pos (slice_index indicators 2) *ℤ get_or (rises indicators left right) 2 (pos 0)) (pos (slice_index indicators 3) *ℤ get_or (rises indicators left right) 3 (pos 0)) (pos (year_sum indicators) *ℤ get_or (rises indicators left right) j (pos 0)) _ _ _ (year_sum indicators) base one two three own (omega arith)

-- the floor of a quotient, times the divisor, is near to the numerator
pub near_floor : (n d q : ℤ) → pos 0 <ℤ d → IsFloor n d q → IsNear n (d *ℤ q) d
near_floor n d q positive floor = omega (arith, linear)

-- so is one more than the floor
pub near_one_more : (n d q : ℤ) → pos 0 <ℤ d → IsFloor n d q → IsNear n (d *ℤ (q +ℤ pos 1)) d
near_one_more n d q positive floor =
    let next : d *ℤ (q +ℤ pos 1) ≡ d *ℤ q +ℤ d = same_by_ring (d ∷ q ∷ []) (var 0 ⊗ (var 1 ⊕ num (pos 1))) (var 0 ⊗ var 1 ⊕ var 0) refl in
    omega (arith, linear)

-- so is the rounded quotient
pub near_rounded : (n d q : ℤ) → pos 0 <ℤ d → IsNearest n d q → IsNear n (d *ℤ q) d
near_rounded n d q positive nearest = omega (arith, linear, literal_product)

-- what is near to a number of some size is not much larger
size_near : (n m : ℤ) (d : ℕ) → IsNear n m (pos d) → unsigned_abs m ≤ unsigned_abs n + d
size_near n m d near = omega (arith, linear)

-- a value near to its indicator times its level over the scale and the sum: its ratio to the indicator is within 8 * 10^15
pub value_within : (i sum k : ℕ) (level value : ℤ) → 1 ≤ i → 1 ≤ sum → k ≤ 15 → unsigned_abs level ≤ 7 * 10 ^ 15 * sum → IsNear (pos i *ℤ level) ((pos (10 ^ k) *ℤ pos sum) *ℤ value) (pos (10 ^ k) *ℤ pos sum) →
    10 ^ k * unsigned_abs value ≤ 8 * 10 ^ 15 * i
value_within i sum k level value some positive small within near =
    let size = size_near (pos i *ℤ level) ((pos (10 ^ k) *ℤ pos sum) *ℤ value) (10 ^ k * sum) near in
    let left = unsigned_abs-mul (pos (10 ^ k) *ℤ pos sum) value in
    let right = unsigned_abs-mul (pos i) level in
    let most = mul-le-mul_left i within in
    let scaled : sum * (10 ^ k * unsigned_abs value) ≤ sum * (7 * 10 ^ 15 * i + 10 ^ k) = grind (arith, left, right, size, most) in
    let unit : 10 ^ k ≤ 10 ^ 15 = pow-le-pow_right (omega arith) small in
    let taken = le_of_mul-le-mul_left scaled (omega arith) in
    omega arith

-- what a year's levels are counted in is positive
pub level_unit_positive : (k : ℕ) (year : BenchmarkedYear) → AreIndicators year.indicators →
    pos 0 <ℤ level_unit k year
level_unit_positive k year are =
    let least : 1 ≤ 10 ^ k = one-le-pow k 10 (omega arith) in
    let some : 1 ≤ year_sum year.indicators = omega (arith, are.first.0) in
    let positive : 1 * 1 ≤ 10 ^ k * year_sum year.indicators = mul-le-mul least some in
    omega (arith, linear)

-- the floor of a quarter's ratio is within 7 * 10^15
pub ratio_within : (k : ℕ) (year : BenchmarkedYear) (left right : ℤ) (j : ℕ) → AreIndicators year.indicators →
    IsMultiplier left → IsMultiplier right →
    10 ^ k * unsigned_abs year.benchmark ≤ 10 ^ 13 * year_sum year.indicators →
    unsigned_abs (ratio_floor k year left right j) ≤ 7 * 10 ^ 15
ratio_within k year left right j are first second fits =
    let within = level_within year.indicators year.benchmark k left right j are first second fits in
    by (level_in k year left right j) (year_sum year.indicators) (omega (arith, are.first.0)) within
  where
    by : (level : ℤ) (sum : ℕ) → 1 ≤ sum → unsigned_abs level ≤ 7 * 10 ^ 15 * sum →
        unsigned_abs (floor_of level (pos sum)) ≤ 7 * 10 ^ 15
    by level sum some within =
        floor_size level (pos sum) (7 * 10 ^ 15) (omega (arith, linear)) (omega (arith, linear))
        (omega (arith, linear))

-- at a scale of 10 or more a value of that reach is below 10^24
pub value_small : (k i : ℕ) (value : ℤ) → 1 ≤ k → i ≤ 10 ^ 9 → 10 ^ k * unsigned_abs value ≤ 8 * 10 ^ 15 * i → unsigned_abs value < 10 ^ 24
value_small k i value some few within =
    let unit : 10 ^ 1 ≤ 10 ^ k = pow-le-pow_right (omega arith) some in
    let less : 10 ^ 1 * unsigned_abs value ≤ 10 ^ k * unsigned_abs value = mul-le-mul_right (unsigned_abs value) unit in
    omega arith
