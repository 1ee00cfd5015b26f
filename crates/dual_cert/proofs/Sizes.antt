-- How large the numbers of a gap are.
use Rattle.std.specs.Prelude.{◌≤ℤ◌, ◌<ℤ◌, neg_ℤ, ℕ, ◌*◌, ◌/◌, ◌^◌, ◌≤◌, ℤ, pos, ◌*ℤ◌, unsigned_abs}
use Rattle.std.proofs.Common.{arith}
use Rattle.std.proofs.Math.Nat.{mul-le-mul, mul-le-mul_left}
use Rattle.std.proofs.lemmas.Int.{unsigned_abs-mul}
use Rattle.ratio_arith.specs.Division.{floor_of, ceil_of}
use Rattle.ratio_arith.proofs.Floors.{floor_size}
use Rattle.ratio_arith.proofs.Linear.{linear}
use Rattle.denton_parts.proofs.Sizes.{ceil_size}

-- the square of a size within 3*10^16
pub square_small : (d : ℕ) → d ≤ 3 * 10 ^ 16 → d * d ≤ 9 * 10 ^ 32
square_small d h = let product = mul-le-mul h h in omega arith

-- a value in range times the scale is within 10^16 times its indicator
pub value_reach : (k i v : ℕ) → v ≤ 10 ^ 16 * i / 10 ^ k → 10 ^ k * v ≤ 10 ^ 16 * i
value_reach k i v h = let product = mul-le-mul_left (10 ^ k) h in omega arith

-- a ratio whose numerator is within 10^16 times its denominator has a floor and a ceiling within 10^16
pub ratio_size : (unit value : ℤ) (i : ℕ) → 1 ≤ i → unsigned_abs unit * unsigned_abs value ≤ 10 ^ 16 * i → (unsigned_abs (floor_of (unit *ℤ value) (pos i)) ≤ 10 ^ 16) × (unsigned_abs (ceil_of (unit *ℤ value) (pos i)) ≤ 10 ^ 16)
ratio_size unit value i some reach =
    let size = unsigned_abs-mul unit value in
    let low : neg_ℤ (pos i *ℤ pos (10 ^ 16)) ≤ℤ (unit *ℤ value) = omega (arith, linear) in
    let high : (unit *ℤ value) ≤ℤ (pos i *ℤ pos (10 ^ 16)) = omega (arith, linear) in
    let positive : pos 0 <ℤ pos i = omega (arith, linear) in
    (floor_size (unit *ℤ value) (pos i) (10 ^ 16) positive low high, ceil_size (unit *ℤ value) (pos i) (10 ^ 16) positive low high)
