-- Numbers that are cut to a range are in it.
use Rattle.std.specs.Prelude.{ℕ, ◌≤◌, ℤ, pos, neg_ℤ, min, max, unsigned_abs}
use Rattle.std.specs.Int.{int_min, int_max}
use Rattle.std.proofs.Common.{arith}
use Rattle.std.proofs.lemmas.Int.{ints, clamps}

-- a number cut to the range from low to high
pub cut_between : (low high n : ℕ) → low ≤ high → (low ≤ min (max low n) high) × (min (max low n) high ≤ high)
cut_between low high n less = (omega arith, omega arith)

-- a whole number cut to a size
pub cut_size : (most : ℕ) (z : ℤ) → unsigned_abs (int_max (neg_ℤ (pos most)) (int_min z (pos most))) ≤ most
cut_size most z = omega (arith, ints, clamps)
