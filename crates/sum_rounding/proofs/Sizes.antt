-- How large floors, sums and totals are.
use Rattle.std.proofs.Common.{◌≡◌, ℕ, zero, suc, ◌*◌, ◌^◌, ◌<◌, ◌≤◌, ℤ, pos, negsuc, ◌-ℤ◌, ◌*ℤ◌, ◌<ℤ◌, List, [], ◌∷◌, map, length, get_or, arith, unsigned_abs, FitsSigned, ap, ◌∙◌}
use Rattle.std.proofs.lemmas.Int.{ints, unsigned_abs-mul}
use Rattle.std.specs.Int.{w128}
use Rattle.std.specs.List.{All}
use Rattle.ratio_arith.specs.Division.{floor_of}
use Rattle.sum_rounding.specs.ShareOut.{sum_of}
use Rattle.sum_rounding.proofs.Steps.{cast, sum_of_four}

-- a floor is no larger than what is divided
pub floor_small : (n d : ℤ) (m : ℕ) → pos 0 <ℤ d → unsigned_abs n ≤ m → unsigned_abs (floor_of n d) ≤ m
floor_small (pos n) (pos d) m h small = omega (arith, ints)
floor_small (negsuc n) (pos d) m h small = omega (arith, ints)
floor_small n (negsuc d) m h small = absurd (omega (arith, ints))

-- so are the floors of a list
pub floors_small : (xs : List ℤ) (d : ℤ) (m : ℕ) → pos 0 <ℤ d → All (λ x. unsigned_abs x ≤ m) xs → All (λ x. unsigned_abs x ≤ m) (map (λ x. floor_of x d) xs)
floors_small [] d m h small k e below = absurd (omega arith)
floors_small (x ∷ xs) d m h small zero e below = floor_small x d m h (small zero (pos 0) (omega arith))
floors_small (x ∷ xs) d m h small (suc k) e below = floors_small xs d m h (λ j z lt. small (suc j) z (omega arith)) k e (omega arith)

-- the sum of four small numbers is small
pub sum_small : (xs : List ℤ) (m : ℕ) → length xs ≡ 4 → All (λ x. unsigned_abs x ≤ m) xs → unsigned_abs (sum_of xs) ≤ 4 * m
sum_small xs m four all =
    let a0 : unsigned_abs (get_or xs 0 (pos 0)) ≤ m = all 0 (pos 0) (omega arith) in
    let a1 : unsigned_abs (get_or xs 1 (pos 0)) ≤ m = all 1 (pos 0) (omega arith) in
    let a2 : unsigned_abs (get_or xs 2 (pos 0)) ≤ m = all 2 (pos 0) (omega arith) in
    let a3 : unsigned_abs (get_or xs 3 (pos 0)) ≤ m = all 3 (pos 0) (omega arith) in
    rw (sum_of_four xs four) (omega (arith, ints))

-- a total is no larger than its multiple
pub total_small : (d total s : ℤ) (m : ℕ) → pos 0 <ℤ d → s ≡ d *ℤ total → unsigned_abs s ≤ m → unsigned_abs total ≤ m
total_small d total s m h e small = let size : unsigned_abs s ≡ unsigned_abs d * unsigned_abs total = ap unsigned_abs e ∙ unsigned_abs-mul d total in
    below_multiple (unsigned_abs d) (unsigned_abs total) m (omega (arith, ints)) (omega arith)
  where
    below_multiple : (a b m : ℕ) → 0 < a → a * b ≤ m → b ≤ m
    below_multiple a b m h e = grind arith

-- the difference of two numbers of the code that are small
pub difference : (a b : ℤ) → unsigned_abs a ≤ 4 * 10 ^ 37 → unsigned_abs b ≤ 4 * 10 ^ 37 → FitsSigned w128 (cast a -ℤ cast b) × (cast (cast a -ℤ cast b) ≡ a -ℤ b)
difference a b ha hb = (omega (arith, ints), omega (arith, ints))
