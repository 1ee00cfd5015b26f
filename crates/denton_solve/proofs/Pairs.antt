-- The loop over pairs of sweeps: how it begins, what it leaves, and that it makes no more sweeps than are enough.
use Rattle.std.specs.Prelude.{◌≡◌, ℕ, ◌+◌, ◌-◌, ◌*◌, ◌^◌, ◌≤◌, ◌<◌, ℤ, pos, List, length, replicate, unsigned_abs}
use Rattle.std.proofs.Common.{◌∙◌, sym, subst, ap, arith, zero, suc, get_or, inl, inr}
use Rattle.std.proofs.Math.Nat.{mul-le-mul_right}
use Rattle.std.proofs.lemmas.Bool.{cases_lt}
use Rattle.std.proofs.lemmas.List.{length-replicate}
use Rattle.denton_parts.specs.Year.{BenchmarkedYear}
use Rattle.denton_solve.specs.Conditions.{AreMultipliers}
use Rattle.denton_solve.specs.Sweeps.{sweep_of, iterated, swept, multipliers_of, no_multipliers, IsEnough}
use Rattle.denton_solve.proofs.Steps.{settled, iterated-count, iterated-more}

-- a row of zeros is no multiplier at any joint
pub zeros_at : (years : List BenchmarkedYear) (u row : List ℤ) → length row + 1 ≡ length years →
    u ≡ replicate (length row) (pos 0) → u ≡ no_multipliers years
zeros_at years u row same e =
    let n : length row ≡ length years - 1 = omega arith in
    e ∙ ap (λ k. replicate k (pos 0)) n

zeros_from : (n y : ℕ) → unsigned_abs (get_or (replicate n (pos 0)) y (pos 0)) ≤ 10 ^ 15
zeros_from zero y = omega arith
zeros_from (suc n) zero = omega arith
zeros_from (suc n) (suc y) = zeros_from n y

-- zeros are multipliers
pub zeros_small : (n : ℕ) → AreMultipliers (replicate n (pos 0))
zeros_small n y inside = zeros_from n y

-- the multipliers that the last sweep leaves, known after fewer
pub multipliers_found : (k : ℕ) (years : List BenchmarkedYear) (u : List ℤ) (pairs : ℕ) → pairs ≤ 96 →
    u ≡ swept k years (2 * pairs) → sweep_of k years (sweep_of k years u) ≡ u → u ≡ multipliers_of k years
unfolding multipliers_of
multipliers_found k years u pairs most e same =
    settled (sweep_of k years) (no_multipliers years) u pairs most e same

-- the multipliers after all sweeps
pub multipliers_of-is : (k : ℕ) (years : List BenchmarkedYear) (u : List ℤ) (pairs : ℕ) → pairs ≡ 96 →
    u ≡ swept k years (2 * pairs) → u ≡ multipliers_of k years
unfolding multipliers_of
multipliers_of-is k years u pairs all e =
    let n : 2 * pairs ≡ 192 = omega arith in
    e ∙ ap (λ m. iterated m (sweep_of k years) (no_multipliers years)) n

-- there is one multiplier fewer than years
pub multipliers_count : (k : ℕ) (years : List BenchmarkedYear) → 1 ≤ length years →
    length (multipliers_of k years) + 1 ≡ length years
unfolding multipliers_of
multipliers_count k years some =
    let zeros : length (no_multipliers years) ≡ length years - 1 = length-replicate (length years - 1) (pos 0) in
    let same = iterated-count k years 192 (no_multipliers years) (omega arith) in
    omega arith

-- ---- how many sweeps are made

-- each of the first sweeps, so many, moves a multiplier
abbrev pub AreMoving : ℕ → List BenchmarkedYear → ℕ → Type 0
AreMoving k years sweeps = (n : ℕ) → n < sweeps → swept k years (suc n) ≡ swept k years n → ⊥

-- one more does where it leaves another row than it found
pub moving_more : (k : ℕ) (years : List BenchmarkedYear) (sweeps : ℕ) (u new : List ℤ) → AreMoving k years sweeps →
    u ≡ swept k years sweeps → new ≡ swept k years (suc sweeps) → (new ≡ u → ⊥) → AreMoving k years (suc sweeps)
moving_more k years sweeps u new moving e e_new moved n h same = elim (cases_lt n sweeps) [
  | inl less ↦ moving n less same
  | inr more ↦
      let here : n ≡ sweeps = omega arith in
      moved (e_new ∙ sym (ap (λ m. swept k years (suc m)) here) ∙ same ∙ ap (λ m. swept k years m) here ∙ sym e)
]

-- a pair's first sweep
pub one_moving : (k : ℕ) (years : List BenchmarkedYear) (pairs : ℕ) (u between : List ℤ) →
    AreMoving k years (2 * pairs) → u ≡ swept k years (2 * pairs) → between ≡ sweep_of k years u → (between ≡ u → ⊥) →
    AreMoving k years (suc (2 * pairs))
one_moving k years pairs u between moving e step moved =
    moving_more k years (2 * pairs) u between moving e
    (iterated-more (sweep_of k years) (no_multipliers years) u between (2 * pairs) e step) moved

-- and both
pub both_moving : (k : ℕ) (years : List BenchmarkedYear) (pairs : ℕ) (u between new : List ℤ) →
    AreMoving k years (2 * pairs) → u ≡ swept k years (2 * pairs) → between ≡ sweep_of k years u →
    new ≡ sweep_of k years between → (between ≡ u → ⊥) → (new ≡ between → ⊥) → AreMoving k years (2 * (pairs + 1))
both_moving k years pairs u between new moving e first second one two =
    let f : List ℤ → List ℤ = sweep_of k years in
    let made = iterated-more f (no_multipliers years) u between (2 * pairs) e first in
    let more : suc (suc (2 * pairs)) ≡ 2 * (pairs + 1) = omega arith in
    subst (AreMoving k years) more
    (moving_more k years (suc (2 * pairs)) between new
    (one_moving k years pairs u between moving e first one) made
    (iterated-more f (no_multipliers years) between new (suc (2 * pairs)) made second) two)

-- where all sweeps but the last move a multiplier, no more were made than are enough
pub enough_least : (k : ℕ) (years : List BenchmarkedYear) (made sweeps : ℕ) → made ≤ 191 → AreMoving k years made →
    IsEnough k years sweeps → suc made ≤ sweeps
enough_least k years made sweeps few moving (inl all) = omega arith
enough_least k years made sweeps few moving (inr still) = elim (cases_lt made sweeps) [
  | inl less ↦ omega arith
  | inr more ↦
      let some = still.0 in
      let before : suc (sweeps - 1) ≡ sweeps = omega arith in
      absurd (moving (sweeps - 1) (omega arith) (ap (λ n. swept k years n) before ∙ still.1))
]

-- the steps of so many sweeps
pub steps_made : (start now made sweeps joints years : ℕ) → now ≡ start + made * joints → made ≤ sweeps →
    joints + 1 ≡ years → now ≤ start + sweeps * (years - 1)
steps_made start now made sweeps joints years e few count =
    let less : years - 1 ≡ joints = omega arith in
    let most = mul-le-mul_right joints few in
    rw (less, e) (omega arith)

-- the steps of a pair's first sweep, and of both
pub steps_first : (start now pairs joints : ℕ) → now ≡ start + 2 * (pairs * joints) →
    now + joints ≡ start + (2 * pairs + 1) * joints
steps_first start now pairs joints e = grind arith

pub steps_second : (start now pairs joints : ℕ) → now ≡ start + 2 * (pairs * joints) →
    now + joints + joints ≡ start + (2 * pairs + 2) * joints
steps_second start now pairs joints e = grind arith

pub steps_next : (start now pairs joints : ℕ) → now ≡ start + 2 * (pairs * joints) →
    now + joints + joints ≡ start + 2 * ((pairs + 1) * joints)
steps_next start now pairs joints e = grind arith

pub steps_whole : (start now pairs joints : ℕ) → now ≡ start + 2 * (pairs * joints) →
    now ≡ start + (2 * pairs) * joints
steps_whole start now pairs joints e = grind arith
