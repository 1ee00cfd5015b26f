-- The greatest number that passes a test, and the scales that years fit.
use Rattle.std.specs.Prelude.{◌≡◌, ℕ, ◌-◌, ◌*◌, ◌^◌, ◌≤◌, ◌<◌, ℤ, Bool, true, false, cond, nat_le, unsigned_abs, List, [], ◌∷◌}
use Rattle.std.specs.List.{list_all}
use Rattle.std.proofs.lemmas.Bool.{cases_lt}
use Rattle.std.proofs.lemmas.List.Elements.{All-head, All-tail}
use Rattle.std.proofs.Common.{inl, inr, refl, ap, arith, zero, suc, length, ◌&&◌}
use Rattle.denton_parts.specs.Scale.{fits_scale, greatest_up_to, scale_of_years}
use Rattle.denton_parts.specs.Year.{BenchmarkedYear, AreIndicators, IsBenchmark, year_sum}
use Rattle.denton_parts.specs.Years.{year_in, years_in}
use Rattle.denton_parts.specs.declared.year.YearPart.{YearPart}
use Rattle.denton_parts.proofs.Places.{IsInRange, AreInRange}

-- a number that passes is the greatest up to itself
pub greatest_up_to-true : (k : ℕ) (test : ℕ → Bool) → test k ≡ true → greatest_up_to k test ≡ k
unfolding greatest_up_to
greatest_up_to-true zero test e = refl
greatest_up_to-true (suc k) test e = rw e refl

-- one that does not pass leaves the search to the numbers below it
pub greatest_up_to-false : (k : ℕ) (test : ℕ → Bool) → 0 < k → test k ≡ false → greatest_up_to k test ≡ greatest_up_to (k - 1) test
unfolding greatest_up_to
greatest_up_to-false zero test some e = absurd (omega arith)
greatest_up_to-false (suc k) test some e = let back : suc k - 1 ≡ k = omega arith in rw (e, back) refl

-- a year in range fits the scale 1
fits_one : (indicators : List ℕ) (benchmark : ℤ) → AreIndicators indicators → IsBenchmark benchmark →
    nat_le (10 ^ 0 * unsigned_abs benchmark) (10 ^ 13 * year_sum indicators) ≡ true
fits_one indicators benchmark are is = let some = are.first.0 in grind arith

-- and the scale 10
fits_ten : (indicators : List ℕ) (benchmark : ℤ) → AreIndicators indicators → IsBenchmark benchmark →
    nat_le (10 ^ 1 * unsigned_abs benchmark) (10 ^ 13 * year_sum indicators) ≡ true
fits_ten indicators benchmark are is = let some = are.first.0 in grind arith

-- every year in range fits the scale 1
pub all_fit_one : (years : List BenchmarkedYear) → AreInRange years → list_all (fits_scale 0) years ≡ true
all_fit_one [] range = refl
all_fit_one (year ∷ years) range =
    let own = All-head IsInRange year years range in
    let here : fits_scale 0 year ≡ true = fits_one year.indicators year.benchmark own.0 own.1 in
    rw here (all_fit_one years (All-tail IsInRange year years range))

-- the greatest number passes, where 0 does
pub greatest_passes : (k : ℕ) (test : ℕ → Bool) → test 0 ≡ true → test (greatest_up_to k test) ≡ true
unfolding greatest_up_to
greatest_passes zero test e = e
greatest_passes (suc k) test e = by (test (suc k)) refl (greatest_passes k test e)
  where
    by : (t : Bool) → test (suc k) ≡ t → test (greatest_up_to k test) ≡ true → test (cond t (suc k) (greatest_up_to k test)) ≡ true
    by true same rest = same
    by false same rest = rest

-- no number up to the bound that passes is greater
pub greatest_bounds : (k : ℕ) (test : ℕ → Bool) (other : ℕ) → other ≤ k → test other ≡ true → other ≤ greatest_up_to k test
unfolding greatest_up_to
greatest_bounds zero test other within e = within
greatest_bounds (suc k) test other within e = by (test (suc k)) refl (λ h. greatest_bounds k test other h e)
  where
    clash : test (suc k) ≡ false → other ≡ suc k → ⊥
    clash same equal = let here : test other ≡ test (suc k) = ap test equal in cc

    smaller : test (suc k) ≡ false → other ≤ k
    smaller same = elim (cases_lt other (suc k)) [ inl less ↦ omega arith | inr more ↦ absurd (clash same (omega arith)) ]

    by : (t : Bool) → test (suc k) ≡ t → (other ≤ k → other ≤ greatest_up_to k test) → other ≤ cond t (suc k) (greatest_up_to k test)
    by true same rest = within
    by false same rest = rest (smaller same)

-- every year in range fits the scale 10
all_fit_ten : (years : List BenchmarkedYear) → AreInRange years → list_all (fits_scale 1) years ≡ true
all_fit_ten [] range = refl
all_fit_ten (year ∷ years) range =
    let own = All-head IsInRange year years range in
    let here : fits_scale 1 year ≡ true = fits_ten year.indicators year.benchmark own.0 own.1 in
    rw here (all_fit_ten years (All-tail IsInRange year years range))

-- so the scale of years in range is 1 at least
pub scale_least : (years : List BenchmarkedYear) → AreInRange years → 1 ≤ scale_of_years years
scale_least years range =
    greatest_bounds 15 (λ k. list_all (fits_scale k) years) 1 (omega arith) (all_fit_ten years range)

-- whether parts fit a scale
abbrev pub parts_fit : List YearPart → ℕ → Bool
parts_fit parts k = list_all (λ part. fits_scale k (year_in 0 part)) parts

-- parts fit a scale wherever they stand
pub fit_wherever : (k : ℕ) (places : List ℕ) (parts : List YearPart) → length places ≡ length parts →
    list_all (fits_scale k) (years_in places parts) ≡ parts_fit parts k
fit_wherever k [] [] e = refl
fit_wherever k [] (part ∷ parts) e = absurd (omega arith)
fit_wherever k (place ∷ places) [] e = refl
fit_wherever k (place ∷ places) (part ∷ parts) e =
    ap (λ u. fits_scale k (year_in 0 part) && u) (fit_wherever k places parts (omega arith))

-- parts fit the scale 1
pub parts_fit_one : (parts : List YearPart) → parts_fit parts 0 ≡ true
parts_fit_one [] = refl
parts_fit_one (part ∷ parts) =
    let here : fits_scale 0 (year_in 0 part) ≡ true = fits_one part.ind part.bench part.indicators part.benchmark in
    rw here (parts_fit_one parts)

-- tests that agree at each number have one greatest number
pub greatest_up_to-same : (k : ℕ) (f g : ℕ → Bool) → ((j : ℕ) → f j ≡ g j) → greatest_up_to k f ≡ greatest_up_to k g
unfolding greatest_up_to
greatest_up_to-same zero f g same = refl
greatest_up_to-same (suc k) f g same = rw (same (suc k), greatest_up_to-same k f g same) refl

-- the scale of parts is the same wherever they stand
pub scale_wherever : (places : List ℕ) (parts : List YearPart) → length places ≡ length parts →
    scale_of_years (years_in places parts) ≡ greatest_up_to 15 (parts_fit parts)
scale_wherever places parts e =
    greatest_up_to-same 15 (λ k. list_all (fits_scale k) (years_in places parts)) (parts_fit parts)
    (λ k. fit_wherever k places parts e)
