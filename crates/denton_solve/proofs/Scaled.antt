-- At the scale of the years each of them fits, and the scale is at most 15.
use Rattle.std.specs.Prelude.{◌≡◌, ℕ, ◌≤◌, ◌<◌, Bool, true, false, cond, List, [], ◌∷◌, length, map, replicate}
use Rattle.std.specs.List.{list_all}
use Rattle.std.proofs.Common.{refl, sym, ap, subst, arith, zero, suc, get_or}
use Rattle.std.proofs.lemmas.List.{length-map, length-replicate, get_or-map}
use Rattle.std.proofs.lemmas.List.Sums.{AllPass-from_list_all}
use Rattle.denton_parts.specs.Scale.{fits_scale, greatest_up_to, scale_of_years}
use Rattle.denton_parts.specs.Year.{BenchmarkedYear}
use Rattle.denton_parts.specs.Years.{year_in, years_in, Wherever}
use Rattle.denton_parts.specs.declared.year.YearPart.{YearPart}
use Rattle.denton_parts.proofs.Places.{AreInRange, parts_in_range}
use Rattle.denton_parts.proofs.Scales.{greatest_passes, all_fit_one, scale_least}
use Rattle.denton_solve.specs.Conditions.{IsScaled, AreScaled}

-- a year that passes the test fits the scale
year_scaled : (k : ℕ) (year : BenchmarkedYear) → fits_scale k year ≡ true → IsScaled k year
year_scaled k year e = grind arith

-- each year in range fits the scale of the years
pub scaled : (years : List BenchmarkedYear) → AreInRange years → AreScaled (scale_of_years years) years
scaled years range y other inside =
    year_scaled (scale_of_years years) (get_or years y other)
    (AllPass-from_list_all (fits_scale (scale_of_years years)) years
    (greatest_passes 15 (λ k. list_all (fits_scale k) years) (all_fit_one years range)) y other inside)

-- the greatest number up to a bound is at most the bound
pub greatest_most : (k : ℕ) (test : ℕ → Bool) → greatest_up_to k test ≤ k
unfolding greatest_up_to
greatest_most zero test = omega arith
greatest_most (suc k) test = by (test (suc k)) (greatest_most k test)
  where
    by : (t : Bool) → greatest_up_to k test ≤ k → cond t (suc k) (greatest_up_to k test) ≤ suc k
    by true rest = omega arith
    by false rest = omega arith

-- the scale of years is at most 15
pub scale_most : (years : List BenchmarkedYear) → scale_of_years years ≤ 15
scale_most years = greatest_most 15 (λ k. list_all (fits_scale k) years)

-- ---- parts, wherever they stand

-- parts where each stands at 0
stand_at_none : (parts : List YearPart) → years_in (replicate (length parts) 0) parts ≡ map (year_in 0) parts
stand_at_none [] = refl
stand_at_none (part ∷ parts) = ap (λ (years : List BenchmarkedYear). year_in 0 part ∷ years) (stand_at_none parts)

-- what is so of parts wherever they stand is so of them there
pub at_none : (parts : List YearPart) (P : List BenchmarkedYear → Type 0) → Wherever parts P →
    P (map (year_in 0) parts)
at_none parts P h =
    subst P (stand_at_none parts) (h (replicate (length parts) 0) (length-replicate (length parts) 0))

-- each of them is in range there
in_range_there : (parts : List YearPart) → AreInRange (map (year_in 0) parts)
in_range_there parts = at_none parts AreInRange (λ places e. parts_in_range places parts)

-- the parts' scale is at most 15 and 1 at least, and they fit it
pub parts_scale_most : (k : ℕ) (parts : List YearPart) → Wherever parts (λ years. k ≡ scale_of_years years) → k ≤ 15
parts_scale_most k parts h =
    let e : k ≡ scale_of_years (map (year_in 0) parts) = at_none parts (λ years. k ≡ scale_of_years years) h in
    rw e (scale_most (map (year_in 0) parts))

pub parts_scale_least : (k : ℕ) (parts : List YearPart) → Wherever parts (λ years. k ≡ scale_of_years years) → 1 ≤ k
parts_scale_least k parts h =
    let e : k ≡ scale_of_years (map (year_in 0) parts) = at_none parts (λ years. k ≡ scale_of_years years) h in
    rw e (scale_least (map (year_in 0) parts) (in_range_there parts))

pub parts_scaled : (k : ℕ) (parts : List YearPart) → Wherever parts (λ years. k ≡ scale_of_years years) →
    AreScaled k (map (year_in 0) parts)
parts_scaled k parts h =
    let e : k ≡ scale_of_years (map (year_in 0) parts) = at_none parts (λ years. k ≡ scale_of_years years) h in
    subst (λ (n : ℕ). AreScaled n (map (year_in 0) parts)) (sym e)
    (scaled (map (year_in 0) parts) (in_range_there parts))

-- so does each part
pub parts_scaled_at : (k : ℕ) (parts : List YearPart) (y : ℕ) (other : YearPart) → y < length parts →
    Wherever parts (λ years. k ≡ scale_of_years years) → IsScaled k (year_in 0 (get_or parts y other))
parts_scaled_at k parts y other inside h =
    let here : IsScaled k (get_or (map (year_in 0) parts) y (year_in 0 other)) =
    parts_scaled k parts h y (year_in 0 other) (omega (arith, length-map parts (year_in 0))) in
    subst (IsScaled k) (get_or-map (year_in 0) parts y other (year_in 0 other) inside) here
