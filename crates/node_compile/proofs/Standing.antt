-- The parts of a run's benchmarked years where they stand: their places, their scale, and the years that they show.
use Rattle.std.specs.Prelude.{◌≡◌, ℕ, ◌+◌, ◌-◌, ◌*◌, ◌≤◌, ◌<◌, ℤ, List, [], ◌∷◌, length, slice_index}
use Rattle.std.specs.List.Sorted.{IsStrictlyIncreasing}
use Rattle.std.proofs.Common.{sym, ◌∙◌, ap, arith, zero, suc, get_or, subst}
use Rattle.denton_parts.specs.Scale.{scale_of_years}
use Rattle.denton_parts.specs.Year.{BenchmarkedYear}
use Rattle.denton_parts.specs.Years.{ArePlaces, AreYearsOf, Wherever, places_apart, year_in, years_in, years_apart, years_at}
use Rattle.denton_parts.specs.declared.year.YearPart.{YearPart}
use Rattle.denton_parts.proofs.Places.{years_in-length, years_in-places, years_in-at, parts_in_range, years_of_run}
use Rattle.denton_solve.specs.Conditions.{AreMultipliers, AreScaled, IsScaled}
use Rattle.denton_solve.specs.Sweeps.{IsEnough}
use Rattle.denton_solve.proofs.Scaled.{scaled, scale_most, parts_scaled_at}
use Rattle.node_compile.proofs.Behind.{AreIndicatorsOf, AreSmall}

-- the places are places of the run's years
pub places_of : (indicators places : List ℕ) (parts : List YearPart) → length places ≡ length parts →
    AreYearsOf indicators (years_in places parts) → ArePlaces (length indicators) places
places_of indicators places parts same are =
    subst (ArePlaces (length indicators)) (years_in-places places parts same) are.places

-- a part's year is the run's at its index
pub year_shown : (places : List ℕ) (parts : List YearPart) (y : ℕ) (d : BenchmarkedYear) (part : YearPart) →
    length places ≡ length parts → y < length parts → part ≡ get_or parts y part →
    year_in (get_or places y 0) part ≡ get_or (years_in places parts) y d
year_shown places parts y d part same inside is =
    ap (λ (p : YearPart). year_in (get_or places y 0) p) is ∙ sym (years_in-at places parts y d part same inside)

-- it fits the scale of all
pub part_scaled : (k : ℕ) (parts : List YearPart) (y place : ℕ) (part : YearPart) → y < length parts →
    part ≡ get_or parts y part → Wherever parts (λ years. k ≡ scale_of_years years) → IsScaled k (year_in place part)
part_scaled k parts y place part inside is scale =
    let here : IsScaled k (year_in 0 (get_or parts y part)) = parts_scaled_at k parts y part inside scale in
    subst (λ (p : YearPart). IsScaled k (year_in place p)) (sym is) here

-- so the numbers of the run are in range
pub parts_small : (k : ℕ) (places : List ℕ) (parts : List YearPart) (u : List ℤ) (indicators : List ℕ) →
    length places ≡ length parts → Wherever parts (λ years. k ≡ scale_of_years years) → AreMultipliers u →
    AreIndicatorsOf indicators → AreSmall k (years_in places parts) u indicators
parts_small k places parts u indicators same scale multipliers each =
    let is : k ≡ scale_of_years (years_in places parts) = scale places same in
    let range = parts_in_range places parts in
    record {
      scale = rw is (scale_most (years_in places parts));
      scaled = subst (λ (n : ℕ). AreScaled n (years_in places parts)) (sym is) (scaled (years_in places parts) range);
      range = range;
      multipliers = multipliers;
      each = each;
    }

-- ---- parts that are made of a run

-- parts that show the years of a run with these benchmarks, and how many years between them miss one
pub record AreMade (indicators places : List ℕ) (benchmarks : List ℤ) (parts : List YearPart) (missing : List ℕ) : Type 0 where
  pub shown : years_in places parts ≡ years_at indicators places benchmarks
  pub count : length parts ≡ length benchmarks
  pub apart : places_apart (slice_index places 0) missing ≡ places

-- from the first place on, so many years apart, they show those years
pub made_apart : (indicators places : List ℕ) (benchmarks : List ℤ) (parts : List YearPart) (missing : List ℕ) →
    AreMade indicators places benchmarks parts missing →
    years_apart (slice_index places 0) missing parts ≡ years_at indicators places benchmarks
made_apart indicators places benchmarks parts missing made =
    ap (λ (ps : List ℕ). years_in ps parts) made.apart ∙ made.shown

-- they are years of the run
pub made_years : (indicators places : List ℕ) (benchmarks : List ℤ) (parts : List YearPart) (missing : List ℕ) →
    AreMade indicators places benchmarks parts missing → length places ≡ length benchmarks →
    ArePlaces (length indicators) places → AreYearsOf indicators (years_in places parts)
made_years indicators places benchmarks parts missing made placed are =
    subst (AreYearsOf indicators) (sym made.shown) (years_of_run indicators places benchmarks placed are)

-- their scale is that of those years
pub made_scale : (indicators places : List ℕ) (benchmarks : List ℤ) (parts : List YearPart) (missing : List ℕ) (k : ℕ) →
    AreMade indicators places benchmarks parts missing → length places ≡ length benchmarks →
    Wherever parts (λ years. k ≡ scale_of_years years) → k ≡ scale_of_years (years_at indicators places benchmarks)
made_scale indicators places benchmarks parts missing k made placed scale =
    scale places (placed ∙ sym made.count) ∙ ap (λ (years : List BenchmarkedYear). scale_of_years years) made.shown

-- the steps that the solver takes for them
pub made_steps : (indicators places : List ℕ) (benchmarks : List ℤ) (parts : List YearPart) (missing : List ℕ)
    (k start now sweeps : ℕ) → AreMade indicators places benchmarks parts missing →
    k ≡ scale_of_years (years_at indicators places benchmarks) →
    ((first sweeps : ℕ) → IsEnough k (years_apart first missing parts) sweeps →
    now ≤ start + sweeps * (length parts - 1)) →
    IsEnough (scale_of_years (years_at indicators places benchmarks)) (years_at indicators places benchmarks) sweeps →
    now ≤ start + sweeps * (length benchmarks - 1)
made_steps indicators places benchmarks parts missing k start now sweeps made scale taken enough =
    let here : IsEnough k (years_apart (slice_index places 0) missing parts) sweeps =
    subst (λ (years : List BenchmarkedYear). IsEnough k years sweeps)
    (sym (made_apart indicators places benchmarks parts missing made))
    (subst (λ (n : ℕ). IsEnough n (years_at indicators places benchmarks) sweeps) (sym scale) enough) in
    subst (λ (n : ℕ). now ≤ start + sweeps * (n - 1)) made.count (taken (slice_index places 0) sweeps here)

-- a place is at least its index
place_least : (places : List ℕ) (y : ℕ) → IsStrictlyIncreasing places → y < length places → y ≤ get_or places y 0
place_least places zero rising inside = omega arith
place_least places (suc y) rising inside =
    let before = place_least places y rising (omega arith) in
    let next : y + 1 ≡ suc y = omega arith in
    let here : get_or places y 0 < get_or places (suc y) 0 = rw next at (rising y (omega arith)) in
    omega arith

-- so there are no more places than years
pub places_few : (quarters : ℕ) (places : List ℕ) → ArePlaces quarters places → 4 * length places ≤ quarters
places_few quarters [] are = omega arith
places_few quarters (place ∷ places) are =
    let last = place_least (place ∷ places) (length places) are.rising (omega arith) in
    let room = are.whole_years (length places) 0 (omega arith) in
    omega arith
