-- Benchmarks met and missed, year by year.
use Rattle.std.specs.Prelude.{◌≡◌, ℕ, ◌+◌, ◌≤◌, ◌<◌, ℤ, pos, ◌*ℤ◌, List, [], ◌∷◌, ◌++◌, length, take}
use Rattle.std.specs.List.Sorted.{IsStrictlyIncreasing}
use Rattle.std.proofs.Common.{refl, sym, ◌∙◌, ap, arith, zero, suc, get_or, subst, inl, inr, ◌⊎◌}
use Rattle.std.proofs.lemmas.Bool.{cases_lt}
use Rattle.std.proofs.lemmas.List.{length-take-le, take_more}
use Rattle.ratio_arith.proofs.Linear.{linear, literal_product}
use Rattle.denton_parts.specs.Benchmarks.{MeetsBenchmarks, year_total}
use Rattle.denton_parts.specs.Year.{BenchmarkedYear}
use Rattle.denton_parts.specs.Years.{ArePlaces, year_in, years_in, year_at, years_at}
use Rattle.denton_parts.specs.declared.year.YearPart.{YearPart}
use Rattle.denton_parts.proofs.Places.{years_at-length, years_at-at}
use Rattle.dual_cert.specs.Sums.{AddsUp, IsFirstMissed}

-- once a benchmark is the benchmark
one_time : (a : ℤ) → pos 1 *ℤ a ≡ a
one_time a = omega (arith, linear, literal_product 1 a)

-- where each year adds up, the benchmarks are met
pub meets_from_each : (indicators places : List ℕ) (benchmarks quarters : List ℤ) → length places ≡ length benchmarks →
    ArePlaces (length quarters) places →
    ((y : ℕ) → y < length places → year_total quarters (get_or places y 0) ≡ get_or benchmarks y (pos 0)) →
    MeetsBenchmarks (years_at indicators places benchmarks) (pos 1) quarters
meets_from_each indicators places benchmarks quarters placed are each y d inside =
    let count = years_at-length indicators places benchmarks placed in
    let same = years_at-at indicators places benchmarks y d placed (omega arith) in
    rw same
    (are.whole_years y 0 (omega arith), each y (omega arith) ∙ sym (one_time (get_or benchmarks y (pos 0))))

-- where benchmarks are met, each year adds up
pub adds_up : (years : List BenchmarkedYear) (quarters : List ℤ) → MeetsBenchmarks years (pos 1) quarters → (y : ℕ)
    (d : BenchmarkedYear) → y < length years → AddsUp quarters (get_or years y d)
adds_up years quarters meets y d inside =
    let own = meets y d inside in
    (own.0, own.1 ∙ one_time (get_or years y d).benchmark)

-- a year that is missed refutes the benchmarks
pub missed_refutes : (years : List BenchmarkedYear) (quarters : List ℤ) (place : ℕ) →
    IsFirstMissed years quarters place → MeetsBenchmarks years (pos 1) quarters → ⊥
missed_refutes years quarters place first meets =
    let year = first.missed in
    year.4.1 (subst (AddsUp quarters) year.3 (adds_up years quarters meets year.0 year.1 year.2))

-- rising numbers stand in their order
rises_apart : (places : List ℕ) (a b : ℕ) → IsStrictlyIncreasing places → a < b → b < length places →
    get_or places a 0 < get_or places b 0
rises_apart places a zero rising below inside = absurd (omega arith)
rises_apart places a (suc b) rising below inside =
    let next : b + 1 ≡ suc b = omega arith in
    let step : get_or places b 0 < get_or places (suc b) 0 = rw next at (rising b (omega arith)) in
    let more = rises_apart places a b rising in
    by_order (cases_lt a b) more step
  where
    by_order : (a < b) ⊎ (b ≤ a) → (a < b → b < length places → get_or places a 0 < get_or places b 0) →
        get_or places b 0 < get_or places (suc b) 0 → get_or places a 0 < get_or places (suc b) 0
    by_order (inl lower) more step = let before = more lower (omega arith) in omega arith
    by_order (inr reached) more step = let same : a ≡ b = omega arith in rw same step

-- a smaller one stands before
stands_before : (places : List ℕ) (a b : ℕ) → IsStrictlyIncreasing places → a < length places →
    get_or places a 0 < get_or places b 0 → a < b
stands_before places a b rising inside below =
    elim (cases_lt a b) as (λ _. a < b) [
      | inl before ↦ before
      | inr reached ↦ absurd (turned (cases_lt b a) reached)
    ]
  where
    turned : (b < a) ⊎ (a ≤ b) → b ≤ a → ⊥
    turned (inl before) reached = let other = rises_apart places b a rising before inside in omega arith
    turned (inr most) reached =
        let same : a ≡ b = omega arith in
        absurd (omega (arith, ap (λ u. get_or places u 0) same))

-- the first of a run's years that doesn't add up
pub first_missed_from : (indicators places : List ℕ) (benchmarks quarters : List ℤ) (y : ℕ) →
    length places ≡ length benchmarks → ArePlaces (length quarters) places → y < length places →
    ((other : ℕ) → other < y → year_total quarters (get_or places other 0) ≡ get_or benchmarks other (pos 0)) →
    ¬ (year_total quarters (get_or places y 0) ≡ get_or benchmarks y (pos 0)) →
    IsFirstMissed (years_at indicators places benchmarks) quarters (get_or places y 0)
first_missed_from indicators places benchmarks quarters y placed are inside before missed =
    let count = years_at-length indicators places benchmarks placed in
    record {
      missed = (
        y,
        year_at indicators (get_or places y 0) (get_or benchmarks y (pos 0)),
        omega arith,
        years_at-at indicators places benchmarks y
            (year_at indicators (get_or places y 0) (get_or benchmarks y (pos 0)))
            placed (omega arith),
        (refl, λ adds. missed adds.1),
      );
      earlier = λ k d within below.
          let same = years_at-at indicators places benchmarks k d placed (omega arith) in
          let lower : get_or places k 0 < get_or places y 0 = rw same at below in
          let first : k < y = stands_before places k y are.rising (omega arith) lower in
          rw same (are.whole_years k 0 (omega arith), before k first);
    }

-- one more part shows one more year
years_in-push : (places : List ℕ) (parts : List YearPart) (place : ℕ) (part : YearPart) → length places ≡ length parts →
    years_in (places ++ place ∷ []) (parts ++ part ∷ []) ≡ years_in places parts ++ year_in place part ∷ []
years_in-push [] [] place part placed = refl
years_in-push [] (other ∷ parts) place part placed = absurd (omega arith)
years_in-push (other ∷ places) [] place part placed = absurd (omega arith)
years_in-push (first ∷ places) (other ∷ parts) place part placed =
    ap (λ u. year_in first other ∷ u) (years_in-push places parts place part (omega arith))

-- one more benchmark is one more year
years_at-push : (indicators places : List ℕ) (benchmarks : List ℤ) (place : ℕ) (benchmark : ℤ) →
    length places ≡ length benchmarks →
    years_at indicators (places ++ place ∷ []) (benchmarks ++ benchmark ∷ [])
    ≡ years_at indicators places benchmarks ++ year_at indicators place benchmark ∷ []
years_at-push indicators [] [] place benchmark placed = refl
years_at-push indicators [] (other ∷ benchmarks) place benchmark placed = absurd (omega arith)
years_at-push indicators (other ∷ places) [] place benchmark placed = absurd (omega arith)
years_at-push indicators (first ∷ places) (other ∷ benchmarks) place benchmark placed =
    ap (λ u. year_at indicators first other ∷ u)
    (years_at-push indicators places benchmarks place benchmark (omega arith))

-- the figures of one more year of a run
pub parts_more : (indicators places : List ℕ) (benchmarks : List ℤ) (parts : List YearPart) (part : YearPart) (y : ℕ) →
    y < length places → length places ≡ length benchmarks → length parts ≡ y →
    years_in (take y places) parts ≡ years_at indicators (take y places) (take y benchmarks) →
    year_in (get_or places y 0) part ≡ year_at indicators (get_or places y 0) (get_or benchmarks y (pos 0)) →
    years_in (take (y + 1) places) (parts ++ part ∷ [])
    ≡ years_at indicators (take (y + 1) places) (take (y + 1) benchmarks)
parts_more indicators places benchmarks parts part y inside placed count before one =
    let taken = length-take-le y places (omega arith) in
    let others = length-take-le y benchmarks (omega arith) in
    rw (
      take_more places y 0 inside,
      take_more benchmarks y (pos 0) (omega arith),
      years_in-push (take y places) parts (get_or places y 0) part (omega arith),
      years_at-push indicators (take y places) (take y benchmarks) (get_or places y 0) (get_or benchmarks y (pos 0))
          (omega arith),
    ) (cc)
