-- Years where they stand: those that parts show at places, those of a run of quarters, and the ranges of their numbers.
use Rattle.std.specs.Prelude.{◌≡◌, ℕ, suc, ◌+◌, ◌*◌, ◌≤◌, ◌<◌, ℤ, pos, List, [], ◌∷◌, map, length, slice_index, slice_index_or, EachIndex}
use Rattle.std.specs.List.{All}
use Rattle.std.proofs.Common.{refl, ap, sym, arith, get_or, zero, subst}
use Rattle.std.proofs.lemmas.List.Elements.{All-nil, All-cons}
use Rattle.denton_parts.specs.Year.{BenchmarkedYear, AreIndicators, IsBenchmark, IsIndicator}
use Rattle.denton_parts.specs.Years.{year_in, years_in, year_at, years_at, places_apart, ArePlaces, AreYearsOf}
use Rattle.denton_parts.specs.declared.year.YearPart.{YearPart}

-- parts show as many years as they are
pub years_in-length : (places : List ℕ) (parts : List YearPart) → length places ≡ length parts →
    length (years_in places parts) ≡ length parts
years_in-length [] [] e = refl
years_in-length [] (part ∷ parts) e = absurd (omega arith)
years_in-length (place ∷ places) [] e = refl
years_in-length (place ∷ places) (part ∷ parts) e = ap suc (years_in-length places parts (omega arith))

-- they stand at the places
pub years_in-places : (places : List ℕ) (parts : List YearPart) → length places ≡ length parts →
    map (λ year. year.place) (years_in places parts) ≡ places
years_in-places [] parts e = refl
years_in-places (place ∷ places) [] e = absurd (omega arith)
years_in-places (place ∷ places) (part ∷ parts) e = ap (λ u. place ∷ u) (years_in-places places parts (omega arith))

-- each is its part's year at its place
pub years_in-at : (places : List ℕ) (parts : List YearPart) (y : ℕ) (d : BenchmarkedYear) (other : YearPart) →
    length places ≡ length parts → y < length parts →
    get_or (years_in places parts) y d ≡ year_in (get_or places y 0) (get_or parts y other)
years_in-at [] [] y d other e inside = absurd (omega arith)
years_in-at [] (part ∷ parts) y d other e inside = absurd (omega arith)
years_in-at (place ∷ places) [] y d other e inside = absurd (omega arith)
years_in-at (place ∷ places) (part ∷ parts) zero d other e inside = refl
years_in-at (place ∷ places) (part ∷ parts) (suc y) d other e inside =
    years_in-at places parts y d other (omega arith) (omega arith)

-- a run has as many benchmarked years as benchmarks
pub years_at-length : (indicators places : List ℕ) (benchmarks : List ℤ) → length places ≡ length benchmarks →
    length (years_at indicators places benchmarks) ≡ length benchmarks
years_at-length indicators [] [] e = refl
years_at-length indicators [] (benchmark ∷ benchmarks) e = absurd (omega arith)
years_at-length indicators (place ∷ places) [] e = refl
years_at-length indicators (place ∷ places) (benchmark ∷ benchmarks) e =
    ap suc (years_at-length indicators places benchmarks (omega arith))

-- they stand at the places
pub years_at-places : (indicators places : List ℕ) (benchmarks : List ℤ) → length places ≡ length benchmarks →
    map (λ year. year.place) (years_at indicators places benchmarks) ≡ places
years_at-places indicators [] benchmarks e = refl
years_at-places indicators (place ∷ places) [] e = absurd (omega arith)
years_at-places indicators (place ∷ places) (benchmark ∷ benchmarks) e =
    ap (λ u. place ∷ u) (years_at-places indicators places benchmarks (omega arith))

-- each is the year at its place with its benchmark
pub years_at-at : (indicators places : List ℕ) (benchmarks : List ℤ) (y : ℕ) (d : BenchmarkedYear) →
    length places ≡ length benchmarks → y < length benchmarks →
    get_or (years_at indicators places benchmarks) y d
    ≡ year_at indicators (get_or places y 0) (get_or benchmarks y (pos 0))
years_at-at indicators [] [] y d e inside = absurd (omega arith)
years_at-at indicators [] (benchmark ∷ benchmarks) y d e inside = absurd (omega arith)
years_at-at indicators (place ∷ places) [] y d e inside = absurd (omega arith)
years_at-at indicators (place ∷ places) (benchmark ∷ benchmarks) zero d e inside = refl
years_at-at indicators (place ∷ places) (benchmark ∷ benchmarks) (suc y) d e inside =
    years_at-at indicators places benchmarks y d (omega arith) (omega arith)

-- there is a place more than joints
pub places_apart-length : (first : ℕ) (missing : List ℕ) → length (places_apart first missing) ≡ length missing + 1
places_apart-length first [] = refl
places_apart-length first (years ∷ missing) =
    let rest = places_apart-length (suc (first + years)) missing in
    omega arith

-- from a place to the next lie the years that miss a benchmark
pub places_apart-next : (first : ℕ) (missing : List ℕ) (y : ℕ) → y < length missing →
    get_or (places_apart first missing) (suc y) 0 ≡ suc (get_or (places_apart first missing) y 0 + get_or missing y 0)
places_apart-next first [] y inside = absurd (omega arith)
places_apart-next first (years ∷ []) zero inside = refl
places_apart-next first (years ∷ more ∷ missing) zero inside = refl
places_apart-next first (years ∷ missing) (suc y) inside =
    places_apart-next (suc (first + years)) missing y (omega arith)

-- the numbers of a year are in range
abbrev pub IsInRange : BenchmarkedYear → Type 0
IsInRange year = AreIndicators year.indicators × IsBenchmark year.benchmark

-- that holds of each year
abbrev pub AreInRange : List BenchmarkedYear → Type 0
AreInRange years = All IsInRange years

-- the numbers of parts are in range, wherever they stand
pub parts_in_range : (places : List ℕ) (parts : List YearPart) → AreInRange (years_in places parts)
parts_in_range [] parts = All-nil IsInRange
parts_in_range (place ∷ places) [] = All-nil IsInRange
parts_in_range (place ∷ places) (part ∷ parts) =
    All-cons IsInRange (year_in place part) (years_in places parts) (part.indicators, part.benchmark)
    (parts_in_range places parts)

-- the numbers of a run's years are in range where those of the run are
pub run_in_range : (indicators places : List ℕ) (benchmarks : List ℤ) → length places ≡ length benchmarks →
    ArePlaces (length indicators) places → EachIndex indicators (λ t. IsIndicator (slice_index indicators t)) →
    EachIndex benchmarks (λ y. IsBenchmark (slice_index_or benchmarks y (pos 0))) →
    AreInRange (years_at indicators places benchmarks)
run_in_range indicators places benchmarks e are all_indicators all_benchmarks y d inside =
    let within : y < length benchmarks = omega (arith, years_at-length indicators places benchmarks e) in
    let whole : 4 * get_or places y 0 + 4 ≤ length indicators = are.whole_years y 0 (omega arith) in
    let is = years_at-at indicators places benchmarks y d e within in
    rw is (
      record {
        first = all_indicators (4 * get_or places y 0) (omega arith);
        second = all_indicators (4 * get_or places y 0 + 1) (omega arith);
        third = all_indicators (4 * get_or places y 0 + 2) (omega arith);
        fourth = all_indicators (4 * get_or places y 0 + 3) (omega arith);
      },
      all_benchmarks y within,
    )

-- the years at places of a run are years of it
pub years_of_run : (indicators places : List ℕ) (benchmarks : List ℤ) → length places ≡ length benchmarks →
    ArePlaces (length indicators) places → AreYearsOf indicators (years_at indicators places benchmarks)
years_of_run indicators places benchmarks e are = record {
  places = subst (ArePlaces (length indicators)) (sym (years_at-places indicators places benchmarks e)) are;
  own = λ y d inside.
      let within : y < length benchmarks = omega (arith, years_at-length indicators places benchmarks e) in
      rw (years_at-at indicators places benchmarks y d e within) refl;
}
