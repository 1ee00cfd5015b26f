-- The benchmarked years of a run, as weak duality meets them: from a place on, four quarters a step.
use Rattle.std.specs.Prelude.{◌≡◌, ℕ, ◌+◌, ◌-◌, ◌*◌, ◌≤◌, ◌<◌, ℤ, pos, ◌+ℤ◌, ◌*ℤ◌, List, [], ◌∷◌, map, length}
use Rattle.std.specs.List.{All}
use Rattle.std.specs.List.Sorted.{IsStrictlyIncreasing}
use Rattle.std.proofs.Common.{arith, zero, suc, get_or, subst, inl, inr, ◌⊎◌}
use Rattle.std.proofs.lemmas.Bool.{cases_lt}
use Rattle.std.proofs.lemmas.List.Elements.{All-cons}
use Rattle.denton_parts.specs.Benchmarks.{MeetsBenchmarks, year_total}
use Rattle.denton_parts.specs.Year.{BenchmarkedYear}
use Rattle.denton_parts.specs.Years.{AreYearsOf, quarters_at}

-- a rising list rises behind its first number
pub rising_behind : (first : ℕ) (rest : List ℕ) → IsStrictlyIncreasing (first ∷ rest) → IsStrictlyIncreasing rest
rising_behind first rest rising k inside =
    let next : suc k + 1 ≡ suc (suc k) = omega arith in
    let up : k + 1 ≡ suc k = omega arith in
    rw up (rw next at (rising (suc k) (omega arith)))

-- what rises behind a number is all above it
pub rising_above : (place : ℕ) (years : List BenchmarkedYear) →
    IsStrictlyIncreasing (place ∷ map (λ year. year.place) years) → All (λ later. place < later.place) years
rising_above place [] rising k d inside = absurd (omega arith)
rising_above place (year ∷ years) rising zero d inside = rising 0 (omega arith)
rising_above place (year ∷ years) rising (suc k) d inside =
    let first : place < year.place = rising 0 (omega arith) in
    let more : year.place < (get_or years k d).place =
    rising_above year.place years (rising_behind place (year.place ∷ map (λ later. later.place) years) rising)
    k d (omega arith) in
    omega arith

-- the benchmarked years of a run from the year at a place on, which two series meet: the one whole, the other n times
pub data Benchmarked (n : ℤ) : ℕ → List BenchmarkedYear → List ℕ → List ℤ → List ℤ → Type 0 where
  no_year : (place : ℕ) (is : List ℕ) (xs zs : List ℤ) → Benchmarked n place [] is xs zs
  own_year : (place : ℕ) (year : BenchmarkedYear) (years : List BenchmarkedYear) (i0 i1 i2 i3 : ℕ) (is : List ℕ)
      (x0 x1 x2 x3 : ℤ) (xs : List ℤ) (z0 z1 z2 z3 : ℤ) (zs : List ℤ) → year.place ≡ place →
      year.indicators ≡ i0 ∷ i1 ∷ i2 ∷ i3 ∷ [] → x0 +ℤ x1 +ℤ x2 +ℤ x3 ≡ pos 1 *ℤ year.benchmark →
      z0 +ℤ z1 +ℤ z2 +ℤ z3 ≡ n *ℤ year.benchmark → Benchmarked n (suc place) years is xs zs →
      Benchmarked n place (year ∷ years) (i0 ∷ i1 ∷ i2 ∷ i3 ∷ is) (x0 ∷ x1 ∷ x2 ∷ x3 ∷ xs) (z0 ∷ z1 ∷ z2 ∷ z3 ∷ zs)
  other_year : (place : ℕ) (year : BenchmarkedYear) (years : List BenchmarkedYear) (i0 i1 i2 i3 : ℕ) (is : List ℕ)
      (x0 x1 x2 x3 : ℤ) (xs : List ℤ) (z0 z1 z2 z3 : ℤ) (zs : List ℤ) → place < year.place →
      Benchmarked n (suc place) (year ∷ years) is xs zs →
      Benchmarked n place (year ∷ years) (i0 ∷ i1 ∷ i2 ∷ i3 ∷ is) (x0 ∷ x1 ∷ x2 ∷ x3 ∷ xs) (z0 ∷ z1 ∷ z2 ∷ z3 ∷ zs)

-- a year of a run at a place: its four quarters, with its indicators and its benchmark in both series
record Stands (n : ℤ) (is : List ℕ) (xs zs : List ℤ) (year : BenchmarkedYear) (y : ℕ) : Type 0 where
  within : 4 * y + 4 ≤ length is
  own : year.indicators ≡ quarters_at is y
  whole : year_total xs y ≡ pos 1 *ℤ year.benchmark
  parts : year_total zs y ≡ n *ℤ year.benchmark

-- the same behind the run's first four quarters
stands_on : (n : ℤ) (year : BenchmarkedYear) (i0 i1 i2 i3 : ℕ) (is : List ℕ) (x0 x1 x2 x3 : ℤ) (xs : List ℤ)
    (z0 z1 z2 z3 : ℤ) (zs : List ℤ) (y : ℕ) →
    Stands n (i0 ∷ i1 ∷ i2 ∷ i3 ∷ is) (x0 ∷ x1 ∷ x2 ∷ x3 ∷ xs) (z0 ∷ z1 ∷ z2 ∷ z3 ∷ zs) year (suc y) →
    Stands n is xs zs year y
stands_on n year i0 i1 i2 i3 is x0 x1 x2 x3 xs z0 z1 z2 z3 zs y stands =
    let first : 4 * suc y ≡ suc (suc (suc (suc (4 * y)))) = omega arith in
    let second : 4 * suc y + 1 ≡ suc (suc (suc (suc (4 * y + 1)))) = omega arith in
    let third : 4 * suc y + 2 ≡ suc (suc (suc (suc (4 * y + 2)))) = omega arith in
    let fourth : 4 * suc y + 3 ≡ suc (suc (suc (suc (4 * y + 3)))) = omega arith in
    record {
      within = let inside = stands.within in omega arith;
      own = rw (second, third, fourth, first) at stands.own;
      whole = rw (second, third, fourth, first) at stands.whole;
      parts = rw (second, third, fourth, first) at stands.parts;
    }

-- what stands from a place on
abbrev StandFrom : ℤ → ℕ → List BenchmarkedYear → List ℕ → List ℤ → List ℤ → Type 0
StandFrom n place years is xs zs = All (λ year. (y : ℕ) → year.place ≡ place + y → Stands n is xs zs year y) years

-- a year to come has quarters left
none_left : (n : ℤ) (place : ℕ) (year : BenchmarkedYear) (years : List BenchmarkedYear) (is : List ℕ) (xs zs : List ℤ) →
    All (λ other. place ≤ other.place) (year ∷ years) → StandFrom n place (year ∷ years) is xs zs → length is < 4 → ⊥
none_left n place year years is xs zs behind stand few =
    let least : place ≤ year.place = behind 0 year (omega arith) in
    let first = stand 0 year (omega arith) (year.place - place) (omega arith) in
    let inside : 4 * (year.place - place) + 4 ≤ length is = first.within in
    omega arith

-- the years of a run, four quarters a step
benchmarked_from : (n : ℤ) (place : ℕ) (years : List BenchmarkedYear) (is : List ℕ) (xs zs : List ℤ) →
    length xs ≡ length is → length zs ≡ length is → IsStrictlyIncreasing (map (λ year. year.place) years) →
    All (λ year. place ≤ year.place) years → StandFrom n place years is xs zs → Benchmarked n place years is xs zs
benchmarked_from n place [] is xs zs same_xs same_zs rising behind stand = no_year place is xs zs
benchmarked_from n place (year ∷ years) [] xs zs same_xs same_zs rising behind stand =
    absurd (none_left n place year years [] xs zs behind stand (omega arith))
benchmarked_from n place (year ∷ years) (i0 ∷ []) xs zs same_xs same_zs rising behind stand =
    absurd (none_left n place year years (i0 ∷ []) xs zs behind stand (omega arith))
benchmarked_from n place (year ∷ years) (i0 ∷ i1 ∷ []) xs zs same_xs same_zs rising behind stand =
    absurd (none_left n place year years (i0 ∷ i1 ∷ []) xs zs behind stand (omega arith))
benchmarked_from n place (year ∷ years) (i0 ∷ i1 ∷ i2 ∷ []) xs zs same_xs same_zs rising behind stand =
    absurd (none_left n place year years (i0 ∷ i1 ∷ i2 ∷ []) xs zs behind stand (omega arith))
benchmarked_from n place (year ∷ years) (i0 ∷ i1 ∷ i2 ∷ i3 ∷ is) [] zs same_xs same_zs rising behind stand =
    absurd (omega arith)
benchmarked_from n place (year ∷ years) (i0 ∷ i1 ∷ i2 ∷ i3 ∷ is) (x0 ∷ []) zs same_xs same_zs rising behind stand =
    absurd (omega arith)
benchmarked_from n place (year ∷ years) (i0 ∷ i1 ∷ i2 ∷ i3 ∷ is) (x0 ∷ x1 ∷ []) zs same_xs same_zs rising behind stand =
    absurd (omega arith)
benchmarked_from n place (year ∷ years) (i0 ∷ i1 ∷ i2 ∷ i3 ∷ is) (x0 ∷ x1 ∷ x2 ∷ []) zs same_xs same_zs rising behind
    stand = absurd (omega arith)
benchmarked_from n place (year ∷ years) (i0 ∷ i1 ∷ i2 ∷ i3 ∷ is) (x0 ∷ x1 ∷ x2 ∷ x3 ∷ xs) [] same_xs same_zs rising
    behind stand = absurd (omega arith)
benchmarked_from n place (year ∷ years) (i0 ∷ i1 ∷ i2 ∷ i3 ∷ is) (x0 ∷ x1 ∷ x2 ∷ x3 ∷ xs) (z0 ∷ []) same_xs same_zs
    rising behind stand = absurd (omega arith)
benchmarked_from n place (year ∷ years) (i0 ∷ i1 ∷ i2 ∷ i3 ∷ is) (x0 ∷ x1 ∷ x2 ∷ x3 ∷ xs) (z0 ∷ z1 ∷ []) same_xs
    same_zs rising behind stand = absurd (omega arith)
benchmarked_from n place (year ∷ years) (i0 ∷ i1 ∷ i2 ∷ i3 ∷ is) (x0 ∷ x1 ∷ x2 ∷ x3 ∷ xs) (z0 ∷ z1 ∷ z2 ∷ []) same_xs
    same_zs rising behind stand = absurd (omega arith)
benchmarked_from n place (year ∷ years) (i0 ∷ i1 ∷ i2 ∷ i3 ∷ is) (x0 ∷ x1 ∷ x2 ∷ x3 ∷ xs) (z0 ∷ z1 ∷ z2 ∷ z3 ∷ zs)
    same_xs same_zs rising behind stand =
    let above = rising_above year.place years rising in
    let least : place ≤ year.place = behind 0 year (omega arith) in
    let later : IsStrictlyIncreasing (map (λ year. year.place) years) =
    rising_behind year.place (map (λ year. year.place) years) rising in
    by_place (cases_lt place year.place)
    (λ below. benchmarked_from n (suc place) (year ∷ years) is xs zs (omega arith) (omega arith) rising
    (All-cons (λ other. suc place ≤ other.place) year years below
    (λ k d inside. let more = above k d inside in omega arith))
    (λ k d inside y e. stands_on n (get_or (year ∷ years) k d) i0 i1 i2 i3 is x0 x1 x2 x3 xs z0 z1 z2 z3 zs y
    (stand k d inside (suc y) (omega arith))))
    (λ here. benchmarked_from n (suc place) years is xs zs (omega arith) (omega arith) later
    (λ k d inside. let more = above k d inside in omega arith)
    (λ k d inside y e. stands_on n (get_or years k d) i0 i1 i2 i3 is x0 x1 x2 x3 xs z0 z1 z2 z3 zs y
    (stand (suc k) d (omega arith) (suc y) (omega arith))))
  where
    by_place : (place < year.place) ⊎ (year.place ≤ place) →
        (place < year.place → Benchmarked n (suc place) (year ∷ years) is xs zs) →
        (year.place ≤ place → Benchmarked n (suc place) years is xs zs) →
        Benchmarked n place (year ∷ years) (i0 ∷ i1 ∷ i2 ∷ i3 ∷ is) (x0 ∷ x1 ∷ x2 ∷ x3 ∷ xs) (z0 ∷ z1 ∷ z2 ∷ z3 ∷ zs)
    by_place (inl below) before here =
        other_year place year years i0 i1 i2 i3 is x0 x1 x2 x3 xs z0 z1 z2 z3 zs below (before below)
    by_place (inr reached) before here =
        let least : place ≤ year.place = behind 0 year (omega arith) in
        let e : year.place ≡ place = omega arith in
        let first = stand 0 year (omega arith) 0 (omega arith) in
        own_year place year years i0 i1 i2 i3 is x0 x1 x2 x3 xs z0 z1 z2 z3 zs e first.own first.whole first.parts
        (here reached)

-- two series of a run that meet the benchmarks of its years, the one whole and the other n times
pub benchmarked_run : (n : ℤ) (years : List BenchmarkedYear) (indicators : List ℕ) (quarters others : List ℤ) →
    AreYearsOf indicators years → length quarters ≡ length indicators → length others ≡ length indicators →
    MeetsBenchmarks years (pos 1) quarters → MeetsBenchmarks years n others →
    Benchmarked n 0 years indicators quarters others
benchmarked_run n years indicators quarters others are same_quarters same_others meets others_meet =
    benchmarked_from n 0 years indicators quarters others same_quarters same_others are.places.rising
    (λ k d inside. omega arith) stand
  where
    stand : StandFrom n 0 years indicators quarters others
    stand k d inside y e =
        let same : (get_or years k d).place ≡ y = omega arith in
        let first = meets k d inside in
        let second = others_meet k d inside in
        record {
          within = let least = first.0 in omega arith;
          own = subst (λ (p : ℕ). (get_or years k d).indicators ≡ quarters_at indicators p) same (are.own k d inside);
          whole = subst (λ (p : ℕ). year_total quarters p ≡ pos 1 *ℤ (get_or years k d).benchmark) same first.1;
          parts = subst (λ (p : ℕ). year_total others p ≡ n *ℤ (get_or years k d).benchmark) same second.1;
        }
