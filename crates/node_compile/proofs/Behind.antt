-- The values of a run of quarters: how many they are, that they meet the benchmarks, and how far they reach.
use Rattle.std.specs.Prelude.{◌≡◌, ℕ, ◌+◌, ◌-◌, ◌*◌, ◌^◌, ◌≤◌, ◌<◌, ℤ, pos, ◌+ℤ◌, ◌*ℤ◌, List, [], ◌∷◌, ◌++◌, map, length, take, drop, slice_index, unsigned_abs, EachIndex}
use Rattle.std.specs.List.{All}
use Rattle.std.specs.List.Sorted.{IsStrictlyIncreasing}
use Rattle.std.proofs.Common.{refl, sym, ◌∙◌, ap, arith, zero, suc, get_or, subst, length-append, length-drop}
use Rattle.std.proofs.Math.Seq.{drop-drop}
use Rattle.std.proofs.lemmas.List.{length-map, length-take, length-take-le, get_or-take, get_or-drop, get_or-append-add, append_assoc, take-append-drop}
use Rattle.std.proofs.lemmas.List.Elements.{All-head, All-tail}
use Rattle.ratio_arith.proofs.Ring.{same_by_ring, var, num, ◌⊗◌}
use Rattle.denton_parts.specs.Benchmarks.{year_total, AddsUpTo, MeetsBenchmarks}
use Rattle.denton_parts.specs.Year.{BenchmarkedYear, IsIndicator, IsMultiplier}
use Rattle.denton_parts.specs.Years.{AreYearsOf, quarters_at}
use Rattle.denton_parts.proofs.Places.{IsInRange, AreInRange}
use Rattle.denton_solve.specs.Conditions.{AreMultipliers, IsScaled, AreScaled}
use Rattle.denton_solve.specs.Series.{year_series}
use Rattle.denton_solve.specs.Sweeps.{first_of}
use Rattle.denton_solve.proofs.Values.{year_count, year_adds_up, four_add_up, share_within}
use Rattle.extrapolate.specs.Carried.{carried, carried_back, carried_of, carried_back_of, across_of}
use Rattle.extrapolate.proofs.Carrying.{carried_within, carried_back_within}
use Rattle.extrapolate.proofs.Stepped.{across_within, across_count}
use Rattle.node_compile.specs.Leaf.{values_behind, run_values, quarters_between}

-- ---- the years behind a place

-- the years are years of the quarters behind the year at a place, one after the other
abbrev pub AreBehind : ℕ → List BenchmarkedYear → List ℕ → Type 0
AreBehind place [] indicators = Unit {0}
AreBehind place (next ∷ years) indicators =
    (place < next.place) × (4 * (next.place - suc place) + 4 ≤ length indicators)
    × (next.indicators ≡ quarters_at indicators (next.place - suc place))
    × AreBehind next.place years (drop (4 * (next.place - suc place) + 4) indicators)

-- the quarters of a year behind others
quarters_behind : (indicators : List ℕ) (place later : ℕ) → place < later →
    quarters_at (drop (4 * place + 4) indicators) (later - suc place) ≡ quarters_at indicators later
quarters_behind indicators place later before =
    four (here (4 * (later - suc place)) (4 * later) (omega arith))
    (here (4 * (later - suc place) + 1) (4 * later + 1) (omega arith))
    (here (4 * (later - suc place) + 2) (4 * later + 2) (omega arith))
    (here (4 * (later - suc place) + 3) (4 * later + 3) (omega arith))
  where
    here : (t u : ℕ) → 4 * place + 4 + t ≡ u → slice_index (drop (4 * place + 4) indicators) t ≡ slice_index indicators u
    here t u e = get_or-drop (4 * place + 4) indicators t 0 ∙ ap (λ (n : ℕ). get_or indicators n 0) e

    four : {a b c d e f g h : ℕ} → a ≡ e → b ≡ f → c ≡ g → d ≡ h → ◌≡◌ {A = List ℕ} (a ∷ b ∷ c ∷ d ∷ []) (e ∷ f ∷ g ∷ h ∷ [])
    four {a} {b} {c} {d} {e} {f} {g} {h} ea eb ec ed = cc

-- years of a run that rise behind a place are behind it
behind_of : (whole : List ℕ) (place : ℕ) (years : List BenchmarkedYear) →
    IsStrictlyIncreasing (place ∷ map (λ year. year.place) years) →
    All (λ year. 4 * year.place + 4 ≤ length whole) years →
    All (λ year. year.indicators ≡ quarters_at whole year.place) years →
    AreBehind place years (drop (4 * place + 4) whole)
behind_of whole place [] rising within own = tt
behind_of whole place (next ∷ years) rising within own =
    let first : place < next.place = rising 0 (omega arith) in
    let room : 4 * next.place + 4 ≤ length whole = within 0 next (omega arith) in
    let left : drop (4 * next.place + 4) whole ≡ drop (4 * (next.place - suc place) + 4) (drop (4 * place + 4) whole) =
    ap (λ (n : ℕ). drop n whole) (omega arith) ∙ sym (drop-drop (4 * (next.place - suc place) + 4) (4 * place + 4) whole) in
    let later = behind_of whole next.place years (rises_on rising)
    (λ k d inside. within (suc k) d (omega arith)) (λ k d inside. own (suc k) d (omega arith)) in (
      first,
      omega (arith, length-drop (4 * place + 4) whole),
      own 0 next (omega arith) ∙ sym (quarters_behind whole place next.place first),
      subst (AreBehind next.place years) left later,
    )
  where
    rises_on : IsStrictlyIncreasing (place ∷ next.place ∷ map (λ year. year.place) years) →
        IsStrictlyIncreasing (next.place ∷ map (λ year. year.place) years)
    rises_on rising k inside =
        let next : suc k + 1 ≡ suc (k + 1) = omega arith in
        rw next at (rising (suc k) (omega arith))

-- the years of a run from its first one on: its own quarters, and the years behind it
pub record AreFrom (year : BenchmarkedYear) (years : List BenchmarkedYear) (indicators : List ℕ) : Type 0 where
  pub room : 4 * year.place + 4 ≤ length indicators
  pub own : year.indicators ≡ quarters_at indicators year.place
  pub behind : AreBehind year.place years (drop (4 * year.place + 4) indicators)

-- each year of a run has its four quarters there
pub rooms_of : (years : List BenchmarkedYear) (indicators : List ℕ) → AreYearsOf indicators years →
    All (λ year. 4 * year.place + 4 ≤ length indicators) years
rooms_of years indicators are k d inside =
    let here = are.places.whole_years k 0 (omega (arith, length-map years (λ year. year.place))) in
    rw (at_place years k d inside) at here
  where
    at_place : (run : List BenchmarkedYear) (k : ℕ) (d : BenchmarkedYear) → k < length run →
        get_or (map (λ later. later.place) run) k 0 ≡ (get_or run k d).place
    at_place [] k d inside = absurd (omega arith)
    at_place (first ∷ run) zero d inside = refl
    at_place (first ∷ run) (suc k) d inside = at_place run k d (omega arith)

-- years of a run are so from the first of them on
pub are_from : (year : BenchmarkedYear) (years : List BenchmarkedYear) (indicators : List ℕ) →
    AreYearsOf indicators (year ∷ years) → AreFrom year years indicators
are_from year years indicators are =
    let rooms = rooms_of (year ∷ years) indicators are in
    record {
      room = rooms 0 year (omega arith);
      own = are.own 0 year (omega arith);
      behind = behind_of indicators year.place years are.places.rising (λ k d inside. rooms (suc k) d (omega arith))
          (λ k d inside. are.own (suc k) d (omega arith));
    }

-- ---- how many values there are

-- as many values are carried as there are indicators
carried_count : (k : ℕ) (last : BenchmarkedYear) (left : ℤ) (indicators : List ℕ) →
    length (carried_of k last left indicators) ≡ length indicators
unfolding carried_of
carried_count k last left indicators = length-map indicators (carried k last left)

pub carried_back_count : (k : ℕ) (first : BenchmarkedYear) (right : ℤ) (indicators : List ℕ) →
    length (carried_back_of k first right indicators) ≡ length indicators
unfolding carried_back_of
carried_back_count k first right indicators = length-map indicators (carried_back k first right)

-- a value for each quarter behind a benchmarked year
behind_count : (k : ℕ) (before : ℤ) (year : BenchmarkedYear) (years : List BenchmarkedYear) (u : List ℤ)
    (indicators : List ℕ) → AreBehind year.place years indicators → AreInRange years →
    length (values_behind k before year years u indicators) ≡ length indicators
behind_count k before year [] u indicators are range = carried_count k year before indicators
behind_count k before year (next ∷ years) u indicators are range =
    let between : ℕ = quarters_between year next in
    let own : ℤ = first_of u in
    let after : ℤ = first_of (drop 1 u) in
    let room : between + 4 ≤ length indicators = are.1 in
    let across : List ℤ = across_of k year next before own after (take between indicators) in
    let four : List ℤ = year_series k next own after in
    let rest : List ℤ = values_behind k own next years (drop 1 u) (drop (between + 4) indicators) in
    let first : length across ≡ between = across_count k year next before own after (take between indicators)
    ∙ length-take-le between indicators (omega arith) in
    let second : length four ≡ 4 = year_count k next own after (All-head IsInRange next years range).0 in
    let third : length rest ≡ length (drop (between + 4) indicators) = behind_count k own next years (drop 1 u)
    (drop (between + 4) indicators) are.3 (All-tail IsInRange next years range) in
    omega (arith, length-append across (four ++ rest), length-append four rest, length-drop (between + 4) indicators)

-- a run has a value for each indicator
pub values_count : (k : ℕ) (year : BenchmarkedYear) (years : List BenchmarkedYear) (u : List ℤ) (indicators : List ℕ) →
    AreFrom year years indicators → AreInRange (year ∷ years) →
    length (run_values k (year ∷ years) u indicators) ≡ length indicators
values_count k year years u indicators are range =
    let after : ℤ = first_of u in
    let room : 4 * year.place + 4 ≤ length indicators = are.room in
    let before : List ℤ = carried_back_of k year after (take (4 * year.place) indicators) in
    let four : List ℤ = year_series k year (pos 0) after in
    let rest : List ℤ = values_behind k (pos 0) year years u (drop (4 * year.place + 4) indicators) in
    let first : length before ≡ 4 * year.place = carried_back_count k year after (take (4 * year.place) indicators)
    ∙ length-take-le (4 * year.place) indicators (omega arith) in
    let second : length four ≡ 4 = year_count k year (pos 0) after (All-head IsInRange year years range).0 in
    let third : length rest ≡ length (drop (4 * year.place + 4) indicators) =
    behind_count k (pos 0) year years u (drop (4 * year.place + 4) indicators) are.behind
    (All-tail IsInRange year years range) in
    omega (arith, length-append before (four ++ rest), length-append four rest, length-drop (4 * year.place + 4) indicators)

-- ---- that they meet the benchmarks

-- the total of a year behind other years
total_behind : (xs ys : List ℤ) (years place : ℕ) → length xs ≡ 4 * years →
    year_total (xs ++ ys) (years + place) ≡ year_total ys place
total_behind xs ys years place count =
    sums (here (4 * (years + place)) (4 * place) (omega arith)) (here (4 * (years + place) + 1) (4 * place + 1) (omega arith))
    (here (4 * (years + place) + 2) (4 * place + 2) (omega arith)) (here (4 * (years + place) + 3) (4 * place + 3) (omega arith))
  where
    here : (t u : ℕ) → t ≡ length xs + u → get_or (xs ++ ys) t (pos 0) ≡ get_or ys u (pos 0)
    here t u e = ap (λ (n : ℕ). get_or (xs ++ ys) n (pos 0)) e ∙ get_or-append-add xs ys u (pos 0)

    sums : {a b c d e f g h : ℤ} → a ≡ e → b ≡ f → c ≡ g → d ≡ h → a +ℤ b +ℤ c +ℤ d ≡ e +ℤ f +ℤ g +ℤ h
    sums {a} {b} {c} {d} {e} {f} {g} {h} ea eb ec ed = cc

-- the years behind a place are all above it
behind_above : (place : ℕ) (years : List BenchmarkedYear) (indicators : List ℕ) → AreBehind place years indicators →
    All (λ year. place < year.place) years
behind_above place [] indicators are k d inside = absurd (omega arith)
behind_above place (next ∷ years) indicators are zero d inside = are.0
behind_above place (next ∷ years) indicators are (suc k) d inside =
    let more = behind_above next.place years (drop (4 * (next.place - suc place) + 4) indicators) are.3 k d (omega arith) in
    let first : place < next.place = are.0 in
    omega arith

-- each year behind a benchmarked year adds up to its benchmark
behind_meets : (k : ℕ) (before : ℤ) (year : BenchmarkedYear) (years : List BenchmarkedYear) (u : List ℤ)
    (indicators : List ℕ) → AreBehind year.place years indicators → AreInRange years →
    All (λ later. year_total (values_behind k before year years u indicators) (later.place - suc year.place)
    ≡ later.benchmark) years
behind_meets k before year [] u indicators are range i d inside = absurd (omega arith)
behind_meets k before year (next ∷ years) u indicators are range i d inside =
    at (λ j below. behind_meets k (first_of u) next years (drop 1 u) (drop (quarters_between year next + 4) indicators)
    are.3 (All-tail IsInRange next years range) j d below) i inside
  where
    gap : ℕ
    gap = next.place - suc year.place

    own : ℤ
    own = first_of u

    after : ℤ
    after = first_of (drop 1 u)

    across : List ℤ
    across = across_of k year next before own after (take (quarters_between year next) indicators)

    four : List ℤ
    four = year_series k next own after

    rest : List ℤ
    rest = values_behind k own next years (drop 1 u) (drop (quarters_between year next + 4) indicators)

    own_range : IsInRange next
    own_range = All-head IsInRange next years range

    count : length across ≡ 4 * gap
    count = across_count k year next before own after (take (quarters_between year next) indicators)
        ∙ length-take-le (quarters_between year next) indicators (let room : 4 * (next.place - suc year.place) + 4 ≤ length indicators = are.1 in omega arith)

    four_count : length four ≡ 4
    four_count = year_count k next own after own_range.0

    at : ((j : ℕ) → j < length years → year_total rest ((get_or years j d).place - suc next.place)
        ≡ (get_or years j d).benchmark) → (i : ℕ) → i < length (next ∷ years) →
        year_total (across ++ (four ++ rest)) ((get_or (next ∷ years) i d).place - suc year.place)
        ≡ (get_or (next ∷ years) i d).benchmark
    at more zero inside =
        let place : next.place - suc year.place ≡ gap + 0 = omega arith in
        ap (λ (n : ℕ). year_total (across ++ (four ++ rest)) n) place ∙ total_behind across (four ++ rest) gap 0 count
        ∙ (four_add_up four rest next.benchmark four_count (year_adds_up k next own after own_range.0)).1
    at more (suc i) inside =
        let later : BenchmarkedYear = get_or years i d in
        let first : year.place < next.place = are.0 in
        let above : next.place < later.place = behind_above next.place years (drop (4 * (next.place - suc year.place) + 4) indicators) are.3 i d (omega arith) in
        let place : later.place - suc year.place ≡ (gap + 1) + (later.place - suc next.place) = omega arith in
        let both : length (across ++ four) ≡ 4 * (gap + 1) = omega (arith, length-append across four, count, four_count) in
        ap (λ (n : ℕ). year_total (across ++ (four ++ rest)) n) place
        ∙ ap (λ (xs : List ℤ). year_total xs ((gap + 1) + (later.place - suc next.place))) (sym (append_assoc across four rest))
        ∙ total_behind (across ++ four) rest (gap + 1) (later.place - suc next.place) both
        ∙ more i (omega arith)

-- the values of a run meet the benchmarks of its years
pub values_meet : (k : ℕ) (year : BenchmarkedYear) (years : List BenchmarkedYear) (u : List ℤ) (indicators : List ℕ) →
    AreYearsOf indicators (year ∷ years) → AreInRange (year ∷ years) →
    MeetsBenchmarks (year ∷ years) (pos 1) (run_values k (year ∷ years) u indicators)
values_meet k year years u indicators are range i d inside =
    let from = are_from year years indicators are in
    let count = values_count k year years u indicators from range in
    let room : 4 * (get_or (year ∷ years) i d).place + 4 ≤ length indicators = rooms_of (year ∷ years) indicators are i d inside in (
      omega arith,
      total from (λ j below. behind_meets k (pos 0) year years u (drop (4 * year.place + 4) indicators) from.behind (All-tail IsInRange year years range) j d below) i inside
          ∙ sym (once (get_or (year ∷ years) i d).benchmark),
    )
  where
    once : (z : ℤ) → pos 1 *ℤ z ≡ z
    once z = let x = var 0 in same_by_ring (z ∷ []) (num (pos 1) ⊗ x) x refl

    after : ℤ
    after = first_of u

    before : List ℤ
    before = carried_back_of k year after (take (4 * year.place) indicators)

    four : List ℤ
    four = year_series k year (pos 0) after

    rest : List ℤ
    rest = values_behind k (pos 0) year years u (drop (4 * year.place + 4) indicators)

    total : AreFrom year years indicators → ((j : ℕ) → j < length years → year_total rest ((get_or years j d).place - suc year.place) ≡ (get_or years j d).benchmark) →
        (i : ℕ) → i < length (year ∷ years) →
        year_total (before ++ (four ++ rest)) (get_or (year ∷ years) i d).place ≡ (get_or (year ∷ years) i d).benchmark
    total from more zero inside =
        let room : 4 * year.place + 4 ≤ length indicators = from.room in
        let count : length before ≡ 4 * year.place = carried_back_count k year after (take (4 * year.place) indicators)
        ∙ length-take-le (4 * year.place) indicators (omega arith) in
        let place : year.place ≡ year.place + 0 = omega arith in
        let own = (All-head IsInRange year years range).0 in
        ap (λ (n : ℕ). year_total (before ++ (four ++ rest)) n) place
        ∙ total_behind before (four ++ rest) year.place 0 count
        ∙ (four_add_up four rest year.benchmark (year_count k year (pos 0) after own) (year_adds_up k year (pos 0) after own)).1
    total from more (suc i) inside =
        let room : 4 * year.place + 4 ≤ length indicators = from.room in
        let count : length before ≡ 4 * year.place = carried_back_count k year after (take (4 * year.place) indicators)
        ∙ length-take-le (4 * year.place) indicators (omega arith) in
        let own = (All-head IsInRange year years range).0 in
        let four_count : length four ≡ 4 = year_count k year (pos 0) after own in
        let later : BenchmarkedYear = get_or years i d in
        let above : year.place < later.place = behind_above year.place years (drop (4 * year.place + 4) indicators) from.behind i d (omega arith) in
        let place : later.place ≡ (year.place + 1) + (later.place - suc year.place) = omega arith in
        let both : length (before ++ four) ≡ 4 * (year.place + 1) = omega (arith, length-append before four, count, four_count) in
        ap (λ (n : ℕ). year_total (before ++ (four ++ rest)) n) place
        ∙ ap (λ (xs : List ℤ). year_total xs ((year.place + 1) + (later.place - suc year.place))) (sym (append_assoc before four rest))
        ∙ total_behind (before ++ four) rest (year.place + 1) (later.place - suc year.place) both ∙ more i (omega arith)

-- ---- how far they reach

-- values of quarters with these indicators, none of which reaches further than 8 * 10^15 times its own
pub record Reach (k : ℕ) (indicators : List ℕ) (values : List ℤ) : Type 0 where
  pub count : length values ≡ length indicators
  pub each : (t : ℕ) → t < length values → 10 ^ k * unsigned_abs (get_or values t (pos 0)) ≤ 8 * 10 ^ 15 * slice_index indicators t

-- two runs of quarters, one behind the other
reach_joined : (k : ℕ) (is js : List ℕ) (xs ys : List ℤ) → Reach k is xs → Reach k js ys → Reach k (is ++ js) (xs ++ ys)
reach_joined k is js xs ys first second =
    let one = first.count in
    let two = second.count in
    record {
      count = omega (arith, length-append xs ys, length-append is js);
      each = joined xs is one first.each;
    }
  where
    joined : (xs : List ℤ) (is : List ℕ) → length xs ≡ length is →
        ((t : ℕ) → t < length xs → 10 ^ k * unsigned_abs (get_or xs t (pos 0)) ≤ 8 * 10 ^ 15 * slice_index is t) →
        (t : ℕ) → t < length (xs ++ ys) → 10 ^ k * unsigned_abs (get_or (xs ++ ys) t (pos 0)) ≤ 8 * 10 ^ 15 * slice_index (is ++ js) t
    joined [] [] same own t inside = second.each t inside
    joined [] (i ∷ is) same own t inside = absurd (omega arith)
    joined (x ∷ xs) [] same own t inside = absurd (omega arith)
    joined (x ∷ xs) (i ∷ is) same own zero inside = own 0 (omega arith)
    joined (x ∷ xs) (i ∷ is) same own (suc t) inside = joined xs is (omega arith) (λ u h. own (suc u) (omega arith)) t (omega arith)

-- a number in range: the first of a list, and all of what is left and of what is taken
first_small : (u : List ℤ) → AreMultipliers u → IsMultiplier (first_of u)
first_small [] each = omega arith
first_small (own ∷ u) each = each 0 (omega arith)

later_small : (u : List ℤ) → AreMultipliers u → AreMultipliers (drop 1 u)
later_small [] each y inside = absurd (omega arith)
later_small (own ∷ u) each y inside = each (suc y) (omega arith)

-- indicators in range
abbrev pub AreIndicatorsOf : List ℕ → Type 0
AreIndicatorsOf indicators = EachIndex indicators (λ t. IsIndicator (slice_index indicators t))

dropped_range : (n : ℕ) (indicators : List ℕ) → AreIndicatorsOf indicators → AreIndicatorsOf (drop n indicators)
dropped_range n indicators each t inside =
    rw (get_or-drop n indicators t 0) (each (n + t) (omega (arith, length-drop n indicators)))

taken_range : (n : ℕ) (indicators : List ℕ) → AreIndicatorsOf indicators → AreIndicatorsOf (take n indicators)
taken_range n indicators each t inside =
    let count = length-take n indicators in
    rw (get_or-take n indicators t 0 (omega arith)) (each t (omega arith))

-- the values of a benchmarked year, with the indicators of its quarters
series_reach : (k : ℕ) (year : BenchmarkedYear) (left right : ℤ) (indicators : List ℕ) (place : ℕ) → k ≤ 15 →
    IsScaled k year → IsInRange year → IsMultiplier left → IsMultiplier right → 4 * place + 4 ≤ length indicators →
    year.indicators ≡ quarters_at indicators place →
    Reach k (take 4 (drop (4 * place) indicators)) (year_series k year left right)
series_reach k year left right indicators place small scaled range before after room own = record {
  count = year_count k year left right range.0
      ∙ sym (length-take-le 4 (drop (4 * place) indicators) (omega (arith, length-drop (4 * place) indicators)));
  each = λ t inside.
      let four = year_count k year left right range.0 in
      let first : t < 4 = omega arith in
      subst (λ (i : ℕ). 10 ^ k * unsigned_abs (get_or (year_series k year left right) t (pos 0)) ≤ 8 * 10 ^ 15 * i)
      (ap (λ (is : List ℕ). slice_index is t) own ∙ at t first)
      (share_within k year left right t range.0 first small scaled before after);
}
  where
    here : (t u : ℕ) → t < 4 → u ≡ 4 * place + t →
        slice_index indicators u ≡ slice_index (take 4 (drop (4 * place) indicators)) t
    here t u first e =
        ap (λ (n : ℕ). get_or indicators n 0) e ∙ sym (get_or-drop (4 * place) indicators t 0)
        ∙ sym (get_or-take 4 (drop (4 * place) indicators) t 0 first)

    at : (t : ℕ) → t < 4 →
        slice_index (quarters_at indicators place) t ≡ slice_index (take 4 (drop (4 * place) indicators)) t
    at zero first = here 0 (4 * place) (omega arith) (omega arith)
    at (suc zero) first = here 1 (4 * place + 1) (omega arith) (omega arith)
    at (suc (suc zero)) first = here 2 (4 * place + 2) (omega arith) (omega arith)
    at (suc (suc (suc zero))) first = here 3 (4 * place + 3) (omega arith) (omega arith)
    at (suc (suc (suc (suc t)))) first = absurd (omega arith)

-- quarters in three parts, the second a year's
three_parts : (indicators : List ℕ) (n : ℕ) →
    take n indicators ++ (take 4 (drop n indicators) ++ drop (n + 4) indicators) ≡ indicators
three_parts indicators n =
    ap (λ (rest : List ℕ). take n indicators ++ (take 4 (drop n indicators) ++ rest)) (sym (drop-drop 4 n indicators))
    ∙ ap (λ (rest : List ℕ). take n indicators ++ rest) (take-append-drop 4 (drop n indicators))
    ∙ take-append-drop n indicators

-- what is known of the numbers of a run
pub record AreSmall (k : ℕ) (years : List BenchmarkedYear) (u : List ℤ) (indicators : List ℕ) : Type 0 where
  pub scale : k ≤ 15
  pub scaled : AreScaled k years
  pub range : AreInRange years
  pub multipliers : AreMultipliers u
  pub each : AreIndicatorsOf indicators

-- the values of the quarters behind a benchmarked year
behind_reach : (k : ℕ) (before : ℤ) (year : BenchmarkedYear) (years : List BenchmarkedYear) (u : List ℤ)
    (indicators : List ℕ) → AreBehind year.place years indicators → IsMultiplier before →
    AreSmall k (year ∷ years) u indicators → Reach k indicators (values_behind k before year years u indicators)
behind_reach k before year [] u indicators are first small = record {
  count = carried_count k year before indicators;
  each = carried_within k year before (carried_of k year before indicators) indicators refl small.scale
      (small.scaled 0 year (omega arith)) (small.range 0 year (omega arith)).0 first small.each;
}
behind_reach k before year (next ∷ years) u indicators are first small =
    let between : ℕ = quarters_between year next in
    let own : ℤ = first_of u in
    let after : ℤ = first_of (drop 1 u) in
    let room : 4 * (next.place - suc year.place) + 4 ≤ length indicators = are.1 in
    let own_small = first_small u small.multipliers in
    let after_small = first_small (drop 1 u) (later_small u small.multipliers) in
    let taken = taken_range between indicators small.each in
    let own_scaled = small.scaled 0 year (omega arith) in
    let next_scaled = small.scaled 1 next (omega arith) in
    let own_range = small.range 0 year (omega arith) in
    let next_range = small.range 1 next (omega arith) in
    let across : List ℤ = across_of k year next before own after (take between indicators) in
    let first_part : Reach k (take between indicators) across = record {
      count = across_count k year next before own after (take between indicators);
      each = across_within k year next before own after across (take between indicators) refl small.scale own_scaled
          next_scaled own_range.0 next_range.0 first own_small after_small taken;
    } in
    let second_part = series_reach k next own after indicators (next.place - suc year.place) small.scale next_scaled
    next_range own_small after_small room are.2 in
    let third_part = behind_reach k own next years (drop 1 u) (drop (between + 4) indicators) are.3 own_small (record {
      scale = small.scale;
      scaled = All-tail (IsScaled k) year (next ∷ years) small.scaled;
      range = All-tail IsInRange year (next ∷ years) small.range;
      multipliers = later_small u small.multipliers;
      each = dropped_range (between + 4) indicators small.each;
    }) in
    subst (λ (is : List ℕ). Reach k is (values_behind k before year (next ∷ years) u indicators))
    (three_parts indicators between)
    (reach_joined k (take between indicators) (take 4 (drop between indicators) ++ drop (between + 4) indicators) across
    (year_series k next own after ++ values_behind k own next years (drop 1 u) (drop (between + 4) indicators))
    first_part
    (reach_joined k (take 4 (drop between indicators)) (drop (between + 4) indicators) (year_series k next own after)
    (values_behind k own next years (drop 1 u) (drop (between + 4) indicators)) second_part third_part))

-- the values of a run
pub values_reach : (k : ℕ) (year : BenchmarkedYear) (years : List BenchmarkedYear) (u : List ℤ) (indicators : List ℕ) →
    AreFrom year years indicators → AreSmall k (year ∷ years) u indicators →
    Reach k indicators (run_values k (year ∷ years) u indicators)
values_reach k year years u indicators are small =
    let after : ℤ = first_of u in
    let room : 4 * year.place + 4 ≤ length indicators = are.room in
    let after_small = first_small u small.multipliers in
    let scaled = small.scaled 0 year (omega arith) in
    let range = small.range 0 year (omega arith) in
    let before : List ℤ = carried_back_of k year after (take (4 * year.place) indicators) in
    let none : IsMultiplier (pos 0) = omega arith in
    let first_part : Reach k (take (4 * year.place) indicators) before = record {
      count = carried_back_count k year after (take (4 * year.place) indicators);
      each = carried_back_within k year after before (take (4 * year.place) indicators) refl small.scale scaled range.0
          after_small (taken_range (4 * year.place) indicators small.each);
    } in
    let second_part = series_reach k year (pos 0) after indicators year.place small.scale scaled range none after_small
    room are.own in
    let third_part = behind_reach k (pos 0) year years u (drop (4 * year.place + 4) indicators) are.behind none (record {
      scale = small.scale;
      scaled = small.scaled;
      range = small.range;
      multipliers = small.multipliers;
      each = dropped_range (4 * year.place + 4) indicators small.each;
    }) in
    subst (λ (is : List ℕ). Reach k is (run_values k (year ∷ years) u indicators))
    (three_parts indicators (4 * year.place))
    (reach_joined k (take (4 * year.place) indicators)
    (take 4 (drop (4 * year.place) indicators) ++ drop (4 * year.place + 4) indicators) before
    (year_series k year (pos 0) after ++ values_behind k (pos 0) year years u (drop (4 * year.place + 4) indicators))
    first_part
    (reach_joined k (take 4 (drop (4 * year.place) indicators)) (drop (4 * year.place + 4) indicators)
    (year_series k year (pos 0) after) (values_behind k (pos 0) year years u (drop (4 * year.place + 4) indicators))
    second_part third_part))

-- the same of a run that has a year
pub run_reach : (k : ℕ) (run : List BenchmarkedYear) (u : List ℤ) (indicators : List ℕ) → 1 ≤ length run →
    AreYearsOf indicators run → AreSmall k run u indicators → Reach k indicators (run_values k run u indicators)
run_reach k [] u indicators some are small = absurd (omega arith)
run_reach k (year ∷ years) u indicators some are small =
    values_reach k year years u indicators (are_from year years indicators are) small
