-- The years of a leaf that have a benchmark: their places, which rise, and their benchmarks.
use Rattle.std.specs.Prelude.{◌≡◌, ℕ, ◌+◌, ◌-◌, ◌*◌, ◌≤◌, ◌<◌, ℤ, pos, List, [], ◌∷◌, ◌++◌, length, drop, take, slice_get, slice_index, All, Option, Some, None}
use Rattle.std.specs.List.Sorted.{IsStrictlyIncreasing}
use Rattle.std.proofs.Common.{refl, sym, ◌∙◌, ap, arith, zero, suc, get_or, drop-cons, subst}
use Rattle.std.proofs.Math.Numerals.{add-one}
use Rattle.std.proofs.lemmas.Int.{ints}
use Rattle.std.proofs.lemmas.List.{append-nil, append_assoc, drop_all, take_more, get_or-take, length-take-le}
use Rattle.std.proofs.lemmas.Option.{same_Some}
use Rattle.denton_parts.specs.Year.{BenchmarkedYear, IsBenchmark}
use Rattle.denton_parts.specs.Years.{ArePlaces, places_apart, year_at, years_at, year_in, years_in}
use Rattle.denton_parts.specs.declared.year.YearPart.{YearPart}
use Rattle.series_tables.specs.Ranges.{IsBenchmarkInRange, IsBenchmarkOrNone}
use Rattle.node_compile.specs.Leaf.{places_from, present_benchmarks, AreBenchmarks}

-- a place from one on is at least that one, and a year's of the cells
pub places_bounds : (place : ℕ) (cells : List (Option ℤ)) (k d : ℕ) → k < length (places_from place cells) →
    (place ≤ get_or (places_from place cells) k d) × (get_or (places_from place cells) k d < place + length cells)
places_bounds place [] k d inside = absurd (omega arith)
places_bounds place (None ∷ cells) k d inside =
    let rest = places_bounds (suc place) cells k d inside in
    (omega arith, omega arith)
places_bounds place (Some value ∷ cells) zero d inside = (omega arith, omega arith)
places_bounds place (Some value ∷ cells) (suc k) d inside =
    let rest = places_bounds (suc place) cells k d (omega arith) in
    (omega arith, omega arith)

-- a list rises where a number below its first stands before it and it rises
rising_on : (first : ℕ) (rest : List ℕ) → (1 ≤ length rest → first < slice_index rest 0) → IsStrictlyIncreasing rest →
    IsStrictlyIncreasing (first ∷ rest)
rising_on first rest below rising zero inside = below (omega arith)
rising_on first rest below rising (suc k) inside =
    let next : suc k + 1 ≡ suc (k + 1) = omega arith in
    rw next (rising k (omega arith))

-- the places rise
pub places_rise : (place : ℕ) (cells : List (Option ℤ)) → IsStrictlyIncreasing (places_from place cells)
places_rise place [] k inside = absurd (omega arith)
places_rise place (None ∷ cells) k inside = places_rise (suc place) cells k inside
places_rise place (Some value ∷ cells) k inside =
    rising_on place (places_from (suc place) cells)
    (λ some. let first = places_bounds (suc place) cells 0 0 (omega arith) in omega arith) (places_rise (suc place) cells) k inside

-- they are places of years of as many whole years as cells
pub places_stand : (cells : List (Option ℤ)) (quarters : ℕ) → 4 * length cells ≤ quarters →
    ArePlaces quarters (places_from 0 cells)
places_stand cells quarters room = record {
  rising = places_rise 0 cells;
  whole_years = λ k d inside. let bounds = places_bounds 0 cells k d inside in omega arith;
}

-- there are as many as benchmarks
pub present_count : (place : ℕ) (cells : List (Option ℤ)) →
    length (places_from place cells) ≡ length (present_benchmarks cells)
present_count place [] = refl
present_count place (None ∷ cells) = present_count (suc place) cells
present_count place (Some value ∷ cells) = ap suc (present_count (suc place) cells)

-- and no more than cells
pub present_few : (cells : List (Option ℤ)) → length (present_benchmarks cells) ≤ length cells
present_few [] = omega arith
present_few (None ∷ cells) = let less = present_few cells in omega arith
present_few (Some value ∷ cells) = let less = present_few cells in omega arith

-- a benchmark that is there is in range
pub in_range : (value : ℤ) (cell : Option ℤ) → cell ≡ Some value → IsBenchmarkOrNone cell → IsBenchmark value
in_range value cell e range = let bounds : IsBenchmarkInRange value = range value e in omega (arith, ints)

-- all benchmarks that are there are in range
pub present_each : (cells : List (Option ℤ)) → All IsBenchmarkOrNone cells → AreBenchmarks (present_benchmarks cells)
present_each [] each y inside = absurd (omega arith)
present_each (None ∷ cells) each y inside = present_each cells (λ k d h. each (suc k) d (omega arith)) y inside
present_each (Some value ∷ cells) each zero inside = in_range value (Some value) refl (each 0 None (omega arith))
present_each (Some value ∷ cells) each (suc y) inside =
    present_each cells (λ k d h. each (suc k) d (omega arith)) y (omega arith)

-- ---- what stands at a place

-- a benchmark that stands at a year has its place and is among the benchmarks
pub place_has : (cells : List (Option ℤ)) (place y : ℕ) (benchmark : ℤ) → get_or cells y None ≡ Some benchmark →
    (j : ℕ) × (slice_get (places_from place cells) j ≡ Some (place + y)) × (slice_get (present_benchmarks cells) j ≡ Some benchmark)
place_has [] place y benchmark e = absurd (let never : ◌≡◌ {A = Option ℤ} None (Some benchmark) = e in cc)
place_has (None ∷ cells) place zero benchmark e = absurd (let never : ◌≡◌ {A = Option ℤ} None (Some benchmark) = e in cc)
place_has (None ∷ cells) place (suc y) benchmark e =
    let rest = place_has cells (suc place) y benchmark e in
    let same : suc place + y ≡ place + suc y = omega arith in
    (rest.0, rest.1 ∙ ap (λ (n : ℕ). Some n) same, rest.2)
place_has (Some value ∷ cells) place zero benchmark e =
    let same : place ≡ place + 0 = omega arith in
    (0, ap (λ (n : ℕ). Some n) same, e)
place_has (Some value ∷ cells) place (suc y) benchmark e =
    let rest = place_has cells (suc place) y benchmark e in
    let same : suc place + y ≡ place + suc y = omega arith in
    (suc rest.0, rest.1 ∙ ap (λ (n : ℕ). Some n) same, rest.2)

-- what a place and the benchmark beside it say stands at the year
pub place_is : (cells : List (Option ℤ)) (place j y : ℕ) (benchmark : ℤ) → slice_get (places_from place cells) j ≡ Some y →
    slice_get (present_benchmarks cells) j ≡ Some benchmark →
    (place ≤ y) × (y < place + length cells) × (get_or cells (y - place) None ≡ Some benchmark)
place_is [] place j y benchmark at e = absurd (let never : ◌≡◌ {A = Option ℕ} None (Some y) = at in cc)
place_is (None ∷ cells) place j y benchmark at e =
    let rest = place_is cells (suc place) j y benchmark at e in
    let back : y - place ≡ suc (y - suc place) = omega arith in
    (omega arith, omega arith, rw back rest.2)
place_is (Some value ∷ cells) place zero y benchmark at e =
    let same : place ≡ y = same_Some place y at in
    let none : y - place ≡ 0 = omega arith in
    (omega arith, omega arith, rw none e)
place_is (Some value ∷ cells) place (suc j) y benchmark at e =
    let rest = place_is cells (suc place) j y benchmark at e in
    let back : y - place ≡ suc (y - suc place) = omega arith in
    (omega arith, omega arith, rw back rest.2)

-- ---- the loops

-- one more year has a benchmark: its place, and its benchmark
pub places_more : (cells : List (Option ℤ)) (years whole : List ℕ) (y : ℕ) (value : ℤ) → y < length cells →
    get_or cells y None ≡ Some value → years ++ places_from y (drop y cells) ≡ whole →
    years ++ y ∷ [] ++ places_from (y + 1) (drop (y + 1) cells) ≡ whole
places_more cells years whole y value inside here e =
    let next : places_from y (drop y cells) ≡ y ∷ places_from (suc y) (drop (suc y) cells) =
    ap (λ (cs : List (Option ℤ)). places_from y cs) (drop-cons cells y None inside)
    ∙ ap (λ (cell : Option ℤ). places_from y (cell ∷ drop (suc y) cells)) here in
    append_assoc years (y ∷ []) (places_from (y + 1) (drop (y + 1) cells))
    ∙ rw add-one (ap (λ (rest : List ℕ). years ++ rest) (sym next) ∙ e)

pub present_more : (cells : List (Option ℤ)) (run whole : List ℤ) (y : ℕ) (value : ℤ) → y < length cells →
    get_or cells y None ≡ Some value → run ++ present_benchmarks (drop y cells) ≡ whole →
    run ++ value ∷ [] ++ present_benchmarks (drop (y + 1) cells) ≡ whole
present_more cells run whole y value inside here e =
    let next : present_benchmarks (drop y cells) ≡ value ∷ present_benchmarks (drop (suc y) cells) =
    ap (λ (cs : List (Option ℤ)). present_benchmarks cs) (drop-cons cells y None inside)
    ∙ ap (λ (cell : Option ℤ). present_benchmarks (cell ∷ drop (suc y) cells)) here in
    append_assoc run (value ∷ []) (present_benchmarks (drop (y + 1) cells))
    ∙ rw add-one (ap (λ (rest : List ℤ). run ++ rest) (sym next) ∙ e)

-- a year has none
pub places_past : (cells : List (Option ℤ)) (years whole : List ℕ) (y : ℕ) → y < length cells →
    get_or cells y None ≡ None → years ++ places_from y (drop y cells) ≡ whole →
    years ++ places_from (y + 1) (drop (y + 1) cells) ≡ whole
places_past cells years whole y inside here e =
    let next : places_from y (drop y cells) ≡ places_from (suc y) (drop (suc y) cells) =
    ap (λ (cs : List (Option ℤ)). places_from y cs) (drop-cons cells y None inside)
    ∙ ap (λ (cell : Option ℤ). places_from y (cell ∷ drop (suc y) cells)) here in
    rw add-one (ap (λ (rest : List ℕ). years ++ rest) (sym next) ∙ e)

pub present_past : (cells : List (Option ℤ)) (run whole : List ℤ) (y : ℕ) → y < length cells →
    get_or cells y None ≡ None → run ++ present_benchmarks (drop y cells) ≡ whole →
    run ++ present_benchmarks (drop (y + 1) cells) ≡ whole
present_past cells run whole y inside here e =
    let next : present_benchmarks (drop y cells) ≡ present_benchmarks (drop (suc y) cells) =
    ap (λ (cs : List (Option ℤ)). present_benchmarks cs) (drop-cons cells y None inside)
    ∙ ap (λ (cell : Option ℤ). present_benchmarks (cell ∷ drop (suc y) cells)) here in
    rw add-one (ap (λ (rest : List ℤ). run ++ rest) (sym next) ∙ e)

-- no year is left
pub places_done : (cells : List (Option ℤ)) (years whole : List ℕ) (y : ℕ) → length cells ≤ y →
    years ++ places_from y (drop y cells) ≡ whole → years ≡ whole
places_done cells years whole y done e = rw (drop_all y cells done, append-nil) at e

pub present_done : (cells : List (Option ℤ)) (run whole : List ℤ) (y : ℕ) → length cells ≤ y →
    run ++ present_benchmarks (drop y cells) ≡ whole → run ≡ whole
present_done cells run whole y done e = rw (drop_all y cells done, append-nil) at e

-- ---- how far apart places are

-- a place behind so many more years
apart_more : (first : ℕ) (missing : List ℕ) (more : ℕ) →
    places_apart first (missing ++ more ∷ [])
    ≡ places_apart first missing ++ suc (get_or (places_apart first missing) (length missing) 0 + more) ∷ []
apart_more first [] more = refl
apart_more first (years ∷ missing) more =
    ap (λ (rest : List ℕ). first ∷ rest) (apart_more (suc (first + years)) missing more)

-- one more place is reached by the years between it and the one before
pub apart_next : (places missing : List ℕ) (y between : ℕ) → 1 ≤ y → y < length places → length missing + 1 ≡ y →
    get_or places y 0 ≡ suc (get_or places (y - 1) 0 + between) →
    places_apart (get_or places 0 0) missing ≡ take y places →
    places_apart (get_or places 0 0) (missing ++ between ∷ []) ≡ take (y + 1) places
apart_next places missing y between some inside count next e =
    let at : length missing ≡ y - 1 = omega arith in
    let last : get_or (places_apart (get_or places 0 0) missing) (length missing) 0 ≡ get_or places (y - 1) 0 =
    ap (λ (ps : List ℕ). get_or ps (length missing) 0) e ∙ ap (λ (n : ℕ). get_or (take y places) n 0) at
    ∙ get_or-take y places (y - 1) 0 (omega arith) in
    apart_more (get_or places 0 0) missing between
    ∙ ap (λ (n : ℕ). places_apart (get_or places 0 0) missing ++ suc (n + between) ∷ []) last
    ∙ ap (λ (n : ℕ). places_apart (get_or places 0 0) missing ++ n ∷ []) (sym next)
    ∙ ap (λ (ps : List ℕ). ps ++ get_or places y 0 ∷ []) e ∙ sym (take_more places y 0 inside)

-- ---- the figures of years

-- one more year of parts, and of a run
years_in-append : (places : List ℕ) (parts : List YearPart) (place : ℕ) (part : YearPart) →
    length places ≡ length parts →
    years_in (places ++ place ∷ []) (parts ++ part ∷ []) ≡ years_in places parts ++ year_in place part ∷ []
years_in-append [] [] place part same = refl
years_in-append [] (first ∷ parts) place part same = absurd (omega arith)
years_in-append (first ∷ places) [] place part same = absurd (omega arith)
years_in-append (first ∷ places) (one ∷ parts) place part same =
    ap (λ (years : List BenchmarkedYear). year_in first one ∷ years)
    (years_in-append places parts place part (omega arith))

years_at-append : (indicators places : List ℕ) (benchmarks : List ℤ) (place : ℕ) (benchmark : ℤ) →
    length places ≡ length benchmarks →
    years_at indicators (places ++ place ∷ []) (benchmarks ++ benchmark ∷ [])
    ≡ years_at indicators places benchmarks ++ year_at indicators place benchmark ∷ []
years_at-append indicators [] [] place benchmark same = refl
years_at-append indicators [] (first ∷ benchmarks) place benchmark same = absurd (omega arith)
years_at-append indicators (first ∷ places) [] place benchmark same = absurd (omega arith)
years_at-append indicators (first ∷ places) (one ∷ benchmarks) place benchmark same =
    ap (λ (years : List BenchmarkedYear). year_at indicators first one ∷ years)
    (years_at-append indicators places benchmarks place benchmark (omega arith))

-- the figures of one more year of a run are made
pub parts_more : (indicators places : List ℕ) (benchmarks : List ℤ) (parts : List YearPart) (part : YearPart) (y : ℕ) →
    length places ≡ length benchmarks → y < length benchmarks → length parts ≡ y →
    year_in (get_or places y 0) part ≡ year_at indicators (get_or places y 0) (get_or benchmarks y (pos 0)) →
    years_in (take y places) parts ≡ years_at indicators (take y places) (take y benchmarks) →
    years_in (take (y + 1) places) (parts ++ part ∷ [])
    ≡ years_at indicators (take (y + 1) places) (take (y + 1) benchmarks)
parts_more indicators places benchmarks parts part y same inside count own e =
    let place : ℕ = get_or places y 0 in
    let benchmark : ℤ = get_or benchmarks y (pos 0) in
    let first : length (take y places) ≡ y = length-take-le y places (omega arith) in
    let second : length (take y benchmarks) ≡ y = length-take-le y benchmarks (omega arith) in
    ap (λ (ps : List ℕ). years_in ps (parts ++ part ∷ [])) (take_more places y 0 (omega arith))
    ∙ years_in-append (take y places) parts place part (omega arith)
    ∙ ap (λ (years : List BenchmarkedYear). years ++ year_in place part ∷ []) e
    ∙ ap (λ (year : BenchmarkedYear). years_at indicators (take y places) (take y benchmarks) ++ year ∷ []) own
    ∙ sym (years_at-append indicators (take y places) (take y benchmarks) place benchmark (omega arith))
    ∙ ap (λ (ps : List ℕ). years_at indicators ps (take y benchmarks ++ benchmark ∷ []))
    (sym (take_more places y 0 (omega arith)))
    ∙ ap (λ (bs : List ℤ). years_at indicators (take (y + 1) places) bs)
    (sym (take_more benchmarks y (pos 0) inside))
