-- The table of a leaf, from the run of its indicators, the prices of the run's quarters, the benchmarks of its whole
-- years and the reference year (IMF Quarterly National Accounts Manual 2017, chapters 6 and 8).
use Rattle.std.specs.Prelude.{ℕ, suc, ◌+◌, ◌-◌, ◌*◌, ◌^◌, ℤ, pos, List, [], ◌∷◌, ◌++◌, map, take, drop, replicate}
use Rattle.std.specs.Prelude.{length, slice_index_or, EachIndex, Option, Some, None}
use Rattle.annual_overlap.specs.Table.{chain_of}
use Rattle.denton_parts.specs.Changes.{changes}
use Rattle.denton_parts.specs.Gap.{gap_by}
use Rattle.denton_parts.specs.Scale.{scale_of_years}
use Rattle.denton_parts.specs.Year.{BenchmarkedYear, IsBenchmark}
use Rattle.denton_parts.specs.Years.{years_at}
use Rattle.denton_solve.specs.Series.{year_series}
use Rattle.denton_solve.specs.Sweeps.{first_of, multipliers_of, IsEnough}
use Rattle.extrapolate.specs.Carried.{across_of, carried_back_of, carried_of}
use Rattle.price_base.specs.declared.Cell.{Cell}
use Rattle.price_base.specs.declared.Cell.TheVariants.{Missing, Value}
use Rattle.price_base.specs.Volumes.{volumes_of}
use Rattle.node_compile.specs.Table.{Certificate, Table}

-- the places of the years that have a benchmark, from one on
abbrev pub places_from : ℕ → List (Option ℤ) → List ℕ
places_from place [] = []
places_from place (None ∷ later) = places_from (suc place) later
places_from place (Some benchmark ∷ later) = place ∷ places_from (suc place) later

-- the benchmarks that there are
abbrev pub present_benchmarks : List (Option ℤ) → List ℤ
present_benchmarks [] = []
present_benchmarks (None ∷ later) = present_benchmarks later
present_benchmarks (Some benchmark ∷ later) = benchmark ∷ present_benchmarks later

-- the benchmarked years of a run of quarters: those of its whole years that have a benchmark
abbrev pub benchmarked_years : List ℕ → List (Option ℤ) → List BenchmarkedYear
benchmarked_years indicators benchmarks =
    years_at indicators (places_from 0 benchmarks) (present_benchmarks benchmarks)

-- how many joints stand between them
abbrev pub joints_in : List (Option ℤ) → ℕ
joints_in benchmarks = length (present_benchmarks benchmarks) - 1

-- so many sweeps of the solver are enough for the leaf
abbrev pub AreEnough : List ℕ → List (Option ℤ) → ℕ → Type 0
AreEnough indicators benchmarks sweeps =
    let years : List BenchmarkedYear = benchmarked_years indicators benchmarks in
    IsEnough (scale_of_years years) years sweeps

-- benchmarks in range
abbrev pub AreBenchmarks : List ℤ → Type 0
AreBenchmarks benchmarks = EachIndex benchmarks (λ y. IsBenchmark (slice_index_or benchmarks y (pos 0)))

-- how many quarters stand between a benchmarked year and the next
abbrev pub quarters_between : BenchmarkedYear → BenchmarkedYear → ℕ
quarters_between year next = 4 * (next.place - suc year.place)

-- the values of the quarters behind a benchmarked year, from the multiplier before it, those after it and after each
-- later year, and the indicators of these quarters: up to the next benchmarked year the ratio goes over to that of the
-- next, in it stand its own values, and past the last the ratio with which that one ends is carried on
abbrev pub values_behind : ℕ → ℤ → BenchmarkedYear → List BenchmarkedYear → List ℤ → List ℕ → List ℤ
values_behind k before year [] multipliers indicators = carried_of k year before indicators
values_behind k before year (next ∷ years) multipliers indicators =
    let own : ℤ = first_of multipliers in
    let after : ℤ = first_of (drop 1 multipliers) in
    let between : ℕ = quarters_between year next in
    across_of k year next before own after (take between indicators)
    ++ (year_series k next own after
    ++ values_behind k own next years (drop 1 multipliers) (drop (between + 4) indicators))

-- the values of a run of quarters: before the first benchmarked year the ratio with which it begins, carried back, then
-- its own values, and those of the quarters behind it
abbrev pub run_values : ℕ → List BenchmarkedYear → List ℤ → List ℕ → List ℤ
run_values k [] multipliers indicators = []
run_values k (year ∷ years) multipliers indicators =
    let after : ℤ = first_of multipliers in
    carried_back_of k year after (take (4 * year.place) indicators)
    ++ (year_series k year (pos 0) after
    ++ values_behind k (pos 0) year years multipliers (drop (4 * year.place + 4) indicators))

-- the certificate of a run of quarters with benchmarks at these places, from the scale, multipliers and values
abbrev pub certificate_of : List ℕ → List ℕ → List ℤ → ℕ → List ℤ → List ℤ → Certificate
certificate_of indicators places benchmarks k multipliers values = record {
  indicators = indicators;
  places = places;
  benchmarks = benchmarks;
  scale = k;
  multipliers = multipliers;
  gap = gap_by (pos (10 ^ k)) indicators values
      (changes (years_at indicators places benchmarks) multipliers indicators);
}

-- so many quarters without a figure
abbrev pub missing : ℕ → List Cell
missing quarters = replicate quarters Missing

-- the table of these values and volumes at previous-year prices, with their chain from the reference year, counted from
-- the first year
abbrev pub chained_table : Option Certificate → List Cell → List Cell → ℕ → Table
chained_table leaf value prev reference = record {
  leaf = leaf;
  value = value;
  prev = prev;
  chain = chain_of value prev reference;
}

-- the table of a run with benchmarked years, from their scale, multipliers and values: the volumes are the values' at
-- these prices
abbrev pub benchmarked_table : List ℕ → List (Option ℕ) → List ℕ → List ℤ → ℕ → ℕ → List ℤ → List ℤ → Table
benchmarked_table indicators prices places benchmarks reference k multipliers values =
    chained_table (Some (certificate_of indicators places benchmarks k multipliers values)) (map Value values)
    (volumes_of values prices) reference

-- the table of so many quarters without a benchmarked year: a quarter without a value has no volume, whatever its price
abbrev pub missing_table : ℕ → ℕ → Table
missing_table quarters reference = chained_table None (missing quarters) (missing quarters) reference

-- the table of a run, from the places of its benchmarked years and their benchmarks: without one every figure is
-- missing
abbrev pub table_of_years : List ℕ → List (Option ℕ) → ℕ → List ℕ → List ℤ → Table
table_of_years indicators prices reference [] benchmarks = missing_table (length indicators) reference
table_of_years indicators prices reference (place ∷ places) benchmarks =
    let years : List BenchmarkedYear = years_at indicators (place ∷ places) benchmarks in
    let k : ℕ = scale_of_years years in
    let multipliers : List ℤ = multipliers_of k years in
    benchmarked_table indicators prices (place ∷ places) benchmarks reference k multipliers
    (run_values k years multipliers indicators)

-- the table of a leaf, from its indicators, prices and benchmarks and the reference year counted from the first year
unfoldable pub leaf_table : List ℕ → List (Option ℕ) → List (Option ℤ) → ℕ → Table
leaf_table indicators prices benchmarks reference =
    table_of_years indicators prices reference (places_from 0 benchmarks) (present_benchmarks benchmarks)
