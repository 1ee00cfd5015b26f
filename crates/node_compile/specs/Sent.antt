-- What a leaf's table has to do with the values that were sent last, in words that name no solver: its run, its
-- benchmarked years, and the benchmarks that its values add up to (IMF Quarterly National Accounts Manual 2017, chapter
-- 6).
use Rattle.std.specs.Prelude.{◌≡◌, ◌↔◌, ℕ, ◌+◌, ◌*◌, ◌≤◌, ℤ, pos, true, List, map, length, slice_get, Option, Some}
use Rattle.std.specs.Prelude.{IsSome, IfSome}
use Rattle.annual_overlap.specs.Table.{AreNumbersAddingTo}
use Rattle.annual_overlap.specs.Years.{quarters_in}
use Rattle.series_tables.specs.LastValue.{run_of}
use Rattle.series_tables.specs.Plan.{PlanShape, is_leaf}
use Rattle.series_tables.specs.declared.input.Kind.{Kind}
use Rattle.series_tables.specs.declared.input.Kind.TheVariants.{Indicator, Benchmark}
use Rattle.node_compile.specs.Table.{Certificate, Table}

-- a year of a leaf is benchmarked where it has a benchmark and its four quarters are in the run
abbrev pub IsBenchmarkedYear : (Kind → ℕ → ℕ → Option ℤ) → ℕ → ℕ → Type 0
IsBenchmarkedYear value_at leaf y =
    IsSome (value_at Benchmark leaf y) × (4 * y + 4 ≤ length (run_of (value_at Indicator leaf)))

-- this is the benchmark of a benchmarked year of a leaf
abbrev pub IsBenchmarkOf : (Kind → ℕ → ℕ → Option ℤ) → ℕ → ℕ → ℤ → Type 0
IsBenchmarkOf value_at leaf y benchmark =
    IsBenchmarkedYear value_at leaf y × (value_at Benchmark leaf y ≡ Some benchmark)

-- a certificate has this benchmark of the year at a place
abbrev pub HasBenchmark : Certificate → ℕ → ℤ → Type 0
HasBenchmark certificate y benchmark =
    (j : ℕ) × (slice_get certificate.places j ≡ Some y) × (slice_get certificate.benchmarks j ≡ Some benchmark)

-- a leaf's table is true to what stands at each kind, leaf and period
pub record IsTrueTo (value_at : Kind → ℕ → ℕ → Option ℤ) (leaf : ℕ) (table : Table) : Type 0 where
  -- there is a value, or a mark, for each quarter of the run
  pub quarters : length table.value ≡ length (run_of (value_at Indicator leaf))
  -- where a year is benchmarked there is a certificate
  pub certified : (y : ℕ) → IsBenchmarkedYear value_at leaf y → IsSome table.leaf
  -- the certificate's indicators are the run, and its benchmarks are those of the benchmarked years and no others
  pub indicators : IfSome table.leaf (λ certificate. map pos certificate.indicators ≡ run_of (value_at Indicator leaf))
  pub benchmarks : IfSome table.leaf (λ certificate. (y : ℕ) (benchmark : ℤ) →
      HasBenchmark certificate y benchmark ↔ IsBenchmarkOf value_at leaf y benchmark)
  -- in each benchmarked year the four values are numbers that add up to the benchmark
  pub meets : (y : ℕ) (benchmark : ℤ) → IsBenchmarkOf value_at leaf y benchmark →
      AreNumbersAddingTo benchmark (quarters_in table.value y)

-- among the tables of a plan's items each leaf's is
abbrev pub AreTrueTo : PlanShape → (Kind → ℕ → ℕ → Option ℤ) → List Table → Type 0
AreTrueTo plan value_at tables = (leaf : ℕ) (table : Table) →
    is_leaf plan leaf ≡ true → slice_get tables leaf ≡ Some table → IsTrueTo value_at leaf table
