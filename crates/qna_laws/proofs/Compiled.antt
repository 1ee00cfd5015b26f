-- The certificate of a leaf's table has the shape and the ranges of a document, meets its benchmarks and states its own
-- gap.
use Rattle.std.specs.Prelude.{◌≡◌, ℕ, ◌/◌, ◌^◌, ◌≤◌, ℤ, pos, IsTrue, List, [], ◌∷◌, map, length, All}
use Rattle.std.specs.Prelude.{Option, Some, None, IfSome}
use Rattle.std.proofs.Common.{refl, sym, ap, subst, arith}
use Rattle.denton_parts.specs.Benchmarks.{MeetsBenchmarks}
use Rattle.denton_parts.specs.Changes.{changes}
use Rattle.denton_parts.specs.Gap.{gap_by}
use Rattle.denton_parts.specs.Scale.{scale_of_years}
use Rattle.denton_parts.specs.Year.{BenchmarkedYear}
use Rattle.denton_parts.specs.Years.{years_at}
use Rattle.denton_parts.proofs.Places.{AreInRange, years_at-length}
use Rattle.denton_solve.specs.Conditions.{AreMultipliers}
use Rattle.denton_solve.specs.Sweeps.{multipliers_of}
use Rattle.denton_solve.proofs.Pairs.{multipliers_count}
use Rattle.denton_solve.proofs.Scaled.{scale_most}
use Rattle.price_base.specs.declared.Cell.{Cell}
use Rattle.price_base.specs.declared.Cell.TheVariants.{Value}
use Rattle.series_tables.specs.Ranges.{IsPositiveInRange, IsBenchmarkOrNone}
use Rattle.dual_cert.specs.Document.{IsDocument, AreQuarters}
use Rattle.line_form.specs.Name.{is_name}
use Rattle.node_compile.specs.Laws.{numbers_in}
use Rattle.node_compile.specs.Leaf.{places_from, present_benchmarks, run_values, table_of_years, leaf_table}
use Rattle.node_compile.specs.Table.{Certificate, Table, years_of_certificate}
use Rattle.node_compile.proofs.Figures.{multipliers_small, run_reach}
use Rattle.node_compile.proofs.Values.{quarters_in_range}
use Rattle.node_compile.proofs.Worth.{IsRun, leaf_is_run, years_range, leaf_worth}
use Rattle.qna_laws.proofs.GapSizes.{gap_in_range}

-- a document in shape and ranges, whose gap is that of its numbers
pub record IsStated (name : List ℕ) (front start : ℕ) (certificate : Certificate) (numbers : List ℤ) : Type 0 where
  pub document : IsDocument name front certificate.scale start certificate.places certificate.indicators
      certificate.benchmarks numbers certificate.multipliers certificate.gap
  pub gap : certificate.gap ≡ gap_by (pos (10 ^ certificate.scale)) certificate.indicators numbers
      (changes (years_of_certificate certificate) certificate.multipliers certificate.indicators)

-- numbers as cells are the numbers
numbers_kept : (xs : List ℤ) → numbers_in (map Value xs) ≡ xs
numbers_kept [] = refl
numbers_kept (x ∷ xs) = ap (λ (rest : List ℤ). x ∷ rest) (numbers_kept xs)

-- so is the certificate of a table of years
years_stated : (name : List ℕ) (front start : ℕ) (indicators : List ℕ) (prices : List (Option ℕ)) (reference : ℕ)
    (places : List ℕ) (benchmarks : List ℤ) → IsTrue (is_name name) → front ≤ 262144 → 1900 ≤ start → start ≤ 2200 →
    IsRun indicators places benchmarks → length indicators ≤ 256 →
    IfSome (table_of_years indicators prices reference places benchmarks).leaf (λ certificate.
    IsStated name front start certificate
    (numbers_in (table_of_years indicators prices reference places benchmarks).value))
years_stated name front start indicators prices reference [] benchmarks named fronts first last run few = tt
years_stated name front start indicators prices reference (place ∷ places) [] named fronts first last run few =
    absurd (let same = run.placed in omega arith)
years_stated name front start indicators prices reference (place ∷ places) (benchmark ∷ benchmarks) named fronts first
    last run few =
    let years : List BenchmarkedYear = years_at indicators (place ∷ places) (benchmark ∷ benchmarks) in
    let k : ℕ = scale_of_years years in
    let u : List ℤ = multipliers_of k years in
    let x : List ℤ = run_values k years u indicators in
    let gap : ℤ = gap_by (pos (10 ^ k)) indicators x (changes years u indicators) in
    let range : AreInRange years = years_range indicators (place ∷ places) (benchmark ∷ benchmarks) run in
    let sizes : AreMultipliers u = multipliers_small k years in
    let count = years_at-length indicators (place ∷ places) (benchmark ∷ benchmarks) run.placed in
    let joints = multipliers_count k years (omega arith) in
    let quarters : AreQuarters k indicators x =
    quarters_in_range k indicators x (scale_most years) (omega arith) run.each_indicator
    (run_reach indicators places benchmarks place benchmark run) in
    let bounds = gap_in_range k indicators years x u quarters range sizes in
    let certificate : Certificate = record {
      indicators = indicators;
      places = place ∷ places;
      benchmarks = benchmark ∷ benchmarks;
      scale = k;
      multipliers = u;
      gap = gap;
    } in
    let document : IsDocument name front k start (place ∷ places) indicators (benchmark ∷ benchmarks) x u gap = record {
      named = named;
      front_in_range = fronts;
      first_start = first;
      last_start = last;
      quarters = quarters;
      few = few;
      some_year = omega arith;
      placed = run.placed;
      whole_years = run.whole_years;
      joints = omega arith;
      each_benchmark = run.each_benchmark;
      each_multiplier = sizes;
      least_gap = bounds.0;
      most_gap = bounds.1;
    } in
    subst (λ (numbers : List ℤ). IsStated name front start certificate numbers) (sym (numbers_kept x))
    (record { document = document; gap = refl })

-- and that of a leaf's table
leaf_stated : (name : List ℕ) (front start : ℕ) (indicators : List ℕ) (prices : List (Option ℕ))
    (benchmarks : List (Option ℤ)) (reference : ℕ) → IsTrue (is_name name) → front ≤ 262144 → 1900 ≤ start →
    start ≤ 2200 → All IsPositiveInRange indicators → All IsBenchmarkOrNone benchmarks →
    length benchmarks ≡ length indicators / 4 → length indicators ≤ 256 →
    IfSome (leaf_table indicators prices benchmarks reference).leaf (λ certificate.
    IsStated name front start certificate (numbers_in (leaf_table indicators prices benchmarks reference).value))
unfolding leaf_table
leaf_stated name front start indicators prices benchmarks reference named fronts first last each_indicator
    each_benchmark years few =
    years_stated name front start indicators prices reference (places_from 0 benchmarks) (present_benchmarks benchmarks)
    named fronts first last (leaf_is_run indicators benchmarks each_indicator each_benchmark years) few

-- what the certificate of a leaf's table keeps
pub record IsSound (name : List ℕ) (front start : ℕ) (certificate : Certificate) (values : List Cell) : Type 0 where
  pub document : IsDocument name front certificate.scale start certificate.places certificate.indicators
      certificate.benchmarks (numbers_in values) certificate.multipliers certificate.gap
  pub meets : MeetsBenchmarks (years_of_certificate certificate) (pos 1) (numbers_in values)
  pub gap : certificate.gap ≡ gap_by (pos (10 ^ certificate.scale)) certificate.indicators (numbers_in values)
      (changes (years_of_certificate certificate) certificate.multipliers certificate.indicators)

-- what follows from two facts of the value in a `Some`
both_some : {X : Type 0} (o : Option X) (P Q R : X → Type 0) → ((x : X) → P x → Q x → R x) → IfSome o P → IfSome o Q → IfSome o R
both_some None P Q R then p q = tt
both_some (Some x) P Q R then p q = then x p q

-- the certificate of a leaf's table keeps it
pub leaf_sound : (name : List ℕ) (front start : ℕ) (indicators : List ℕ) (prices : List (Option ℕ)) (benchmarks : List (Option ℤ)) (reference : ℕ) → IsTrue (is_name name) → front ≤ 262144 → 1900 ≤ start → start ≤ 2200 → All IsPositiveInRange indicators → All IsBenchmarkOrNone benchmarks → length benchmarks ≡ length indicators / 4 → length indicators ≤ 256 →
    IfSome (leaf_table indicators prices benchmarks reference).leaf (λ certificate. IsSound name front start certificate (leaf_table indicators prices benchmarks reference).value)
leaf_sound name front start indicators prices benchmarks reference named fronts first last each_indicator each_benchmark years few =
    let table : Table = leaf_table indicators prices benchmarks reference in
    both_some table.leaf (λ certificate. IsStated name front start certificate (numbers_in table.value))
    (λ certificate. MeetsBenchmarks (years_of_certificate certificate) (pos 1) (numbers_in table.value))
    (λ certificate. IsSound name front start certificate table.value)
    (λ certificate stated meets. record { document = stated.document; meets = meets; gap = stated.gap })
    (leaf_stated name front start indicators prices benchmarks reference named fronts first last each_indicator each_benchmark years few) (leaf_worth indicators prices benchmarks reference each_indicator each_benchmark years).0
