-- What tables hold: a cell for each kind, leaf and period.
use Rattle.std.specs.Prelude.{◌≡◌, ℕ, ℤ, pos, zero, suc, ◌+◌, ◌*◌, ◌/◌, nat_lt, List, [], ◌∷◌, length, map}
use Rattle.std.specs.Prelude.{Option, Some, None, if◌then◌else◌, slice_index_or}
use Rattle.std.specs.Option.{option_map}
use Rattle.series_tables.specs.declared.input.Input.{Input}
use Rattle.series_tables.specs.declared.input.Kind.{Kind}
use Rattle.series_tables.specs.declared.input.Kind.TheVariants.{Indicator, Benchmark, Price}
use Rattle.series_tables.specs.LastValue.{speaks_of, run_of, quarters, years}

-- the rows of all items, one after another: 256 quarters an item, and 64 years an item for the benchmarks
pub record Rows : Type 0 where
  pub items : ℕ
  pub indicators : List (Option ℕ)
  pub prices : List (Option ℕ)
  pub benchmarks : List (Option ℤ)

-- what stands at a place of rows that have so many places an item
abbrev pub at_place : {X : Type 0} → List (Option X) → ℕ → ℕ → ℕ → Option X
at_place rows width leaf period = if nat_lt period width then slice_index_or rows (leaf * width + period) None else None

-- the cell of a kind, a leaf and a period
abbrev pub cell : Rows → Kind → ℕ → ℕ → Option ℤ
cell rows Indicator leaf period = option_map (λ n. pos n) (at_place rows.indicators quarters leaf period)
cell rows Benchmark leaf period = at_place rows.benchmarks years leaf period
cell rows Price leaf period = option_map (λ n. pos n) (at_place rows.prices quarters leaf period)

-- what a cell is once an input came: the input's value in its own cell, else what it was
abbrev pub after_input : Input → Kind → ℕ → ℕ → Option ℤ → Option ℤ
after_input input kind leaf period before = if speaks_of kind leaf period input then Some input.value else before

-- what stands at the next so many periods from one on
abbrev pub cells_from : (ℕ → Option ℤ) → ℕ → ℕ → List (Option ℤ)
cells_from value_at zero period = []
cells_from value_at (suc more) period = value_at period ∷ cells_from value_at more (suc period)

-- a leaf's input: the run of its indicator, a price or none for each quarter of the run, a benchmark or none for each
-- whole year of it
pub record IsInputOf (value_at : Kind → ℕ → Option ℤ) (indicators : List ℕ) (prices : List (Option ℕ))
    (benchmarks : List (Option ℤ)) : Type 0 where
  pub run : map (λ n. pos n) indicators ≡ run_of (value_at Indicator)
  pub priced : map (option_map (λ n. pos n)) prices ≡ cells_from (value_at Price) (length indicators) 0
  pub benchmarked : benchmarks ≡ cells_from (value_at Benchmark) (length indicators / 4) 0

-- the values before the first place that has none
abbrev pub present_run : List (Option ℕ) → List ℕ
present_run [] = []
present_run (None ∷ rest) = []
present_run (Some value ∷ rest) = value ∷ present_run rest
