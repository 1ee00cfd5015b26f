-- The last value of a list of inputs, and the run of quarters that have one.
use Rattle.std.specs.Prelude.{ℕ, ℤ, pos, ◌^◌, neg_ℤ, zero, suc, Bool, true, false, ◌&&◌, ◌==◌, List, [], ◌∷◌}
use Rattle.std.specs.Prelude.{Option, Some, None, if◌then◌else◌}
use Rattle.series_tables.specs.declared.input.Input.{Input}
use Rattle.series_tables.specs.declared.input.Kind.{Kind}
use Rattle.series_tables.specs.declared.input.Kind.TheVariants.{Indicator, Benchmark, Price}

-- whether two kinds are the same
abbrev pub same_kind : Kind → Kind → Bool
same_kind Indicator Indicator = true
same_kind Benchmark Benchmark = true
same_kind Price Price = true
same_kind a b = false

-- whether an input is of a kind, a leaf and a period
abbrev pub speaks_of : Kind → ℕ → ℕ → Input → Bool
speaks_of kind leaf period input = same_kind input.kind kind && input.leaf == leaf && input.period == period

-- the value of the last input of a kind, a leaf and a period, or the one found before the list
abbrev pub last_from : Option ℤ → List Input → Kind → ℕ → ℕ → Option ℤ
last_from found [] kind leaf period = found
last_from found (input ∷ inputs) kind leaf period =
    last_from (if speaks_of kind leaf period input then Some input.value else found) inputs kind leaf period

-- the value of the last input of the whole list with a kind, a leaf and a period, or none
abbrev pub last_value : List Input → Kind → ℕ → ℕ → Option ℤ
last_value inputs kind leaf period = last_from None inputs kind leaf period

-- the values at the next so many periods, from one on, before the first period without a value
abbrev pub run_from : (ℕ → Option ℤ) → ℕ → ℕ → List ℤ
run_from value_at zero period = []
run_from value_at (suc more) period =
    elim (value_at period) [ None ↦ [] | Some value ↦ value ∷ run_from value_at more (suc period) ]

-- a plan's years have so many quarters
abbrev pub quarters : ℕ
quarters = 256

-- a plan has so many years
abbrev pub years : ℕ
years = 64

-- the run of quarters: from the start year's first on, those before the first one without a value
abbrev pub run_of : (ℕ → Option ℤ) → List ℤ
run_of value_at = run_from value_at quarters 0

-- the periods of a kind: years for benchmarks, else quarters
abbrev pub periods_of : Kind → ℕ
periods_of Benchmark = years
periods_of kind = quarters

-- the values that a kind may have
abbrev pub least_of : Kind → ℤ
least_of Benchmark = neg_ℤ (pos (10 ^ 12))
least_of kind = pos 1

abbrev pub most_of : Kind → ℤ
most_of Benchmark = pos (10 ^ 12)
most_of kind = pos (10 ^ 9)
