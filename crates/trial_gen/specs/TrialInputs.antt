-- The inputs of a trial: for each leaf and each year of it nine values, each drawn from a word of its own (this
-- product's own). The words are those that SplitMix64 gives one after another.
use Rattle.std.specs.Prelude.{ℕ, zero, suc, ◌+◌, ◌*◌, ◌%◌, pos, List, [], ◌∷◌, ◌++◌, length}
use Rattle.std.specs.Int.{w64, from_le_bytes, to_le_bytes}
use Rattle.std.specs.List.{filter, flat_map, range_with_len}
use Rattle.rand_core.specs.Stream.{Stream, next_u64}
use Rattle.rand_core.specs.Steps.{stream_of}
use Rattle.rand_xoshiro.specs.SplitMix64.{splitmix_steps}
use Rattle.series_tables.specs.Plan.{PlanShape, is_leaf}
use Rattle.series_tables.specs.declared.input.Input.{Input}
use Rattle.series_tables.specs.declared.input.Kind.TheVariants.{Indicator, Benchmark, Price}

-- the words of SplitMix64 whose seed has the eight bytes of a number, the lowest first
unfoldable pub words_of_seed : ℕ → Stream
words_of_seed seed = stream_of splitmix_steps (from_le_bytes w64 (to_le_bytes w64 seed))

-- the first of some words, and the words behind the first few
unfoldable pub first_word : Stream → ℕ
first_word words = (next_u64 words).0

unfoldable pub behind : ℕ → Stream → Stream
behind zero words = words
behind (suc few) words = (next_u64 (behind few words)).1

-- an indicator from 1000 to 1999, a price from 900000 to 1100000, and a benchmark from 4000 to 8000, of the first of
-- some words
abbrev pub indicator_input : Stream → ℕ → ℕ → Input
indicator_input words leaf quarter =
    record { kind = Indicator; leaf = leaf; period = quarter; value = pos (1000 + first_word words % 1000) }

abbrev pub price_input : Stream → ℕ → ℕ → Input
price_input words leaf quarter =
    record { kind = Price; leaf = leaf; period = quarter; value = pos (900000 + first_word words % 200001) }

abbrev pub benchmark_input : Stream → ℕ → ℕ → Input
benchmark_input words leaf year =
    record { kind = Benchmark; leaf = leaf; period = year; value = pos (4000 + first_word words % 4001) }

-- the two inputs of a leaf's quarter
abbrev pub quarter_inputs : Stream → ℕ → ℕ → List Input
quarter_inputs words leaf quarter = indicator_input words leaf quarter ∷ price_input (behind 1 words) leaf quarter ∷ []

-- the nine of a leaf's year: those of its quarters, and its benchmark
unfoldable pub year_inputs : Stream → ℕ → ℕ → List Input
year_inputs words leaf year =
    flat_map (λ place. quarter_inputs (behind (2 * place) words) leaf (4 * year + place)) (range_with_len 0 4)
    ++ benchmark_input (behind 8 words) leaf year ∷ []

-- those of a leaf's years
unfoldable pub leaf_inputs : Stream → ℕ → ℕ → List Input
leaf_inputs words leaf years =
    flat_map (λ year. year_inputs (behind (9 * year) words) leaf year) (range_with_len 0 years)

-- those of leaves, one after another
unfoldable pub inputs_from : Stream → ℕ → List ℕ → List Input
inputs_from words years [] = []
inputs_from words years (leaf ∷ leaves) =
    leaf_inputs words leaf years ++ inputs_from (behind (9 * years) words) years leaves

-- the leaves of a plan in their order
abbrev pub leaves_of_plan : PlanShape → List ℕ
leaves_of_plan plan = filter (is_leaf plan) (range_with_len 0 (length plan.names))

-- the inputs of a trial over a plan
unfoldable pub inputs_of_trial : PlanShape → ℕ → ℕ → List Input
inputs_of_trial plan seed years = inputs_from (words_of_seed seed) years (leaves_of_plan plan)
