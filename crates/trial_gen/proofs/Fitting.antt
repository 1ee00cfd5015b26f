-- The inputs of a trial fit its plan.
use Rattle.std.proofs.Common.{◌≡◌, ◌<◌, ◌≤◌, ◌+◌, ◌*◌, ◌%◌, ℕ, zero, suc, List, [], ◌∷◌, get_or, length, IsTrue, arith}
use Rattle.std.specs.List.{All, flat_map, range_with_len}
use Rattle.std.proofs.lemmas.Int.{ints}
use Rattle.std.proofs.lemmas.List.Elements.{All-append, All-filter, filter_passes}
use Rattle.std.proofs.lemmas.List.FromFn.{get_or-range_with_len, length-range_with_len}
use Rattle.rand_core.specs.Stream.{Stream}
use Rattle.series_tables.specs.Fits.{FitsPlan}
use Rattle.series_tables.specs.Plan.{PlanShape, is_leaf}
use Rattle.series_tables.specs.declared.input.Input.{Input}
use Rattle.trial_gen.specs.TrialInputs.{behind, first_word, indicator_input, price_input, benchmark_input, quarter_inputs, year_inputs, leaf_inputs, inputs_from, leaves_of_plan, words_of_seed, inputs_of_trial}

-- what holds of one holds of each of one, and of none
all_none : {X : Type 0} (P : X → Type 0) → All P []
all_none P k d below = absurd (omega arith)

all_one : {X : Type 0} (P : X → Type 0) (x : X) (xs : List X) → P x → All P xs → All P (x ∷ xs)
all_one P x xs here rest zero d below = here
all_one P x xs here rest (suc k) d below = rest k d (omega arith)

-- what holds of all that each of some numbers gives
all_gathered : {X : Type 0} (P : X → Type 0) (f : ℕ → List X) (a n : ℕ) → ((k : ℕ) → k < a + n → All P (f k)) → All P (flat_map f (range_with_len a n))
all_gathered P f a zero each = all_none P
all_gathered P f a (suc n) each =
    All-append P (f a) (flat_map f (range_with_len (a + 1) n)) (each a (omega arith)) (all_gathered P f (a + 1) n (λ k below. each k (omega arith)))

-- a leaf of a plan
abbrev IsLeafOf : PlanShape → ℕ → Type 0
IsLeafOf plan leaf = (leaf < length plan.names) × IsTrue (is_leaf plan leaf)

indicator_fits : (plan : PlanShape) (words : Stream) (leaf quarter : ℕ) → IsLeafOf plan leaf → quarter < 256 → FitsPlan plan (indicator_input words leaf quarter)
indicator_fits plan words leaf quarter is early =
    let rest : first_word words % 1000 < 1000 = omega arith in
    record { room = record { item = is.0; period = early; least = omega (arith, ints); most = omega (arith, ints) }; leaf = is.1 }

price_fits : (plan : PlanShape) (words : Stream) (leaf quarter : ℕ) → IsLeafOf plan leaf → quarter < 256 → FitsPlan plan (price_input words leaf quarter)
price_fits plan words leaf quarter is early =
    let rest : first_word words % 200001 < 200001 = omega arith in
    record { room = record { item = is.0; period = early; least = omega (arith, ints); most = omega (arith, ints) }; leaf = is.1 }

benchmark_fits : (plan : PlanShape) (words : Stream) (leaf year : ℕ) → IsLeafOf plan leaf → year < 64 → FitsPlan plan (benchmark_input words leaf year)
benchmark_fits plan words leaf year is early =
    let rest : first_word words % 4001 < 4001 = omega arith in
    record { room = record { item = is.0; period = early; least = omega (arith, ints); most = omega (arith, ints) }; leaf = is.1 }

quarter_fits : (plan : PlanShape) (words : Stream) (leaf quarter : ℕ) → IsLeafOf plan leaf → quarter < 256 → All (FitsPlan plan) (quarter_inputs words leaf quarter)
quarter_fits plan words leaf quarter is early =
    all_one (FitsPlan plan) (indicator_input words leaf quarter) (price_input (behind 1 words) leaf quarter ∷ []) (indicator_fits plan words leaf quarter is early)
    (all_one (FitsPlan plan) (price_input (behind 1 words) leaf quarter) [] (price_fits plan (behind 1 words) leaf quarter is early) (all_none (FitsPlan plan)))

year_fits : (plan : PlanShape) (words : Stream) (leaf year : ℕ) → IsLeafOf plan leaf → year < 64 → All (FitsPlan plan) (year_inputs words leaf year)
unfolding year_inputs
year_fits plan words leaf year is early =
    All-append (FitsPlan plan) (flat_map (λ p. quarter_inputs (behind (2 * p) words) leaf (4 * year + p)) (range_with_len 0 4)) (benchmark_input (behind 8 words) leaf year ∷ [])
    (all_gathered (FitsPlan plan) (λ p. quarter_inputs (behind (2 * p) words) leaf (4 * year + p)) 0 4 (λ k below. quarter_fits plan (behind (2 * k) words) leaf (4 * year + k) is (omega arith)))
    (all_one (FitsPlan plan) (benchmark_input (behind 8 words) leaf year) [] (benchmark_fits plan (behind 8 words) leaf year is early) (all_none (FitsPlan plan)))

leaf_fits : (plan : PlanShape) (words : Stream) (leaf years : ℕ) → IsLeafOf plan leaf → years ≤ 64 → All (FitsPlan plan) (leaf_inputs words leaf years)
unfolding leaf_inputs
leaf_fits plan words leaf years is few =
    all_gathered (FitsPlan plan) (λ year. year_inputs (behind (9 * year) words) leaf year) 0 years (λ k below. year_fits plan (behind (9 * k) words) leaf k is (omega arith))

leaves_fit : (plan : PlanShape) (words : Stream) (years : ℕ) (leaves : List ℕ) → All (IsLeafOf plan) leaves → years ≤ 64 → All (FitsPlan plan) (inputs_from words years leaves)
unfolding inputs_from
leaves_fit plan words years [] are few = all_none (FitsPlan plan)
leaves_fit plan words years (leaf ∷ leaves) are few =
    All-append (FitsPlan plan) (leaf_inputs words leaf years) (inputs_from (behind (9 * years) words) years leaves) (leaf_fits plan words leaf years (are 0 leaf (omega arith)) few)
    (leaves_fit plan (behind (9 * years) words) years leaves (λ k d below. are (suc k) d (omega arith)) few)

-- the leaves of a plan are leaves of it
are_leaves : (plan : PlanShape) → All (IsLeafOf plan) (leaves_of_plan plan)
are_leaves plan =
    let within : All (λ item. item < length plan.names) (range_with_len 0 (length plan.names)) = λ k d below.
    let at : get_or (range_with_len 0 (length plan.names)) k d ≡ 0 + k = get_or-range_with_len 0 (length plan.names) k d (omega (arith, length-range_with_len 0 (length plan.names))) in
    omega (arith, length-range_with_len 0 (length plan.names)) in
    λ k d below. (All-filter (is_leaf plan) (λ item. item < length plan.names) _ within k d below, filter_passes (is_leaf plan) _ k d below)

-- each input fits
pub trial_fits : (plan : PlanShape) (seed years : ℕ) (inputs : List Input) → inputs ≡ inputs_of_trial plan seed years → years ≤ 64 → All (FitsPlan plan) inputs
unfolding inputs_of_trial
trial_fits plan seed years inputs is few = rw is (leaves_fit plan (words_of_seed seed) years (leaves_of_plan plan) (are_leaves plan) few)
