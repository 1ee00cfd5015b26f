-- Trials worked on the definitions; the words are those of another implementation of SplitMix64.
use Rattle.std.proofs.Common.{◌≡◌, [], ◌∷◌, length, take, drop, Some, None, codes, pos, refl}
use Rattle.rand_core.specs.Stream.{next_u64}
use Rattle.rand_core.specs.Steps.{stream_of}
use Rattle.series_tables.specs.declared.input.Kind.TheVariants.{Indicator, Benchmark, Price}
use Rattle.trial_gen.specs.TrialInputs.{behind, first_word, words_of_seed, year_inputs, leaf_inputs, inputs_from, inputs_of_trial, leaves_of_plan}
use Rattle.trial_gen.specs.TrialPlan.{trial_name, plan_of_trial}

-- the first words of two seeds
first_of_seven : first_word (words_of_seed 7) ≡ 7191089600892374487
unfolding first_word words_of_seed next_u64 stream_of
first_of_seven = refl

second_of_seven : first_word (behind 1 (words_of_seed 7)) ≡ 309689372594955804
unfolding behind first_word words_of_seed next_u64 stream_of
second_of_seven = refl

first_of_last : first_word (words_of_seed 18446744073709551615) ≡ 16490336266968443936
unfolding first_word words_of_seed next_u64 stream_of
first_of_last = refl

-- the names of the first and of the last item
first_name : trial_name 0 ≡ codes "N000"
first_name = refl

last_name : trial_name 511 ≡ codes "N511"
last_name = refl

-- six items over two years: the reference year is the first
six_items : plan_of_trial 6 2 ≡ record {
  start = 2000;
  reference = 0;
  names = codes "N000" ∷ codes "N001" ∷ codes "N002" ∷ codes "N003" ∷ codes "N004" ∷ codes "N005" ∷ [];
  parents = None ∷ Some 0 ∷ Some 0 ∷ Some 0 ∷ Some 0 ∷ Some 1 ∷ [];
}
unfolding plan_of_trial
six_items = refl

-- over three years it is the second, and over sixty-four the thirty-second
middle_of_three : (plan_of_trial 6 3).reference ≡ 1
unfolding plan_of_trial
middle_of_three = refl

middle_of_all : (plan_of_trial 6 64).reference ≡ 31
unfolding plan_of_trial
middle_of_all = refl

-- of six items four are leaves, of twenty fifteen
four_leaves : leaves_of_plan (plan_of_trial 6 2) ≡ 2 ∷ 3 ∷ 4 ∷ 5 ∷ []
unfolding plan_of_trial
four_leaves = refl

fifteen_leaves : length (leaves_of_plan (plan_of_trial 20 6)) ≡ 15
unfolding plan_of_trial
fifteen_leaves = refl

one_leaf : leaves_of_plan (plan_of_trial 1 1) ≡ 0 ∷ []
unfolding plan_of_trial
one_leaf = refl

-- the inputs of the first leaf's first year with the seed 7
first_year : year_inputs (words_of_seed 7) 2 0 ≡
    record { kind = Indicator; leaf = 2; period = 0; value = pos 1487 } ∷ record { kind = Price; leaf = 2; period = 0; value = pos 935025 }
    ∷ record { kind = Indicator; leaf = 2; period = 1; value = pos 1346 } ∷ record { kind = Price; leaf = 2; period = 1; value = pos 958500 }
    ∷ record { kind = Indicator; leaf = 2; period = 2; value = pos 1674 } ∷ record { kind = Price; leaf = 2; period = 2; value = pos 1000389 }
    ∷ record { kind = Indicator; leaf = 2; period = 3; value = pos 1798 } ∷ record { kind = Price; leaf = 2; period = 3; value = pos 968700 }
    ∷ record { kind = Benchmark; leaf = 2; period = 0; value = pos 5436 } ∷ []
unfolding year_inputs behind first_word words_of_seed next_u64 stream_of
first_year = refl

-- seventy-two inputs of four leaves and two years: the first of the second year, the first of the second leaf, and the
-- last
all_inputs : length (inputs_of_trial (plan_of_trial 6 2) 7 2) ≡ 72
unfolding inputs_of_trial inputs_from leaf_inputs year_inputs plan_of_trial
all_inputs = refl

second_year : take 1 (drop 9 (inputs_of_trial (plan_of_trial 6 2) 7 2)) ≡ record { kind = Indicator; leaf = 2; period = 4; value = pos 1425 } ∷ []
unfolding inputs_of_trial inputs_from leaf_inputs year_inputs plan_of_trial behind first_word words_of_seed next_u64 stream_of
second_year = refl

second_leaf : take 1 (drop 18 (inputs_of_trial (plan_of_trial 6 2) 7 2)) ≡ record { kind = Indicator; leaf = 3; period = 0; value = pos 1797 } ∷ []
unfolding inputs_of_trial inputs_from leaf_inputs year_inputs plan_of_trial behind first_word words_of_seed next_u64 stream_of
second_leaf = refl

last_input : drop 71 (inputs_of_trial (plan_of_trial 6 2) 7 2) ≡ record { kind = Benchmark; leaf = 5; period = 1; value = pos 4444 } ∷ []
unfolding inputs_of_trial inputs_from leaf_inputs year_inputs plan_of_trial behind first_word words_of_seed next_u64 stream_of
last_input = refl
