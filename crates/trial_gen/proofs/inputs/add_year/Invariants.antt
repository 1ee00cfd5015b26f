use Rattle.std.proofs.Common.{◌≡◌, ◌+◌, ◌*◌, ◌++◌}
use Rattle.std.specs.List.{flat_map, range_with_len}
use Rattle.rand_core.specs.Steps.{stream_of}
use Rattle.rand_xoshiro.specs.SplitMix64.{splitmix_steps}
use Rattle.trial_gen.specs.TrialInputs.{behind, quarter_inputs}
use Rattle.trial_gen.proofs.inputs.add_year.Given as goal

-- two words of each quarter so far are drawn, and its inputs stand behind those before
abbrev pub invariant-loop-quarter : goal.invariant-loop-quarter
invariant-loop-quarter l = record {
  words : stream_of splitmix_steps l.rng ≡ behind (2 * l.quarter) (stream_of splitmix_steps l.initial.rng);
  added : l.inputs.items ≡ l.initial.inputs.items ++ flat_map (λ place. quarter_inputs (behind (2 * place) (stream_of splitmix_steps l.initial.rng)) l.leaf (4 * l.year + place)) (range_with_len 0 l.quarter);
}
