use Rattle.std.proofs.Common.{◌≡◌, ◌*◌, ◌++◌}
use Rattle.std.specs.List.{flat_map, range_with_len}
use Rattle.rand_core.specs.Steps.{stream_of}
use Rattle.rand_xoshiro.specs.SplitMix64.{splitmix_steps}
use Rattle.trial_gen.specs.TrialInputs.{behind, year_inputs}
use Rattle.trial_gen.proofs.inputs.add_leaf.Given as goal

-- nine words of each year so far are drawn, and its inputs stand behind those before
abbrev pub invariant-loop-year : goal.invariant-loop-year
invariant-loop-year l = record {
  words : stream_of splitmix_steps l.rng ≡ behind (9 * l.year) (stream_of splitmix_steps l.initial.rng);
  added : l.inputs.items ≡ l.initial.inputs.items ++ flat_map (λ year. year_inputs (behind (9 * year) (stream_of splitmix_steps l.initial.rng)) l.leaf year) (range_with_len 0 l.year);
}
