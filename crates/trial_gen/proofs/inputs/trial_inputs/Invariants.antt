use Rattle.rand_core.specs.Steps.{stream_of}
use Rattle.rand_xoshiro.specs.SplitMix64.{splitmix_steps}
use Rattle.trial_gen.specs.TrialInputs.{words_of_seed}
use Rattle.trial_gen.proofs.Drawn.{AreDrawn}
use Rattle.trial_gen.proofs.inputs.trial_inputs.Given as goal

abbrev pub invariant-loop-leaf : goal.invariant-loop-leaf
invariant-loop-leaf l = AreDrawn l.plan (words_of_seed l.seed) (stream_of splitmix_steps l.rng) l.years l.leaf l.inputs.items
