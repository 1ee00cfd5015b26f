use Rattle.std.proofs.Common.{◌≡◌, arith}
use Rattle.std.proofs.lemmas.Int.{ints}
use Rattle.rand_core.specs.Steps.{stream_of}
use Rattle.rand_xoshiro.specs.SplitMix64.{splitmix_steps}
use Rattle.trial_gen.specs.TrialInputs.{first_word}
use Rattle.trial_gen.proofs.Words.{drawn_rest, drawn_word}
use Rattle.trial_gen.proofs.inputs.draw.Goals as goal

pub returns-clause-value : goal.returns-clause-value
returns-clause-value c =
    let word : c.next_u64-word.result ≡ first_word (stream_of splitmix_steps c.args.rng.now) = drawn_word _ _ _ c.next_u64-word.ensures in
    grind (arith, ints)

pub returns-clause-words : goal.returns-clause-words
returns-clause-words c = drawn_rest _ _ _ c.next_u64-word.ensures
