use Rattle.std.proofs.Common.{◌≡◌, ◌+◌, ◌*◌, ◌++◌, ◌∷◌, [], arith, rules, sym}
use Rattle.std.proofs.lemmas.List.{append-nil}
use Rattle.rand_core.specs.Steps.{stream_of}
use Rattle.rand_xoshiro.specs.SplitMix64.{splitmix_steps}
use Rattle.trial_gen.specs.TrialInputs.{benchmark_input, quarter_inputs}
use Rattle.trial_gen.proofs.Words.{behind_more, behind_none}
use Rattle.trial_gen.proofs.Drawn.{drawn_more, year_drawn}
use Rattle.trial_gen.proofs.inputs.add_year.Goals as goal

pub loop-quarter-init : goal.loop-quarter-init
loop-quarter-init c = record { words = behind_none _; added = sym (append-nil _) }

pub loop-quarter-preserved : goal.loop-quarter-preserved
loop-quarter-preserved c = record {
  words = behind_more 2 (2 * c.loop-quarter.quarter) _ _ _ _ c.loop-quarter.invariant.words c.in_ok-add_quarter.ensures.words (omega arith);
  added = drawn_more (λ words place. quarter_inputs words c.args.leaf (4 * c.args.year + place)) (stream_of splitmix_steps c.args.rng.now) _ 2 c.loop-quarter.quarter _ _ _
      c.loop-quarter.invariant.words c.loop-quarter.invariant.added c.in_ok-add_quarter.ensures.inputs;
}

pub returns-clause-inputs : goal.returns-clause-inputs
returns-clause-inputs c =
    let last : c.loop-quarter.quarter ≡ 4 = omega arith in
    let left = rw last at c.loop-quarter.invariant.words in
    let added = rw last at c.loop-quarter.invariant.added in
    let then : c.push.new.self.items ≡ c.loop-quarter.inputs.items ++ benchmark_input (stream_of splitmix_steps c.loop-quarter.rng) c.args.leaf c.args.year ∷ [] = search rules in
    year_drawn (stream_of splitmix_steps c.args.rng.now) (stream_of splitmix_steps c.loop-quarter.rng) c.args.leaf c.args.year c.args.inputs.now.items c.loop-quarter.inputs.items
    c.push.new.self.items left added then

pub returns-clause-words : goal.returns-clause-words
returns-clause-words c =
    behind_more 1 (2 * c.loop-quarter.quarter) 9 _ _ _ c.loop-quarter.invariant.words c.draw.ensures.words (omega arith)
