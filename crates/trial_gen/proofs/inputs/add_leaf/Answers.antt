use Rattle.std.proofs.Common.{◌≡◌, ◌*◌, arith, sym}
use Rattle.std.proofs.lemmas.List.{append-nil}
use Rattle.rand_core.specs.Steps.{stream_of}
use Rattle.rand_xoshiro.specs.SplitMix64.{splitmix_steps}
use Rattle.trial_gen.specs.TrialInputs.{year_inputs}
use Rattle.trial_gen.proofs.Words.{behind_more, behind_none}
use Rattle.trial_gen.proofs.Drawn.{drawn_more, leaf_drawn}
use Rattle.trial_gen.proofs.inputs.add_leaf.Goals as goal

pub loop-year-init : goal.loop-year-init
loop-year-init c = record { words = behind_none _; added = sym (append-nil _) }

pub loop-year-preserved : goal.loop-year-preserved
loop-year-preserved c = record {
  words = behind_more 9 (9 * c.loop-year.year) _ _ _ _ c.loop-year.invariant.words c.in_ok-add_year.ensures.words (omega arith);
  added = drawn_more (λ words year. year_inputs words c.args.leaf year) (stream_of splitmix_steps c.args.rng.now) _ 9 c.loop-year.year _ _ _
      c.loop-year.invariant.words c.loop-year.invariant.added c.in_ok-add_year.ensures.inputs;
}

pub returns-clause-inputs : goal.returns-clause-inputs
returns-clause-inputs c =
    let last : c.loop-year.year ≡ c.args.years = omega arith in
    let added = rw last at c.loop-year.invariant.added in
    leaf_drawn (stream_of splitmix_steps c.args.rng.now) c.args.leaf c.args.years c.args.inputs.now.items c.loop-year.inputs.items added

pub returns-clause-words : goal.returns-clause-words
returns-clause-words c =
    let last : c.loop-year.year ≡ c.args.years = omega arith in
    rw last at c.loop-year.invariant.words
