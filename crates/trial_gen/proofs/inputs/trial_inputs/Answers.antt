use Rattle.std.proofs.Common.{◌∙◌, ap, sym, arith, Vec, Global}
use Rattle.rand_core.specs.Steps.{stream_of}
use Rattle.rand_xoshiro.specs.SplitMix64.{splitmix_steps}
use Rattle.series_tables.specs.declared.input.Input.{Input}
use Rattle.trial_gen.proofs.Drawn.{all_drawn, inner_stays, leaf_added, none_added, seed_words}
use Rattle.trial_gen.proofs.Fitting.{trial_fits}
use Rattle.trial_gen.proofs.inputs.trial_inputs.Goals as goal
use Rattle.trial_gen.proofs.inputs.trial_inputs.Goals.{«then-is_leaf+in_ok-add_leaf», else-is_leaf}

pub loop-leaf-init : goal.loop-leaf-init
loop-leaf-init c =
    none_added c.args.plan.now c.args.seed c.args.years _ c.new-inputs.result.items (seed_words c.args.seed _ _ c.from_seed-rng.ensures c.to_le_bytes.ensures) c.new-inputs.ensures.items

pub loop-leaf-preserved : goal.loop-leaf-preserved
loop-leaf-preserved c = elim c.if-is_leaf.branch [
  | «then-is_leaf+in_ok-add_leaf» w ↦ leaf_added c.args.plan.now _ (stream_of splitmix_steps c.loop-leaf.rng) _ c.args.years c.loop-leaf.leaf c.loop-leaf.inputs.items _ c.loop-leaf.invariant
      (sym c.is_leaf.ensures.leaf ∙ w.if-is_leaf.true) (ap (λ (v : Vec Input Global). v.items) w.inputs-is ∙ w.in_ok-add_leaf.ensures.inputs)
      (ap (stream_of splitmix_steps) w.rng-is ∙ w.in_ok-add_leaf.ensures.words)
  | else-is_leaf w ↦ rw (w.rng-is, w.inputs-is) (inner_stays c.args.plan.now _ _ c.args.years c.loop-leaf.leaf _ c.loop-leaf.invariant (sym c.is_leaf.ensures.leaf ∙ w.if-is_leaf.false))
]

pub returns-clause-inputs : goal.returns-clause-inputs
returns-clause-inputs c =
    all_drawn c.args.plan.now c.args.seed c.args.years c.loop-leaf.leaf _ c.loop-leaf.inputs.items c.loop-leaf.invariant (omega arith)

pub returns-clause-fit : goal.returns-clause-fit
returns-clause-fit c =
    trial_fits c.args.plan.now c.args.seed c.args.years c.loop-leaf.inputs.items
    (all_drawn c.args.plan.now c.args.seed c.args.years c.loop-leaf.leaf _ c.loop-leaf.inputs.items c.loop-leaf.invariant (omega arith)) c.requires.1
