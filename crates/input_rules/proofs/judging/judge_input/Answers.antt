use Rattle.input_rules.proofs.Fitting.{leaf_fits}
use Rattle.input_rules.proofs.judging.judge_input.Goals as goal

pub returns-clause-fits : goal.returns-clause-fits
returns-clause-fits c =
    leaf_fits c.args.plan.now c.args.kind c.in-Some.leaf c.args.period _ c.judge_leaf.result c.judge_leaf.ensures c.in-Some.ensures.within c.in-Some.ensures.leaf
