use Rattle.std.proofs.Common.{arith, rules, subst}
use Rattle.command_words.specs.TrialWords.{trial_view}
use Rattle.node_compile.specs.Release.{HoldLastValues}
use Rattle.qna_trial.proofs.Telling.{figures_are, items_are}
use Rattle.qna_trial.proofs.figures.figures_of.Goals as goal

pub tables_of-requires : goal.tables_of-requires
tables_of-requires g c = rw c.deref.ensures.value c.in_ok-inputs.ensures.fit

pub compile_twice-requires-clause-few : goal.compile_twice-requires-clause-few
compile_twice-requires-clause-few g c =
    omega (arith, items_are c.in_ok-plan.plan c.args.said.items c.args.said.years c.in_ok-plan.ensures, c.requires.trial.items.1)

pub returns : goal.returns
returns g c =
    let last = subst (HoldLastValues c.in_ok-tables.tables) c.deref.ensures.value c.in_ok-tables.ensures.last in
    figures_are (trial_view c.args.said) c.in_ok-plan.plan c.in_ok-inputs.inputs.items _ _ _ c.in_ok-plan.ensures c.in_ok-inputs.ensures.inputs (search rules)
    (c.in_ok-benchmarked.ensures.benchmarked _ last) (c.in_ok-benchmarked.ensures.level _ last)
