use Rattle.std.proofs.Common.{◌∙◌, sym, subst, ap}
use Rattle.std.proofs.lemmas.Result.{IfOk-weaker}
use Rattle.series_tables.specs.IsPlan.{IsPlan, names_of, parents_of}
use Rattle.trial_gen.proofs.Items.{made_plan, trial_is_plan}
use Rattle.trial_gen.proofs.plan.trial_plan.Goals as goal

pub new-requires : goal.new-requires
new-requires c =
    let is = made_plan c.args.items c.args.years c.deref.result.now (ap names_of c.deref.ensures.value ∙ c.in_ok-items.ensures.names) (ap parents_of c.deref.ensures.value ∙ c.in_ok-items.ensures.parents) in
    subst IsPlan (sym is) (trial_is_plan c.args.items c.args.years c.requires.items.1 c.requires.years.1)

pub returns : goal.returns
returns c =
    let is = made_plan c.args.items c.args.years c.deref.result.now (ap names_of c.deref.ensures.value ∙ c.in_ok-items.ensures.names) (ap parents_of c.deref.ensures.value ∙ c.in_ok-items.ensures.parents) in
    IfOk-weaker c.new.result _ _ (λ plan e. e ∙ is) c.new.ensures
