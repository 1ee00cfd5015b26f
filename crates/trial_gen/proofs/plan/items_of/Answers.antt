use Rattle.std.proofs.Common.{◌∙◌, ap}
use Rattle.series_tables.specs.IsPlan.{names_of, parents_of}
use Rattle.trial_gen.proofs.Items.{item_more, parent_more}
use Rattle.trial_gen.proofs.plan.items_of.Goals as goal

pub loop-number-preserved : goal.loop-number-preserved
loop-number-preserved c = record {
  names = ap names_of c.in_ok-push.ensures.items ∙ item_more c.loop-number.number c.loop-number.made.items _ c.loop-number.invariant.names c.in_ok-name.ensures;
  parents = ap parents_of c.in_ok-push.ensures.items ∙ parent_more c.loop-number.number c.loop-number.made.items _ c.loop-number.invariant.parents c.parent_of.ensures;
}
