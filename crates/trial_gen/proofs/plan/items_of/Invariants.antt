use Rattle.std.proofs.Common.{◌≡◌}
use Rattle.series_tables.specs.IsPlan.{names_of, parents_of}
use Rattle.trial_gen.specs.TrialPlan.{trial_names, trial_parents}
use Rattle.trial_gen.proofs.plan.items_of.Given as goal

abbrev pub invariant-loop-number : goal.invariant-loop-number
invariant-loop-number l = record {
  names : names_of l.made.items ≡ trial_names l.number;
  parents : parents_of l.made.items ≡ trial_parents l.number;
}
