use Rattle.std.proofs.Common.{rules, subst}
use Rattle.std.specs.Prelude.{slice_index_or}
use Rattle.compile_workers.specs.Parties.{HasRun, Place}
use Rattle.compile_workers.proofs.Placing.{have_run}
use Rattle.compile_workers.proofs.parties.run_all.Goals as goal

pub returns : goal.returns
returns g c =
    have_run c.args.plan.now c.args.parties.now c.for_each_mut.new.s (search rules)
    (λ i d inside.
    let one = (c.for_each_mut.ensures i d inside).1 in
    subst (λ (new : Place). HasRun c.args.plan.now (slice_index_or c.args.parties.now i d) new) one.left
    (subst (λ (old : Place). HasRun c.args.plan.now old one.after_call.now) one.argument_is one.call))
