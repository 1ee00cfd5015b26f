use Rattle.dirty_plan.specs.Round.{has_flag}
use Rattle.round_works.proofs.Beginnings.{all_opened, opened_parts, opening_begins}
use Rattle.round_works.proofs.round.OpenRound.open.Goals as goal

pub first_works-requires-clause-inputs : goal.first_works-requires-clause-inputs
first_works-requires-clause-inputs c = (
  c.requires.inputs.0,
  opening_begins c.args.plan.now c.requires.inputs.0 c.args.front c.args.tables.now (has_flag c.args.touched.now) c.args.board.now.shown c.in_ok-jobs.jobs c.requires.inputs.1 c.in_ok-jobs.ensures,
)

pub first_works-requires-2-clause-inputs : goal.first_works-requires-2-clause-inputs
first_works-requires-2-clause-inputs c = (
  c.requires.inputs.0,
  opening_begins c.args.plan.now c.requires.inputs.0 c.args.front c.args.tables.now (has_flag c.args.touched.now) c.args.board.now.shown c.in_ok-jobs.jobs c.requires.inputs.1 c.in_ok-jobs.ensures,
)

pub invariant_of-result : goal.invariant_of-result
invariant_of-result c = record {
  all_kept = all_opened c.args.plan.now (has_flag c.args.touched.now) c.in_ok-jobs.jobs c.in_ok-kept.kept.items c.in_ok-jobs.ensures c.in_ok-kept.ensures.all;
  all_ready = all_opened c.args.plan.now (has_flag c.args.touched.now) c.in_ok-jobs.jobs c.in_ok-ready.ready.items c.in_ok-jobs.ensures c.in_ok-ready.ensures.all;
}

pub returns-clause-works : goal.returns-clause-works
returns-clause-works c = λ inputs opening.
    let begins = opening_begins c.args.plan.now inputs c.args.front c.args.tables.now (has_flag c.args.touched.now) c.args.board.now.shown c.in_ok-jobs.jobs opening c.in_ok-jobs.ensures in
    opened_parts c.args.plan.now inputs c.args.front c.args.tables.now (has_flag c.args.touched.now) c.args.board.now.shown c.in_ok-jobs.jobs c.in_ok-kept.kept.items c.in_ok-ready.ready.items
    _ c.in_ok-kept.ensures.all c.requires.leaves opening c.in_ok-jobs.ensures (c.in_ok-kept.ensures.works inputs begins) (c.in_ok-ready.ensures.works inputs begins)
