use Rattle.release_print.specs.Journal.{journal_text}
use Rattle.release_print.proofs.Parts.{appends_part}
use Rattle.release_print.proofs.Journals.{entry_part, entry_fits}
use Rattle.release_print.proofs.journal.print_journal.Goals as goal

pub push_entry-requires : goal.push_entry-requires
push_entry-requires c = entry_fits c.args.plan.now c.args.history.now c.loop-entry.entry-index _ c.requires c.loop-entry-test.true

pub returns-in_err-push_entry : goal.returns-in_err-push_entry
unfolding journal_text
returns-in_err-push_entry c =
    appends_part c.from_residual.result _ _ _ c.from_residual.ensures.0
    (entry_part _ _ _ _ c.args.plan.now c.args.history.now c.loop-entry.entry-index _ c.loop-entry-test.true c.loop-entry.invariant c.in_err-push_entry.ensures)
