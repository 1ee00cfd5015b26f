use Rattle.std.proofs.Common.{drop}
use Rattle.accounts_history.specs.History.{journal}
use Rattle.release_print.specs.Journal.{sent_lines}
use Rattle.release_print.proofs.Parts.{Wrote}
use Rattle.release_print.proofs.journal.print_journal.Given as goal

-- the lines of the entries so far are written, and those of what is left are to come
abbrev pub invariant-loop-entry : goal.invariant-loop-entry
invariant-loop-entry l = Wrote l.fn.out.items l.out.items (sent_lines l.plan (journal (drop l.entry-index l.history))) (sent_lines l.plan (journal l.history))
