use Rattle.std.proofs.Common.{List, subst, sym}
use Rattle.std.specs.List.{All}
use Rattle.series_tables.specs.Fits.{FitsPlan}
use Rattle.accounts_history.specs.History.{inputs_of}
use Rattle.accounts_history.specs.declared.entry.Entry.{Entry}
use Rattle.accounts_history.proofs.Lawful.{within_bounds}
use Rattle.series_tables.specs.Plan.{PlanShape}
use Rattle.qna_live.proofs.serving.write_journal.Goals as goal

pub print_journal-requires : goal.print_journal-requires
print_journal-requires g c =
    subst (λ (history : List Entry). All (FitsPlan c.args.plan.now) (inputs_of history)) (sym c.history.ensures.entries)
    (subst (λ (plan : PlanShape). All (FitsPlan plan) (inputs_of c.args.core.now.history)) c.requires (within_bounds c.args.core.now.plan c.args.core.now.history c.history.ensures.lawful).fit)
