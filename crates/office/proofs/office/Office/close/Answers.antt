use Rattle.std.proofs.Common.{◌∙◌, ap}
use Rattle.accounts_core.specs.State.{CoreState}
use Rattle.accounts_history.specs.History.{party_of}
use Rattle.desk_lock.specs.Passes.{entries_by}
use Rattle.office.proofs.office.Office.close.Goals as goal

pub returns-clause-each : goal.returns-clause-each
returns-clause-each c = λ p. ap (λ (core : CoreState). entries_by party_of p core.history) c.into_core.ensures ∙ c.close-book.ensures.each p
