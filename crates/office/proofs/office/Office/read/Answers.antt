use Rattle.std.proofs.Common.{◌≡◌, ◌∙◌, ap, sym, subst}
use Rattle.accounts_core.specs.State.{CoreState}
use Rattle.accounts_core.specs.Step.{Reads}
use Rattle.round_works.specs.Tables.{shared_table}
use Rattle.office.proofs.Holding.{if_ok, looks, shows_table}
use Rattle.office.proofs.office.Office.read.Goals as goal

pub returns-clause-nothing : goal.returns-clause-nothing
returns-clause-nothing g c =
    let seen : c.leave.result.seen ≡ c.enter-held.result.book.core.history = cc in
    looks c.args.pass c.leave.result.seen c.enter-held.result.book.core c.enter-held.ensures.begins c.enter-held.ensures.own seen

pub returns-clause-table : goal.returns-clause-table
returns-clause-table g c =
    let core = c.enter-held.result.book.core in
    let is : c.book.result.now.core ≡ core = ap (λ b. b.core) c.book.ensures.value in
    let seen : c.leave.result.seen ≡ core.history = cc in
    if_ok c.read-shown.result
    (λ shown reads. shows_table core c.leave.result c.args.node shown.0 (shared_table shown.1) (subst (λ (k : CoreState). Reads k c.args.node shown.0 (shared_table shown.1)) is reads) (c.enter-held.ensures.label ∙ sym (c.leave.ensures.same.2 ∙ ap (λ k. k.label) c.enter-held.ensures.pass)) seen)
    c.read-shown.ensures.shown
