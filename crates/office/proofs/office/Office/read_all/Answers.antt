use Rattle.std.proofs.Common.{◌≡◌, ◌∙◌, ap, sym, subst}
use Rattle.accounts_core.specs.State.{CoreState}
use Rattle.accounts_core.specs.Step.{ReadsAll}
use Rattle.node_compile.specs.Release.{tables_in}
use Rattle.office.proofs.Holding.{if_ok, looks, shows_release}
use Rattle.office.proofs.office.Office.read_all.Goals as goal

pub returns-clause-nothing : goal.returns-clause-nothing
returns-clause-nothing g c =
    let seen : c.leave.result.seen ≡ c.enter-held.result.book.core.history = cc in
    looks c.args.pass c.leave.result.seen c.enter-held.result.book.core c.enter-held.ensures.begins c.enter-held.ensures.own seen

pub returns-clause-release : goal.returns-clause-release
returns-clause-release g c =
    let core = c.enter-held.result.book.core in
    let is : c.book.result.now.core ≡ core = ap (λ b. b.core) c.book.ensures.value in
    let seen : c.leave.result.seen ≡ core.history = cc in
    if_ok c.read_all-release.result
    (λ release reads. shows_release core c.leave.result release.front (tables_in release) (subst (λ (k : CoreState). ReadsAll k release.front (tables_in release)) is reads) (c.enter-held.ensures.label ∙ sym (c.leave.ensures.same.2 ∙ ap (λ k. k.label) c.enter-held.ensures.pass)) seen)
    c.read_all-release.ensures.shown
