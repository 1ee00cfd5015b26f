use Rattle.std.proofs.Common.{◌≡◌, ◌∙◌, ap, sym}
use Rattle.accounts_history.specs.History.{front_of}
use Rattle.accounts_core.specs.State.{published}
use Rattle.office.proofs.Holding.{looks}
use Rattle.office.proofs.office.Office.front.Goals as goal

pub returns-clause-nothing : goal.returns-clause-nothing
returns-clause-nothing g c =
    let seen : c.leave.result.seen ≡ c.enter-held.result.book.core.history = cc in
    looks c.args.pass c.leave.result.seen c.enter-held.result.book.core c.enter-held.ensures.begins c.enter-held.ensures.own seen

pub returns-clause-front : goal.returns-clause-front
returns-clause-front g c =
    let core = c.enter-held.result.book.core in
    let is : c.book.result.now.core ≡ core = ap (λ b. b.core) c.book.ensures.value in
    let seen : c.leave.result.seen ≡ core.history = cc in
    c.front-front.ensures.front ∙ ap published is ∙ sym (ap front_of seen)
