use Rattle.std.proofs.Common.{◌≡◌, ◌∙◌, ◌-◌, ap, subst, List, ◌∷◌}
use Rattle.std.specs.List.{range_with_len}
use Rattle.accounts_core.specs.State.{CoreState}
use Rattle.desk_lock.specs.Passes.{first_pass}
use Rattle.office.specs.Holds.{Known}
use Rattle.office.specs.Opening.{AddsPasses}
use Rattle.office.proofs.FirstPasses.{opens}
use Rattle.office.proofs.office.Office.new.Goals as goal

pub returns : goal.returns
returns c =
    let desk = c.in_ok-desk.desk in
    let is : c.in_ok-desk.first ≡ first_pass desk c.args.plan 1 = c.in_ok-desk.ensures.pass ∙ ap (λ (core : CoreState). first_pass desk core.plan 1) c.in_ok-book.ensures in
    let adds = subst (λ (ks : List Known). AddsPasses (range_with_len 2 (c.args.desks - 1)) c.in_ok-desk.first ks c.in_ok-first.first c.in_ok-first.passes.items) c.new-3.ensures.items c.in_ok-first.ensures.adds in
    let put : c.insert.new.self.items ≡ c.in_ok-first-2.first ∷ c.in_ok-first-2.passes.items = c.in_ok-insert.ensures.items in
    put ∙ opens desk c.args.plan c.args.desks c.args.workers c.in_ok-desk.first c.in_ok-first.first c.in_ok-first-2.first c.in_ok-first.passes.items c.in_ok-first-2.passes.items is adds c.in_ok-first-2.ensures.adds
