use Rattle.std.proofs.Common.{rules, ap, ◌∙◌}
use Rattle.desk_lock.proofs.Entries.{shows}
use Rattle.desk_lock.proofs.desk.Desk.history_now.Goals as goal

pub load-requires : goal.load-requires
load-requires g c = (search rules, search rules, shows _ _ _ _ _ _ _ (ap (λ k. k.live) c.pass.view_is ∙ c.requires.1))
