use Rattle.std.proofs.Common.{rules, ap, ◌∙◌}
use Rattle.desk_lock.proofs.Entries.{compares}
use Rattle.desk_lock.proofs.desk.Desk.split.Goals as goal

pub load-requires : goal.load-requires
load-requires g c = (search rules, search rules, compares _ _ _ _ _ _ _ (ap (λ k. k.live) c.pass.view_is ∙ c.requires.desk.1))
