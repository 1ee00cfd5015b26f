use Rattle.desk_lock.proofs.Gathering.{first_is_last, regathered_last}
use Rattle.desk_lock.proofs.tests.run.Goals as goal

pub close-log-requires-clause-last : goal.close-log-requires-clause-last
close-log-requires-clause-last g c = regathered_last (λ e. e.party) c.in_ok-desk.pass c.crew-pass.result.0 (first_is_last (λ e. e.party) _ _ _ c.in_ok-desk.pass c.in_ok-desk.ensures.pass) c.crew-pass.ensures
