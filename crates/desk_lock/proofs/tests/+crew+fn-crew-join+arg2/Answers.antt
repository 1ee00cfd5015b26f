use Rattle.std.proofs.Common.{rules}
use Rattle.desk_lock.proofs.Gathering.{regathers}
use Rattle.desk_lock.proofs.tests.+crew+fn-crew-join+arg2.Goals as goal

pub returns : goal.returns
returns g t c = regathers (λ e. e.party) c.args.pass c.in-Ok.pass c.in-Ok.other c.join-rest.result.0.0 c.join-rest.result.1.0 c.join.result c.args.first c.requires.free.0 c.in-Ok.ensures.first c.in-Ok.ensures.second.0
    c.join-rest.ensures.first (search rules) c.join.ensures.joined
