use Rattle.office.proofs.Gathering.{joined_last}
use Rattle.office.proofs.tests.closed.Goals as goal

pub close-core-requires-clause-last : goal.close-core-requires-clause-last
close-core-requires-clause-last c = joined_last c.args.first c.args.second c.join-pass.result c.requires.first.1 c.requires.all c.join-pass.ensures.joined
