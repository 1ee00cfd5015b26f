use Rattle.std.proofs.Common.{refl, ap}
use Rattle.round_works.specs.Jobs.{ItemJob}
use Rattle.round_works.proofs.Rounds.{parts_as, parts_back}
use Rattle.round_works.proofs.round.OpenRound.take_back.Goals as goal

pub returns-clause-works : goal.returns-clause-works
returns-clause-works c = λ plan inputs over out.
    parts_as plan inputs c.args.self.now.front _ c.put_back.new.self _ _ _ _ c.put_back.ensures refl refl
    (parts_back plan inputs c.args.self.now.front c.args.self.now.jobs c.args.self.now.kept.items c.args.self.now.ready.items c.args.job.node c.args.job.work over
    c.args.self.now.all_ready c.requires (ap (λ (job : ItemJob). job.work) out.1))
