use Rattle.std.proofs.Common.{refl, ap, Option}
use Rattle.std.specs.Prelude.{slice_set}
use Rattle.round_works.specs.declared.work.Work.{Work}
use Rattle.round_works.proofs.Rounds.{parts_as, parts_taken}
use Rattle.round_works.proofs.round.OpenRound.hand_out.Goals as goal

pub returns-clause-works : goal.returns-clause-works
returns-clause-works c = λ inputs over.
    parts_as c.args.plan.now inputs c.args.self.now.front _ c.take-2.new.self _ _ _ _ c.take-2.ensures refl
    (ap (λ (slot : Option Work). slice_set c.args.self.now.ready.items c.in_ok-item.item slot) c.take.ensures.after)
    (parts_taken c.args.plan.now inputs c.args.self.now.front c.args.self.now.jobs c.args.self.now.kept.items c.args.self.now.ready.items c.in_ok-item.item over c.in_ok-item.ensures.passes)
