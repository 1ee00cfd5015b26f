use Rattle.std.proofs.Common.{◌≡◌, ◌∙◌, sym, subst, Some}
use Rattle.round_works.specs.Rounds.{HandsOut, IsRoundOver, round_in}
use Rattle.accounts_core.specs.State.{CoreState}
use Rattle.accounts_core.specs.Step.{Takes}
use Rattle.accounts_core.proofs.Handling.{inputs_under, state_of_parts, take_kept, take_step}
use Rattle.accounts_core.proofs.machine.Core.take.Goals as goal

pub invariant_of-self-in-Some : goal.invariant_of-self-in-Some
invariant_of-self-in-Some c =
    let is : c.self.inside.round ≡ Some c.in-Some.round = sym c.take.ensures.value ∙ c.in-Some.is in
    let under = inputs_under c.self.inside.history.items c.in-Some.round in
    let over : IsRoundOver c.self.inside.plan under c.in-Some.round = (c.self.invariant.0.open_round c.in-Some.round is).over in (
      take_kept c.self.inside.plan c.self.inside.history.items c.self.inside.accepted c.self.inside.tables c.self.inside.board c.self.inside.round c.in-Some.round c.hand_out-job.new.self c.hand_out-job.result c.self.invariant.0 is
          (c.hand_out-job.ensures.job under over) (c.hand_out-job.ensures.works under over),
      λ r there. c.self.invariant.1 c.in-Some.round is,
    )

pub returns-in-Some : goal.returns-in-Some
returns-in-Some c =
    let is : c.self.inside.round ≡ Some c.in-Some.round = sym c.take.ensures.value ∙ c.in-Some.is in
    let under = inputs_under c.self.inside.history.items c.in-Some.round in
    let over : IsRoundOver c.self.inside.plan under c.in-Some.round = (c.self.invariant.0.open_round c.in-Some.round is).over in
    subst (λ (s : CoreState). Takes s c.taken.result (state_of_parts c.self.inside.plan c.self.inside.history.items (Some c.hand_out-job.new.self))) c.self.view_is
    (take_step c.self.inside.plan c.self.inside.history.items c.self.inside.round c.in-Some.round c.hand_out-job.new.self c.hand_out-job.result c.taken.result is c.taken.ensures
    (c.hand_out-job.ensures.job under over))
