use Rattle.std.proofs.Common.{◌≡◌, ◌∙◌, ap, refl, sym, subst, Some, true, false}
use Rattle.round_works.specs.Jobs.{ItemJob, job_in}
use Rattle.round_works.specs.Rounds.{IsOut, IsRoundOver, round_in}
use Rattle.accounts_core.specs.State.{CoreState, IsOutNow}
use Rattle.accounts_core.proofs.Handling.{back_kept, inputs_under, not_out, state_of_parts}
use Rattle.accounts_core.proofs.machine.Core.put_back.Goals as goal

pub invariant_of-self-then-is_out : goal.invariant_of-self-then-is_out
invariant_of-self-then-is_out c =
    let is : c.self.inside.round ≡ Some c.in-Some.round = sym c.take.ensures.value ∙ c.in-Some.is in
    let under = inputs_under c.self.inside.history.items c.in-Some.round in
    let over : IsRoundOver c.self.inside.plan under c.in-Some.round = (c.self.invariant.0.open_round c.in-Some.round is).over in
    let out : IsOut c.self.inside.plan under (round_in c.in-Some.round) (job_in c.args.job) = (c.is_out.ensures under over).0 c.if-is_out.true in (
      back_kept c.self.inside.plan c.self.inside.history.items c.self.inside.accepted c.self.inside.tables c.self.inside.board c.self.inside.round c.in-Some.round c.take_back.new.self c.args.job c.self.invariant.0 is out
          c.take_back.ensures.job (c.take_back.ensures.works c.self.inside.plan under over out),
      λ r there. c.self.invariant.1 c.in-Some.round is,
    )

pub returns-else-is_out : goal.returns-else-is_out
returns-else-is_out c =
    let is : c.self.inside.round ≡ Some c.in-Some.round = sym c.take.ensures.value ∙ c.in-Some.is in
    let under = inputs_under c.self.inside.history.items c.in-Some.round in
    let over : IsRoundOver c.self.inside.plan under c.in-Some.round = (c.self.invariant.0.open_round c.in-Some.round is).over in
    let never : IsOut c.self.inside.plan under (round_in c.in-Some.round) (job_in c.args.job) → ⊥ = λ out. (let both : true ≡ false = sym ((c.is_out.ensures under over).1 out) ∙ c.if-is_out.false in cc) in (
      subst (λ (s : CoreState). IsOutNow s (job_in c.args.job) → ⊥) c.self.view_is
          (not_out c.self.inside.plan c.self.inside.history.items c.self.inside.round c.in-Some.round (job_in c.args.job) is never),
      refl,
      ap (state_of_parts c.self.inside.plan c.self.inside.history.items) (sym is) ∙ c.self.view_is,
    )
