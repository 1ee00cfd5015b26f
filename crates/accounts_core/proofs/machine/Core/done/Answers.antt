use Rattle.std.proofs.Common.{◌≡◌, ◌∙◌, ap, refl, sym, subst, Some, true, false, arith}
use Rattle.dirty_plan.specs.declared.job.JobState.TheVariants.{Out}
use Rattle.round_works.specs.Jobs.{ItemJob, job_made}
use Rattle.round_works.specs.Rounds.{IsOut, IsRoundOver, round_in}
use Rattle.accounts_core.specs.State.{CoreState, IsOutNow}
use Rattle.accounts_core.proofs.Handling.{done_kept, inputs_under, not_out, state_of_parts}
use Rattle.accounts_core.proofs.Rounds.{item_within}
use Rattle.accounts_core.proofs.machine.Core.done.Goals as goal

pub stage-requires : goal.stage-requires
stage-requires c =
    let is : c.self.inside.round ≡ Some c.in-Some.round = sym c.take.ensures.value ∙ c.in-Some.is in
    let under = inputs_under c.self.inside.history.items c.in-Some.round in
    let is_open = c.self.invariant.0.open_round c.in-Some.round is in
    let out : IsOut c.self.inside.plan under (round_in c.in-Some.round) (job_made c.args.made) = (c.is_made_out.ensures under is_open.over).0 c.if-is_made_out.true in
    let inside = item_within c.self.inside.plan c.self.inside.board.front under c.self.inside.board c.in-Some.round c.args.made.node Out is_open out.0 refl in
    omega (arith, inside, c.self.invariant.0.published.shown)

pub invariant_of-self-then-is_made_out : goal.invariant_of-self-then-is_made_out
invariant_of-self-then-is_made_out c =
    let is : c.self.inside.round ≡ Some c.in-Some.round = sym c.take.ensures.value ∙ c.in-Some.is in
    let under = inputs_under c.self.inside.history.items c.in-Some.round in
    let over : IsRoundOver c.self.inside.plan under c.in-Some.round = (c.self.invariant.0.open_round c.in-Some.round is).over in
    let out : IsOut c.self.inside.plan under (round_in c.in-Some.round) (job_made c.args.made) = (c.is_made_out.ensures under over).0 c.if-is_made_out.true in (
      done_kept c.self.inside.plan c.self.inside.history.items c.self.inside.accepted c.self.inside.tables c.self.inside.board c.stage.new.self c.self.inside.round
          c.in-Some.round c.finish-table.new.self c.args.made c.finish-table.result c.self.invariant.0 is out
          c.finish-table.ensures.job (c.finish-table.ensures.works under over out) (c.finish-table.ensures.worth under out) c.stage.ensures,
      λ r there. c.self.invariant.1 c.in-Some.round is,
    )

pub returns-else-is_made_out : goal.returns-else-is_made_out
returns-else-is_made_out c =
    let is : c.self.inside.round ≡ Some c.in-Some.round = sym c.take.ensures.value ∙ c.in-Some.is in
    let under = inputs_under c.self.inside.history.items c.in-Some.round in
    let over : IsRoundOver c.self.inside.plan under c.in-Some.round = (c.self.invariant.0.open_round c.in-Some.round is).over in
    let never : IsOut c.self.inside.plan under (round_in c.in-Some.round) (job_made c.args.made) → ⊥ = λ out. (let both : true ≡ false = sym ((c.is_made_out.ensures under over).1 out) ∙ c.if-is_made_out.false in cc) in (
      subst (λ (s : CoreState). IsOutNow s (job_made c.args.made) → ⊥) c.self.view_is
          (not_out c.self.inside.plan c.self.inside.history.items c.self.inside.round c.in-Some.round (job_made c.args.made) is never),
      refl,
      ap (state_of_parts c.self.inside.plan c.self.inside.history.items) (sym is) ∙ c.self.view_is,
    )
