use Rattle.std.proofs.Common.{◌≡◌, ◌+◌, ◌++◌, ◌∷◌, [], arith, subst, suc, sym, ℕ, List}
use Rattle.std.specs.List.{range_with_len}
use Rattle.desk_lock.specs.Passes.{IsFreeFrom}
use Rattle.office.specs.Holds.{Known}
use Rattle.office.specs.Opening.{AddsPasses}
use Rattle.office.proofs.FirstPasses.{adds_more, free_on}
use Rattle.office.proofs.opening.add_passes.Goals as goal

pub loop-step-preserved : goal.loop-step-preserved
loop-step-preserved c =
    let next : suc c.loop-step.step ≡ c.loop-step.step + 1 = omega arith in
    let after : c.args.first + c.loop-step.step + 1 ≡ c.args.first + (c.loop-step.step + 1) = omega arith in
    let pushed : c.push.new.self.items ≡ c.loop-step.passes.items ++ c.in-Ok.other ∷ [] = c.in_ok-push.ensures.items in
    let more = adds_more c.args.first c.loop-step.step c.args.pass c.loop-step.pass c.in-Ok.giving c.in-Ok.other c.args.passes.items c.loop-step.passes.items c.loop-step.invariant.0 c.in-Ok.ensures.first c.in-Ok.ensures.second.0 in
    let now = subst (λ (ks : List Known). AddsPasses (range_with_len c.args.first (suc c.loop-step.step)) c.args.pass c.args.passes.items c.in-Ok.giving ks) (sym pushed) more in (
      subst (λ (n : ℕ). AddsPasses (range_with_len c.args.first n) c.args.pass c.args.passes.items c.in-Ok.giving c.push.new.self.items) next now,
      subst (λ (n : ℕ). IsFreeFrom n c.in-Ok.giving) after (free_on (c.args.first + c.loop-step.step) c.loop-step.pass c.in-Ok.giving c.loop-step.invariant.1 c.in-Ok.ensures.first),
    )
