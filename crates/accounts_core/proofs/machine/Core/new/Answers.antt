use Rattle.std.proofs.Common.{◌≡◌, ◌∙◌, ap, refl, sym, subst, length, List, Bool}
use Rattle.series_tables.specs.Plan.{PlanShape}
use Rattle.series_tables.proofs.Parents.{length-flags}
use Rattle.accounts_core.proofs.Beginning.{new_kept}
use Rattle.accounts_core.proofs.machine.Core.new.Goals as goal

pub invariant_of-result : goal.invariant_of-result
invariant_of-result c =
    let parents : length c.args.plan.parents ≡ length c.args.plan.names =
    subst (λ (p : PlanShape). length p.parents ≡ length p.names) c.plan.view_is
    (sym (length-flags c.plan.inside.items.parents) ∙ ap (λ (flags : List Bool). length flags) (sym c.plan.invariant.1.1) ∙ c.plan.invariant.1.0) in (
      new_kept c.args.plan c.new-2.result.items 0 c.in_ok-tables.tables c.in_ok-board.board _ parents c.new-2.ensures.items refl
          c.in_ok-tables.ensures.items c.in_ok-tables.ensures.empty c.in_ok-board.ensures refl,
      λ r never. absurd (cc),
    )
