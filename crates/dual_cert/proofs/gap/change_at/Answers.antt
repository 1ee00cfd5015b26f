use Rattle.std.proofs.Common.{rules, arith, ◌≡◌, ◌≤◌, ◌-◌, ◌*◌, ◌∷◌, ◌++◌, [], pos, FitsSigned, ap, sym, ◌∙◌, get_or}
use Rattle.std.specs.Int.{w128}
use Rattle.std.proofs.lemmas.Int.{to_z-of_z}
use Rattle.denton_parts.specs.Changes.{change_in_year, steady}
use Rattle.denton_parts.specs.Years.{years_in}
use Rattle.denton_parts.specs.declared.year.YearPart.{YearPart}
use Rattle.dual_cert.specs.Parts.{change_at_quarter}
use Rattle.dual_cert.proofs.Parts.{change_inside, change_outside, change_past, steady_bounds}
use Rattle.dual_cert.proofs.gap.change_at.Goals as goal
use Rattle.dual_cert.proofs.gap.change_at.Goals.{else-ended-parts-via-then-ended-parts+else-first_quarter-t, else-ended-parts-via-else-ended-parts}

-- in a benchmarked year the change is its own
change_is : (c : goal.After-change_bounds) →
    change_at_quarter (years_in c.args.years.now c.args.parts.now) c.args.u.now c.args.t
    ≡ change_in_year c.index-parts-ended.result.ind c.multiplier_before-left.result c.multiplier_after.result
    (c.args.t - c.first_quarter-then-first_quarter-t.result)
change_is c =
    let reached : 4 * get_or c.args.years.now c.args.ended 0 ≤ c.args.t = omega arith in
    change_inside c.args.years.now c.args.parts.now c.args.u.now c.args.ended c.args.t c.index-parts-ended.result
    c.requires.placed c.requires.joints c.requires.ended c.if-ended-parts.true reached
    ∙ ap (λ (part : YearPart). change_in_year part.ind
    (get_or (pos 0 ∷ (c.args.u.now ++ pos 0 ∷ [])) c.args.ended (pos 0))
    (get_or (c.args.u.now ++ pos 0 ∷ []) c.args.ended (pos 0)) (c.args.t - 4 * get_or c.args.years.now c.args.ended 0))
    (sym c.index-parts-ended.is)
    ∙ ap (λ left. change_in_year c.index-parts-ended.result.ind left
    (get_or (c.args.u.now ++ pos 0 ∷ []) c.args.ended (pos 0))
    (c.args.t - 4 * get_or c.args.years.now c.args.ended 0)) (sym c.multiplier_before-left.ensures.value)
    ∙ ap (λ right. change_in_year c.index-parts-ended.result.ind c.multiplier_before-left.result right
    (c.args.t - 4 * get_or c.args.years.now c.args.ended 0)) (sym c.multiplier_after.ensures.value)
    ∙ ap (λ first. change_in_year c.index-parts-ended.result.ind c.multiplier_before-left.result
    c.multiplier_after.result (c.args.t - first)) (sym c.first_quarter-then-first_quarter-t.ensures)

pub returns-then-first_quarter-t-clause-bounds : goal.returns-then-first_quarter-t-clause-bounds
returns-then-first_quarter-t-clause-bounds c =
    let left : FitsSigned w128 c.multiplier_before-left.result = search rules in
    let right : FitsSigned w128 c.multiplier_after.result = search rules in
    rw (change_is c) (simp to_z-of_z at c.change_bounds.ensures.floor, simp to_z-of_z at c.change_bounds.ensures.ceiling)

-- elsewhere it is the multiplier that stands there
steady_is : (c : goal.Joined-else-ended-parts) →
    change_at_quarter (years_in c.args.years.now c.args.parts.now) c.args.u.now c.args.t
    ≡ steady c.multiplier_before-left.result
steady_is c =
    rw c.multiplier_before-left.ensures.value
    (elim c.else-ended-parts.branch as (λ _.
    change_at_quarter (years_in c.args.years.now c.args.parts.now) c.args.u.now c.args.t
    ≡ steady (get_or (pos 0 ∷ (c.args.u.now ++ pos 0 ∷ [])) c.args.ended (pos 0))) [
      | else-ended-parts-via-then-ended-parts+else-first_quarter-t w ↦
          change_outside c.args.years.now c.args.parts.now c.args.u.now c.args.ended c.args.t
          c.requires.placed c.requires.joints c.requires.ended w.if-ended-parts.true (omega arith)
      | else-ended-parts-via-else-ended-parts w ↦
          change_past c.args.years.now c.args.parts.now c.args.u.now c.args.ended c.args.t
          c.requires.placed c.requires.joints c.requires.ended (omega arith)
    ])

pub returns-else-ended-parts-clause-bounds : goal.returns-else-ended-parts-clause-bounds
returns-else-ended-parts-clause-bounds c =
    let fits : FitsSigned w128 c.multiplier_before-left.result = search rules in
    rw (steady_is c) (simp to_z-of_z (steady_bounds c.multiplier_before-left.result))
