use Rattle.std.proofs.Common.{rules, ◌≡◌, FitsSigned, subst, sym, ap, ◌∙◌, get_or}
use Rattle.std.specs.Int.{w128}
use Rattle.std.proofs.lemmas.Int.{to_z-of_z}
use Rattle.std.proofs.lemmas.List.{get_or_default}
use Rattle.denton_parts.specs.Level.{ratio_floor}
use Rattle.denton_parts.specs.Years.{year_in}
use Rattle.denton_parts.specs.declared.year.YearPart.{YearPart}
use Rattle.denton_solve.specs.Conditions.{IsScaled}
use Rattle.denton_solve.proofs.sweep.ends_at.Goals as goal

pub ends_of-requires-clause-fits : goal.ends_of-requires-clause-fits
ends_of-requires-clause-fits c =
    let P : YearPart → Type 0 = λ part. IsScaled c.args.scale (year_in 0 part) in
    subst P (sym c.index-parts-y.is) (c.requires.scaled c.index-parts-y.result)

pub returns-clause-first : goal.returns-clause-first
returns-clause-first c = λ other.
    let left : FitsSigned w128 c.args.left = c.ranges.left in
    let right : FitsSigned w128 c.multiplier_at.result = search rules in
    let found : c.ends_of.result.first
    ≡ ratio_floor c.args.scale (year_in 0 c.index-parts-y.result) c.args.left c.multiplier_at.result 0 =
    simp to_z-of_z at c.ends_of.ensures.first in
    found
    ∙ ap (λ (part : YearPart). ratio_floor c.args.scale (year_in 0 part) c.args.left c.multiplier_at.result 0)
    (c.index-parts-y.is
    ∙ get_or_default c.args.parts.now c.args.y c.index-parts-y.result other c.requires.inside)
    ∙ ap (λ u. ratio_floor c.args.scale (year_in 0 (get_or c.args.parts.now c.args.y other)) c.args.left u 0)
    c.multiplier_at.ensures.value

pub returns-clause-last : goal.returns-clause-last
returns-clause-last c = λ other.
    let left : FitsSigned w128 c.args.left = c.ranges.left in
    let right : FitsSigned w128 c.multiplier_at.result = search rules in
    let found : c.ends_of.result.last
    ≡ ratio_floor c.args.scale (year_in 0 c.index-parts-y.result) c.args.left c.multiplier_at.result 3 =
    simp to_z-of_z at c.ends_of.ensures.last in
    found
    ∙ ap (λ (part : YearPart). ratio_floor c.args.scale (year_in 0 part) c.args.left c.multiplier_at.result 3)
    (c.index-parts-y.is
    ∙ get_or_default c.args.parts.now c.args.y c.index-parts-y.result other c.requires.inside)
    ∙ ap (λ u. ratio_floor c.args.scale (year_in 0 (get_or c.args.parts.now c.args.y other)) c.args.left u 3)
    c.multiplier_at.ensures.value
