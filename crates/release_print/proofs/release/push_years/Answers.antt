use Rattle.std.proofs.Common.{◌<◌, length, arith}
use Rattle.release_print.proofs.Parts.{appends_part}
use Rattle.release_print.proofs.Lines.{years_part, years_more}
use Rattle.release_print.proofs.release.push_years.Goals as goal

pub returns-in_err-push_year : goal.returns-in_err-push_year
returns-in_err-push_year c =
    let inside : c.loop-place.place < length c.args.values.now = omega arith in
    appends_part c.from_residual.result _ _ _ c.from_residual.ensures.0 (years_part _ _ _ _ c.args.name.now c.args.start c.loop-place.place _ _ _ _ c.args.values.now c.args.volumes.now c.args.levels.now c.args.drifts.now inside c.requires.volumes c.requires.levels c.requires.drifts c.loop-place.invariant c.in_err-push_year.ensures)

pub loop-place-preserved : goal.loop-place-preserved
loop-place-preserved c =
    let inside : c.loop-place.place < length c.args.values.now = omega arith in
    years_more _ _ _ _ c.args.name.now c.args.start c.loop-place.place _ _ _ _ c.args.values.now c.args.volumes.now c.args.levels.now c.args.drifts.now inside c.requires.volumes c.requires.levels c.requires.drifts c.loop-place.invariant c.in_ok-push_year.ensures
