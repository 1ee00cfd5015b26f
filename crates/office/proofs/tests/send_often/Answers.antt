use Rattle.std.proofs.Common.{Option, subst, sym}
use Rattle.std.specs.Option.{ForSome}
use Rattle.series_tables.specs.Fits.{FitsPlan}
use Rattle.series_tables.specs.Plan.{PlanShape}
use Rattle.office.proofs.tests.send_often.Goals as goal

pub submit-seen-requires-clause-fits : goal.submit-seen-requires-clause-fits
submit-seen-requires-clause-fits g c =
    subst (λ (label : Option PlanShape). ForSome label (λ plan. FitsPlan plan c.args.input)) (sym c.loop.invariant.same.2) c.requires.fits
