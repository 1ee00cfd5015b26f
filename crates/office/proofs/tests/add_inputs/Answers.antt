use Rattle.std.proofs.Common.{◌≡◌, ◌++◌, ◌∷◌, [], List, subst, sym}
use Rattle.std.specs.Prelude.{All}
use Rattle.std.proofs.lemmas.List.Elements.{All-push}
use Rattle.series_tables.specs.Fits.{FitsPlan}
use Rattle.series_tables.specs.declared.input.Input.{Input}
use Rattle.office.proofs.tests.add_inputs.Goals as goal

pub loop-period-preserved : goal.loop-period-preserved
loop-period-preserved c =
    let pushed : c.push.new.self.items ≡ c.loop-period.inputs.items ++ c.in_ok-input.input ∷ [] = c.in_ok-push.ensures.items in
    subst (λ (xs : List Input). All (FitsPlan c.args.plan.now) xs) (sym pushed) (All-push (FitsPlan c.args.plan.now) c.loop-period.inputs.items c.in_ok-input.input c.loop-period.invariant c.in_ok-input.ensures)
