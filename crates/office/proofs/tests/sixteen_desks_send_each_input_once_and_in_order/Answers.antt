use Rattle.std.proofs.Common.{List, subst, sym}
use Rattle.std.specs.Prelude.{All}
use Rattle.series_tables.specs.Fits.{FitsPlan}
use Rattle.series_tables.specs.declared.input.Input.{Input}
use Rattle.office.proofs.tests.sixteen_desks_send_each_input_once_and_in_order.Goals as goal

pub run-requires-after_bounds : goal.run-requires-after_bounds
run-requires-after_bounds g c κs = subst (λ (xs : List Input). All (FitsPlan c.in_ok-plan.plan) xs) (sym c.as_slice.ensures.value) c.in_ok-inputs.ensures
