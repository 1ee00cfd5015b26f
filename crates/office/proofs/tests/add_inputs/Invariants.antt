use Rattle.std.specs.Prelude.{All}
use Rattle.series_tables.specs.Fits.{FitsPlan}
use Rattle.office.proofs.tests.add_inputs.Given as goal

abbrev pub invariant-loop-period : goal.invariant-loop-period
invariant-loop-period l = All (FitsPlan l.plan) l.inputs.items
