use Rattle.std.proofs.Common.{◌+◌}
use Rattle.std.specs.List.{range_with_len}
use Rattle.desk_lock.specs.Passes.{IsFreeFrom}
use Rattle.office.specs.Opening.{AddsPasses}
use Rattle.office.proofs.opening.add_passes.Given as goal

abbrev pub invariant-loop-step : goal.invariant-loop-step
invariant-loop-step l = AddsPasses (range_with_len l.fn.first l.step) l.fn.pass l.fn.passes.items l.pass l.passes.items × IsFreeFrom (l.fn.first + l.step) l.pass
