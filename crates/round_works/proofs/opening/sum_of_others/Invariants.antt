use Rattle.std.proofs.Common.{◌≤◌, suc, List}
use Rattle.series_tables.specs.declared.input.Input.{Input}
use Rattle.round_works.specs.Making.{IsSumFrom}
use Rattle.round_works.specs.Opening.{ShowsOthers}
use Rattle.round_works.proofs.opening.sum_of_others.Given as goal

abbrev pub invariant-loop-child : goal.invariant-loop-child
invariant-loop-child l = record {
  behind : suc l.item ≤ l.child;
  sum : (inputs : List Input) → ShowsOthers l.plan inputs l.jobs.jobs l.board.shown → IsSumFrom l.plan inputs l.jobs.jobs l.item l.child l.sum;
}
