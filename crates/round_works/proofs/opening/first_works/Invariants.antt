use Rattle.std.proofs.Common.{◌≡◌, ◌<◌, ℕ, List, length}
use Rattle.series_tables.specs.declared.input.Input.{Input}
use Rattle.round_works.specs.Making.{work_at}
use Rattle.round_works.specs.Opening.{IsBeginning, IsFirstWork}
use Rattle.round_works.proofs.opening.first_works.Given as goal

abbrev pub invariant-loop-item : goal.invariant-loop-item
invariant-loop-item l = record {
  all : length l.works.items ≡ l.item;
  works : (inputs : List Input) → IsBeginning l.plan inputs l.tables l.jobs.jobs l.board.shown →
      (item : ℕ) → item < l.item → IsFirstWork l.plan inputs l.jobs.jobs item (work_at l.works.items item);
}
