use Rattle.std.proofs.Common.{◌≡◌, ℕ, ◌<◌, get_or, length}
use Rattle.price_base.specs.declared.Cell.TheVariants.{Missing}
use Rattle.annual_overlap.specs.Years.{year_cell, year_count}
use Rattle.annual_overlap.proofs.years.write_years.Given as goal

abbrev pub invariant-loop-year : goal.invariant-loop-year
invariant-loop-year l = record {
  written : (k : ℕ) → k < l.year → get_or l.out k Missing ≡ year_cell l.cells k;
  as_many : length l.out ≡ year_count (length l.cells);
}
