use Rattle.std.proofs.Common.{◌≡◌, ◌≤◌, ◌*◌, take}
use Rattle.node_compile.specs.Table.{node_tables}
use Rattle.qna_trial.specs.Trial.{benchmarked_years}
use Rattle.qna_trial.proofs.figures.benchmarked_years.Given as goal

-- the sum of the years so far, of which no item has more than 128
abbrev pub invariant-loop-node : goal.invariant-loop-node
invariant-loop-node l = record {
  sum : l.years ≡ benchmarked_years (node_tables (take l.node-index l.nodes));
  few : l.years ≤ 128 * l.node-index;
}
