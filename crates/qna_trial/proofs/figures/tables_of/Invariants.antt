use Rattle.std.proofs.Common.{◌≡◌, length, take}
use Rattle.node_compile.specs.Release.{HoldLastValues}
use Rattle.qna_trial.proofs.figures.tables_of.Given as goal

-- the tables hold the last values of the inputs so far
abbrev pub invariant-loop-input : goal.invariant-loop-input
invariant-loop-input l = record {
  items : l.tables.items ≡ length l.plan.names;
  last : HoldLastValues l.tables (take l.input-index l.inputs);
}
