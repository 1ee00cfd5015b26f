use Rattle.std.proofs.Common.{◌≡◌, length, arith}
use Rattle.std.specs.Arc.{arc_value}
use Rattle.std.proofs.lemmas.List.{length-map}
use Rattle.node_compile.specs.Release.{tables_in}
use Rattle.node_compile.specs.Table.{table_in}
use Rattle.qna_trial.proofs.figures.compile_twice.Goals as goal

pub benchmarked_years-benchmarked-requires : goal.benchmarked_years-benchmarked-requires
benchmarked_years-benchmarked-requires g c =
    let shown : length (tables_in c.in_ok-alone.alone) ≡ length c.in_ok-alone.alone.nodes.items = length-map c.in_ok-alone.alone.nodes.items (λ node. table_in (arc_value node)) in
    rw c.deref.ensures.value (omega (arith, c.in_ok-alone.ensures.items))
