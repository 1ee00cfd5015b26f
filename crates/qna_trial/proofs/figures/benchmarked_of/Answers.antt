use Rattle.std.proofs.Common.{◌≤◌, length, arith}
use Rattle.qna_trial.proofs.Counting.{years_few}
use Rattle.qna_trial.proofs.figures.benchmarked_of.Goals as goal

pub returns-in-Some-clause-few : goal.returns-in-Some-clause-few
returns-in-Some-clause-few c =
    let few : length c.in-Some.part.bench.items ≤ 128 =
    years_few c.args.table.now.leaf c.in-Some.part c.args.table.now.flows.value c.args.table.now.benchmarked c.in-Some.is c.args.table.now.few in
    omega arith
