use Rattle.sum_rounding.proofs.Steps.{sums_four}
use Rattle.sum_rounding.proofs.sum.Goals as goal

pub overflow_add-result : goal.overflow_add-result
overflow_add-result c = (sums_four c.args.floors.now c.told-floors c.requires.small).fits

pub returns-clause-value : goal.returns-clause-value
returns-clause-value c = (sums_four c.args.floors.now c.told-floors c.requires.small).value

pub returns-clause-small : goal.returns-clause-small
returns-clause-small c = (sums_four c.args.floors.now c.told-floors c.requires.small).small
