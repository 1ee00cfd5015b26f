use Rattle.std.proofs.Common.{◌∙◌, arith}
use Rattle.node_compile.proofs.Runs.{numbers_flow, written}
use Rattle.node_compile.proofs.Sizes.{prices_are}
use Rattle.node_compile.proofs.leaf.flows_of.Goals as goal

pub at_previous_prices-requires-clause-prices : goal.at_previous_prices-requires-clause-prices
at_previous_prices-requires-clause-prices c = prices_are c.args.prices.now c.requires.prices

pub new-requires-clause-value_flows : goal.new-requires-clause-value_flows
new-requires-clause-value_flows c = numbers_flow c.args.values.now c.from.result (c.from.ensures ∙ written _ _ c.write_cells.new.out (omega arith) (omega arith) ∙ c.write_cells.ensures)
