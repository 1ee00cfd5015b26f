use Rattle.std.proofs.Common.{[]}
use Rattle.accounts_core.proofs.Beginning.{first_board_is}
use Rattle.accounts_core.proofs.first.counted_board.Goals as goal

pub returns : goal.returns
returns g c =
    first_board_is c.args.plan.now c.in_ok-release.release.nodes.items c.new.result (c.in_ok-release.ensures.compiled [] c.requires.empty)
    c.in_ok-release.ensures.items c.new.ensures
