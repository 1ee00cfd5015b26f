use Rattle.std.proofs.Common.{◌≡◌, ◌+◌, ◌*◌, arith}
use Rattle.std.proofs.lemmas.Int.{to_z-of_z}
use Rattle.std.specs.Int.{w128}
use Rattle.denton_parts.specs.Years.{year_in}
use Rattle.node_compile.proofs.Filling.{carried_behind, put_behind}
use Rattle.node_compile.proofs.quarters.write_behind.Goals as goal

pub returns : goal.returns
returns c =
    let from : c.first_quarter-from.result + 4 ≡ 4 * c.args.year + 4 = omega arith in
    put_behind (c.first_quarter-from.result + 4) (4 * c.args.year + 4) c.args.out.now c.carry.new.out _ from (omega arith)
    (carried_behind c.args.scale (year_in c.args.year c.args.last.now) _ c.args.left (c.first_quarter-from.result + 4)
    (4 * c.args.year + 4) c.args.ind.now c.carry.new.out from (to_z-of_z w128 c.args.left c.ranges.left)
    (c.carry.ensures.value c.args.year))
