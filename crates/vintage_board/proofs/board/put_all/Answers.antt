use Rattle.std.proofs.Common.{◌+◌, arith}
use Rattle.vintage_board.proofs.Putting.{put_more}
use Rattle.vintage_board.proofs.board.put_all.Goals as goal

pub loop-item-preserved : goal.loop-item-preserved
loop-item-preserved g c =
    put_more c.args.staged.now c.loop-item.staged c.args.shown.now c.loop-item.shown c.loop-item.item (c.loop-item.item + 1) _ _
    c.put_one.new.shown c.put_one.new.staged (omega arith) c.requires c.loop-item-test.true c.loop-item.invariant c.put_one.ensures.shown c.put_one.ensures.staged
