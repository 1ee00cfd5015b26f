-- The last byte decides.
use Rattle.std.proofs.Common.{◌≡◌, ◌-◌, suc, length, sym, arith}
use Rattle.line_form.proofs.Streams.{return_dropped, return_absent, return_empty}
use Rattle.line_form.proofs.cutting.text_of.Goals as goal
use Rattle.line_form.proofs.cutting.text_of.Goals.{else-not-is_empty-via-then-not-is_empty+else-piece-eq13, else-not-is_empty-via-else-not-is_empty}

pub returns-then-piece-eq13 : goal.returns-then-piece-eq13
returns-then-piece-eq13 c =
    let size : length c.args.piece.now ≡ suc (length c.args.piece.now - 1) = grind (arith, c.if-not-is_empty.ensures) in
    sym (return_dropped c.args.piece.now (length c.args.piece.now - 1) size c.if-piece-eq13.true)

pub returns-else-not-is_empty : goal.returns-else-not-is_empty
returns-else-not-is_empty c =
    elim c.else-not-is_empty.branch [
      | else-not-is_empty-via-then-not-is_empty+else-piece-eq13 w ↦
          let size : length c.args.piece.now ≡ suc (length c.args.piece.now - 1) = grind (arith, w.if-not-is_empty.ensures) in
          sym (return_absent c.args.piece.now (length c.args.piece.now - 1) size w.if-piece-eq13.false)
      | else-not-is_empty-via-else-not-is_empty w ↦
          let size : length c.args.piece.now ≡ 0 = grind (arith, w.if-not-is_empty.ensures) in
          sym (return_empty c.args.piece.now size)
    ]
