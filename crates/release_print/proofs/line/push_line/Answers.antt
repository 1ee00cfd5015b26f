use Rattle.std.proofs.Common.{◌<◌, map, drop, length, arith, length-drop}
use Rattle.std.proofs.lemmas.List.{length-map}
use Rattle.release_print.proofs.Parts.{wrote_more, wrote_kept, comma_next, appends_part}
use Rattle.release_print.proofs.line.push_line.Goals as goal

pub returns-in_err-extend_from_slice-2 : goal.returns-in_err-extend_from_slice-2
returns-in_err-extend_from_slice-2 c =
    let left = map (λ field. field.now) (drop c.loop-field.field-index c.args.fields.now) in
    let some : 0 < length left = simp (length-map, length-drop) (omega arith) in
    let next = comma_next left some in
    appends_part c.from_residual-in_err-extend_from_slice-2.result _ _ _ c.from_residual-in_err-extend_from_slice-2.ensures.0 (wrote_kept _ _ _ _ _ (wrote_more _ _ c.push.new.self.items _ _ next.0 _ c.loop-field.invariant next.1 c.in_ok-push.ensures.items) c.in_err-extend_from_slice-2.ensures.items)

pub returns-in_err-push-2 : goal.returns-in_err-push-2
returns-in_err-push-2 c = appends_part c.from_residual-in_err-push-2.result _ _ _ c.from_residual-in_err-push-2.ensures.0 (wrote_kept _ _ _ _ _ c.loop-field.invariant c.in_err-push-2.ensures.items)
