use Rattle.std.proofs.Common.{refl}
use Rattle.release_print.proofs.Parts.{first_part, later_part, appends_behind, appends_part}
use Rattle.release_print.proofs.certificate.push_head.Goals as goal

pub returns-in_err-push_named : goal.returns-in_err-push_named
returns-in_err-push_named c = appends_part c.from_residual.result _ _ _ c.from_residual.ensures.0 (first_part _ _ _ _ _ c.in_err-push_named.ensures refl)

pub returns-in_err-push_scale : goal.returns-in_err-push_scale
returns-in_err-push_scale c = appends_part c.from_residual-in_err-push_scale.result _ _ _ c.from_residual-in_err-push_scale.ensures.0 (later_part _ _ _ _ _ _ c.in_ok-push_named.ensures (first_part _ _ _ _ _ c.in_err-push_scale.ensures refl) refl)

pub returns : goal.returns
returns c = appends_behind c.push_start.result _ _ _ _ _ _ c.in_ok-push_named.ensures refl (appends_behind c.push_start.result _ _ _ _ _ _ c.in_ok-push_scale.ensures refl c.push_start.ensures)
