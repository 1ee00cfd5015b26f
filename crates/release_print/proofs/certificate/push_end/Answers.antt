use Rattle.std.proofs.Common.{refl}
use Rattle.release_print.proofs.Parts.{first_part, appends_behind, appends_part}
use Rattle.release_print.proofs.certificate.push_end.Goals as goal

pub returns-in_err-push_gap : goal.returns-in_err-push_gap
returns-in_err-push_gap c = appends_part c.from_residual.result _ _ _ c.from_residual.ensures.0 (first_part _ _ _ _ _ c.in_err-push_gap.ensures refl)

pub returns : goal.returns
returns c = appends_behind c.push_line.result _ _ _ _ _ _ c.in_ok-push_gap.ensures refl c.push_line.ensures
