use Rattle.std.proofs.Common.{refl}
use Rattle.node_compile.specs.Table.{certificate_in}
use Rattle.release_print.proofs.Parts.{first_part, later_part, appends_behind, appends_part}
use Rattle.release_print.proofs.Spelling.{certificate_is}
use Rattle.release_print.proofs.certificate.push_certificate.Goals as goal

pub returns-in_err-push_head : goal.returns-in_err-push_head
returns-in_err-push_head c =
    let whole = certificate_is c.args.start c.args.name.now c.args.front (certificate_in c.args.part.now) c.args.cells.now in
    appends_part c.from_residual.result _ _ _ c.from_residual.ensures.0 (first_part _ _ _ _ _ c.in_err-push_head.ensures whole)

pub returns-in_err-push_numbers : goal.returns-in_err-push_numbers
returns-in_err-push_numbers c =
    let whole = certificate_is c.args.start c.args.name.now c.args.front (certificate_in c.args.part.now) c.args.cells.now in
    appends_part c.from_residual-in_err-push_numbers.result _ _ _ c.from_residual-in_err-push_numbers.ensures.0 (later_part _ _ _ _ _ _ c.in_ok-push_head.ensures (first_part _ _ _ _ _ c.in_err-push_numbers.ensures refl) whole)

pub returns : goal.returns
returns c =
    let whole = certificate_is c.args.start c.args.name.now c.args.front (certificate_in c.args.part.now) c.args.cells.now in
    appends_behind c.push_end.result _ _ _ _ _ _ c.in_ok-push_head.ensures whole (appends_behind c.push_end.result _ _ _ _ _ _ c.in_ok-push_numbers.ensures refl c.push_end.ensures)
