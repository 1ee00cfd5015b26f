use Rattle.std.proofs.Common.{◌++◌}
use Rattle.line_form.specs.Lines.{ended_lines}
use Rattle.qna_parts.specs.Intake.{ended_refusals_text}
use Rattle.qna_edges.proofs.Paper.{grown_after}
use Rattle.qna_parts.proofs.Success.{on_ok, on_ok-3, on_err}
use Rattle.qna_parts.proofs.Stages.{stopped_after, breaks_after, piece_taken, piece_reported}
use Rattle.qna_parts.proofs.intake.take_piece.Goals as goal

pub returns-clause-taken : goal.returns-clause-taken
returns-clause-taken g c = λ stream had.
    let cut = c.in_ok-feed.ensures.lines stream (ended_lines stream) had.cut in
    on_ok-3 c.take_lines.result
    (λ counted cells handed.
    piece_taken c.args.plan.now stream c.args.piece.now c.args.intake.now.lines c.feed.new.self c.take_lines.new.intake.lines c.args.intake.now.tables c.take_lines.new.intake.tables c.args.intake.now.accepted c.take_lines.new.intake.accepted
    had cut c.in_ok-feed.ensures.goes_on (handed (stream ++ c.args.piece.now) (ended_lines stream) cut) counted cells)
    c.take_lines.ensures.count c.take_lines.ensures.cells c.take_lines.ensures.cut

pub returns-clause-reported : goal.returns-clause-reported
returns-clause-reported g c = λ stream origin had grown.
    let cut = c.in_ok-feed.ensures.lines stream (ended_lines stream) had.cut in
    rw (piece_reported c.args.plan.now stream c.args.piece.now c.args.intake.now.lines c.feed.new.self c.args.intake.now.tables c.args.intake.now.accepted had cut c.in_ok-feed.ensures.goes_on)
    (on_ok c.take_lines.result (λ more. grown_after origin _ _ (ended_refusals_text c.args.plan.now stream) _ grown more) c.take_lines.ensures.reported)

pub returns-clause-stops : goal.returns-clause-stops
returns-clause-stops g c = λ stream origin had grown.
    let cut = c.in_ok-feed.ensures.lines stream (ended_lines stream) had.cut in
    let whole = piece_reported c.args.plan.now stream c.args.piece.now c.args.intake.now.lines c.feed.new.self c.args.intake.now.tables c.args.intake.now.accepted had cut c.in_ok-feed.ensures.goes_on in
    on_err c.take_lines.result (λ stopped. stopped_after origin _ _ (ended_refusals_text c.args.plan.now stream) _ _ grown whole stopped) c.take_lines.ensures.stops

pub returns-clause-report : goal.returns-clause-report
returns-clause-report g c = λ stream origin had grown is.
    let cut = c.in_ok-feed.ensures.lines stream (ended_lines stream) had.cut in
    let whole = piece_reported c.args.plan.now stream c.args.piece.now c.args.intake.now.lines c.feed.new.self c.args.intake.now.tables c.args.intake.now.accepted had cut c.in_ok-feed.ensures.goes_on in
    breaks_after origin _ _ (ended_refusals_text c.args.plan.now stream) _ _ grown whole (c.take_lines.ensures.report is)
