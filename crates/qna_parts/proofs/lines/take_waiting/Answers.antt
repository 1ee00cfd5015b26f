use Rattle.std.proofs.Common.{◌≡◌, ◌∙◌, List, [], ◌∷◌, ◌++◌, ap, sym, append_assoc}
use Rattle.line_form.specs.Lines.{TextLine, line_view, IsCutOf}
use Rattle.series_tables.specs.Cells.{cell}
use Rattle.input_rules.specs.Accepted.{taken}
use Rattle.qna_parts.proofs.Taking.{room_for, counted_line, reported_line, taken_line, counted_all, reported_all, taken_all}
use Rattle.qna_parts.proofs.lines.take_waiting.Goals as goal

pub take_judged-requires-clause-fits : goal.take_judged-requires-clause-fits
take_judged-requires-clause-fits c = room_for (taken c.in_ok-judged.judged) c.args.plan.now c.lines.tables.items (c.lines.invariant.0 ∙ c.requires.items) c.in_ok-judged.ensures.fits

pub lines-preserved : goal.lines-preserved
lines-preserved c =
    let line : TextLine = line_view c.in-Some.line in
    let rest : List TextLine = c.next_line.new.self.waiting in
    let waits : c.lines.lines.waiting ≡ line ∷ rest = c.in-Some.ensures.first in
    let before = c.lines.invariant in (
      c.in_ok-count.ensures.items ∙ before.0,
      c.in_ok-count.ensures.few,
      c.in-Some.ensures.ended ∙ before.2,
      counted_line c.args.plan.now line rest c.in_ok-judged.judged c.lines.count c.in_ok-count.count _ c.in_ok-judged.ensures.judged (rw waits at before.3) c.in_ok-count.ensures.count,
      reported_line c.args.plan.now line rest c.in_ok-judged.judged c.lines.count c.in_ok-count.count c.lines.refused.items _ _ c.in_ok-judged.ensures.judged (rw waits at before.4) c.in_ok-count.ensures.count c.in_ok-count.ensures.reported,
      (λ kind leaf period. taken_line c.args.plan.now line rest c.in_ok-judged.judged c.lines.count c.in_ok-count.count kind leaf period (cell c.lines.tables kind leaf period) _ _ c.in_ok-judged.ensures.judged (rw waits at before.5 kind leaf period) c.in_ok-count.ensures.count (c.in_ok-count.ensures.cells kind leaf period)),
      (λ stream handed cut.
          let had = before.6 stream handed cut in
          let parted : c.args.lines.now.waiting ≡ had.0 ++ c.lines.lines.waiting = had.1 in
          let later : IsCutOf c.next_line.new.self stream ((handed ++ had.0) ++ line ∷ []) = c.in-Some.ensures.lines stream (handed ++ had.0) had.2 in (
            had.0 ++ line ∷ [],
            parted ∙ ap (λ z. had.0 ++ z) waits ∙ sym (append_assoc had.0 (line ∷ []) rest),
            rw (append_assoc handed had.0 (line ∷ [])) at later,
          )),
    )

pub returns-clause-count : goal.returns-clause-count
returns-clause-count c = counted_all c.args.plan.now c.lines.lines.waiting c.lines.count _ c.in_default.ensures.none c.lines.invariant.3

pub returns-clause-cells : goal.returns-clause-cells
returns-clause-cells c = λ kind leaf period.
    taken_all c.args.plan.now c.lines.lines.waiting c.lines.count kind leaf period (cell c.lines.tables kind leaf period) _ c.in_default.ensures.none (c.lines.invariant.5 kind leaf period)

pub returns-clause-reported : goal.returns-clause-reported
returns-clause-reported c = reported_all c.args.plan.now c.lines.lines.waiting c.lines.count c.lines.refused.items _ c.in_default.ensures.none c.lines.invariant.4
