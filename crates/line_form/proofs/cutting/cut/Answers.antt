-- Each turn adds the line of the next piece.
use Rattle.std.proofs.Common.{◌++◌, ◌∙◌, [], refl, sym, ap}
use Rattle.line_form.specs.Lines.{lines_view, ended_from, numbered, number_after, unmarked}
use Rattle.line_form.proofs.CutLines.{added, counted, none_added, none_counted, front_of_front}
use Rattle.line_form.proofs.cutting.cut.Goals as goal

pub lines-init : goal.lines-init
lines-init c = (
  added (lines_view c.add_line.new.waiting.items) (lines_view c.args.waiting.now.items) c.args.before c.saturating_add-number.result (unmarked c.args.before c.args.first.now) c.first_piece.result.now (ended_from [] c.args.after.now) c.in_ok-add_line.ensures.ok c.saturating_add-number.ensures c.first_piece.ensures,
  counted c.args.before c.saturating_add-number.result c.args.first.now (ended_from [] c.args.after.now) c.saturating_add-number.ensures,
  refl,
  c.add_line.ensures.kept,
)

pub lines-preserved : goal.lines-preserved
lines-preserved c = (
  added (lines_view c.add_line-in-Some.new.waiting.items) (lines_view c.lines.waiting.items) c.lines.number c.saturating_add-number-in-Some.result c.in-Some.piece.now c.in-Some.piece.now (ended_from [] c.in-Some.more.now) c.in_ok-add_line-2.ensures.ok c.saturating_add-number-in-Some.ensures refl
      ∙ sym (ap (λ z. lines_view c.lines.waiting.items ++ numbered c.lines.number z) (c.in-Some.ensures.found [])) ∙ c.lines.invariant.0,
  counted c.lines.number c.saturating_add-number-in-Some.result c.in-Some.piece.now (ended_from [] c.in-Some.more.now) c.saturating_add-number-in-Some.ensures
      ∙ sym (ap (number_after c.lines.number) (c.in-Some.ensures.found [])) ∙ c.lines.invariant.1,
  sym (c.in-Some.ensures.after []) ∙ c.lines.invariant.2,
  front_of_front c.args.waiting.now.items c.lines.waiting.items c.add_line-in-Some.new.waiting.items c.lines.invariant.3 c.add_line-in-Some.ensures.kept,
)

pub returns-clause-waiting : goal.returns-clause-waiting
returns-clause-waiting c = none_added (lines_view c.lines.waiting.items) _ c.lines.number (ended_from [] c.lines.rest.now) c.lines.invariant.0 (c.in_default.ensures.none [])

pub returns-clause-count : goal.returns-clause-count
returns-clause-count c = none_counted c.lines.number _ (ended_from [] c.lines.rest.now) c.lines.invariant.1 (c.in_default.ensures.none [])
