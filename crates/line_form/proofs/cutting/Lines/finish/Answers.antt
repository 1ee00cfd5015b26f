-- What is kept of a last piece makes the line of the whole.
use Rattle.std.proofs.Common.{◌≡◌, ◌++◌, ◌∙◌, false, sym, ap, subst}
use Rattle.line_form.specs.Lines.{Cutting, IsCutOf, lines_view, last_piece, numbered, unmarked}
use Rattle.line_form.proofs.CutLines.{finished}
use Rattle.line_form.proofs.cutting.Lines.finish.Goals as goal

pub returns-clause-lines : goal.returns-clause-lines
returns-clause-lines c = λ stream handed h.
    let P : Cutting → Type 0 = λ s. IsCutOf s stream handed in
    let still : c.self.inside.ended ≡ false = ap (λ (s : Cutting). s.ended) c.self.view_is ∙ c.requires in
    let piece = c.first_piece-piece.ensures ∙ ap (unmarked c.self.inside.count) c.deref.ensures.value in
    let all = c.in_ok-add_last.ensures.ok
    ∙ ap (λ z. lines_view c.self.inside.waiting.items ++ numbered c.self.inside.count (last_piece z)) piece in
    finished c.self.inside.ended still (lines_view c.self.inside.waiting.items) (lines_view c.add_last.new.waiting.items) c.self.inside.count c.self.inside.rest.items stream handed all (subst P (sym c.self.view_is) h)
