-- A piece more of the stream, and a cutting that want of memory leaves as it was.
use Rattle.std.proofs.Common.{◌≡◌, ◌≤◌, ◌++◌, ◌∙◌, false, length, take, sym, ap, subst, arith}
use Rattle.line_form.specs.Lines.{Cutting, IsCutOf, lines_view}
use Rattle.line_form.proofs.CutLines.{fed_none, fed_some, kept_front, restored}
use Rattle.line_form.proofs.cutting.Lines.feed.Goals as goal

pub returns-in_default-clause-lines : goal.returns-in_default-clause-lines
returns-in_default-clause-lines c = λ stream handed h.
    let P : Cutting → Type 0 = λ s. IsCutOf s stream handed in
    let still : c.self.inside.ended ≡ false = ap (λ (s : Cutting). s.ended) c.self.view_is ∙ c.requires in
    rw c.keep.ensures.items (fed_none c.self.inside.ended still (lines_view c.self.inside.waiting.items) c.self.inside.count c.self.inside.rest.items stream c.args.piece.now handed c.in_default.ensures.none c.in_default.ensures.all (subst P (sym c.self.view_is) h))

pub returns-in-Ok-clause-lines : goal.returns-in-Ok-clause-lines
returns-in-Ok-clause-lines c = λ stream handed h.
    let P : Cutting → Type 0 = λ s. IsCutOf s stream handed in
    let still : c.self.inside.ended ≡ false = ap (λ (s : Cutting). s.ended) c.self.view_is ∙ c.requires in
    let first = c.deref.ensures.value ∙ c.keep-2.ensures.items in
    let rest = c.keep-in-Ok.ensures.items ∙ ap (λ z. take 261 (z ++ c.in-Ok.rest.now)) c.clear.ensures.items ∙ ap (take 261) c.in-Ok.ensures.rest in
    fed_some c.self.inside.ended still (lines_view c.self.inside.waiting.items) (lines_view c.cut.new.waiting.items) c.self.inside.count c.in-Ok.count
    c.self.inside.rest.items c.deref.result.now c.in-Some.head.now c.in-Some.after.now c.keep-in-Ok.new.kept.items stream c.args.piece.now handed
    c.in-Some.ensures.found c.in-Some.ensures.after first c.in-Ok.ensures.waiting c.in-Ok.ensures.count rest (subst P (sym c.self.view_is) h)

pub returns-in-Err-clause-unchanged : goal.returns-in-Err-clause-unchanged
returns-in-Err-clause-unchanged c =
    let waited : c.len-waited.result ≡ length c.self.inside.waiting.items = omega (arith, c.self.inside.waiting.ok, c.len-waited.ensures) in
    let kept : c.len-kept.result ≡ length c.self.inside.rest.items = omega (arith, c.self.inside.rest.ok, c.len-kept.ensures) in
    let few : length c.self.inside.rest.items ≤ 261 = omega (arith, c.self.inside.rest.ok, c.self.invariant.0) in
    let lines : lines_view c.truncate.new.self.items ≡ lines_view c.self.inside.waiting.items
    = ap lines_view (c.truncate.ensures.items ∙ ap (λ n. take n c.cut.new.waiting.items) waited ∙ c.in-Err.ensures.kept) in
    let rest : c.truncate-in-Err.new.self.items ≡ c.self.inside.rest.items
    = c.truncate-in-Err.ensures.items ∙ ap (λ n. take n c.keep-2.new.kept.items) kept ∙ ap (take (length c.self.inside.rest.items)) c.keep-2.ensures.items
    ∙ kept_front c.self.inside.rest.items c.in-Some.head.now 261 few in
    sym (restored c.args.self.now (lines_view c.self.inside.waiting.items) (lines_view c.truncate.new.self.items) c.self.inside.count c.self.inside.rest.items c.truncate-in-Err.new.self.items c.self.inside.ended (sym c.self.view_is) lines rest)
