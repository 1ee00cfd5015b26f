use Rattle.std.proofs.Common.{◌∷◌, ◌++◌, [], List, refl, sym, ap, subst, ◌∙◌, append_assoc}
use Rattle.std.proofs.lemmas.List.{append-nil}
use Rattle.std.proofs.lemmas.Result.{err_from_is_err_and}
use Rattle.line_form.specs.Lines.{TextLine, IsCutOf, line_view}
use Rattle.series_tables.proofs.Waiting.{taken_front, refused_front}
use Rattle.series_tables.proofs.reading.take_waiting.Goals as goal

pub lines-init : goal.lines-init
lines-init c = record {
  handed = [];
  parted = refl;
  came = λ rest. refl;
  cut = λ stream before h. subst (IsCutOf c.args.lines.now stream) (sym (append-nil before)) h;
  ended = refl;
}

pub returns-in_err-take-clause-fault : goal.returns-in_err-take-clause-fault
returns-in_err-take-clause-fault c = λ rest.
    let p = err_from_is_err_and c.from_residual.result c.from_residual.ensures.1 in
    rw (p.1, p.2) (refused_front c.in_err-take.field-0.0 c.args.progress.now c.lines.progress c.args.lines.now.waiting c.lines.lines.waiting c.next_line.new.self.waiting (line_view c.in-Some.line) rest
    (c.lines.invariant.came rest) c.in-Some.ensures.first (c.in_err-take.ensures.fault (c.next_line.new.self.waiting ++ rest)))

pub lines-preserved : goal.lines-preserved
lines-preserved c = record {
  handed = c.lines.invariant.handed ++ line_view c.in-Some.line ∷ [];
  parted = c.lines.invariant.parted ∙ ap (λ (ws : List TextLine). c.lines.invariant.handed ++ ws) c.in-Some.ensures.first
      ∙ sym (append_assoc c.lines.invariant.handed (line_view c.in-Some.line ∷ []) c.next_line.new.self.waiting);
  came = λ rest. taken_front c.args.progress.now c.lines.progress c.take.new.self c.args.lines.now.waiting c.lines.lines.waiting c.next_line.new.self.waiting (line_view c.in-Some.line) rest
      (c.lines.invariant.came rest) c.in-Some.ensures.first (c.in_ok-take.ensures.taken (c.next_line.new.self.waiting ++ rest));
  cut = λ stream before h. subst (IsCutOf c.next_line.new.self stream) (append_assoc before c.lines.invariant.handed (line_view c.in-Some.line ∷ []))
      (c.in-Some.ensures.lines stream (before ++ c.lines.invariant.handed) (c.lines.invariant.cut stream before h));
  ended = c.in-Some.ensures.ended ∙ c.lines.invariant.ended;
}
