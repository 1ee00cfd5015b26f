use Rattle.std.proofs.Common.{◌≡◌, ◌++◌, ◌-◌, ◌≤◌, [], List, ℕ, take, drop, sym, ap, subst, ◌∙◌, arith}
use Rattle.std.proofs.lemmas.List.{take_all, take-append-drop}
use Rattle.std.proofs.lemmas.Result.{err_from_is_err_and, on_ok_weaker, IfErr-weaker}
use Rattle.line_form.specs.Lines.{TextLine, IsCutOf, ended_lines, lines_of}
use Rattle.series_tables.specs.PlanError.{Refuses}
use Rattle.series_tables.specs.PlanReading.{outcome}
use Rattle.series_tables.proofs.Waiting.{ended_so_far, all_so_far, no_lines, one_piece, piece_taken, piece_refused, all_taken}
use Rattle.series_tables.proofs.reading.take_text.Goals as goal

pub pieces-init : goal.pieces-init
pieces-init c = record {
  within = omega arith;
  unended = c.in_ok-lines.ensures.1;
  cut = subst (IsCutOf c.in_ok-lines.lines []) (sym no_lines) c.in_ok-lines.ensures.0;
  came = λ rest. ap (λ (ls : List TextLine). outcome c.args.progress.now (ls ++ rest)) no_lines;
}

pub returns-in_err-take_waiting-clause-fault : goal.returns-in_err-take_waiting-clause-fault
returns-in_err-take_waiting-clause-fault c =
    let p = err_from_is_err_and c.from_residual-in_err-take_waiting.result c.from_residual-in_err-take_waiting.ensures.1 in
    let before : List TextLine = ended_lines (take c.pieces.done c.args.text.now) in
    let grown : c.pieces.done ≤ c.min-end.result = omega arith in
    let piece = one_piece c.args.text.now c.pieces.done c.min-end.result grown in
    let cut : IsCutOf c.feed.new.self (take c.pieces.done c.args.text.now ++ take (c.min-end.result - c.pieces.done) (drop c.pieces.done c.args.text.now)) before =
    c.in_ok-feed.ensures.lines (take c.pieces.done c.args.text.now) before c.pieces.invariant.cut in
    let now : IsCutOf c.feed.new.self (take c.min-end.result c.args.text.now) before = subst (λ (s : List ℕ). IsCutOf c.feed.new.self s before) piece cut in
    rw (p.1, p.2) (piece_refused c.in_err-take_waiting.field-0.0 c.args.progress.now c.pieces.progress c.args.text.now (take c.min-end.result c.args.text.now) (drop c.min-end.result c.args.text.now)
    before c.feed.new.self.waiting (sym (take-append-drop c.min-end.result c.args.text.now)) (ended_so_far c.feed.new.self (take c.min-end.result c.args.text.now) before now c.in_ok-feed.ensures.goes_on)
    c.pieces.invariant.came c.in_err-take_waiting.ensures.fault)

pub pieces-preserved : goal.pieces-preserved
pieces-preserved c =
    let before : List TextLine = ended_lines (take c.pieces.done c.args.text.now) in
    let grown : c.pieces.done ≤ c.min-end.result = omega arith in
    let piece = one_piece c.args.text.now c.pieces.done c.min-end.result grown in
    let cut : IsCutOf c.feed.new.self (take c.pieces.done c.args.text.now ++ take (c.min-end.result - c.pieces.done) (drop c.pieces.done c.args.text.now)) before =
    c.in_ok-feed.ensures.lines (take c.pieces.done c.args.text.now) before c.pieces.invariant.cut in
    let now : IsCutOf c.feed.new.self (take c.min-end.result c.args.text.now) before = subst (λ (s : List ℕ). IsCutOf c.feed.new.self s before) piece cut in
    let grew = ended_so_far c.feed.new.self (take c.min-end.result c.args.text.now) before now c.in_ok-feed.ensures.goes_on in
    record {
      within = omega arith;
      unended = c.in_ok-take_waiting.ensures.ended ∙ c.in_ok-feed.ensures.goes_on;
      cut = subst (IsCutOf c.take_waiting.new.lines (take c.min-end.result c.args.text.now)) grew (c.in_ok-take_waiting.ensures.lines (take c.min-end.result c.args.text.now) before now);
      came = λ rest. piece_taken c.args.progress.now c.pieces.progress c.take_waiting.new.progress before c.feed.new.self.waiting (ended_lines (take c.min-end.result c.args.text.now)) rest
          grew (c.pieces.invariant.came (c.feed.new.self.waiting ++ rest)) (c.in_ok-take_waiting.ensures.taken rest);
    }

pub returns-clause-taken : goal.returns-clause-taken
returns-clause-taken c =
    let before : List TextLine = ended_lines (take c.pieces.done c.args.text.now) in
    let whole : take c.pieces.done c.args.text.now ≡ c.args.text.now = take_all c.pieces.done c.args.text.now (omega arith) in
    let cut : IsCutOf c.finish.new.self (take c.pieces.done c.args.text.now) before = c.in_ok-finish.ensures.lines (take c.pieces.done c.args.text.now) before c.pieces.invariant.cut in
    let now : IsCutOf c.finish.new.self c.args.text.now before = subst (λ (s : List ℕ). IsCutOf c.finish.new.self s before) whole cut in
    let all = all_taken c.args.progress.now c.pieces.progress c.args.text.now before c.finish.new.self.waiting (all_so_far c.finish.new.self c.args.text.now before now c.in_ok-finish.ensures.ended)
    (c.pieces.invariant.came c.finish.new.self.waiting) in
    on_ok_weaker c.take_waiting-2.result (λ h. all ∙ h) (c.take_waiting-2.ensures.taken [])

pub returns-clause-fault : goal.returns-clause-fault
returns-clause-fault c =
    let before : List TextLine = ended_lines (take c.pieces.done c.args.text.now) in
    let whole : take c.pieces.done c.args.text.now ≡ c.args.text.now = take_all c.pieces.done c.args.text.now (omega arith) in
    let cut : IsCutOf c.finish.new.self (take c.pieces.done c.args.text.now) before = c.in_ok-finish.ensures.lines (take c.pieces.done c.args.text.now) before c.pieces.invariant.cut in
    let now : IsCutOf c.finish.new.self c.args.text.now before = subst (λ (s : List ℕ). IsCutOf c.finish.new.self s before) whole cut in
    let all = all_taken c.args.progress.now c.pieces.progress c.args.text.now before c.finish.new.self.waiting (all_so_far c.finish.new.self c.args.text.now before now c.in_ok-finish.ensures.ended)
    (c.pieces.invariant.came c.finish.new.self.waiting) in
    IfErr-weaker c.take_waiting-2.result (Refuses (outcome c.pieces.progress (c.finish.new.self.waiting ++ []))) (Refuses (outcome c.args.progress.now (lines_of c.args.text.now)))
    (λ e h. subst (λ r. Refuses r e) (sym all) h) (c.take_waiting-2.ensures.fault [])
