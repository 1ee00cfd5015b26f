use Rattle.std.proofs.Common.{◌≡◌, ◌∙◌, ap, sym, refl, subst, rules, ℕ, List, [], ◌∷◌, ◌++◌, append_assoc, append-nil}
use Rattle.std.specs.Prelude.{Ok, Err}
use Rattle.line_form.specs.Lines.{IsCutOf, TextLine, line_view}
use Rattle.qna_edges.specs.Paper.{Paper}
use Rattle.compile_workers.specs.Answering.{AnswersLine, HasMoved, Reached, reached}
use Rattle.compile_workers.specs.Serving.{Position, position}
use Rattle.compile_workers.proofs.Shown.{at_success}
use Rattle.compile_workers.proofs.Waiting.{WaitsAfter, line_as, moved_as, serves_broken, serves_whole, waits_none}
use Rattle.compile_workers.proofs.Waiting.{waits_then}
use Rattle.compile_workers.proofs.Writing.{said_as, said_nothing, said_printed, said_then}
use Rattle.compile_workers.proofs.lines.serve_waiting.Goals as goal

pub lines-init : goal.lines-init
lines-init g c =
    let plan = c.args.service.now.plan.now in
    let paper : Paper = g.K.Sink.paper c.args.sink.now in
    let first : Position = position paper c.args.progress.own c.args.progress.pass.seen in (
      (refl, refl, refl, refl, refl, refl, refl),
      c.requires.serving.known,
      refl,
      (
        [],
        refl,
        λ stream handed cut.
            subst (λ (w : List TextLine). IsCutOf c.args.lines.now stream w) (sym (append-nil handed)) cut,
        subst
            (λ (w : List ℕ). WaitsAfter plan c.args.progress.pass.party [] first paper
            (reached w c.args.progress.own c.args.progress.pass.seen))
            (sym c.requires.none) (waits_none plan c.args.progress.pass.party first),
      ),
      said_nothing paper (Ok tt) (λ is. let never = is in cc),
    )

pub lines-preserved : goal.lines-preserved
lines-preserved g c =
    let plan = c.args.service.now.plan.now in
    let line : TextLine = line_view c.in-Some.line in
    let had = c.lines.invariant.3 in
    let rest : List TextLine = c.next_line.new.self.waiting in
    let first : Position =
    position (g.K.Sink.paper c.args.sink.now) c.args.progress.own c.args.progress.pass.seen in
    let old : Reached = reached c.lines.answers.items c.lines.progress.own c.lines.progress.pass.seen in
    let new : Reached = reached c.serve_line-next.new.answers.items c.serve_line-next.result.0.own
    c.serve_line-next.result.0.pass.seen in
    let paper : Paper = g.K.Sink.paper c.lines.sink in
    let next : Paper = g.K.Sink.paper c.write_many.new.sink in
    let after : List ℕ = c.write_many.new.answers.items in
    let waits : c.lines.lines.waiting ≡ line ∷ rest = c.in-Some.ensures.first in
    let answered : AnswersLine plan c.lines.progress.pass.party line old new (Ok tt) =
    line_as plan c.lines.progress.pass.party line old new c.serve_line-next.result.1 (Ok tt) c.in_default-said.is
    c.serve_line-next.ensures.answers in
    let moved : HasMoved paper next new.text after (Ok tt) =
    moved_as paper next new.text after c.write_many.result (Ok tt) c.in_default-write_many.is
    c.write_many.ensures.moved in (
      search rules,
      c.serve_line-next.ensures.known,
      c.in-Some.ensures.ended ∙ c.lines.invariant.2,
      (
        had.0 ++ line ∷ [],
        had.1 ∙ (ap (λ (w : List TextLine). had.0 ++ w) waits ∙ sym (append_assoc had.0 (line ∷ []) rest)),
        λ stream handed cut. subst (λ (w : List TextLine). IsCutOf c.next_line.new.self stream w)
            (append_assoc handed had.0 (line ∷ []))
            (c.in-Some.ensures.lines stream (handed ++ had.0) (had.2 stream handed cut)),
        waits_then plan c.args.progress.pass.party c.lines.progress.pass.party had.0 line first old new paper next
            after c.lines.invariant.0.3 had.3 answered moved,
      ),
      said_then first.paper paper next (Ok tt) c.lines.invariant.4
          (said_as paper next c.write_many.result (Ok tt) c.in_default-write_many.is c.write_many.ensures.said),
    )

-- a line couldn't be answered
pub returns-in-Err-clause-serves : goal.returns-in-Err-clause-serves
returns-in-Err-clause-serves g c =
    let plan = c.args.service.now.plan.now in
    let line : TextLine = line_view c.in-Some.line in
    let had = c.lines.invariant.3 in
    let rest : List TextLine = c.next_line.new.self.waiting in
    let waits : c.lines.lines.waiting ≡ line ∷ rest = c.in-Some.ensures.first in
    let all : c.args.lines.now.waiting ≡ (had.0 ++ line ∷ []) ++ rest =
    had.1 ∙ (ap (λ (w : List TextLine). had.0 ++ w) waits ∙ sym (append_assoc had.0 (line ∷ []) rest)) in
    serves_broken plan c.args.progress.pass.party c.lines.progress.pass.party had.0 line rest
    c.args.lines.now.waiting
    (position (g.K.Sink.paper c.args.sink.now) c.args.progress.own c.args.progress.pass.seen)
    (reached c.lines.answers.items c.lines.progress.own c.lines.progress.pass.seen)
    (reached c.serve_line-next.new.answers.items c.serve_line-next.result.0.own c.serve_line-next.result.0.pass.seen)
    (g.K.Sink.paper c.lines.sink) (g.K.Sink.paper c.break_off-refused.new.sink) c.serve_line-next.result.1
    c.break_off-refused.result c.lines.invariant.0.3 all had.3 c.serve_line-next.ensures.answers
    c.break_off-refused.ensures.begun

pub returns-in-Err-clause-said : goal.returns-in-Err-clause-said
returns-in-Err-clause-said g c =
    said_then (g.K.Sink.paper c.args.sink.now) (g.K.Sink.paper c.lines.sink)
    (g.K.Sink.paper c.break_off-refused.new.sink) (Err c.break_off-refused.result) c.lines.invariant.4
    c.break_off-refused.ensures.said

-- the answers that waited couldn't be written
pub returns-in-Err-write_many-clause-serves : goal.returns-in-Err-write_many-clause-serves
returns-in-Err-write_many-clause-serves g c =
    let plan = c.args.service.now.plan.now in
    let line : TextLine = line_view c.in-Some.line in
    let had = c.lines.invariant.3 in
    let rest : List TextLine = c.next_line.new.self.waiting in
    let waits : c.lines.lines.waiting ≡ line ∷ rest = c.in-Some.ensures.first in
    let all : c.args.lines.now.waiting ≡ (had.0 ++ line ∷ []) ++ rest =
    had.1 ∙ (ap (λ (w : List TextLine). had.0 ++ w) waits ∙ sym (append_assoc had.0 (line ∷ []) rest)) in
    let moved = moved_as (g.K.Sink.paper c.lines.sink) (g.K.Sink.paper c.write_many.new.sink)
    c.serve_line-next.new.answers.items c.write_many.new.answers.items c.write_many.result
    (Err c.in-Err-write_many.refused) c.in-Err-write_many.is c.write_many.ensures.moved in
    serves_broken plan c.args.progress.pass.party c.lines.progress.pass.party had.0 line rest
    c.args.lines.now.waiting
    (position (g.K.Sink.paper c.args.sink.now) c.args.progress.own c.args.progress.pass.seen)
    (reached c.lines.answers.items c.lines.progress.own c.lines.progress.pass.seen)
    (reached c.serve_line-next.new.answers.items c.serve_line-next.result.0.own c.serve_line-next.result.0.pass.seen)
    (g.K.Sink.paper c.lines.sink) (g.K.Sink.paper c.write_many.new.sink) c.serve_line-next.result.1
    c.in-Err-write_many.refused c.lines.invariant.0.3 all had.3 c.serve_line-next.ensures.answers moved.begun

pub returns-in-Err-write_many-clause-said : goal.returns-in-Err-write_many-clause-said
returns-in-Err-write_many-clause-said g c =
    said_then (g.K.Sink.paper c.args.sink.now) (g.K.Sink.paper c.lines.sink) (g.K.Sink.paper c.write_many.new.sink)
    (Err c.in-Err-write_many.refused) c.lines.invariant.4
    (said_as (g.K.Sink.paper c.lines.sink) (g.K.Sink.paper c.write_many.new.sink) c.write_many.result
    (Err c.in-Err-write_many.refused) c.in-Err-write_many.is c.write_many.ensures.said)

-- no line waits any more
pub returns-clause-serves : goal.returns-clause-serves
returns-clause-serves g c =
    let had = c.lines.invariant.3 in
    serves_whole c.args.service.now.plan.now c.args.progress.pass.party had.0 c.args.lines.now.waiting
    (position (g.K.Sink.paper c.args.sink.now) c.args.progress.own c.args.progress.pass.seen)
    (reached c.lines.answers.items c.lines.progress.own c.lines.progress.pass.seen) (g.K.Sink.paper c.lines.sink)
    (g.K.Sink.paper c.write_out-said.new.sink) c.write_out-said.result
    (had.1 ∙ ap (λ (w : List TextLine). had.0 ++ w) c.in_default.ensures.none ∙ append-nil had.0) had.3
    c.write_out-said.ensures.written

pub returns-clause-said : goal.returns-clause-said
returns-clause-said g c =
    said_then (g.K.Sink.paper c.args.sink.now) (g.K.Sink.paper c.lines.sink) (g.K.Sink.paper c.write_out-said.new.sink)
    c.write_out-said.result c.lines.invariant.4
    (said_printed (g.K.Sink.paper c.lines.sink) (g.K.Sink.paper c.write_out-said.new.sink) c.lines.answers.items
    c.write_out-said.result c.write_out-said.ensures.written)

pub returns-clause-cut : goal.returns-clause-cut
returns-clause-cut g c =
    let had = c.lines.invariant.3 in
    let all : c.args.lines.now.waiting ≡ had.0 =
    had.1 ∙ ap (λ (w : List TextLine). had.0 ++ w) c.in_default.ensures.none ∙ append-nil had.0 in
    at_success c.write_out-said.result (λ stream handed cut.
    subst (λ (w : List TextLine). IsCutOf c.next_line.new.self stream (handed ++ w)) (sym all)
    (search (rules, had.2 stream handed cut)))
