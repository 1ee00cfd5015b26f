use Rattle.std.proofs.Common.{refl, subst, sym, rules, take, arith, Ok, Err}
use Rattle.accounts_history.specs.History.{journal}
use Rattle.compile_workers.specs.DeskEnd.{IsDeskEnd, ends_told}
use Rattle.compile_workers.specs.Serving.{IsSaid, IsServedUpTo, Position, ServesEnd, ServesPiece, position}
use Rattle.compile_workers.specs.declared.desk.DeskEnd.{DeskEnd}
use Rattle.compile_workers.proofs.Desks.{serving_begun}
use Rattle.compile_workers.proofs.Ends.{at_a_failure, at_the_end, goes_on, past_the_limit, unbegun_end, within_piece}
use Rattle.compile_workers.proofs.Reading.{read_begun}
use Rattle.compile_workers.proofs.Writing.{end_as, piece_as, said_as, said_nothing}
use Rattle.compile_workers.proofs.desk.serve_source.Goals as goal

-- want of memory before the first line
pub returns-in_default-clause-end : goal.returns-in_default-clause-end
returns-in_default-clause-end g c =
    unbegun_end c.args.service.now.plan.now c.args.pass.party (g.S.Source.stock c.args.source.now)
    (g.K.Sink.paper c.args.sink.now) c.args.pass.seen c.requires.unused

pub returns-in_default-no_answers-clause-end : goal.returns-in_default-no_answers-clause-end
returns-in_default-no_answers-clause-end g c =
    unbegun_end c.args.service.now.plan.now c.args.pass.party (g.S.Source.stock c.args.source.now)
    (g.K.Sink.paper c.args.sink.now) c.args.pass.seen c.requires.unused

pub reading-init : goal.reading-init
reading-init g c = (
  (refl, refl, refl, refl, refl, refl, refl),
  omega arith,
  c.in-Ok.ensures.1,
  c.in-Ok-no_answers.ensures,
  record {
    read = read_begun
        (IsServedUpTo c.args.service.now.plan.now c.args.pass.party (g.K.Sink.paper c.args.sink.now) c.in-Ok.lines
        (position (g.K.Sink.paper c.args.sink.now) 0 c.args.pass.seen))
        (g.S.Source.stock c.args.source.now).left
        (serving_begun c.args.service.now.plan.now c.args.pass.party (g.K.Sink.paper c.args.sink.now) c.in-Ok.lines
        c.args.pass.seen c.in-Ok.ensures.0 c.requires.unused);
    few = omega arith;
    was_read = search rules;
    unfailed = refl;
    said = said_nothing (g.K.Sink.paper c.args.sink.now) (Ok tt) (λ is. let never = is in cc);
  },
)

-- the source was read to its end, and its last line was answered
pub returns-in-Ok-eq0-clause-end : goal.returns-in-Ok-eq0-clause-end
returns-in-Ok-eq0-clause-end g c =
    let old : Position =
    position (g.K.Sink.paper c.reading.sink) c.reading.progress.own c.reading.progress.pass.seen in
    let last : Position = position (g.K.Sink.paper c.serve_end-last.new.sink) c.serve_end-last.result.0.own
    c.serve_end-last.result.0.pass.seen in
    let serves : ServesEnd c.args.service.now.plan.now c.args.pass.party c.reading.lines old last (Ok tt) =
    end_as c.args.service.now.plan.now c.reading.progress.pass.party c.args.pass.party c.reading.lines old last
    c.serve_end-last.result.1 (Ok tt) c.reading.invariant.0.3 c.in_default-said.is c.serve_end-last.ensures.serves in
    let said : IsSaid old.paper last.paper (Ok tt) =
    said_as old.paper last.paper c.serve_end-last.result.1 (Ok tt) c.in_default-said.is c.serve_end-last.ensures.said in
    at_the_end c.args.service.now.plan.now c.args.pass.party (g.S.Source.stock c.args.source.now)
    (g.S.Source.stock c.reading.source) (g.K.Sink.paper c.args.sink.now) c.reading.lines old c.reading.size
    c.reading.invariant.4 (g.S.Source.stock c.read_piece.new.source) last c.in-Ok-eq0.field-0 c.read_piece.new.buffer
    (Ok tt) _ (search rules) (search rules) c.in-Ok-eq0.ensures.ok c.in-Ok-eq0.ensures.bytes.0
    c.in-Ok-eq0.ensures.bytes.1 serves said refl

-- its last line couldn't be answered
pub returns-in-Err-said-clause-end : goal.returns-in-Err-said-clause-end
returns-in-Err-said-clause-end g c =
    let old : Position =
    position (g.K.Sink.paper c.reading.sink) c.reading.progress.own c.reading.progress.pass.seen in
    let last : Position = position (g.K.Sink.paper c.serve_end-last.new.sink) c.serve_end-last.result.0.own
    c.serve_end-last.result.0.pass.seen in
    let serves : ServesEnd c.args.service.now.plan.now c.args.pass.party c.reading.lines old last
    (Err c.in-Err-said.refused) =
    end_as c.args.service.now.plan.now c.reading.progress.pass.party c.args.pass.party c.reading.lines old last
    c.serve_end-last.result.1 (Err c.in-Err-said.refused) c.reading.invariant.0.3 c.in-Err-said.is
    c.serve_end-last.ensures.serves in
    let said : IsSaid old.paper last.paper (Err c.in-Err-said.refused) =
    said_as old.paper last.paper c.serve_end-last.result.1
    (Err c.in-Err-said.refused) c.in-Err-said.is c.serve_end-last.ensures.said in
    at_the_end c.args.service.now.plan.now c.args.pass.party (g.S.Source.stock c.args.source.now)
    (g.S.Source.stock c.reading.source) (g.K.Sink.paper c.args.sink.now) c.reading.lines old c.reading.size
    c.reading.invariant.4 (g.S.Source.stock c.read_piece.new.source) last c.in-Ok-eq0.field-0 c.read_piece.new.buffer
    (Err c.in-Err-said.refused) _
    (search rules) (search rules) c.in-Ok-eq0.ensures.ok c.in-Ok-eq0.ensures.bytes.0 c.in-Ok-eq0.ensures.bytes.1 serves
    said c.end_of.ensures

-- a line of a piece couldn't be answered
pub returns-in-Err-said-2-clause-end : goal.returns-in-Err-said-2-clause-end
returns-in-Err-said-2-clause-end g c =
    let old : Position =
    position (g.K.Sink.paper c.reading.sink) c.reading.progress.own c.reading.progress.pass.seen in
    let next : Position = position (g.K.Sink.paper c.serve_piece-next.new.sink) c.serve_piece-next.result.0.own
    c.serve_piece-next.result.0.pass.seen in
    let serves : ServesPiece c.args.service.now.plan.now c.args.pass.party c.reading.lines c.serve_piece-next.new.lines
    old next (take c.in-Ok-read_piece.count c.read_piece.new.buffer) (Err c.in-Err-said-2.refused) =
    piece_as c.args.service.now.plan.now c.reading.progress.pass.party c.args.pass.party c.reading.lines
    c.serve_piece-next.new.lines old next (take c.in-Ok-read_piece.count c.read_piece.new.buffer)
    c.serve_piece-next.result.1 (Err c.in-Err-said-2.refused) c.reading.invariant.0.3 c.in-Err-said-2.is
    c.serve_piece-next.ensures.serves in
    let said : IsSaid old.paper next.paper (Err c.in-Err-said-2.refused) =
    said_as old.paper next.paper c.serve_piece-next.result.1
    (Err c.in-Err-said-2.refused) c.in-Err-said-2.is c.serve_piece-next.ensures.said in
    subst
    (λ (e : DeskEnd). IsDeskEnd c.args.service.now.plan.now c.args.pass.party
    (ends_told (g.S.Source.stock c.args.source.now) (g.K.Sink.paper c.args.sink.now))
    (ends_told (g.S.Source.stock c.read_piece.new.source) next.paper) e (journal next.seen))
    (sym c.end_of-in-Err-said-2.ensures)
    (within_piece c.args.service.now.plan.now c.args.pass.party (g.S.Source.stock c.args.source.now)
    (g.S.Source.stock c.reading.source) (g.K.Sink.paper c.args.sink.now) c.reading.lines old c.reading.size
    c.reading.invariant.4 (g.S.Source.stock c.read_piece.new.source) c.serve_piece-next.new.lines next
    c.in-Ok-read_piece.count c.read_piece.new.buffer c.in-Err-said-2.refused c.in-Ok-read_piece.ensures.ok
    c.in-Ok-read_piece.ensures.bytes.0 (search rules)
    (c.in-Ok-read_piece.ensures.within (omega (arith, c.reading.invariant.4.few, c.if-size-eq-MOST_BYTES.false)))
    serves said)

-- at the limit more was read
pub returns-then-size-eq-MOST_BYTES-clause-end : goal.returns-then-size-eq-MOST_BYTES-clause-end
returns-then-size-eq-MOST_BYTES-clause-end g c =
    past_the_limit c.args.service.now.plan.now c.args.pass.party (g.S.Source.stock c.args.source.now)
    (g.S.Source.stock c.reading.source) (g.K.Sink.paper c.args.sink.now) c.reading.lines
    (position (g.K.Sink.paper c.reading.sink) c.reading.progress.own c.reading.progress.pass.seen) c.reading.size
    c.reading.invariant.4 (g.S.Source.stock c.read_piece.new.source) c.in-Ok-read_piece.count
    c.read_piece.new.buffer c.in-Ok-read_piece.ensures.ok c.in-Ok-read_piece.ensures.bytes.0 (search rules)
    c.in-Ok-read_piece.ensures.piece (search rules) (search rules)

-- the piece is within the limit, and its lines were answered
pub reading-preserved : goal.reading-preserved
reading-preserved g c =
    let old : Position =
    position (g.K.Sink.paper c.reading.sink) c.reading.progress.own c.reading.progress.pass.seen in
    let next : Position = position (g.K.Sink.paper c.serve_piece-next.new.sink) c.serve_piece-next.result.0.own
    c.serve_piece-next.result.0.pass.seen in
    let serves : ServesPiece c.args.service.now.plan.now c.args.pass.party c.reading.lines c.serve_piece-next.new.lines
    old next (take c.in-Ok-read_piece.count c.read_piece.new.buffer) (Ok tt) =
    piece_as c.args.service.now.plan.now c.reading.progress.pass.party c.args.pass.party c.reading.lines
    c.serve_piece-next.new.lines old next (take c.in-Ok-read_piece.count c.read_piece.new.buffer)
    c.serve_piece-next.result.1 (Ok tt) c.reading.invariant.0.3 c.in_default-said-2.is
    c.serve_piece-next.ensures.serves in
    let said : IsSaid old.paper next.paper (Ok tt) =
    said_as old.paper next.paper c.serve_piece-next.result.1
    (Ok tt) c.in_default-said-2.is c.serve_piece-next.ensures.said in (
      search rules,
      c.serve_piece-next.ensures.known,
      search rules,
      c.serve_piece-next.ensures.none,
      goes_on c.args.service.now.plan.now c.args.pass.party (g.S.Source.stock c.args.source.now)
          (g.S.Source.stock c.reading.source) (g.K.Sink.paper c.args.sink.now) c.reading.lines old c.reading.size
          c.reading.invariant.4 (g.S.Source.stock c.read_piece.new.source) c.serve_piece-next.new.lines next
          c.in-Ok-read_piece.count c.read_piece.new.buffer c.in-Ok-read_piece.ensures.ok
          c.in-Ok-read_piece.ensures.bytes.0 (search rules)
          (c.in-Ok-read_piece.ensures.within (omega (arith, c.reading.invariant.4.few, c.if-size-eq-MOST_BYTES.false)))
          serves said,
    )

-- a read failed
pub returns-in-Err-clause-end : goal.returns-in-Err-clause-end
returns-in-Err-clause-end g c =
    at_a_failure c.args.service.now.plan.now c.args.pass.party (g.S.Source.stock c.args.source.now)
    (g.S.Source.stock c.reading.source) (g.K.Sink.paper c.args.sink.now) c.reading.lines
    (position (g.K.Sink.paper c.reading.sink) c.reading.progress.own c.reading.progress.pass.seen) c.reading.size
    c.reading.invariant.4 (g.S.Source.stock c.read_piece.new.source) c.in-Err.ensures.failed c.in-Err.ensures.bytes
