use Rattle.std.proofs.Common.{rules}
use Rattle.compile_workers.specs.declared.parties.DeskEnds.{DeskEnds}
use Rattle.compile_workers.specs.DeskEnd.{ends_told}
use Rattle.qna_live.proofs.Popped.{all-back, none-back, popped-back, popped-known}
use Rattle.qna_live.proofs.opening.back_all.Goals as goal

pub loop-ends-init : goal.loop-ends-init
loop-ends-init g c =
    none-back (λ (d : DeskEnds g.row.C-In.Denot g.row.C-Out.Denot). ends_told (g.C.In.Source.stock d.source) (g.C.Out.Sink.paper d.sink)) _ _ c.args.desks.items c.requires

pub back_in-requires : goal.back_in-requires
back_in-requires g c =
    (popped-known (λ (d : DeskEnds g.row.C-In.Denot g.row.C-Out.Denot). ends_told (g.C.In.Source.stock d.source) (g.C.Out.Sink.paper d.sink)) (g.C.Cabinet.knows c.loop-ends.cabinet) _ _ _ c.in-Some.ensures.items c.loop-ends.invariant.0).0

pub back_out-requires : goal.back_out-requires
back_out-requires g c =
    c.back_in.ensures.stays_known _ (popped-known (λ (d : DeskEnds g.row.C-In.Denot g.row.C-Out.Denot). ends_told (g.C.In.Source.stock d.source) (g.C.Out.Sink.paper d.sink)) (g.C.Cabinet.knows c.loop-ends.cabinet) _ _ _ c.in-Some.ensures.items c.loop-ends.invariant.0).1

pub loop-ends-preserved : goal.loop-ends-preserved
loop-ends-preserved g c =
    popped-back (λ (d : DeskEnds g.row.C-In.Denot g.row.C-Out.Denot). ends_told (g.C.In.Source.stock d.source) (g.C.Out.Sink.paper d.sink)) (g.C.Cabinet.knows c.args.cabinet.now) (g.C.Cabinet.knows c.loop-ends.cabinet) (g.C.Cabinet.knows c.back_out.new.self)
    (g.C.Cabinet.shelves c.args.cabinet.now) (g.C.Cabinet.shelves c.loop-ends.cabinet) (g.C.Cabinet.shelves c.back_in.new.self) (g.C.Cabinet.shelves c.back_out.new.self) c.loop-ends.desks.items c.pop.new.self.items c.in-Some.ends _
    c.in-Some.ensures.items (λ n known. c.back_out.ensures.stays_known n (c.back_in.ensures.stays_known n known)) c.back_in.ensures.only c.back_out.ensures.only c.loop-ends.invariant

pub returns-clause-back : goal.returns-clause-back
returns-clause-back g c =
    all-back (λ (d : DeskEnds g.row.C-In.Denot g.row.C-Out.Denot). ends_told (g.C.In.Source.stock d.source) (g.C.Out.Sink.paper d.sink)) (g.C.Cabinet.shelves c.args.cabinet.now) _ c.loop-ends.desks.items _ (search rules) c.loop-ends.invariant.2

pub returns-clause-stays_known : goal.returns-clause-stays_known
returns-clause-stays_known g c = c.loop-ends.invariant.1
