use Rattle.std.proofs.Common.{◌≡◌, ℕ, List, ◌++◌, map}
use Rattle.compile_workers.specs.DeskEnd.{Ends}
use Rattle.compile_workers.specs.DeskEnd.{ends_told}
use Rattle.qna_edges.specs.Names.{StaysKnown}
use Rattle.qna_live.specs.Opened.{AreBack, AreKnown}
use Rattle.qna_live.proofs.opening.back_all.Given as goal

abbrev pub invariant-loop-ends : goal.invariant-loop-ends
invariant-loop-ends g l =
    AreKnown (g.C.Cabinet.knows l.cabinet) (map (λ d. ends_told (g.C.In.Source.stock d.source) (g.C.Out.Sink.paper d.sink)) l.desks.items)
    × StaysKnown (g.C.Cabinet.knows l.initial.cabinet) (g.C.Cabinet.knows l.cabinet)
    × ((done : List Ends)
    × (map (λ d. ends_told (g.C.In.Source.stock d.source) (g.C.Out.Sink.paper d.sink)) l.initial.desks.items ≡ map (λ d. ends_told (g.C.In.Source.stock d.source) (g.C.Out.Sink.paper d.sink)) l.desks.items ++ done)
    × AreBack (g.C.Cabinet.shelves l.initial.cabinet) (g.C.Cabinet.shelves l.cabinet) done)

abbrev pub decreases-loop-ends : goal.decreases-loop-ends
decreases-loop-ends g l = goal.left-loop-ends g l
