use Rattle.std.proofs.Common.{◌≡◌, ◌≤◌, ℕ, List, ◌++◌, length, map, take, vec_len}
use Rattle.std.specs.Prelude.{vec_capacity}
use Rattle.compile_workers.specs.DeskEnd.{Ends}
use Rattle.compile_workers.specs.DeskEnd.{ends_told}
use Rattle.command_words.specs.Views.{files_of}
use Rattle.qna_live.specs.Opened.{AreKnown, GivesDesks}
use Rattle.qna_live.proofs.opening.open_all.Given as goal

abbrev pub invariant-loop-names : goal.invariant-loop-names
invariant-loop-names g l = record {
  given : GivesDesks (g.C.Cabinet.shelves l.initial.cabinet) (g.C.Cabinet.shelves l.cabinet) (map files_of (take l.names-index l.said.desks.items))
      (map (λ d. ends_told (g.C.In.Source.stock d.source) (g.C.Out.Sink.paper d.sink)) l.desks.items);
  known : AreKnown (g.C.Cabinet.knows l.cabinet) (map (λ d. ends_told (g.C.In.Source.stock d.source) (g.C.Out.Sink.paper d.sink)) l.desks.items);
  quiet : g.K.Sink.paper l.report ≡ g.K.Sink.paper l.initial.report;
  count : vec_len l.desks ≡ l.names-index;
  room : length l.said.desks.items ≤ vec_capacity l.desks;
}
