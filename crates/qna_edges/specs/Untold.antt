-- What is under a name whose bytes aren't told.
use Rattle.std.specs.Prelude.{None}
use Rattle.qna_edges.specs.Shelves.{Shelf}
use Rattle.qna_edges.specs.declared.tally.Counts.{Counts}

-- a name's counts
abbrev pub untold : Counts → Shelf
untold counts = record {
  opens = counts.opens;
  creates = counts.creates;
  reads = counts.reads;
  writes = counts.writes;
  sources = counts.sources;
  sinks = counts.sinks;
  file = None;
  rest = 0;
}

-- nothing stands there, nothing failed, and no source or sink was given
abbrev pub no_shelf : Shelf
no_shelf = record { opens = 0; creates = 0; reads = 0; writes = 0; sources = 0; sinks = 0; file = None; rest = 0 }
