-- What a cabinet counts for each name: its faults, and the sources and sinks that were given.
use Rattle.std.specs.Prelude.{ℕ, ◌+◌, List, Bool, is_some, unwrap_or}
use Rattle.std.specs.BTreeMap.{get_by_text}
use Rattle.qna_edges.specs.Count.{capped}
use Rattle.qna_edges.specs.declared.tally.Counts.{Counts}
use Rattle.qna_edges.specs.declared.tally.Kind.{Kind}
use Rattle.qna_edges.specs.declared.tally.Kind.TheVariants.{Open, Create, Read, Write}
use Rattle.qna_edges.specs.declared.tally.Tally.{Tally}

-- no fault of any kind, and no source or sink
abbrev pub nothing_counted : Counts
nothing_counted = record { opens = 0; creates = 0; reads = 0; writes = 0; sources = 0; sinks = 0 }

-- the counts with so many more faults of one kind
abbrev pub raised : Kind → Counts → ℕ → Counts
raised Open counts more = record counts { opens = capped counts.opens more }
raised Create counts more = record counts { creates = capped counts.creates more }
raised Read counts more = record counts { reads = capped counts.reads more }
raised Write counts more = record counts { writes = capped counts.writes more }

-- the counts with one more source that was given
abbrev pub one_source : Counts → Counts
one_source counts = record counts { sources = counts.sources + 1 }

-- the counts with one more sink that was given
abbrev pub one_sink : Counts → Counts
one_sink counts = record counts { sinks = counts.sinks + 1 }

-- the counts of a name
abbrev pub counts_of : Tally → List ℕ → Counts
counts_of tally name = unwrap_or (get_by_text tally.counts name) nothing_counted

-- whether there is room for the counts of a name
abbrev pub has_room : Tally → List ℕ → Bool
has_room tally name = is_some (get_by_text tally.counts name)
