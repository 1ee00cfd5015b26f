-- When a work is one that is kept.
use Rattle.std.specs.Prelude.{◌≡◌, Option, Some, None}
use Rattle.series_tables.specs.declared.leaf_input.LeafInput.{LeafInput}
use Rattle.round_works.specs.Works.{ItemWork, work_in}
use Rattle.round_works.specs.declared.work.Work.{Work}

-- two leaves have the same indicators, prices and benchmarks
abbrev pub HaveSameInputs : LeafInput → LeafInput → Type 0
HaveSameInputs one other =
    (one.ind.items ≡ other.ind.items) × (one.price.items ≡ other.price.items) × (one.bench.items ≡ other.bench.items)

-- a work is there, and is this one
abbrev pub IsWork : ItemWork → Option Work → Type 0
IsWork work None = ⊥
IsWork work (Some kept) = work_in kept ≡ work
