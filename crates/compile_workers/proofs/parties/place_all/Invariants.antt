use Rattle.std.proofs.Common.{◌≡◌, ◌+◌, ◌≤◌, map, vec_len}
use Rattle.std.specs.Prelude.{vec_capacity}
use Rattle.compile_workers.specs.DeskEnd.{ends_told}
use Rattle.compile_workers.specs.Parties.{places_with}
use Rattle.compile_workers.proofs.Placing.{ArePlaced}
use Rattle.compile_workers.proofs.parties.place_all.Given as goal

-- what is still to be put and what was put are all places, and there is room for the rest
abbrev pub invariant-workers : goal.invariant-workers
invariant-workers g l =
    ArePlaced l.passes.items (map (λ d. ends_told (g.S.Source.stock d.source) (g.K.Sink.paper d.sink)) l.desks.items)
    l.parties.items
    (places_with l.fn.passes.items
    (map (λ d. ends_told (g.S.Source.stock d.source) (g.K.Sink.paper d.sink)) l.fn.desks.items))
    × (vec_len l.desks ≤ vec_len l.passes)
    × (vec_len l.passes + vec_len l.parties ≤ vec_capacity l.parties)
    × (l.desks ≡ l.fn.desks)

abbrev pub decreases-workers : goal.decreases-workers
decreases-workers g l = vec_len l.passes

-- from now on there are as many desks as passes
abbrev pub invariant-desks : goal.invariant-desks
invariant-desks g l =
    ArePlaced l.passes.items (map (λ d. ends_told (g.S.Source.stock d.source) (g.K.Sink.paper d.sink)) l.desks.items)
    l.parties.items
    (places_with l.fn.passes.items
    (map (λ d. ends_told (g.S.Source.stock d.source) (g.K.Sink.paper d.sink)) l.fn.desks.items))
    × (vec_len l.desks ≡ vec_len l.passes)
    × (vec_len l.passes + vec_len l.parties ≤ vec_capacity l.parties)
    × (vec_len l.fn.desks ≤ vec_capacity l.desks)

abbrev pub decreases-desks : goal.decreases-desks
decreases-desks g l = vec_len l.desks
