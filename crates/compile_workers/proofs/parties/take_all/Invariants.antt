use Rattle.std.proofs.Common.{◌+◌, ◌≤◌, List, length, map, reverse, vec_len}
use Rattle.std.specs.Prelude.{All, IsSome, vec_capacity}
use Rattle.desk_lock.specs.Passes.{IsPassOf}
use Rattle.compile_workers.specs.DeskEnd.{ends_told}
use Rattle.compile_workers.specs.Parties.{Place, ends_in}
use Rattle.compile_workers.proofs.Placing.{AreTaken}
use Rattle.compile_workers.proofs.parties.take_all.Given as goal

-- the first places were taken back, and their passes joined into one
abbrev pub invariant-taking : goal.invariant-taking
invariant-taking g l =
    ((done : List Place) × AreTaken (reverse l.fn.room.parties.items) done l.room.parties.items l.pass
    (map (λ d. ends_told (g.S.Source.stock d.source) (g.K.Sink.paper d.sink)) l.desks.items) l.room.ends.items)
    × IsPassOf l.office l.pass
    × All (λ place. IsSome place.pass) l.room.parties.items
    × (length l.room.ends.items + length (ends_in l.room.parties.items) ≤ vec_capacity l.room.ends)
    × (length l.desks.items + length (ends_in l.room.parties.items) ≤ vec_capacity l.desks)

abbrev pub decreases-taking : goal.decreases-taking
decreases-taking g l = vec_len l.room.parties
