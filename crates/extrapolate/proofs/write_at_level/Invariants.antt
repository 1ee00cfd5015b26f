use Rattle.std.proofs.Common.{◌≡◌, ◌++◌, take, drop, map, pos, ◌*ℤ◌}
use Rattle.ratio_arith.specs.Division.{round_of}
use Rattle.extrapolate.proofs.write_at_level.Given as goal

-- the values that are written, and those that are left
abbrev pub invariant-loop-t : goal.invariant-loop-t
invariant-loop-t l =
    take l.t l.out ++ map (λ i. round_of (pos i *ℤ l.fn.level) l.fn.unit) (drop l.t l.rest)
    ≡ map (λ i. round_of (pos i *ℤ l.fn.level) l.fn.unit) l.rest
