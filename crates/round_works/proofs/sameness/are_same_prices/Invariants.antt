use Rattle.std.proofs.Common.{◌≡◌, take}
use Rattle.round_works.proofs.sameness.are_same_prices.Given as goal

abbrev pub invariant-loop-t : goal.invariant-loop-t
invariant-loop-t l = take l.t l.one ≡ take l.t l.other
