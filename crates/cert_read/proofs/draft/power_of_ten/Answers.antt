use Rattle.std.proofs.Common.{◌≡◌, ℕ, ◌≤◌, ◌^◌, arith}
use Rattle.std.proofs.Math.Nat.{pow-le-pow_right}
use Rattle.cert_read.proofs.draft.power_of_ten.Goals as goal

-- a power of ten is 1 at least
power_above : (n e : ℕ) → n ≡ 10 ^ e → 1 ≤ n
power_above n e is = let least : 10 ^ 0 ≤ 10 ^ e = pow-le-pow_right {n = 10} (omega arith) {i = 0} {j = e} (omega arith) in omega arith

pub returns-clause-positive : goal.returns-clause-positive
returns-clause-positive c = power_above _ _ c.pow.ensures
