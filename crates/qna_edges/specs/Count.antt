-- Counts of faults: they never fall, and they stand still at the end of 64 bits.
use Rattle.std.specs.Prelude.{ℕ, ◌+◌, ◌-◌, ◌^◌, ◌≤◌, min, max}

-- a count rose: it is greater than before, or stands at its last value, 2^64 - 1
abbrev pub Rose : ℕ → ℕ → Type 0
Rose before now = min (before + 1) (2 ^ 64 - 1) ≤ now

-- a count with so much added, cut to its last value; it is never below what it was
abbrev pub capped : ℕ → ℕ → ℕ
capped count more = max count (min (count + more) (2 ^ 64 - 1))
