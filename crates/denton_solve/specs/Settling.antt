-- What sweeps leave (this product's own): two rows of multipliers come nearer to one another by each, and in the end no
-- joint's residual is large.
use Rattle.std.specs.Prelude.{◌≡◌, ℕ, ◌+◌, ◌*◌, ◌≤◌, max, ℤ, ◌-ℤ◌, pos, List, [], ◌∷◌, length, unsigned_abs}
use Rattle.std.specs.List.{All}
use Rattle.denton_parts.specs.Year.{BenchmarkedYear, AreIndicators}
use Rattle.denton_solve.specs.Sweeps.{first_of, residual_of, sweep_of, width_of}

-- the greatest difference of two lists of numbers, place by place
abbrev pub greatest_difference : List ℤ → List ℤ → ℕ
greatest_difference (number ∷ numbers) (other ∷ others) =
    max (unsigned_abs (number -ℤ other)) (greatest_difference numbers others)
greatest_difference _ _ = 0

-- the law that a sweep brings any two rows of multipliers nearer: their greatest difference becomes at most 84 of 100
-- of what it was, and 15
abbrev pub SweepsComeNear : Type 0
SweepsComeNear = (k : ℕ) (years : List BenchmarkedYear) (multipliers others : List ℤ) →
    All (λ year. AreIndicators year.indicators) years → length multipliers ≡ length others →
    100 * greatest_difference (sweep_of k years multipliers) (sweep_of k years others)
    ≤ 84 * greatest_difference multipliers others + 1500

-- the residual of each joint behind a year, with the multiplier before it and those after each, is at most a thousand
-- for each change that leads over the joint
abbrev pub AreSettledBehind : ℕ → ℤ → BenchmarkedYear → List BenchmarkedYear → List ℤ → Type 0
AreSettledBehind k before year (next ∷ years) (own ∷ multipliers) =
    (unsigned_abs (residual_of k year next before own (first_of multipliers)) ≤ 1000 * width_of year next)
    × AreSettledBehind k own next years multipliers
AreSettledBehind k before year _ _ = Unit {0}

-- that of all joints: the multipliers stand between the benchmarked years, and 0 stands before the first and after the
-- last
abbrev pub AreSettled : ℕ → List BenchmarkedYear → List ℤ → Type 0
AreSettled k [] multipliers = Unit {0}
AreSettled k (year ∷ years) multipliers = AreSettledBehind k (pos 0) year years multipliers
