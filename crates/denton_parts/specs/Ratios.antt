-- The objective of proportional benchmarking, and what it means to come within a gap of the best series (IMF Quarterly
-- National Accounts Manual 2017, chapter 6; the common multiple and the gap are this product's own).
use Rattle.std.specs.Prelude.{◌≡◌, ℕ, ℤ, pos, ◌+ℤ◌, ◌-ℤ◌, ◌*ℤ◌, ◌≤ℤ◌, ◌<ℤ◌, List, [], ◌∷◌, length}
use Rattle.denton_parts.specs.Benchmarks.{MeetsBenchmarks}
use Rattle.denton_parts.specs.Year.{BenchmarkedYear}

abbrev pub square : ℤ → ℤ
square a = a *ℤ a

-- `whole` is a common multiple of the indicators: in each quarter it is the indicator times the quarter's factor
abbrev pub AreFactors : ℤ → List ℕ → List ℤ → Type 0
AreFactors whole [] [] = Unit {0}
AreFactors whole (indicator ∷ indicators) (factor ∷ factors) =
    (factor *ℤ pos indicator ≡ whole) × AreFactors whole indicators factors
AreFactors whole _ _ = ⊥

-- the quarters' ratios to their indicators, all times the common multiple
abbrev pub scaled_ratios : List ℤ → List ℤ → List ℤ
scaled_ratios (factor ∷ factors) (quarter ∷ quarters) = (factor *ℤ quarter) ∷ scaled_ratios factors quarters
scaled_ratios _ _ = []

-- the sum of the squared changes of a list that follows a number
abbrev pub squared_changes_from : ℤ → List ℤ → ℤ
squared_changes_from before [] = pos 0
squared_changes_from before (number ∷ numbers) = square (number -ℤ before) +ℤ squared_changes_from number numbers

-- the sum of the squared changes from each number to the next
abbrev pub squared_changes : List ℤ → ℤ
squared_changes [] = pos 0
squared_changes (number ∷ numbers) = squared_changes_from number numbers

-- the objective: the sum of squared ratio changes, times the square of the common multiple that the factors belong to
abbrev pub objective : List ℤ → List ℤ → ℤ
objective factors quarters = squared_changes (scaled_ratios factors quarters)

-- no series of fractions that meets the benchmarks of these years has a sum of squared ratio changes smaller than that
-- of `quarters` by more than gap/scale²: for every denominator n, every common multiple and every list of numerators
abbrev pub IsWithinGap : List ℕ → List BenchmarkedYear → List ℤ → ℤ → ℤ → Type 0
IsWithinGap indicators years quarters gap scale =
    (n whole : ℤ) (factors others : List ℤ) → pos 0 <ℤ n → pos 0 <ℤ whole → AreFactors whole indicators factors →
    length others ≡ length indicators → MeetsBenchmarks years n others →
    (square n *ℤ square scale *ℤ objective factors quarters)
    ≤ℤ (square scale *ℤ objective factors others +ℤ gap *ℤ square n *ℤ square whole)
