-- The limit on the gap of a benchmarked series (this product's own), from the scale and the indicators alone.
use Rattle.std.specs.Prelude.{ℕ, ℤ, pos, ◌+ℤ◌, List, [], ◌∷◌}
use Rattle.ratio_arith.specs.Division.{ceil_of}
use Rattle.denton_parts.specs.Ratios.{square}

-- a bound on the distance at a quarter, from its indicator and that of the quarter before: one whole unit of each is
-- room for the rounding of their values, and 1024 for everything else
abbrev pub most_distance : ℤ → ℕ → ℕ → ℤ
most_distance scale before indicator = ceil_of scale (pos indicator) +ℤ ceil_of scale (pos before) +ℤ pos 1024

-- the sum of the squares of these bounds at the quarters that follow one with an indicator
abbrev pub limit_from : ℤ → ℕ → List ℕ → ℤ
limit_from scale before [] = pos 0
limit_from scale before (indicator ∷ indicators) =
    square (most_distance scale before indicator) +ℤ limit_from scale indicator indicators

-- the limit: the sum of the squares of the bounds at the quarters from the second on
abbrev pub limit_of : ℤ → List ℕ → ℤ
limit_of scale [] = pos 0
limit_of scale (indicator ∷ indicators) = limit_from scale indicator indicators
