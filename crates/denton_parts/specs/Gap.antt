-- The gap of a series: how far its ratio changes are from given ones, rounded outwards (this product's own).
use Rattle.std.specs.Prelude.{ℕ, max, ℤ, pos, ◌+ℤ◌, ◌-ℤ◌, ◌*ℤ◌, List, ◌∷◌, unsigned_abs}
use Rattle.ratio_arith.specs.Division.{floor_of, ceil_of}
use Rattle.denton_parts.specs.Ratios.{square}
use Rattle.denton_parts.specs.Changes.{Fraction}

-- the least by which the scaled ratio change from the quarter (i0, x0) to the quarter (i1, x1) can exceed the given
-- change
abbrev pub low_of : ℤ → ℕ → ℤ → ℕ → ℤ → Fraction → ℤ
low_of scale i0 x0 i1 x1 change =
    floor_of (scale *ℤ x1) (pos i1) -ℤ ceil_of (scale *ℤ x0) (pos i0) -ℤ ceil_of change.numerator change.denominator

-- the most that it can exceed the given change by
abbrev pub high_of : ℤ → ℕ → ℤ → ℕ → ℤ → Fraction → ℤ
high_of scale i0 x0 i1 x1 change =
    ceil_of (scale *ℤ x1) (pos i1) -ℤ floor_of (scale *ℤ x0) (pos i0) -ℤ floor_of change.numerator change.denominator

-- a bound on the distance of the scaled ratio change from the given change
abbrev pub distance_of : ℤ → ℕ → ℤ → ℕ → ℤ → Fraction → ℤ
distance_of scale i0 x0 i1 x1 change =
    pos (max (unsigned_abs (low_of scale i0 x0 i1 x1 change)) (unsigned_abs (high_of scale i0 x0 i1 x1 change)))

-- the sum of the squared distances of the quarters that follow the quarter (i0, x0)
abbrev pub gap_from : ℤ → ℕ → ℤ → List ℕ → List ℤ → List Fraction → ℤ
gap_from scale i0 x0 (i1 ∷ indicators) (x1 ∷ quarters) (change ∷ changes) =
    square (distance_of scale i0 x0 i1 x1 change) +ℤ gap_from scale i1 x1 indicators quarters changes
gap_from scale i0 x0 _ _ _ = pos 0

-- the gap in units of 1/scale²: the sum of the squared distances from the second quarter on
abbrev pub gap_by : ℤ → List ℕ → List ℤ → List Fraction → ℤ
gap_by scale (indicator ∷ indicators) (quarter ∷ quarters) (change ∷ changes) =
    gap_from scale indicator quarter indicators quarters changes
gap_by scale _ _ _ = pos 0
