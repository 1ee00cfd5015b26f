-- The sizes that ratios and levels keep to.
use Rattle.std.specs.Prelude.{◌≡◌, List, ◌^◌, ◌*◌, ◌≤◌, pos, ◌<ℤ◌, ◌≤ℤ◌, unsigned_abs, IfSome}
use Rattle.price_base.specs.declared.Cell.{Cell}
use Rattle.price_base.specs.Cells.{number_of, total}
use Rattle.annual_overlap.specs.declared.Ratio.{Ratio}
use Rattle.annual_overlap.specs.declared.Ratio.TheVariants.{Of, Broken}
use Rattle.annual_overlap.specs.declared.Point.{Point}
use Rattle.annual_overlap.specs.declared.Point.TheVariants.{Known, Marked}

-- both numbers of a link are above zero, and small enough to be multiplied with a level
abbrev pub IsSmallLink : Ratio → Type 0
IsSmallLink (Of volume before) =
    (pos 0 <ℤ volume) × (volume ≤ℤ pos (4 * 10 ^ 18)) × (pos 0 <ℤ before) × (before ≤ℤ pos (4 * 10 ^ 18))
IsSmallLink (Broken mark) = Unit {0}

-- a level and a drift in their range
abbrev pub IsSmallPoint : Point → Type 0
IsSmallPoint (Known level drift) =
    (pos 0 ≤ℤ level) × (level ≤ℤ pos (10 ^ 19)) × (pos 0 ≤ℤ drift) × (drift ≤ℤ pos (10 ^ 19))
IsSmallPoint (Marked mark) = Unit {0}

-- a rate that a quarter's volume can be multiplied with
abbrev pub IsSmallRate : Ratio → Type 0
IsSmallRate (Of level value) = (unsigned_abs level ≤ 10 ^ 19) × (pos 0 <ℤ value) × (value ≤ℤ pos (10 ^ 18))
IsSmallRate (Broken mark) = Unit {0}

-- a year's volume, where it is a number, is the sum of the volumes of its quarters
abbrev pub IsTotalOf : Cell → List Cell → Type 0
IsTotalOf cell quarters = IfSome (number_of cell) (λ number. total quarters ≡ number)
