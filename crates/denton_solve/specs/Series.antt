-- The benchmarked series (IMF Quarterly National Accounts Manual 2017, chapter 6; the share-out in whole units is this
-- product's own).
use Rattle.std.specs.Prelude.{◌≡◌, ℕ, ℤ, pos, List, [], ◌∷◌, ◌++◌, take, drop}
use Rattle.sum_rounding.specs.ShareOut.{share_of, IsShareOut}
use Rattle.denton_parts.specs.Level.{weighed_level, level_unit}
use Rattle.denton_parts.specs.Year.{BenchmarkedYear}
use Rattle.denton_solve.specs.Sweeps.{first_of}

-- a quarter's indicator times its level
abbrev pub value_part : ℕ → BenchmarkedYear → ℤ → ℤ → ℕ → ℤ
value_part k year left right quarter = weighed_level year.indicators year.benchmark k left right quarter

-- that for each of the year's four quarters
abbrev pub value_parts : ℕ → BenchmarkedYear → ℤ → ℤ → List ℤ
value_parts k year left right =
    value_part k year left right 0 ∷ value_part k year left right 1 ∷ value_part k year left right 2
    ∷ value_part k year left right 3 ∷ []

-- the year's four values: its benchmark shared out by the quarters' ratios and indicators
abbrev pub year_series : ℕ → BenchmarkedYear → ℤ → ℤ → List ℤ
year_series k year left right = share_of (value_parts k year left right) (level_unit k year) year.benchmark

-- the values of benchmarked years, four a year, from the multiplier before the first and those after each on; 0 stands
-- after the last
abbrev pub series_after : ℕ → ℤ → List BenchmarkedYear → List ℤ → List ℤ
series_after k before [] multipliers = []
series_after k before (year ∷ years) multipliers =
    year_series k year before (first_of multipliers) ++ series_after k (first_of multipliers) years (drop 1 multipliers)

-- the values of all benchmarked years: the multipliers stand between the years, and 0 stands before the first
unfoldable pub series_of : ℕ → List BenchmarkedYear → List ℤ → List ℤ
series_of k years multipliers = series_after k (pos 0) years multipliers

-- the values of benchmarked years are, four by four, share-outs of the years' benchmarks over the quarters in
-- proportion to their indicators times their levels, between the multiplier before the first year and those after each
abbrev pub AreShareOuts : ℕ → ℤ → List BenchmarkedYear → List ℤ → List ℤ → Type 0
AreShareOuts k before [] multipliers values = values ≡ []
AreShareOuts k before (year ∷ years) multipliers values =
    IsShareOut (value_parts k year before (first_of multipliers)) (level_unit k year) year.benchmark (take 4 values)
    × AreShareOuts k (first_of multipliers) years (drop 1 multipliers) (drop 4 values)
