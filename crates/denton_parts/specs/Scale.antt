-- The scale of benchmarked years (this product's own): as fine as their annual ratios allow.
use Rattle.std.specs.Prelude.{ℕ, zero, suc, ◌*◌, ◌^◌, Bool, nat_le, List, unsigned_abs, if◌then◌else◌}
use Rattle.std.specs.List.{list_all}
use Rattle.denton_parts.specs.Year.{BenchmarkedYear, year_sum}

-- the year's annual ratio times 10^k is within 10^13
abbrev pub fits_scale : ℕ → BenchmarkedYear → Bool
fits_scale k year = nat_le (10 ^ k * unsigned_abs year.benchmark) (10 ^ 13 * year_sum year.indicators)

-- the greatest number up to a bound that passes a test, 0 where none above it does
unfoldable pub greatest_up_to : ℕ → (ℕ → Bool) → ℕ
greatest_up_to zero test = zero
greatest_up_to (suc k) test = if test (suc k) then suc k else greatest_up_to k test

-- the scale's power of ten: the greatest k from 0 to 15 at which every year's annual ratio times 10^k is within 10^13
abbrev pub scale_of_years : List BenchmarkedYear → ℕ
scale_of_years years = greatest_up_to 15 (λ k. list_all (fits_scale k) years)
