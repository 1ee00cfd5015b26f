-- Weak duality, the law behind a certificate.
use Rattle.std.specs.Prelude.{◌≡◌, ℕ, ◌+◌, ◌≤◌, ℤ, pos, List, length, slice_index, EachIndex}
use Rattle.denton_parts.specs.Benchmarks.{MeetsBenchmarks}
use Rattle.denton_parts.specs.Ratios.{IsWithinGap}
use Rattle.denton_parts.specs.Changes.{changes}
use Rattle.denton_parts.specs.Gap.{gap_by}
use Rattle.denton_parts.specs.Year.{BenchmarkedYear}
use Rattle.denton_parts.specs.Years.{AreYearsOf}

-- whatever the multipliers, a series that meets its benchmarks is within its gap of every other series that meets them
abbrev pub GapBoundsAll : Type 0
GapBoundsAll =
    (indicators : List ℕ) (years : List BenchmarkedYear) (quarters multipliers : List ℤ) (scale : ℤ) →
    EachIndex indicators (λ t. 1 ≤ slice_index indicators t) → AreYearsOf indicators years →
    length quarters ≡ length indicators → length years ≡ length multipliers + 1 →
    MeetsBenchmarks years (pos 1) quarters →
    IsWithinGap indicators years quarters
    (gap_by scale indicators quarters (changes years multipliers indicators)) scale
