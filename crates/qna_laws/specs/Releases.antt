-- What every release is worth.
use Rattle.std.specs.Prelude.{ℕ, List, All}
use Rattle.series_tables.specs.LastValue.{last_value}
use Rattle.series_tables.specs.Plan.{PlanShape}
use Rattle.input_rules.specs.Accepted.{accepted}
use Rattle.node_compile.specs.Laws.{MeetsItsBenchmarks, IsWithinItsGap, IsGapWithinLimit, IsTrulyChained}
use Rattle.node_compile.specs.Release.{compilation}
use Rattle.node_compile.specs.Sent.{AreTrueTo}

-- of the compilation of the accepted inputs of a text: each leaf's table is about what was sent last, and its values
-- add up to the benchmark in every benchmarked year; they meet the benchmarks of its certificate, and no series that
-- meets these has a sum of squared ratio changes smaller by more than the gap; that gap is at most the limit for the
-- leaf's indicators; and each item's chain is that of its own values and volumes
unfoldable pub IsCertified : PlanShape → List ℕ → Type 0
IsCertified plan text =
    AreTrueTo plan (last_value (accepted plan text)) (compilation plan (accepted plan text))
    × All MeetsItsBenchmarks (compilation plan (accepted plan text))
    × All IsWithinItsGap (compilation plan (accepted plan text))
    × All IsGapWithinLimit (compilation plan (accepted plan text))
    × All (IsTrulyChained plan.reference) (compilation plan (accepted plan text))

-- so it is whatever the plan and the text
unfoldable pub ReleasesAreCertified : Type 0
ReleasesAreCertified = (plan : PlanShape) (text : List ℕ) → IsCertified plan text
