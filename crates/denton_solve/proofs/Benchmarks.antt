-- The values of a year add up to its benchmark.
use Rattle.std.specs.Prelude.{◌≡◌, ℕ, ℤ, pos, ◌+ℤ◌, ◌*ℤ◌, [], ◌∷◌}
use Rattle.std.proofs.Common.{refl, ◌∙◌}
use Rattle.ratio_arith.proofs.Ring.{same_by_ring, var, num, ◌⊕◌}
use Rattle.sum_rounding.specs.ShareOut.{sum_of}
use Rattle.denton_parts.specs.Level.{level_unit}
use Rattle.denton_parts.specs.Year.{BenchmarkedYear}
use Rattle.denton_parts.proofs.LevelSum.{levels_add_up}
use Rattle.denton_solve.specs.Series.{value_part, value_parts}

-- four numbers as a list add up to their sum
sum_of_four : (a b c d : ℤ) → sum_of (a ∷ b ∷ c ∷ d ∷ []) ≡ a +ℤ b +ℤ c +ℤ d
sum_of_four a b c d =
    let i = var 0 in
    let j = var 1 in
    let k = var 2 in
    let l = var 3 in
    same_by_ring (a ∷ b ∷ c ∷ d ∷ []) (i ⊕ (j ⊕ (k ⊕ (l ⊕ num (pos 0))))) (i ⊕ j ⊕ k ⊕ l) refl

-- the year's parts add up to the divisor times its benchmark
pub parts_add_up : (k : ℕ) (year : BenchmarkedYear) (left right : ℤ) →
    sum_of (value_parts k year left right) ≡ level_unit k year *ℤ year.benchmark
parts_add_up k year left right =
    sum_of_four (value_part k year left right 0) (value_part k year left right 1) (value_part k year left right 2)
    (value_part k year left right 3)
    ∙ levels_add_up year.indicators year.benchmark k left right
