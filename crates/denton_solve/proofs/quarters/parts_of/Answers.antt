use Rattle.std.proofs.Common.{rules, arith, ◌≡◌, ◌≤◌, ◌<◌, ◌^◌, ◌∙◌, ap, zero, suc, ℕ, ℤ, pos, ◌*ℤ◌, unsigned_abs, FitsSigned, get_or, slice_index, to_z, of_z, to_z-of_z}
use Rattle.std.specs.Int.{w128}
use Rattle.denton_parts.specs.Years.{year_in}
use Rattle.denton_parts.proofs.Machine.{machine}
use Rattle.denton_solve.specs.Series.{value_part}
use Rattle.denton_solve.proofs.Values.{part_is, four_same}
use Rattle.denton_solve.proofs.quarters.parts_of.Goals as goal

-- an indicator times the level that was made for it is the quarter's part
part : (c : goal.After-weighed-4) (j : ℕ) (made : ℤ) → j < 4 → FitsSigned w128 made →
    made ≡ pos (slice_index c.args.year.now.ind j)
    *ℤ to_z w128 (of_z w128 (get_or c.levels_of-levels.result j (pos 0))) →
    to_z w128 (of_z w128 made) ≡ value_part c.args.scale (year_in 0 c.args.year.now) c.args.left c.args.right j
part c j made inside made_fits e =
    let size = c.levels_of-levels.ensures.sizes j (omega arith) in
    let fits : FitsSigned w128 (get_or c.levels_of-levels.result j (pos 0)) = omega (arith, machine) in
    to_z-of_z made_fits
    ∙ part_is c.args.scale (year_in 0 c.args.year.now) c.args.left c.args.right _ _ j
    (get_or c.levels_of-levels.result j (pos 0)) made (to_z-of_z c.ranges.left) (to_z-of_z c.ranges.right)
    (c.levels_of-levels.ensures.values j (omega arith))
    (e ∙ ap (λ (n : ℤ). pos (slice_index c.args.year.now.ind j) *ℤ n) (to_z-of_z fits))

pub returns-clause-value : goal.returns-clause-value
returns-clause-value c = four_same
    (part c 0 c.weighed.result (omega arith) (search rules) c.weighed.ensures.value)
    (part c 1 c.weighed-2.result (omega arith) (search rules) c.weighed-2.ensures.value)
    (part c 2 c.weighed-3.result (omega arith) (search rules) c.weighed-3.ensures.value)
    (part c 3 c.weighed-4.result (omega arith) (search rules) c.weighed-4.ensures.value)

-- a part is as small as it was made
small : (made : ℤ) → FitsSigned w128 made → unsigned_abs made ≤ 10 ^ 37 → unsigned_abs (to_z w128 (of_z w128 made)) ≤ 10 ^ 37
small made fits less = rw (to_z-of_z fits) less

pub returns-clause-sizes : goal.returns-clause-sizes
returns-clause-sizes c zero d inside = small c.weighed.result (search rules) c.weighed.ensures.size
returns-clause-sizes c (suc zero) d inside = small c.weighed-2.result (search rules) c.weighed-2.ensures.size
returns-clause-sizes c (suc (suc zero)) d inside = small c.weighed-3.result (search rules) c.weighed-3.ensures.size
returns-clause-sizes c (suc (suc (suc zero))) d inside = small c.weighed-4.result (search rules) c.weighed-4.ensures.size
returns-clause-sizes c (suc (suc (suc (suc k)))) d inside = absurd (omega arith)
