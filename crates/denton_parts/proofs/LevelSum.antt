-- The levels of a year add up to its benchmark.
use Rattle.std.specs.Prelude.{◌^◌, pos, [], ◌∷◌, slice_index, slice_index_or}
use Rattle.std.proofs.Common.{refl}
use Rattle.ratio_arith.proofs.Ring.{same_by_ring, var, num, ◌⊕◌, ◌⊖◌, ◌⊗◌}
use Rattle.denton_parts.specs.Level.{rises, LevelsAddUp}

-- the indicators times the levels, multiplied out
pub levels_add_up : LevelsAddUp
levels_add_up indicators benchmark k left right =
    let i0 = var 0 in
    let i1 = var 1 in
    let i2 = var 2 in
    let i3 = var 3 in
    let scale = var 4 in
    let bench = var 5 in
    let r1 = var 6 in
    let r2 = var 7 in
    let r3 = var 8 in
    let sum = i0 ⊕ i1 ⊕ i2 ⊕ i3 in
    let weighed = i1 ⊗ r1 ⊕ i2 ⊗ r2 ⊕ i3 ⊗ r3 in
    let base = scale ⊗ bench ⊖ weighed in
    same_by_ring (pos (slice_index indicators 0) ∷ pos (slice_index indicators 1) ∷ pos (slice_index indicators 2) ∷ pos (slice_index indicators 3) ∷ pos (10 ^ k) ∷ benchmark ∷ slice_index_or (rises indicators left right) 1 (pos 0) ∷ slice_index_or (rises indicators left right) 2 (pos 0) ∷ slice_index_or (rises indicators left right) 3 (pos 0) ∷ [])
    (i0 ⊗ (base ⊕ sum ⊗ num (pos 0)) ⊕ i1 ⊗ (base ⊕ sum ⊗ r1) ⊕ i2 ⊗ (base ⊕ sum ⊗ r2) ⊕ i3 ⊗ (base ⊕ sum ⊗ r3))
    ((scale ⊗ sum) ⊗ bench) refl
