-- The ratios with which a year begins and ends, from the parts of its levels.
use Rattle.std.specs.Prelude.{◌≡◌, ℕ, ◌^◌, ℤ, pos, ◌+ℤ◌, ◌-ℤ◌, ◌*ℤ◌, ◌<ℤ◌, List, slice_index}
use Rattle.std.proofs.Common.{refl, sym, ◌∙◌, ap, arith, get_or}
use Rattle.ratio_arith.specs.Division.{floor_of}
use Rattle.ratio_arith.proofs.Floors.{floor-add_multiple}
use Rattle.ratio_arith.proofs.Linear.{linear}
use Rattle.denton_parts.specs.Level.{level_of, rises}
use Rattle.denton_parts.specs.Year.{year_sum}
use Rattle.denton_parts.proofs.Sizes.{level_is}

-- a quarter's ratio is the year's lowered ratio and the quarter's rise
pub ratio_is : (indicators : List ℕ) (bench : ℤ) (k : ℕ) (left right : ℤ) (j : ℕ) (sum base weighed : ℤ) (found : List ℤ) → found ≡ rises indicators left right → sum ≡ pos (year_sum indicators) → base ≡ pos (10 ^ k) *ℤ bench → weighed ≡ pos (slice_index indicators 1) *ℤ get_or found 1 (pos 0) +ℤ pos (slice_index indicators 2) *ℤ get_or found 2 (pos 0) +ℤ pos (slice_index indicators 3) *ℤ get_or found 3 (pos 0) → pos 0 <ℤ sum → floor_of (base -ℤ weighed) sum +ℤ get_or found j (pos 0) ≡ floor_of (level_of indicators bench k left right j) (pos (year_sum indicators))
ratio_is indicators bench k left right j sum base weighed found e_found e_sum e_base e_weighed positive =
    let level = level_is indicators bench k left right j sum base weighed (base -ℤ weighed +ℤ sum *ℤ get_or found j (pos 0)) (base -ℤ weighed +ℤ sum *ℤ get_or found j (pos 0)) found e_found e_sum e_base e_weighed refl refl in
    let out = floor-add_multiple (base -ℤ weighed) sum (get_or found j (pos 0)) positive in
    sym out ∙ ap (λ u. floor_of u sum) level ∙ ap (λ u. floor_of (level_of indicators bench k left right j) u) e_sum

-- the first quarter's ratio has no rise
pub first_ratio_is : (indicators : List ℕ) (bench : ℤ) (k : ℕ) (left right : ℤ) (sum base weighed : ℤ) (found : List ℤ) → found ≡ rises indicators left right → sum ≡ pos (year_sum indicators) → base ≡ pos (10 ^ k) *ℤ bench → weighed ≡ pos (slice_index indicators 1) *ℤ get_or found 1 (pos 0) +ℤ pos (slice_index indicators 2) *ℤ get_or found 2 (pos 0) +ℤ pos (slice_index indicators 3) *ℤ get_or found 3 (pos 0) → pos 0 <ℤ sum → floor_of (base -ℤ weighed) sum ≡ floor_of (level_of indicators bench k left right 0) (pos (year_sum indicators))
first_ratio_is indicators bench k left right sum base weighed found e_found e_sum e_base e_weighed positive =
    let ratio = ratio_is indicators bench k left right 0 sum base weighed found e_found e_sum e_base e_weighed positive in
    let none : get_or found 0 (pos 0) ≡ pos 0 = ap (λ (u : List ℤ). get_or u 0 (pos 0)) e_found in
    let same : floor_of (base -ℤ weighed) sum ≡ floor_of (base -ℤ weighed) sum +ℤ get_or found 0 (pos 0) = omega (arith, linear) in
    same ∙ ratio
