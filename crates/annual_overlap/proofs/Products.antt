-- The sizes of products of levels and of their quotients, and that the code holds them.
use Rattle.std.proofs.Common.{◌≡◌, ◌*◌, ◌^◌, ◌≤◌, ℤ, pos, ◌+ℤ◌, ◌*ℤ◌, ◌<ℤ◌, ◌≤ℤ◌, unsigned_abs, [], ◌∷◌, arith, refl, ap, ◌∙◌, FitsSigned, to_z, of_z}
use Rattle.std.specs.Prelude.{neg_ℤ}
use Rattle.std.proofs.lemmas.Int.{by_lt_z, to_z-of_z, fits_signed_from_abs}
use Rattle.std.specs.Int.{w128}
use Rattle.ratio_arith.specs.Division.{floor_of, round_of, ceil_of}
use Rattle.ratio_arith.proofs.Linear.{linear, literal_product}
use Rattle.ratio_arith.proofs.Floors.{floor_mono, floor_exact, round_is}
use Rattle.ratio_arith.proofs.Order.{product_nonneg, product_mono, size-*ℤ}
use Rattle.ratio_arith.proofs.Ring.{same_by_ring, var, num, ◌⊕◌, ◌⊗◌}
use Rattle.sum_rounding.proofs.Sizes.{floor_small}
use Rattle.annual_overlap.specs.declared.Point.{Point}
use Rattle.annual_overlap.specs.Chain.{point_within, moved}

-- the product of a level and a number of a link
pub level_product : (level number : ℤ) → pos 0 ≤ℤ level → level ≤ℤ pos (10 ^ 19) → pos 0 <ℤ number → number ≤ℤ pos (4 * 10 ^ 18) →
    (pos 0 ≤ℤ (level *ℤ number)) × ((level *ℤ number) ≤ℤ pos (4 * 10 ^ 37))
level_product level number a b c d =
    let size : unsigned_abs (level *ℤ number) ≤ 10 ^ 19 * (4 * 10 ^ 18) = size-*ℤ level number (10 ^ 19) (4 * 10 ^ 18) (omega (arith, linear)) (omega (arith, linear)) in
    (product_nonneg level number a (omega (arith, linear)), omega (arith, linear))

pub level_fits : (level number : ℤ) → pos 0 ≤ℤ level → level ≤ℤ pos (10 ^ 19) → pos 0 <ℤ number → number ≤ℤ pos (4 * 10 ^ 18) → FitsSigned w128 (level *ℤ number)
level_fits level number a b c d = fits_signed_from_abs w128 (level *ℤ number) (let h = level_product level number a b c d in omega (arith, linear))

pub level_kept : (level number : ℤ) → pos 0 ≤ℤ level → level ≤ℤ pos (10 ^ 19) → pos 0 <ℤ number → number ≤ℤ pos (4 * 10 ^ 18) →
    to_z w128 (of_z w128 (to_z w128 (of_z w128 level) *ℤ to_z w128 (of_z w128 number))) ≡ level *ℤ number
level_kept level number a b c d =
    let fa : FitsSigned w128 level = fits_signed_from_abs w128 level (omega (arith, linear)) in
    let fb : FitsSigned w128 number = fits_signed_from_abs w128 number (omega (arith, linear)) in
    rw (to_z-of_z w128 level fa, to_z-of_z w128 number fb) (to_z-of_z w128 (level *ℤ number) (level_fits level number a b c d))

-- the floor of nothing is nothing
floor_nothing : (d : ℤ) → pos 0 <ℤ d → floor_of (pos 0) d ≡ pos 0
floor_nothing d h =
    let e : d *ℤ pos 0 ≡ pos 0 = same_by_ring (d ∷ []) (var 0 ⊗ num (pos 0)) (num (pos 0)) refl in
    rw e at (floor_exact d (pos 0) h)

-- what is not negative is not negative once it is divided and rounded
pub round_sign : (n d : ℤ) → pos 0 ≤ℤ n → pos 0 <ℤ d → pos 0 ≤ℤ round_of n d
round_sign n d hn hd =
    let positive : pos 0 <ℤ (pos 2 *ℤ d) = omega (arith, linear, literal_product 2 d) in
    let least = floor_mono (pos 0) (pos 2 *ℤ n +ℤ d) (pos 2 *ℤ d) positive (omega (arith, linear, literal_product 2 n)) in
    let none = floor_nothing (pos 2 *ℤ d) positive in
    omega (arith, linear)

pub ceil_sign : (n d : ℤ) → pos 0 ≤ℤ n → pos 0 <ℤ d → pos 0 ≤ℤ ceil_of n d
ceil_sign n d hn hd =
    let most = floor_mono (neg_ℤ n) (pos 0) d hd (omega (arith, linear)) in
    let none = floor_nothing d hd in
    omega (arith, linear)

-- a ceiling is no larger than what is divided
pub ceil_size : (n d : ℤ) → pos 0 ≤ℤ n → n ≤ℤ pos (4 * 10 ^ 37) → pos 0 <ℤ d → ceil_of n d ≤ℤ pos (4 * 10 ^ 37)
ceil_size n d hn small hd =
    let size : unsigned_abs (floor_of (neg_ℤ n) d) ≤ 4 * 10 ^ 37 = floor_small (neg_ℤ n) d (4 * 10 ^ 37) hd (omega (arith, linear)) in
    omega (arith, linear)

-- a rounded quotient is no larger than what is divided
size_from : (n d top : ℤ) → pos 0 ≤ℤ top → n ≤ℤ top → pos 0 <ℤ d → round_of n d ≤ℤ top
size_from n d top ht small hd = by_lt_z top (round_of n d) (λ less. absurd (over less)) (λ at_most. at_most)
  where
    over : top <ℤ round_of n d → ⊥
    over less =
        let nearest = round_is n d hd in
        let next : (top +ℤ pos 1) ≤ℤ round_of n d = omega (arith, linear) in
        let wide = product_mono d (top +ℤ pos 1) (round_of n d) (omega (arith, linear)) next in
        let high = product_mono top (pos 1) d ht (omega (arith, linear)) in
        let e : d *ℤ (top +ℤ pos 1) ≡ top *ℤ d +ℤ d = same_by_ring (d ∷ top ∷ []) (var 0 ⊗ (var 1 ⊕ num (pos 1))) (var 1 ⊗ var 0 ⊕ var 0) refl in
        let f : top *ℤ pos 1 ≡ top = same_by_ring (top ∷ []) (var 0 ⊗ num (pos 1)) (var 0) refl in
        omega (arith, linear, literal_product 2 (d *ℤ round_of n d), literal_product 2 n)

pub round_size : (n d : ℤ) → n ≤ℤ pos (4 * 10 ^ 37) → pos 0 <ℤ d → round_of n d ≤ℤ pos (4 * 10 ^ 37)
round_size n d small hd = size_from n d (pos (4 * 10 ^ 37)) (omega (arith, linear)) small hd

-- a number that the code holds is passed on as it is
pub kept : (z : ℤ) → unsigned_abs z ≤ 10 ^ 38 → to_z w128 (of_z w128 z) ≡ z
kept z h = to_z-of_z w128 z (fits_signed_from_abs w128 z (omega arith))

pub kept_between : (z : ℤ) → pos 0 ≤ℤ z → z ≤ℤ pos (10 ^ 38) → to_z w128 (of_z w128 z) ≡ z
kept_between z low high = kept z (omega (arith, linear))

-- a level and its drift, moved by steps
pub moved_from : (level drift over under p next q s wider : ℤ) (point : Point) → p ≡ level *ℤ over → next ≡ round_of p under → q ≡ drift *ℤ over → s ≡ ceil_of q under →
    wider ≡ s +ℤ pos 1 → point ≡ point_within next wider → point ≡ moved level drift over under
moved_from level drift over under p next q s wider point e0 e1 e2 e3 e4 e5 =
    let n : next ≡ round_of (level *ℤ over) under = e1 ∙ ap (λ u. round_of u under) e0 in
    let w : wider ≡ ceil_of (drift *ℤ over) under +ℤ pos 1 = e4 ∙ ap (λ u. u +ℤ pos 1) e3 ∙ ap (λ u. ceil_of u under +ℤ pos 1) e2 in
    e5 ∙ ap (λ u. point_within u wider) n ∙ ap (λ u. point_within (round_of (level *ℤ over) under) u) w

-- the product of a level and a quarter's volume
pub part_size : (level volume : ℤ) → unsigned_abs level ≤ 10 ^ 19 → unsigned_abs volume ≤ 512 * 10 ^ 15 → unsigned_abs (level *ℤ volume) ≤ 10 ^ 37
part_size level volume a b =
    let size : unsigned_abs (level *ℤ volume) ≤ 10 ^ 19 * (512 * 10 ^ 15) = size-*ℤ level volume (10 ^ 19) (512 * 10 ^ 15) a b in
    omega arith

pub part_fits : (level volume : ℤ) → unsigned_abs level ≤ 10 ^ 19 → unsigned_abs volume ≤ 512 * 10 ^ 15 → FitsSigned w128 (level *ℤ volume)
part_fits level volume a b = fits_signed_from_abs w128 (level *ℤ volume) (let h = part_size level volume a b in omega arith)

pub part_kept : (level volume : ℤ) → unsigned_abs level ≤ 10 ^ 19 → unsigned_abs volume ≤ 512 * 10 ^ 15 →
    to_z w128 (of_z w128 (to_z w128 (of_z w128 level) *ℤ to_z w128 (of_z w128 volume))) ≡ level *ℤ volume
part_kept level volume a b =
    let fa : FitsSigned w128 level = fits_signed_from_abs w128 level (omega arith) in
    let fb : FitsSigned w128 volume = fits_signed_from_abs w128 volume (omega arith) in
    rw (to_z-of_z w128 level fa, to_z-of_z w128 volume fb) (to_z-of_z w128 (level *ℤ volume) (part_fits level volume a b))
