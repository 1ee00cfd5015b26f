-- Quarters whose values stand at known ratios: their distances, and the gap that these add up to.
use Rattle.std.specs.Prelude.{◌≡◌, ℕ, ◌≤◌, max, ℤ, pos, ◌+ℤ◌, ◌-ℤ◌, ◌*ℤ◌, neg_ℤ, ◌≤ℤ◌, ◌<ℤ◌, List, [], ◌∷◌, ◌++◌, map, unsigned_abs}
use Rattle.std.specs.List.{All}
use Rattle.std.proofs.Common.{refl, sym, ◌∙◌, ap, arith, suc}
use Rattle.std.proofs.lemmas.Int.{by_lt_z}
use Rattle.ratio_arith.specs.Division.{floor_of, ceil_of, round_of}
use Rattle.ratio_arith.specs.Nearness.{IsNear}
use Rattle.ratio_arith.proofs.Floors.{floor_is, ceil_is, round_is, floor_exact, ceil_near_floor}
use Rattle.ratio_arith.proofs.Linear.{linear, literal_product}
use Rattle.ratio_arith.proofs.Order.{product_mono, product_cancel, square_within}
use Rattle.ratio_arith.proofs.Ring.{same_by_ring, var, num, ◌⊕◌, ◌⊗◌}
use Rattle.denton_parts.specs.Changes.{Fraction, steady}
use Rattle.denton_parts.specs.Gap.{low_of, high_of, distance_of, gap_from, gap_by}
use Rattle.denton_parts.specs.Limit.{most_distance, limit_from, limit_of}
use Rattle.denton_parts.proofs.Reach.{near_rounded}

-- a value stands at a ratio of its indicator, the ratio in units of 1 over the scale and rounded down, but for one
-- whole unit
pub record IsAtRatio (scale : ℤ) (indicator : ℕ) (value ratio : ℤ) : Type 0 where
  pub at_least : (pos indicator *ℤ ratio) ≤ℤ (scale *ℤ value +ℤ scale)
  pub at_most : (scale *ℤ value) ≤ℤ (pos indicator *ℤ ratio +ℤ pos indicator +ℤ scale)

-- its own ratio, rounded down, is at least that ratio less one whole unit
floor_at_ratio : (scale : ℤ) (indicator : ℕ) (value ratio : ℤ) → 1 ≤ indicator →
    IsAtRatio scale indicator value ratio →
    (ratio -ℤ ceil_of scale (pos indicator)) ≤ℤ floor_of (scale *ℤ value) (pos indicator)
floor_at_ratio scale indicator value ratio some stands =
    let i = pos indicator in
    let positive : pos 0 <ℤ i = omega (arith, linear) in
    let floor = floor_is (scale *ℤ value) i positive in
    let ceiling = ceil_is scale i positive in
    let f = floor_of (scale *ℤ value) i in
    let c = ceil_of scale i in
    by_lt_z f (ratio -ℤ c) (λ less. absurd (over f c less floor.close ceiling.at_least)) (λ at_least. at_least)
  where
    over : (f c : ℤ) → f <ℤ (ratio -ℤ c) → (scale *ℤ value) <ℤ (pos indicator *ℤ f +ℤ pos indicator) →
        scale ≤ℤ (pos indicator *ℤ c) → ⊥
    over f c less close least =
        let kept =
        product_mono (pos indicator) (f +ℤ pos 1 +ℤ c) ratio (omega (arith, linear)) (omega (arith, linear)) in
        let e : pos indicator *ℤ (f +ℤ pos 1 +ℤ c) ≡ pos indicator *ℤ f +ℤ pos indicator +ℤ pos indicator *ℤ c =
        same_by_ring (pos indicator ∷ f ∷ c ∷ []) (var 0 ⊗ (var 1 ⊕ num (pos 1) ⊕ var 2))
        (var 0 ⊗ var 1 ⊕ var 0 ⊕ var 0 ⊗ var 2) refl in
        let at_least = stands.at_least in
        omega (arith, linear)

-- and rounded up it is at most that ratio and one, and one whole unit
ceil_at_ratio : (scale : ℤ) (indicator : ℕ) (value ratio : ℤ) → 1 ≤ indicator →
    IsAtRatio scale indicator value ratio →
    ceil_of (scale *ℤ value) (pos indicator) ≤ℤ (ratio +ℤ pos 1 +ℤ ceil_of scale (pos indicator))
ceil_at_ratio scale indicator value ratio some stands =
    let i = pos indicator in
    let positive : pos 0 <ℤ i = omega (arith, linear) in
    let own = ceil_is (scale *ℤ value) i positive in
    let ceiling = ceil_is scale i positive in
    let q = ceil_of (scale *ℤ value) i in
    let c = ceil_of scale i in
    by_lt_z (ratio +ℤ pos 1 +ℤ c) q (λ less. absurd (over q c less own.close ceiling.at_least)) (λ at_most. at_most)
  where
    over : (q c : ℤ) → (ratio +ℤ pos 1 +ℤ c) <ℤ q → (pos indicator *ℤ q) <ℤ (scale *ℤ value +ℤ pos indicator) →
        scale ≤ℤ (pos indicator *ℤ c) → ⊥
    over q c less close least =
        let kept =
        product_mono (pos indicator) (ratio +ℤ pos 2 +ℤ c) q (omega (arith, linear)) (omega (arith, linear)) in
        let e : pos indicator *ℤ (ratio +ℤ pos 2 +ℤ c) ≡ pos indicator *ℤ ratio +ℤ pos 2 *ℤ pos indicator +ℤ pos
        indicator *ℤ c =
        same_by_ring (pos indicator ∷ ratio ∷ c ∷ []) (var 0 ⊗ (var 1 ⊕ num (pos 2) ⊕ var 2))
        (var 0 ⊗ var 1 ⊕ num (pos 2) ⊗ var 0 ⊕ var 0 ⊗ var 2) refl in
        let at_most = stands.at_most in
        omega (arith, linear, literal_product)

-- two numbers between the same bounds
both_within : (low high most : ℤ) → neg_ℤ most ≤ℤ low → low ≤ℤ most → neg_ℤ most ≤ℤ high → high ≤ℤ most →
    pos (max (unsigned_abs low) (unsigned_abs high)) ≤ℤ most
both_within low high most a b c d = omega (arith, linear)

-- a bound on the distance at a quarter: where the ratio goes by the change into the quarter, but for 1001 units
pub distance_within : (scale : ℤ) (i0 i1 : ℕ) (x0 x1 from to : ℤ) (change : Fraction) → 1 ≤ i0 → 1 ≤ i1 →
    pos 0 <ℤ change.denominator → IsAtRatio scale i0 x0 from → IsAtRatio scale i1 x1 to →
    IsNear (from +ℤ floor_of change.numerator change.denominator) to (pos 1001) → distance_of scale i0 x0 i1 x1 change
    ≤ℤ most_distance scale i0 i1
distance_within scale i0 i1 x0 x1 from to change some more positive first second near =
    let f0 = floor_at_ratio scale i0 x0 from some first in
    let q0 = ceil_at_ratio scale i0 x0 from some first in
    let f1 = floor_at_ratio scale i1 x1 to more second in
    let q1 = ceil_at_ratio scale i1 x1 to more second in
    let o0 = ceil_near_floor (scale *ℤ x0) (pos i0) (omega (arith, linear)) in
    let o1 = ceil_near_floor (scale *ℤ x1) (pos i1) (omega (arith, linear)) in
    let e = ceil_near_floor change.numerator change.denominator positive in
    both_within (low_of scale i0 x0 i1 x1 change) (high_of scale i0 x0 i1 x1 change) (most_distance scale i0 i1)
    (omega (arith, linear)) (omega (arith, linear)) (omega (arith, linear)) (omega (arith, linear))

-- quarters that follow one at a ratio, each at its own, which goes by the change into the quarter, but for 1001 units
pub data Follow (scale : ℤ) : ℤ → List ℕ → List ℤ → List Fraction → Type 0 where
  none : (from : ℤ) → Follow scale from [] [] []
  more : (from to : ℤ) (i : ℕ) (x : ℤ) (c : Fraction) (is : List ℕ) (xs : List ℤ) (cs : List Fraction) → 1 ≤ i →
      pos 0 <ℤ c.denominator → IsAtRatio scale i x to →
      IsNear (from +ℤ floor_of c.numerator c.denominator) to (pos 1001) → Follow scale to is xs cs → Follow scale from
      (i ∷ is) (x ∷ xs) (c ∷ cs)

-- the gap of such quarters is within the limit
gap_from-within : (scale : ℤ) (i0 : ℕ) (x0 from : ℤ) (is : List ℕ) (xs : List ℤ) (cs : List Fraction) → 1 ≤ i0 →
    IsAtRatio scale i0 x0 from → Follow scale from is xs cs → gap_from scale i0 x0 is xs cs ≤ℤ limit_from scale i0 is
gap_from-within scale i0 x0 from _ _ _ some stands (none at) = omega (arith, linear)
gap_from-within scale i0 x0 from _ _ _ some stands (more at to i x c is xs cs one positive own near rest) =
    let distance = distance_within scale i0 i x0 x from to c some one positive stands own near in
    let most = most_distance scale i0 i in
    let squares = square_within (distance_of scale i0 x0 i x c) most (omega (arith, linear)) distance in
    let later = gap_from-within scale i x to is xs cs one own rest in
    omega (arith, linear)

-- from the first quarter on
pub gap_within : (scale from : ℤ) (is : List ℕ) (xs : List ℤ) (cs : List Fraction) → Follow scale from is xs cs →
    gap_by scale is xs cs ≤ℤ limit_of scale is
gap_within scale from _ _ _ (none at) = omega (arith, linear)
gap_within scale from _ _ _ (more at to i x c is xs cs one positive own near rest) =
    gap_from-within scale i x to is xs cs one own rest

-- a change that is a whole number is its own floor
pub steady_floor : (own : ℤ) → floor_of (steady own).numerator (steady own).denominator ≡ own
steady_floor own =
    let e : pos 1 *ℤ own ≡ own = same_by_ring (own ∷ []) (num (pos 1) ⊗ var 0) (var 0) refl in
    let exact = floor_exact (pos 1) own (omega (arith, linear)) in
    ap (λ u. floor_of u (pos 1)) (sym e) ∙ exact

-- quarters at one ratio, with no changes, and quarters that follow them
pub constant_follow : (scale ratio : ℤ) (value : ℕ → ℤ) (js is : List ℕ) (xs : List ℤ) (cs : List Fraction) →
    ((i : ℕ) → 1 ≤ i → IsAtRatio scale i (value i) ratio) → All (λ i. 1 ≤ i) js →
    Follow scale ratio is xs cs → Follow scale ratio (js ++ is) (map value js ++ xs)
    (map (λ i. steady (pos 0)) js ++ cs)
constant_follow scale ratio value [] is xs cs each some rest = rest
constant_follow scale ratio value (j ∷ js) is xs cs each some rest =
    let one = some 0 j (omega arith) in
    let floor = steady_floor (pos 0) in
    more ratio ratio j (value j) (steady (pos 0)) (js ++ is) (map value js ++ xs) (map (λ i. steady (pos 0)) js ++ cs)
    one (omega (arith, linear)) (each j one) (omega (arith, linear))
    (constant_follow scale ratio value js is xs cs each (λ y other inside. some (suc y) other (omega arith)) rest)

-- quarters at one ratio with nothing behind them
pub constant_end : (scale ratio : ℤ) (value : ℕ → ℤ) (js : List ℕ) →
    ((i : ℕ) → 1 ≤ i → IsAtRatio scale i (value i) ratio) → All (λ i. 1 ≤ i) js →
    Follow scale ratio js (map value js) (map (λ i. steady (pos 0)) js)
constant_end scale ratio value [] each some = none ratio
constant_end scale ratio value (j ∷ js) each some =
    let one = some 0 j (omega arith) in
    let floor = steady_floor (pos 0) in
    more ratio ratio j (value j) (steady (pos 0)) js (map value js) (map (λ i. steady (pos 0)) js) one
    (omega (arith, linear)) (each j one) (omega (arith, linear))
    (constant_end scale ratio value js each (λ y other inside. some (suc y) other (omega arith)))

-- a value whose product with the scale and a whole is near to the indicator times a level: it stands at the level's
-- ratio
pub level_at_ratio : (scale whole : ℤ) (i : ℕ) (x level : ℤ) → pos 0 <ℤ whole →
    IsNear (pos i *ℤ level) ((scale *ℤ whole) *ℤ x) (scale *ℤ whole) → IsAtRatio scale i x (floor_of level whole)
level_at_ratio scale whole i x level positive near =
    let a = floor_of level whole in
    let floor = floor_is level whole positive in
    let low = product_mono (pos i) (whole *ℤ a) level (omega (arith, linear)) floor.at_most in
    let high = product_mono (pos i) level (whole *ℤ a +ℤ whole) (omega (arith, linear)) (omega (arith, linear)) in
    let v0 = var 0 in
    let v1 = var 1 in
    let v2 = var 2 in
    let v3 = var 3 in
    let e1 : pos i *ℤ (whole *ℤ a) ≡ whole *ℤ (pos i *ℤ a) =
    same_by_ring (pos i ∷ whole ∷ a ∷ []) (v0 ⊗ (v1 ⊗ v2)) (v1 ⊗ (v0 ⊗ v2)) refl in
    let e2 : pos i *ℤ (whole *ℤ a +ℤ whole) ≡ whole *ℤ (pos i *ℤ a) +ℤ whole *ℤ pos i =
    same_by_ring (pos i ∷ whole ∷ a ∷ []) (v0 ⊗ (v1 ⊗ v2 ⊕ v1)) (v1 ⊗ (v0 ⊗ v2) ⊕ v1 ⊗ v0) refl in
    let e3 : (scale *ℤ whole) *ℤ x ≡ whole *ℤ (scale *ℤ x) =
    same_by_ring (scale ∷ whole ∷ x ∷ []) (v0 ⊗ v1 ⊗ v2) (v1 ⊗ (v0 ⊗ v2)) refl in
    let e4 : scale *ℤ whole ≡ whole *ℤ scale = same_by_ring (scale ∷ whole ∷ []) (v0 ⊗ v1) (v1 ⊗ v0) refl in
    let e5 : whole *ℤ (scale *ℤ x +ℤ scale) ≡ whole *ℤ (scale *ℤ x) +ℤ whole *ℤ scale =
    same_by_ring (scale ∷ whole ∷ x ∷ []) (v1 ⊗ (v0 ⊗ v2 ⊕ v0)) (v1 ⊗ (v0 ⊗ v2) ⊕ v1 ⊗ v0) refl in
    let e6 : whole *ℤ (pos i *ℤ a +ℤ pos i +ℤ scale) ≡ whole *ℤ (pos i *ℤ a) +ℤ whole *ℤ pos i +ℤ whole *ℤ scale =
    same_by_ring (pos i ∷ whole ∷ a ∷ scale ∷ []) (v1 ⊗ (v0 ⊗ v2 ⊕ v0 ⊕ v3)) (v1 ⊗ (v0 ⊗ v2) ⊕ v1 ⊗ v0 ⊕ v1 ⊗ v3)
    refl in
    record {
      at_least = product_cancel whole (pos i *ℤ a) (scale *ℤ x +ℤ scale) positive (omega (arith, linear));
      at_most = product_cancel whole (scale *ℤ x) (pos i *ℤ a +ℤ pos i +ℤ scale) positive (omega (arith, linear));
    }

-- an indicator's value at a ratio, to the nearest whole unit
pub rounded_at_ratio : (scale : ℤ) (i : ℕ) (ratio : ℤ) → pos 0 <ℤ scale →
    IsAtRatio scale i (round_of (pos i *ℤ ratio) scale) ratio
rounded_at_ratio scale i ratio positive =
    let near = near_rounded (pos i *ℤ ratio) scale (round_of (pos i *ℤ ratio) scale) positive
    (round_is (pos i *ℤ ratio) scale positive) in
    record { at_least = omega (arith, linear); at_most = omega (arith, linear) }
