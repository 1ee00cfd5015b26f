-- The values between two benchmarked years: how far the ratios and the values reach, and the loop that writes them.
use Rattle.std.specs.Prelude.{◌≡◌, ℕ, ◌+◌, ◌*◌, ◌^◌, ◌≤◌, ◌<◌, ℤ, pos, ◌+ℤ◌, ◌-ℤ◌, ◌*ℤ◌, ◌≤ℤ◌, ◌<ℤ◌, negsuc, neg_ℤ, List, [], ◌∷◌, ◌++◌, length, take, drop, slice_index, unsigned_abs, EachIndex}
use Rattle.std.proofs.Common.{refl, ◌∙◌, ap, arith, zero, suc, get_or, set, drop-cons}
use Rattle.std.proofs.Math.Nat.{pow-le-pow_right, one-le-pow}
use Rattle.std.proofs.Math.Numerals.{add-one}
use Rattle.std.proofs.lemmas.Int.{unsigned_abs-mul}
use Rattle.std.proofs.lemmas.List.{append-nil, append_assoc, take_more_set, take_all, drop_all}
use Rattle.ratio_arith.specs.Division.{floor_of, round_of}
use Rattle.ratio_arith.proofs.Floors.{floor_exact, floor_mono, round_is}
use Rattle.ratio_arith.proofs.Linear.{linear}
use Rattle.ratio_arith.proofs.Order.{product_mono, product_nonneg, size-*ℤ}
use Rattle.ratio_arith.proofs.Ring.{same_by_ring, var, num, neg, ◌⊗◌}
use Rattle.denton_parts.specs.Level.{ratio_floor}
use Rattle.denton_parts.specs.Year.{BenchmarkedYear, AreIndicators, IsIndicator, IsMultiplier, year_sum}
use Rattle.denton_parts.proofs.Reach.{near_rounded, ratio_within}
use Rattle.extrapolate.specs.Carried.{ratio_between, stepped, across_of}

-- a floor is between two numbers where the numerator is between their multiples
floor_between : (n d low high : ℤ) → pos 0 <ℤ d → (d *ℤ low) ≤ℤ n → n ≤ℤ (d *ℤ high) →
    (low ≤ℤ floor_of n d) × (floor_of n d ≤ℤ high)
floor_between n d low high positive above below =
    let least = floor_mono (d *ℤ low) n d positive above in
    let most = floor_mono n (d *ℤ high) d positive below in
    let same_low = floor_exact d low positive in
    let same_high = floor_exact d high positive in
    (omega (arith, linear), omega (arith, linear))

-- a part of a rise is between nothing and the rise
part_of_rise : (rise : ℤ) (steps step : ℕ) → 1 ≤ steps → step ≤ steps → pos 0 ≤ℤ rise →
    (pos 0 ≤ℤ floor_of (pos step *ℤ rise) (pos steps)) × (floor_of (pos step *ℤ rise) (pos steps) ≤ℤ rise)
part_of_rise rise steps step some inside up =
    let none : pos steps *ℤ pos 0 ≡ pos 0 = same_by_ring (pos steps ∷ []) (var 0 ⊗ num (pos 0)) (num (pos 0)) refl in
    let least = product_nonneg (pos step) rise (omega (arith, linear)) up in
    let most = product_mono rise (pos step) (pos steps) up (omega (arith, linear)) in
    let turned : rise *ℤ pos step ≡ pos step *ℤ rise = same_by_ring (rise ∷ pos step ∷ []) (var 0 ⊗ var 1)
    (var 1 ⊗ var 0) refl in
    let turned_all : rise *ℤ pos steps ≡ pos steps *ℤ rise = same_by_ring (rise ∷ pos steps ∷ []) (var 0 ⊗ var 1)
    (var 1 ⊗ var 0) refl in
    floor_between (pos step *ℤ rise) (pos steps) (pos 0) rise (omega (arith, linear)) (omega (arith, linear))
    (omega (arith, linear))

-- a part of a fall is between the fall and nothing
part_of_fall : (rise : ℤ) (steps step : ℕ) → 1 ≤ steps → step ≤ steps → rise ≤ℤ pos 0 →
    (rise ≤ℤ floor_of (pos step *ℤ rise) (pos steps)) × (floor_of (pos step *ℤ rise) (pos steps) ≤ℤ pos 0)
part_of_fall rise steps step some inside down =
    let none : pos steps *ℤ pos 0 ≡ pos 0 = same_by_ring (pos steps ∷ []) (var 0 ⊗ num (pos 0)) (num (pos 0)) refl in
    let least = product_nonneg (pos step) (neg_ℤ rise) (omega (arith, linear)) (omega (arith, linear)) in
    let most = product_mono (neg_ℤ rise) (pos step) (pos steps) (omega (arith, linear)) (omega (arith, linear)) in
    let turned : neg_ℤ rise *ℤ pos step ≡ neg_ℤ (pos step *ℤ rise) = same_by_ring (rise ∷ pos step ∷ [])
    (neg (var 0) ⊗ var 1) (neg (var 1 ⊗ var 0)) refl in
    let turned_all : neg_ℤ rise *ℤ pos steps ≡ neg_ℤ (pos steps *ℤ rise) = same_by_ring (rise ∷ pos steps ∷ [])
    (neg (var 0) ⊗ var 1) (neg (var 1 ⊗ var 0)) refl in
    let sign : pos step *ℤ neg_ℤ rise ≡ neg_ℤ (pos step *ℤ rise) = same_by_ring (rise ∷ pos step ∷ [])
    (var 1 ⊗ neg (var 0)) (neg (var 1 ⊗ var 0)) refl in
    floor_between (pos step *ℤ rise) (pos steps) rise (pos 0) (omega (arith, linear)) (omega (arith, linear))
    (omega (arith, linear))

-- the ratio at a step between two ratios is no larger than they are
pub between_within : (from to : ℤ) (steps step m : ℕ) → 1 ≤ steps → step ≤ steps → unsigned_abs from ≤ m →
    unsigned_abs to ≤ m → unsigned_abs (ratio_between from to steps step) ≤ m
between_within from to steps step m some inside first second = by_sign (to -ℤ from) refl
  where
    by_sign : (rise : ℤ) → rise ≡ to -ℤ from → unsigned_abs (from +ℤ floor_of (pos step *ℤ rise) (pos steps)) ≤ m
    by_sign (pos n) e = let part = part_of_rise (pos n) steps step some inside (omega (arith, linear)) in
        omega (arith, linear)
    by_sign (negsuc n) e = let part = part_of_fall (negsuc n) steps step some inside (omega (arith, linear)) in
        omega (arith, linear)

-- a value at such a ratio reaches no further than 8 * 10^15 times its indicator
rounded_within : (k i : ℕ) (ratio : ℤ) → k ≤ 15 → 1 ≤ i → unsigned_abs ratio ≤ 7 * 10 ^ 15 →
    10 ^ k * unsigned_abs (round_of (pos i *ℤ ratio) (pos (10 ^ k))) ≤ 8 * 10 ^ 15 * i
rounded_within k i ratio small some within =
    let least : 1 ≤ 10 ^ k = one-le-pow k 10 (omega arith) in
    let most : 10 ^ k ≤ 10 ^ 15 = pow-le-pow_right (omega arith) small in
    let positive : pos 0 <ℤ pos (10 ^ k) = omega (arith, linear) in
    let value : ℤ = round_of (pos i *ℤ ratio) (pos (10 ^ k)) in
    let near = near_rounded (pos i *ℤ ratio) (pos (10 ^ k)) value positive
    (round_is (pos i *ℤ ratio) (pos (10 ^ k)) positive) in
    let size : unsigned_abs (pos i *ℤ ratio) ≤ i * (7 * 10 ^ 15) = size-*ℤ (pos i) ratio i (7 * 10 ^ 15) (omega arith)
    within in
    let product = unsigned_abs-mul (pos (10 ^ k)) value in
    let far : unsigned_abs (pos (10 ^ k) *ℤ value) ≤ unsigned_abs (pos i *ℤ ratio) + 10 ^ k = omega (arith, linear) in
    omega arith

-- so do all of them
pub stepped_within : (k : ℕ) (from to : ℤ) (steps step : ℕ) (indicators : List ℕ) → k ≤ 15 →
    unsigned_abs from ≤ 7 * 10 ^ 15 → unsigned_abs to ≤ 7 * 10 ^ 15 → step + length indicators ≤ steps →
    EachIndex indicators (λ t. IsIndicator (slice_index indicators t)) → (t : ℕ) →
    t < length (stepped k from to steps step indicators) →
    10 ^ k * unsigned_abs (get_or (stepped k from to steps step indicators) t (pos 0))
    ≤ 8 * 10 ^ 15 * slice_index indicators t
stepped_within k from to steps step [] small first second room each t inside = absurd (omega arith)
stepped_within k from to steps step (i ∷ indicators) small first second room each zero inside =
    rounded_within k i (ratio_between from to steps step) small (each 0 (omega arith)).0
    (between_within from to steps step (7 * 10 ^ 15) (omega arith) (omega arith) first second)
stepped_within k from to steps step (i ∷ indicators) small first second room each (suc t) inside =
    stepped_within k from to steps (suc step) indicators small first second (omega arith)
    (λ u h. each (suc u) (omega arith)) t (omega arith)

-- there are as many as indicators
pub stepped_count : (k : ℕ) (from to : ℤ) (steps step : ℕ) (indicators : List ℕ) →
    length (stepped k from to steps step indicators) ≡ length indicators
stepped_count k from to steps step [] = refl
stepped_count k from to steps step (i ∷ indicators) = ap suc (stepped_count k from to steps (suc step) indicators)

-- the values between two benchmarked years reach no further
pub across_within : (k : ℕ) (left right : BenchmarkedYear) (before own after : ℤ) (out : List ℤ) (indicators : List ℕ) →
    out ≡ across_of k left right before own after indicators → k ≤ 15 →
    10 ^ k * unsigned_abs left.benchmark ≤ 10 ^ 13 * year_sum left.indicators →
    10 ^ k * unsigned_abs right.benchmark ≤ 10 ^ 13 * year_sum right.indicators → AreIndicators left.indicators →
    AreIndicators right.indicators → IsMultiplier before → IsMultiplier own → IsMultiplier after →
    EachIndex indicators (λ t. IsIndicator (slice_index indicators t)) → (t : ℕ) → t < length out →
    10 ^ k * unsigned_abs (get_or out t (pos 0)) ≤ 8 * 10 ^ 15 * slice_index indicators t
unfolding across_of
across_within k left right before own after out indicators e small left_fits right_fits left_are right_are first second
    third each t inside =
    let from = ratio_within k left before own 3 left_are first second left_fits in
    let to = ratio_within k right own after 0 right_are second third right_fits in
    rw e (stepped_within k (ratio_floor k left before own 3) (ratio_floor k right own after 0) (suc (length indicators))
    1 indicators small from to (omega arith) each t (rw e at inside))

-- and are as many as their indicators
pub across_count : (k : ℕ) (left right : BenchmarkedYear) (before own after : ℤ) (indicators : List ℕ) →
    length (across_of k left right before own after indicators) ≡ length indicators
unfolding across_of
across_count k left right before own after indicators = stepped_count k (ratio_floor k left before own 3)
    (ratio_floor k right own after 0) (suc (length indicators)) 1 indicators

-- one more value is written
pub stepped_next : (k : ℕ) (from to : ℤ) (steps : ℕ) (xs : List ℕ) (out whole : List ℤ) (t : ℕ) (value : ℤ) →
    t < length xs → t < length out →
    value ≡ round_of (pos (get_or xs t 0) *ℤ ratio_between from to steps (suc t)) (pos (10 ^ k)) →
    take t out ++ stepped k from to steps (suc t) (drop t xs) ≡ whole →
    take (t + 1) (set out t value) ++ stepped k from to steps (suc (t + 1)) (drop (t + 1) xs) ≡ whole
stepped_next k from to steps xs out whole t value inside room e_value e =
    rw (take_more_set out t value room, append_assoc, add-one, e_value) (rw (drop-cons xs t 0 inside) at e)

-- the value that the code makes
pub value_is : (k : ℕ) (from to ratio unit value : ℤ) (i steps t : ℕ) →
    ratio ≡ ratio_between from to (steps + 1) (t + 1) → unit ≡ pos (10 ^ k) → value ≡ round_of (pos i *ℤ ratio) unit →
    value ≡ round_of (pos i *ℤ ratio_between from to (suc steps) (suc t)) (pos (10 ^ k))
value_is k from to ratio unit value i steps t e_ratio e_unit e =
    let all : steps + 1 ≡ suc steps = omega arith in
    let next : t + 1 ≡ suc t = omega arith in
    let same : ratio ≡ ratio_between from to (suc steps) (suc t) =
    e_ratio ∙ ap (λ (n : ℕ). ratio_between from to n (t + 1)) all
    ∙ ap (λ (n : ℕ). ratio_between from to (suc steps) n) next in
    e ∙ ap (λ (n : ℤ). round_of (pos i *ℤ n) unit) same
    ∙ ap (λ (n : ℤ). round_of (pos i *ℤ ratio_between from to (suc steps) (suc t)) n) e_unit

-- all values are written
pub stepped_all : (k : ℕ) (from to : ℤ) (steps : ℕ) (xs : List ℕ) (out whole : List ℤ) (t : ℕ) → length xs ≤ t →
    length out ≤ t → take t out ++ stepped k from to steps (suc t) (drop t xs) ≡ whole → out ≡ whole
stepped_all k from to steps xs out whole t done room e = rw (take_all t out room, drop_all t xs done, append-nil) at e

-- values at the ratios from the end of one year to the beginning of another are those of the definition
pub across_is : (k : ℕ) (left right : BenchmarkedYear) (before own after from to : ℤ) (indicators : List ℕ)
    (out : List ℤ) →
    from ≡ ratio_floor k left before own 3 → to ≡ ratio_floor k right own after 0 →
    out ≡ stepped k from to (suc (length indicators)) 1 indicators →
    out ≡ across_of k left right before own after indicators
unfolding across_of
across_is k left right before own after from to indicators out e_from e_to e =
    e ∙ ap (λ (n : ℤ). stepped k n to (suc (length indicators)) 1 indicators) e_from
    ∙ ap (λ (n : ℤ). stepped k (ratio_floor k left before own 3) n (suc (length indicators)) 1 indicators) e_to
