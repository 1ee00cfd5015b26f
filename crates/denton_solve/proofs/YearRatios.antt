-- The values of a benchmarked year stand at its ratios, which go by the changes into its quarters.
use Rattle.std.specs.Prelude.{◌≡◌, ◌⊎◌, ℕ, ◌^◌, ◌≤◌, ℤ, pos, ◌+ℤ◌, ◌-ℤ◌, ◌*ℤ◌, ◌<ℤ◌, List, [], ◌∷◌, ◌++◌, slice_index}
use Rattle.std.proofs.Common.{refl, sym, ◌∙◌, ap, arith, inl, inr, subst}
use Rattle.ratio_arith.specs.Division.{floor_of}
use Rattle.ratio_arith.specs.Nearness.{IsNear}
use Rattle.ratio_arith.proofs.Floors.{floor_is, floor_exact, floor-add_multiple}
use Rattle.ratio_arith.proofs.Near.{near_at}
use Rattle.ratio_arith.proofs.Linear.{linear}
use Rattle.ratio_arith.proofs.Ring.{same_by_ring, var, num, ◌⊕◌, ◌⊖◌, ◌⊗◌}
use Rattle.sum_rounding.specs.ShareOut.{IsShareOut}
use Rattle.denton_parts.specs.Changes.{Fraction, change_in_year}
use Rattle.denton_parts.specs.Level.{floored_change, level_in, level_unit, ratio_floor, weighed_rises}
use Rattle.denton_solve.specs.Series.{value_part, value_parts, year_series}
use Rattle.denton_parts.specs.Year.{BenchmarkedYear, AreIndicators, year_sum}
use Rattle.denton_parts.proofs.Distances.{IsAtRatio, Follow, more, level_at_ratio}
use Rattle.denton_parts.proofs.Reach.{level_unit_positive, near_floor, near_one_more}
use Rattle.denton_solve.proofs.Values.{year_shares}

-- a part and its share
share_near : (part unit x : ℤ) → pos 0 <ℤ unit → (x ≡ floor_of part unit) ⊎ (x ≡ floor_of part unit +ℤ pos 1) →
    IsNear part (unit *ℤ x) unit
share_near part unit x positive (inl e) =
    near_at _ _ _ _ _ _ refl (ap (λ u. unit *ℤ u) (sym e)) refl (near_floor part unit (floor_of part unit) positive
    (floor_is part unit positive))
share_near part unit x positive (inr e) =
    near_at _ _ _ _ _ _ refl (ap (λ u. unit *ℤ u) (sym e)) refl (near_one_more part unit (floor_of part unit) positive
    (floor_is part unit positive))

-- the ratio of a quarter is that of the year's first quarter, and its rise
ratio_risen : (k : ℕ) (year : BenchmarkedYear) (left right rise level : ℤ) → AreIndicators year.indicators →
    level ≡ pos (10 ^ k) *ℤ year.benchmark -ℤ weighed_rises year.indicators left right
    +ℤ pos (year_sum year.indicators) *ℤ rise →
    floor_of level (pos (year_sum year.indicators)) ≡ floor_of (pos (10 ^ k) *ℤ year.benchmark
    -ℤ weighed_rises year.indicators left right) (pos (year_sum year.indicators)) +ℤ rise
ratio_risen k year left right rise level are e =
    let whole = pos (year_sum year.indicators) in
    let positive : pos 0 <ℤ whole = omega (arith, linear, are.first) in
    ap (λ u. floor_of u whole) e ∙ floor-add_multiple (pos (10 ^ k) *ℤ year.benchmark -ℤ weighed_rises year.indicators
    left right) whole rise positive

-- the change into the year's first quarter is the multiplier before it
first_floor : (year : BenchmarkedYear) (left right : ℤ) → AreIndicators year.indicators →
    floored_change year.indicators left right 0 ≡ left
first_floor year left right are =
    let whole = pos (year_sum year.indicators) in
    let positive : pos 0 <ℤ whole = omega (arith, linear, are.first) in
    let e : left *ℤ (whole -ℤ pos 0) +ℤ right *ℤ pos 0 ≡ whole *ℤ left = same_by_ring (whole ∷ left ∷ right ∷ [])
    (var 1 ⊗ (var 0 ⊖ num (pos 0)) ⊕ var 2 ⊗ num (pos 0)) (var 0 ⊗ var 1) refl in
    ap (λ u. floor_of u whole) e ∙ floor_exact whole left positive

-- the ratios of the year's later quarters are those of the quarters before them, and the floored changes
ratio_steps : (k : ℕ) (year : BenchmarkedYear) (left right : ℤ) → AreIndicators year.indicators →
    (ratio_floor k year left right 1 ≡ ratio_floor k year left right 0 +ℤ floored_change year.indicators left right 1)
    × (ratio_floor k year left right 2 ≡ ratio_floor k year left right 1 +ℤ floored_change year.indicators left right
    2)
    × (ratio_floor k year left right 3 ≡ ratio_floor k year left right 2 +ℤ floored_change year.indicators left right
    3)
ratio_steps k year left right are =
    let e1 = floored_change year.indicators left right 1 in
    let e2 = floored_change year.indicators left right 2 in
    let e3 = floored_change year.indicators left right 3 in
    let first = ratio_risen k year left right (pos 0) (level_in k year left right 0) are refl in
    let second = ratio_risen k year left right e1 (level_in k year left right 1) are refl in
    let third = ratio_risen k year left right (e1 +ℤ e2) (level_in k year left right 2) are refl in
    let fourth = ratio_risen k year left right (e1 +ℤ e2 +ℤ e3) (level_in k year left right 3) are refl in
    stairs (ratio_floor k year left right 0) (ratio_floor k year left right 1) (ratio_floor k year left right 2)
    (ratio_floor k year left right 3)
    (floor_of (pos (10 ^ k) *ℤ year.benchmark -ℤ weighed_rises year.indicators left right)
    (pos (year_sum year.indicators))) e1 e2 e3 first second third fourth
  where
    stairs : (a b c d base e1 e2 e3 : ℤ) → a ≡ base +ℤ pos 0 → b ≡ base +ℤ e1 → c ≡ base +ℤ (e1 +ℤ e2) →
        d ≡ base +ℤ (e1 +ℤ e2 +ℤ e3) → (b ≡ a +ℤ e1) × (c ≡ b +ℤ e2) × (d ≡ c +ℤ e3)
    stairs a b c d base e1 e2 e3 h0 h1 h2 h3 = (omega (arith, linear), omega (arith, linear), omega (arith, linear))

-- a quarter that got its share stands at its ratio
quarter_at : (k : ℕ) (year : BenchmarkedYear) (left right : ℤ) (j i : ℕ) (x : ℤ) → AreIndicators year.indicators →
    slice_index year.indicators j ≡ i →
    (x ≡ floor_of (value_part k year left right j) (level_unit k year))
    ⊎ (x ≡ floor_of (value_part k year left right j) (level_unit k year) +ℤ pos 1) →
    IsAtRatio (pos (10 ^ k)) i x (ratio_floor k year left right j)
quarter_at k year left right j i x are own got =
    let whole = pos (year_sum year.indicators) in
    let positive : pos 0 <ℤ whole = omega (arith, linear, are.first) in
    let near =
    share_near (value_part k year left right j) (level_unit k year) x (level_unit_positive k year are) got in
    level_at_ratio (pos (10 ^ k)) whole i x (level_in k year left right j) positive
    (near_at _ _ _ _ _ _ (ap (λ n. pos n *ℤ level_in k year left right j) own) refl refl near)

-- a ratio that goes exactly by a change
exactly : (a b : ℤ) → a ≡ b → IsNear b a (pos 1001)
exactly a b e = omega (arith, linear)

-- the year's quarters follow those before it, and others follow them
pub year_follow : (k : ℕ) (year : BenchmarkedYear) (left right from : ℤ) (i0 i1 i2 i3 : ℕ) (is : List ℕ) (xs : List ℤ)
    (cs : List Fraction) → AreIndicators year.indicators → year.indicators ≡ i0 ∷ i1 ∷ i2 ∷ i3 ∷ [] →
    IsNear (from +ℤ left) (ratio_floor k year left right 0) (pos 1001) → Follow (pos (10 ^ k))
    (ratio_floor k year left right 3) is xs cs →
    Follow (pos (10 ^ k)) from (i0 ∷ i1 ∷ i2 ∷ i3 ∷ is) (year_series k year left right ++ xs)
    (change_in_year year.indicators left right 0 ∷ change_in_year year.indicators left right 1
    ∷ change_in_year year.indicators left right 2 ∷ change_in_year year.indicators left right 3 ∷ cs)
year_follow k year left right from i0 i1 i2 i3 is xs cs are own near rest =
    by (year_series k year left right) (year_shares k year left right are)
  where
    by : (four : List ℤ) → IsShareOut (value_parts k year left right) (level_unit k year) year.benchmark four →
        Follow (pos (10 ^ k)) from (i0 ∷ i1 ∷ i2 ∷ i3 ∷ is) (four ++ xs)
        (change_in_year year.indicators left right 0 ∷ change_in_year year.indicators left right 1
        ∷ change_in_year year.indicators left right 2 ∷ change_in_year year.indicators left right 3 ∷ cs)
    by [] shares = absurd (omega (arith, shares.same_length))
    by (w ∷ []) shares = absurd (omega (arith, shares.same_length))
    by (w ∷ x ∷ []) shares = absurd (omega (arith, shares.same_length))
    by (w ∷ x ∷ y ∷ []) shares = absurd (omega (arith, shares.same_length))
    by (w ∷ x ∷ y ∷ z ∷ v ∷ vs) shares = absurd (omega (arith, shares.same_length))
    by (w ∷ x ∷ y ∷ z ∷ []) shares =
        let positive : pos 0 <ℤ pos (year_sum year.indicators) = omega (arith, linear, are.first) in
        let one : 1 ≤ i0 = subst (λ (n : ℕ). 1 ≤ n) (ap (λ (l : List ℕ). slice_index l 0) own) are.first.0 in
        let two : 1 ≤ i1 = subst (λ (n : ℕ). 1 ≤ n) (ap (λ (l : List ℕ). slice_index l 1) own) are.second.0 in
        let three : 1 ≤ i2 = subst (λ (n : ℕ). 1 ≤ n) (ap (λ (l : List ℕ). slice_index l 2) own) are.third.0 in
        let four : 1 ≤ i3 = subst (λ (n : ℕ). 1 ≤ n) (ap (λ (l : List ℕ). slice_index l 3) own) are.fourth.0 in
        let steps = ratio_steps k year left right are in
        let at0 = quarter_at k year left right 0 i0 w are (ap (λ (l : List ℕ). slice_index l 0) own)
        (shares.floor_or_more 0 (omega arith)) in
        let at1 = quarter_at k year left right 1 i1 x are (ap (λ (l : List ℕ). slice_index l 1) own)
        (shares.floor_or_more 1 (omega arith)) in
        let at2 = quarter_at k year left right 2 i2 y are (ap (λ (l : List ℕ). slice_index l 2) own)
        (shares.floor_or_more 2 (omega arith)) in
        let at3 = quarter_at k year left right 3 i3 z are (ap (λ (l : List ℕ). slice_index l 3) own)
        (shares.floor_or_more 3 (omega arith)) in
        let r0 = ratio_floor k year left right 0 in
        let r1 = ratio_floor k year left right 1 in
        let r2 = ratio_floor k year left right 2 in
        let r3 = ratio_floor k year left right 3 in
        more from r0 i0 w _ _ _ _ one positive at0 (near_at _ _ _ _ _ _ (ap (λ u. from +ℤ u)
        (sym (first_floor year left right are))) refl refl near)
        (more r0 r1 i1 x _ _ _ _ two positive at1 (exactly r1 (r0 +ℤ floored_change year.indicators left right 1)
        steps.0)
        (more r1 r2 i2 y _ _ _ _ three positive at2 (exactly r2 (r1 +ℤ floored_change year.indicators left right 2)
        steps.1)
        (more r2 r3 i3 z _ _ _ _ four positive at3 (exactly r3 (r2 +ℤ floored_change year.indicators left right 3)
        steps.2) rest)))
