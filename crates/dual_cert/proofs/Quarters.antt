-- One quarter's part of weak duality: the squared change of a series against that of any other, the distance to the given change, and a term that is linear in the two.
use Rattle.std.specs.Prelude.{◌≡◌, ℕ, max, ℤ, pos, ◌+ℤ◌, ◌-ℤ◌, ◌*ℤ◌, neg_ℤ, ◌≤ℤ◌, ◌<ℤ◌, List, [], ◌∷◌, unsigned_abs}
use Rattle.std.proofs.Common.{refl, ap, arith}
use Rattle.std.proofs.lemmas.Int.{ints, by_lt_z}
use Rattle.ratio_arith.specs.Division.{floor_of, ceil_of}
use Rattle.ratio_arith.proofs.Floors.{floor_is, ceil_is}
use Rattle.ratio_arith.proofs.Linear.{linear}
use Rattle.ratio_arith.proofs.Order.{product_mono, product_nonneg, product_strict, square_nonneg, square_within, le_from_rest}
use Rattle.ratio_arith.proofs.Ring.{same_by_ring, var, num, ◌⊕◌, ◌⊖◌, ◌⊗◌, neg}
use Rattle.denton_parts.specs.Ratios.{square}
use Rattle.denton_parts.specs.Changes.{Fraction}
use Rattle.denton_parts.specs.Gap.{low_of, high_of, distance_of}

-- a square is at most another one, the square of the distance to e, and twice e times the difference
pub squares_differ : (a b e : ℤ) → (a *ℤ a) ≤ℤ (b *ℤ b +ℤ (a -ℤ e) *ℤ (a -ℤ e) +ℤ pos 2 *ℤ (e *ℤ (a -ℤ b)))
squares_differ a b e =
    let x = var 0 in
    let y = var 1 in
    let z = var 2 in
    let rest : b *ℤ b +ℤ (a -ℤ e) *ℤ (a -ℤ e) +ℤ pos 2 *ℤ (e *ℤ (a -ℤ b)) -ℤ a *ℤ a ≡ (b -ℤ e) *ℤ (b -ℤ e) = same_by_ring (a ∷ b ∷ e ∷ []) (y ⊗ y ⊕ (x ⊖ z) ⊗ (x ⊖ z) ⊕ num (pos 2) ⊗ (z ⊗ (x ⊖ y)) ⊖ x ⊗ x) ((y ⊖ z) ⊗ (y ⊖ z)) refl in
    le_from_rest (a *ℤ a) (b *ℤ b +ℤ (a -ℤ e) *ℤ (a -ℤ e) +ℤ pos 2 *ℤ (e *ℤ (a -ℤ b))) ((b -ℤ e) *ℤ (b -ℤ e)) rest (square_nonneg (b -ℤ e))

-- a factor of a positive multiple of a positive number is not negative
pub factor_nonneg : (p d whole : ℤ) → pos 0 <ℤ d → pos 0 <ℤ whole → p *ℤ d ≡ whole → pos 0 ≤ℤ p
factor_nonneg p d whole positive more e = by_lt_z p (pos 0) (λ below. absurd (over below)) (λ at_least. at_least)
  where
    over : p <ℤ pos 0 → ⊥
    over below =
        let x = var 0 in
        let y = var 1 in
        let strict = product_strict d p (pos 0) positive below in
        let turned : d *ℤ p ≡ p *ℤ d = same_by_ring (d ∷ p ∷ []) (x ⊗ y) (y ⊗ x) refl in
        let nothing : d *ℤ pos 0 ≡ pos 0 = same_by_ring (d ∷ []) (x ⊗ num (pos 0)) (num (pos 0)) refl in
        omega (arith, linear)

-- a floor and a ceiling times a common multiple bound the numerator times its factor
pub scaled_bounds : (p d whole m : ℤ) → pos 0 <ℤ d → pos 0 ≤ℤ p → p *ℤ d ≡ whole → ((whole *ℤ floor_of m d) ≤ℤ (p *ℤ m)) × ((p *ℤ m) ≤ℤ (whole *ℤ ceil_of m d))
scaled_bounds p d whole m positive least e =
    let x = var 0 in
    let y = var 1 in
    let z = var 2 in
    let floor = floor_is m d positive in
    let ceiling = ceil_is m d positive in
    let low = product_mono p (d *ℤ floor_of m d) m least floor.at_most in
    let high = product_mono p m (d *ℤ ceil_of m d) least ceiling.at_least in
    let first : p *ℤ (d *ℤ floor_of m d) ≡ (p *ℤ d) *ℤ floor_of m d = same_by_ring (p ∷ d ∷ floor_of m d ∷ []) (x ⊗ (y ⊗ z)) (x ⊗ y ⊗ z) refl in
    let second : p *ℤ (d *ℤ ceil_of m d) ≡ (p *ℤ d) *ℤ ceil_of m d = same_by_ring (p ∷ d ∷ ceil_of m d ∷ []) (x ⊗ (y ⊗ z)) (x ⊗ y ⊗ z) refl in
    let third : (p *ℤ d) *ℤ floor_of m d ≡ whole *ℤ floor_of m d = ap (λ u. u *ℤ floor_of m d) e in
    let fourth : (p *ℤ d) *ℤ ceil_of m d ≡ whole *ℤ ceil_of m d = ap (λ u. u *ℤ ceil_of m d) e in
    omega (arith, linear)

-- a quarter's factors: of its indicator for the common multiple, and of its change's denominator for the share
pub record QuarterFits (whole share : ℤ) (i : ℕ) (p : ℤ) (c : Fraction) (q : ℤ) : Type 0 where
  pub indicator : pos 0 <ℤ pos i
  pub factor : p *ℤ pos i ≡ whole
  pub denominator : pos 0 <ℤ c.denominator
  pub part : q *ℤ c.denominator ≡ share

-- the scaled ratio change less the given change, times both multiples
abbrev pub change_left : ℤ → ℤ → ℤ → ℤ → ℤ → ℤ → ℤ → ℤ → Fraction → ℤ
change_left whole share scale o v p x q c = share *ℤ (p *ℤ (scale *ℤ x)) -ℤ share *ℤ (o *ℤ (scale *ℤ v)) -ℤ whole *ℤ (q *ℤ c.numerator)

-- it stands between the rounded bounds
pub change_between : (whole share scale : ℤ) (j : ℕ) (o v : ℤ) (i : ℕ) (p x : ℤ) (c : Fraction) (q : ℤ) → pos 0 <ℤ whole → pos 0 <ℤ share → pos 0 <ℤ pos j → o *ℤ pos j ≡ whole → QuarterFits whole share i p c q → (((whole *ℤ share) *ℤ low_of scale j v i x c) ≤ℤ change_left whole share scale o v p x q c) × (change_left whole share scale o v p x q c ≤ℤ ((whole *ℤ share) *ℤ high_of scale j v i x c))
change_between whole share scale j o v i p x c q more shared before e fits =
    let now = scaled_bounds p (pos i) whole (scale *ℤ x) fits.indicator (factor_nonneg p (pos i) whole fits.indicator more fits.factor) fits.factor in
    let last = scaled_bounds o (pos j) whole (scale *ℤ v) before (factor_nonneg o (pos j) whole before more e) e in
    let given = scaled_bounds q c.denominator share c.numerator fits.denominator (factor_nonneg q c.denominator share fits.denominator shared fits.part) fits.part in
    let least : pos 0 ≤ℤ share = omega (arith, linear) in
    let some : pos 0 ≤ℤ whole = omega (arith, linear) in
    let now_low = product_mono share (whole *ℤ floor_of (scale *ℤ x) (pos i)) (p *ℤ (scale *ℤ x)) least now.0 in
    let now_high = product_mono share (p *ℤ (scale *ℤ x)) (whole *ℤ ceil_of (scale *ℤ x) (pos i)) least now.1 in
    let last_low = product_mono share (whole *ℤ floor_of (scale *ℤ v) (pos j)) (o *ℤ (scale *ℤ v)) least last.0 in
    let last_high = product_mono share (o *ℤ (scale *ℤ v)) (whole *ℤ ceil_of (scale *ℤ v) (pos j)) least last.1 in
    let given_low = product_mono whole (share *ℤ floor_of c.numerator c.denominator) (q *ℤ c.numerator) some given.0 in
    let given_high = product_mono whole (q *ℤ c.numerator) (share *ℤ ceil_of c.numerator c.denominator) some given.1 in
    let w = var 0 in
    let s = var 1 in
    let a = var 2 in
    let b = var 3 in
    let d = var 4 in
    let low : (whole *ℤ share) *ℤ low_of scale j v i x c ≡ share *ℤ (whole *ℤ floor_of (scale *ℤ x) (pos i)) -ℤ share *ℤ (whole *ℤ ceil_of (scale *ℤ v) (pos j)) -ℤ whole *ℤ (share *ℤ ceil_of c.numerator c.denominator) = same_by_ring (whole ∷ share ∷ floor_of (scale *ℤ x) (pos i) ∷ ceil_of (scale *ℤ v) (pos j) ∷ ceil_of c.numerator c.denominator ∷ []) (w ⊗ s ⊗ (a ⊖ b ⊖ d)) (s ⊗ (w ⊗ a) ⊖ s ⊗ (w ⊗ b) ⊖ w ⊗ (s ⊗ d)) refl in
    let high : (whole *ℤ share) *ℤ high_of scale j v i x c ≡ share *ℤ (whole *ℤ ceil_of (scale *ℤ x) (pos i)) -ℤ share *ℤ (whole *ℤ floor_of (scale *ℤ v) (pos j)) -ℤ whole *ℤ (share *ℤ floor_of c.numerator c.denominator) = same_by_ring (whole ∷ share ∷ ceil_of (scale *ℤ x) (pos i) ∷ floor_of (scale *ℤ v) (pos j) ∷ floor_of c.numerator c.denominator ∷ []) (w ⊗ s ⊗ (a ⊖ b ⊖ d)) (s ⊗ (w ⊗ a) ⊖ s ⊗ (w ⊗ b) ⊖ w ⊗ (s ⊗ d)) refl in
    omega (arith, linear)

-- the greater of two sizes bounds the one number from below and the other from above
pub below_greater : (low high : ℤ) → (neg_ℤ (pos (max (unsigned_abs low) (unsigned_abs high))) ≤ℤ low) × (high ≤ℤ pos (max (unsigned_abs low) (unsigned_abs high)))
below_greater low high = omega (arith, ints)

-- so its square is at most the squared distance times both multiples' squares
pub square_of_change : (whole share scale : ℤ) (j : ℕ) (o v : ℤ) (i : ℕ) (p x : ℤ) (c : Fraction) (q : ℤ) → pos 0 <ℤ whole → pos 0 <ℤ share → pos 0 <ℤ pos j → o *ℤ pos j ≡ whole → QuarterFits whole share i p c q → square (change_left whole share scale o v p x q c) ≤ℤ square ((whole *ℤ share) *ℤ distance_of scale j v i x c)
square_of_change whole share scale j o v i p x c q more shared before e fits =
    let between = change_between whole share scale j o v i p x c q more shared before e fits in
    let greater = below_greater (low_of scale j v i x c) (high_of scale j v i x c) in
    let h = distance_of scale j v i x c in
    let positive : pos 0 ≤ℤ (whole *ℤ share) = product_nonneg whole share (omega (arith, linear)) (omega (arith, linear)) in
    let low = product_mono (whole *ℤ share) (neg_ℤ (distance_of scale j v i x c)) (low_of scale j v i x c) positive greater.0 in
    let high = product_mono (whole *ℤ share) (high_of scale j v i x c) (distance_of scale j v i x c) positive greater.1 in
    let a = var 0 in
    let b = var 1 in
    let sign : (whole *ℤ share) *ℤ neg_ℤ (distance_of scale j v i x c) ≡ neg_ℤ ((whole *ℤ share) *ℤ distance_of scale j v i x c) = same_by_ring ((whole *ℤ share) ∷ distance_of scale j v i x c ∷ []) (a ⊗ neg b) (neg (a ⊗ b)) refl in
    square_within (change_left whole share scale o v p x q c) ((whole *ℤ share) *ℤ distance_of scale j v i x c) (omega (arith, linear)) (omega (arith, linear))

-- the four coefficients of the inequality: of the series' squared changes, the other's, the squared distances, and the balance
abbrev pub of_series : ℤ → ℤ → ℤ → ℤ
of_series n scale share = n *ℤ n *ℤ (scale *ℤ scale) *ℤ (share *ℤ share)

abbrev pub of_other : ℤ → ℤ → ℤ
of_other scale share = scale *ℤ scale *ℤ (share *ℤ share)

abbrev pub of_gap : ℤ → ℤ → ℤ → ℤ
of_gap n whole share = n *ℤ n *ℤ (whole *ℤ whole) *ℤ (share *ℤ share)

abbrev pub of_balance : ℤ → ℤ → ℤ → ℤ → ℤ
of_balance n whole scale share = pos 2 *ℤ (n *ℤ whole *ℤ (scale *ℤ share))

-- one quarter: the series' squared change is at most the other's, the squared distance, and a part of the balance
pub quarter_term : (n whole share scale : ℤ) (j : ℕ) (o v y : ℤ) (i : ℕ) (p x z : ℤ) (c : Fraction) (q : ℤ) → pos 0 <ℤ whole → pos 0 <ℤ share → pos 0 <ℤ pos j → o *ℤ pos j ≡ whole → QuarterFits whole share i p c q → (of_series n scale share *ℤ square (p *ℤ x -ℤ o *ℤ v)) ≤ℤ (of_other scale share *ℤ square (p *ℤ z -ℤ o *ℤ y) +ℤ of_gap n whole share *ℤ square (distance_of scale j v i x c) +ℤ of_balance n whole scale share *ℤ (q *ℤ c.numerator *ℤ (p *ℤ (n *ℤ x -ℤ z) -ℤ o *ℤ (n *ℤ v -ℤ y))))
quarter_term n whole share scale j o v y i p x z c q more shared before fit fits =
    let h = distance_of scale j v i x c in
    let a = n *ℤ scale *ℤ share *ℤ (p *ℤ x -ℤ o *ℤ v) in
    let b = scale *ℤ share *ℤ (p *ℤ z -ℤ o *ℤ y) in
    let e = n *ℤ whole *ℤ (q *ℤ c.numerator) in
    let m = change_left whole share scale o v p x q c in
    let bound = square_of_change whole share scale j o v i p x c q more shared before fit fits in
    let kept = product_mono (n *ℤ n) (square m) (square ((whole *ℤ share) *ℤ h)) (square_nonneg n) bound in
    join_terms n whole share scale o v y p x z q c.numerator h kept
  where
    join_terms : (n whole share scale o v y p x z q m h : ℤ) → ((n *ℤ n) *ℤ square (share *ℤ (p *ℤ (scale *ℤ x)) -ℤ share *ℤ (o *ℤ (scale *ℤ v)) -ℤ whole *ℤ (q *ℤ m))) ≤ℤ ((n *ℤ n) *ℤ square ((whole *ℤ share) *ℤ h)) → (of_series n scale share *ℤ square (p *ℤ x -ℤ o *ℤ v)) ≤ℤ (of_other scale share *ℤ square (p *ℤ z -ℤ o *ℤ y) +ℤ of_gap n whole share *ℤ square h +ℤ of_balance n whole scale share *ℤ (q *ℤ m *ℤ (p *ℤ (n *ℤ x -ℤ z) -ℤ o *ℤ (n *ℤ v -ℤ y))))
    join_terms n whole share scale o v y p x z q m h kept =
        let values : List ℤ = n ∷ whole ∷ share ∷ scale ∷ o ∷ v ∷ y ∷ p ∷ x ∷ z ∷ q ∷ m ∷ h ∷ [] in
        let tn = var 0 in
        let tw = var 1 in
        let ts = var 2 in
        let td = var 3 in
        let to = var 4 in
        let tv = var 5 in
        let ty = var 6 in
        let tp = var 7 in
        let tx = var 8 in
        let tz = var 9 in
        let tq = var 10 in
        let tm = var 11 in
        let th = var 12 in
        let a = n *ℤ scale *ℤ share *ℤ (p *ℤ x -ℤ o *ℤ v) in
        let b = scale *ℤ share *ℤ (p *ℤ z -ℤ o *ℤ y) in
        let e = n *ℤ whole *ℤ (q *ℤ m) in
        let ta = tn ⊗ td ⊗ ts ⊗ (tp ⊗ tx ⊖ to ⊗ tv) in
        let tb = td ⊗ ts ⊗ (tp ⊗ tz ⊖ to ⊗ ty) in
        let te = tn ⊗ tw ⊗ (tq ⊗ tm) in
        let tc = ts ⊗ (tp ⊗ (td ⊗ tx)) ⊖ ts ⊗ (to ⊗ (td ⊗ tv)) ⊖ tw ⊗ (tq ⊗ tm) in
        let differ = squares_differ a b e in
        let series : a *ℤ a ≡ of_series n scale share *ℤ square (p *ℤ x -ℤ o *ℤ v) = same_by_ring values (ta ⊗ ta) (tn ⊗ tn ⊗ (td ⊗ td) ⊗ (ts ⊗ ts) ⊗ ((tp ⊗ tx ⊖ to ⊗ tv) ⊗ (tp ⊗ tx ⊖ to ⊗ tv))) refl in
        let other : b *ℤ b ≡ of_other scale share *ℤ square (p *ℤ z -ℤ o *ℤ y) = same_by_ring values (tb ⊗ tb) (td ⊗ td ⊗ (ts ⊗ ts) ⊗ ((tp ⊗ tz ⊖ to ⊗ ty) ⊗ (tp ⊗ tz ⊖ to ⊗ ty))) refl in
        let change : (a -ℤ e) *ℤ (a -ℤ e) ≡ (n *ℤ n) *ℤ square (share *ℤ (p *ℤ (scale *ℤ x)) -ℤ share *ℤ (o *ℤ (scale *ℤ v)) -ℤ whole *ℤ (q *ℤ m)) = same_by_ring values ((ta ⊖ te) ⊗ (ta ⊖ te)) (tn ⊗ tn ⊗ (tc ⊗ tc)) refl in
        let gap : (n *ℤ n) *ℤ square ((whole *ℤ share) *ℤ h) ≡ of_gap n whole share *ℤ square h = same_by_ring values (tn ⊗ tn ⊗ (tw ⊗ ts ⊗ th ⊗ (tw ⊗ ts ⊗ th))) (tn ⊗ tn ⊗ (tw ⊗ tw) ⊗ (ts ⊗ ts) ⊗ (th ⊗ th)) refl in
        let balance : pos 2 *ℤ (e *ℤ (a -ℤ b)) ≡ of_balance n whole scale share *ℤ (q *ℤ m *ℤ (p *ℤ (n *ℤ x -ℤ z) -ℤ o *ℤ (n *ℤ v -ℤ y))) = same_by_ring values (num (pos 2) ⊗ (te ⊗ (ta ⊖ tb))) (num (pos 2) ⊗ (tn ⊗ tw ⊗ (td ⊗ ts)) ⊗ (tq ⊗ tm ⊗ (tp ⊗ (tn ⊗ tx ⊖ tz) ⊖ to ⊗ (tn ⊗ tv ⊖ ty)))) refl in
        omega (arith, linear)
