-- A sweep brings two rows of multipliers nearer.
use Rattle.std.specs.Prelude.{◌≡◌, ℕ, ◌+◌, ◌*◌, ◌^◌, ◌≤◌, ◌<◌, max, ℤ, pos, ◌+ℤ◌, ◌-ℤ◌, ◌*ℤ◌, neg_ℤ, ◌≤ℤ◌, ◌<ℤ◌, List, [], ◌∷◌, length, slice_index, unsigned_abs}
use Rattle.std.specs.List.{All}
use Rattle.std.proofs.Common.{refl, arith, zero, suc}
use Rattle.std.proofs.lemmas.Int.{ints, clamps}
use Rattle.ratio_arith.specs.Division.{floor_of}
use Rattle.ratio_arith.specs.Nearness.{IsNear}
use Rattle.ratio_arith.proofs.Linear.{linear, literal_product}
use Rattle.ratio_arith.proofs.Near.{near_at, floors_near}
use Rattle.ratio_arith.proofs.Order.{product_mono, product_strict, product_nonneg, square_nonneg}
use Rattle.ratio_arith.proofs.Ring.{same_by_ring, var, num, ◌⊕◌, ◌⊖◌, ◌⊗◌, neg}
use Rattle.denton_parts.specs.Level.{floored_change, level_in, ratio_floor}
use Rattle.denton_parts.specs.Year.{BenchmarkedYear, AreIndicators, year_sum}
use Rattle.denton_solve.specs.Settling.{greatest_difference, SweepsComeNear}
use Rattle.denton_solve.specs.Sweeps.{before_quarter, from_quarter, residual_of, weight_of, width_of, moved_of, cut_of, first_of, sweep_from, sweep_of}
use Rattle.denton_solve.proofs.Steepness.{crossed, squared, half, shares_bound, both, steepness, sideways, cross_bound, residual_near, weight_bounds, settle, square_positive}
use Rattle.denton_solve.proofs.Shares.{share_bounds}

-- how a year's last level changes with the changes into its quarters
pub last_change : (k : ℕ) (year : BenchmarkedYear) (l u a b : ℤ) →
    level_in k year l u 3 -ℤ level_in k year a b 3 ≡
    before_quarter year 1 *ℤ (floored_change year.indicators l u 1 -ℤ floored_change year.indicators a b 1)
    +ℤ before_quarter year 2 *ℤ (floored_change year.indicators l u 2 -ℤ floored_change year.indicators a b 2)
    +ℤ before_quarter year 3 *ℤ (floored_change year.indicators l u 3 -ℤ floored_change year.indicators a b 3)
last_change k year l u a b =
    let i0 = var 0 in
    let i1 = var 1 in
    let i2 = var 2 in
    let i3 = var 3 in
    let scaled = var 4 ⊗ var 5 in
    let e1 = var 6 in
    let e2 = var 7 in
    let e3 = var 8 in
    let f1 = var 9 in
    let f2 = var 10 in
    let f3 = var 11 in
    let sum = i0 ⊕ i1 ⊕ i2 ⊕ i3 in
    same_by_ring (pos (slice_index year.indicators 0) ∷ pos (slice_index year.indicators 1)
    ∷ pos (slice_index year.indicators 2) ∷ pos (slice_index year.indicators 3)
    ∷ pos (10 ^ k) ∷ year.benchmark
    ∷ floored_change year.indicators l u 1 ∷ floored_change year.indicators l u 2 ∷ floored_change year.indicators
    l u 3
    ∷ floored_change year.indicators a b 1 ∷ floored_change year.indicators a b 2 ∷ floored_change year.indicators
    a b 3 ∷ [])
    ((scaled ⊖ (i1 ⊗ e1 ⊕ i2 ⊗ (e1 ⊕ e2) ⊕ i3 ⊗ (e1 ⊕ e2 ⊕ e3)) ⊕ sum ⊗ (e1 ⊕ e2 ⊕ e3))
    ⊖ (scaled ⊖ (i1 ⊗ f1 ⊕ i2 ⊗ (f1 ⊕ f2) ⊕ i3 ⊗ (f1 ⊕ f2 ⊕ f3)) ⊕ sum ⊗ (f1 ⊕ f2 ⊕ f3)))
    (i0 ⊗ (e1 ⊖ f1) ⊕ (i0 ⊕ i1) ⊗ (e2 ⊖ f2) ⊕ (i0 ⊕ i1 ⊕ i2) ⊗ (e3 ⊖ f3)) refl

-- and its first level
pub first_change : (k : ℕ) (year : BenchmarkedYear) (l u a b : ℤ) →
    level_in k year l u 0 -ℤ level_in k year a b 0 ≡
    neg_ℤ (from_quarter year 1 *ℤ (floored_change year.indicators l u 1 -ℤ floored_change year.indicators a b 1)
    +ℤ from_quarter year 2 *ℤ (floored_change year.indicators l u 2 -ℤ floored_change year.indicators a b 2)
    +ℤ from_quarter year 3 *ℤ (floored_change year.indicators l u 3 -ℤ floored_change year.indicators a b 3))
first_change k year l u a b =
    let i0 = var 0 in
    let i1 = var 1 in
    let i2 = var 2 in
    let i3 = var 3 in
    let scaled = var 4 ⊗ var 5 in
    let e1 = var 6 in
    let e2 = var 7 in
    let e3 = var 8 in
    let f1 = var 9 in
    let f2 = var 10 in
    let f3 = var 11 in
    let sum = i0 ⊕ i1 ⊕ i2 ⊕ i3 in
    same_by_ring (pos (slice_index year.indicators 0) ∷ pos (slice_index year.indicators 1)
    ∷ pos (slice_index year.indicators 2) ∷ pos (slice_index year.indicators 3)
    ∷ pos (10 ^ k) ∷ year.benchmark
    ∷ floored_change year.indicators l u 1 ∷ floored_change year.indicators l u 2 ∷ floored_change year.indicators
    l u 3
    ∷ floored_change year.indicators a b 1 ∷ floored_change year.indicators a b 2 ∷ floored_change year.indicators
    a b 3 ∷ [])
    ((scaled ⊖ (i1 ⊗ e1 ⊕ i2 ⊗ (e1 ⊕ e2) ⊕ i3 ⊗ (e1 ⊕ e2 ⊕ e3)) ⊕ sum ⊗ num (pos 0))
    ⊖ (scaled ⊖ (i1 ⊗ f1 ⊕ i2 ⊗ (f1 ⊕ f2) ⊕ i3 ⊗ (f1 ⊕ f2 ⊕ f3)) ⊕ sum ⊗ num (pos 0)))
    (neg ((sum ⊖ i0) ⊗ (e1 ⊖ f1) ⊕ (sum ⊖ (i0 ⊕ i1)) ⊗ (e2 ⊖ f2) ⊕ (sum ⊖ (i0 ⊕ i1 ⊕ i2)) ⊗ (e3 ⊖ f3))) refl

-- the floored changes of two pairs of multipliers, in a year with the sum `whole`, at a quarter with `part` before it
floors_apart : (whole part l u a b : ℤ) → pos 0 <ℤ whole →
    IsNear ((l -ℤ a) *ℤ (whole -ℤ part) +ℤ (u -ℤ b) *ℤ part) (whole *ℤ (floor_of (l *ℤ (whole -ℤ part) +ℤ u *ℤ part)
    whole -ℤ floor_of (a *ℤ (whole -ℤ part) +ℤ b *ℤ part) whole)) whole
floors_apart whole part l u a b positive =
    let near = floors_near (l *ℤ (whole -ℤ part) +ℤ u *ℤ part) (a *ℤ (whole -ℤ part) +ℤ b *ℤ part) whole positive in
    let x = var 0 in
    let y = var 1 in
    let e : (l *ℤ (whole -ℤ part) +ℤ u *ℤ part) -ℤ (a *ℤ (whole -ℤ part) +ℤ b *ℤ part) ≡ (l -ℤ a) *ℤ (whole -ℤ part)
    +ℤ (u -ℤ b) *ℤ part =
    same_by_ring (whole ∷ part ∷ l ∷ u ∷ a ∷ b ∷ []) ((var 2 ⊗ (x ⊖ y) ⊕ var 3 ⊗ y)
    ⊖ (var 4 ⊗ (x ⊖ y) ⊕ var 5 ⊗ y)) ((var 2 ⊖ var 4) ⊗ (x ⊖ y) ⊕ (var 3 ⊖ var 5) ⊗ y) refl in
    omega (arith, linear)

-- the same with the two sides of the quarter exchanged
floors_turned : (whole part l u a b : ℤ) → pos 0 <ℤ whole →
    IsNear ((u -ℤ b) *ℤ (whole -ℤ (whole -ℤ part)) +ℤ (l -ℤ a) *ℤ (whole -ℤ part))
    (whole *ℤ (floor_of (l *ℤ (whole -ℤ part) +ℤ u *ℤ part) whole -ℤ floor_of (a *ℤ (whole -ℤ part) +ℤ b *ℤ part)
    whole)) whole
floors_turned whole part l u a b positive =
    let near = floors_apart whole part l u a b positive in
    let x = var 0 in
    let y = var 1 in
    let e : (u -ℤ b) *ℤ (whole -ℤ (whole -ℤ part)) +ℤ (l -ℤ a) *ℤ (whole -ℤ part) ≡ (l -ℤ a) *ℤ (whole -ℤ part)
    +ℤ (u -ℤ b) *ℤ part =
    same_by_ring (whole ∷ part ∷ l ∷ u ∷ a ∷ b ∷ []) ((var 3 ⊖ var 5) ⊗ (x ⊖ (x ⊖ y)) ⊕ (var 2 ⊖ var 4) ⊗ (x ⊖ y))
    ((var 2 ⊖ var 4) ⊗ (x ⊖ y) ⊕ (var 3 ⊖ var 5) ⊗ y) refl in
    omega (arith, linear)

-- the year's three sums, those before its quarters and those from them on, are parts of its sum
pub parts_within : (year : BenchmarkedYear) (j : ℕ) → j < 4 →
    (pos 0 ≤ℤ before_quarter year j) × (before_quarter year j ≤ℤ pos (year_sum year.indicators))
parts_within year zero inside = (omega (arith, linear), omega (arith, linear))
parts_within year (suc zero) inside = (omega (arith, linear), omega (arith, linear))
parts_within year (suc (suc zero)) inside = (omega (arith, linear), omega (arith, linear))
parts_within year (suc (suc (suc zero))) inside = (omega (arith, linear), omega (arith, linear))
parts_within year (suc (suc (suc (suc j)))) inside = absurd (omega arith)

-- the year behind a joint
behind_near : (k : ℕ) (year : BenchmarkedYear) (l u a b : ℤ) → pos 0 <ℤ pos (year_sum year.indicators) →
    IsNear ((l -ℤ a) *ℤ crossed (pos (year_sum year.indicators)) (before_quarter year 1) (before_quarter year 2)
    (before_quarter year 3)
    +ℤ (u -ℤ b) *ℤ squared (before_quarter year 1) (before_quarter year 2) (before_quarter year 3))
    (pos (year_sum year.indicators) *ℤ (pos (year_sum year.indicators) *ℤ (ratio_floor k year l u 3 -ℤ ratio_floor k
    year a b 3)))
    (pos 4 *ℤ (pos (year_sum year.indicators) *ℤ pos (year_sum year.indicators)))
behind_near k year l u a b positive =
    let whole = pos (year_sum year.indicators) in
    let one = parts_within year 1 (omega arith) in
    let two = parts_within year 2 (omega arith) in
    let three = parts_within year 3 (omega arith) in
    let level = floors_near (level_in k year l u 3) (level_in k year a b 3) whole positive in
    half whole (before_quarter year 1) (before_quarter year 2) (before_quarter year 3) (l -ℤ a) (u -ℤ b)
    (floored_change year.indicators l u 1 -ℤ floored_change year.indicators a b 1)
    (floored_change year.indicators l u 2 -ℤ floored_change year.indicators a b 2)
    (floored_change year.indicators l u 3 -ℤ floored_change year.indicators a b 3)
    (ratio_floor k year l u 3 -ℤ ratio_floor k year a b 3)
    one.0 one.1 two.0 two.1 three.0 three.1
    (floors_apart whole (before_quarter year 1) l u a b positive)
    (floors_apart whole (before_quarter year 2) l u a b positive)
    (floors_apart whole (before_quarter year 3) l u a b positive)
    (near_at _ _ _ _ _ _ (last_change k year l u a b) refl refl level)

-- the two sides of a nearness may both change their signs
near_turned : (x y n : ℤ) → IsNear (neg_ℤ x) (n *ℤ y) n → IsNear x (n *ℤ neg_ℤ y) n
near_turned x y n near =
    let e : n *ℤ neg_ℤ y ≡ neg_ℤ (n *ℤ y) =
    same_by_ring (n ∷ y ∷ []) (var 0 ⊗ neg (var 1)) (neg (var 0 ⊗ var 1)) refl in
    omega (arith, linear)

-- the year ahead of it
ahead_near : (k : ℕ) (next : BenchmarkedYear) (u r b c : ℤ) → pos 0 <ℤ pos (year_sum next.indicators) →
    IsNear ((r -ℤ c) *ℤ crossed (pos (year_sum next.indicators)) (from_quarter next 1) (from_quarter next 2)
    (from_quarter next 3)
    +ℤ (u -ℤ b) *ℤ squared (from_quarter next 1) (from_quarter next 2) (from_quarter next 3))
    (pos (year_sum next.indicators) *ℤ (pos (year_sum next.indicators) *ℤ neg_ℤ (ratio_floor k next u r 0
    -ℤ ratio_floor k next b c 0)))
    (pos 4 *ℤ (pos (year_sum next.indicators) *ℤ pos (year_sum next.indicators)))
ahead_near k next u r b c positive =
    let whole = pos (year_sum next.indicators) in
    let one = parts_within next 1 (omega arith) in
    let two = parts_within next 2 (omega arith) in
    let three = parts_within next 3 (omega arith) in
    let level = floors_near (level_in k next u r 0) (level_in k next b c 0) whole positive in
    let turned = near_turned _ _ _ (near_at _ _ _ _ _ _ (first_change k next u r b c) refl refl level) in
    half whole (from_quarter next 1) (from_quarter next 2) (from_quarter next 3) (r -ℤ c) (u -ℤ b)
    (floored_change next.indicators u r 1 -ℤ floored_change next.indicators b c 1)
    (floored_change next.indicators u r 2 -ℤ floored_change next.indicators b c 2)
    (floored_change next.indicators u r 3 -ℤ floored_change next.indicators b c 3)
    (neg_ℤ (ratio_floor k next u r 0 -ℤ ratio_floor k next b c 0))
    (omega (arith, linear)) (omega (arith, linear)) (omega (arith, linear)) (omega (arith, linear))
    (omega (arith, linear)) (omega (arith, linear))
    (floors_turned whole (before_quarter next 1) u r b c positive)
    (floors_turned whole (before_quarter next 2) u r b c positive)
    (floors_turned whole (before_quarter next 3) u r b c positive)
    turned

-- a number and six others, each from 0 to 1000
weight_within : (base a b c d e f : ℤ) → pos 0 ≤ℤ a → pos 0 ≤ℤ b → pos 0 ≤ℤ c → pos 0 ≤ℤ d → pos 0 ≤ℤ e → pos 0 ≤ℤ f →
    a ≤ℤ pos 1000 → b ≤ℤ pos 1000 → c ≤ℤ pos 1000 → d ≤ℤ pos 1000 → e ≤ℤ pos 1000 → f ≤ℤ pos 1000 →
    (base ≤ℤ (base +ℤ (a +ℤ b +ℤ c) +ℤ (d +ℤ e +ℤ f))) × ((base +ℤ (a +ℤ b +ℤ c) +ℤ (d +ℤ e +ℤ f))
    ≤ℤ (base +ℤ pos 6000))
weight_within base a b c d e f la lb lc ld le lf ma mb mc md me mf = (omega (arith, linear), omega (arith, linear))

-- the weight of a joint is from 1000 to 7000 for each change that leads over it
pub weight_range : (year next : BenchmarkedYear) → AreIndicators year.indicators → AreIndicators next.indicators →
    ((pos 1000 *ℤ pos (width_of year next)) ≤ℤ weight_of year next) × (weight_of year next
    ≤ℤ (pos 1000 *ℤ pos (width_of year next) +ℤ pos 6000))
weight_range year next are others =
    let n : pos 1 ≤ℤ pos (year_sum year.indicators) = omega (arith, linear, are.first) in
    let m : pos 1 ≤ℤ pos (year_sum next.indicators) = omega (arith, linear, others.first) in
    let b1 = parts_within year 1 (omega arith) in
    let b2 = parts_within year 2 (omega arith) in
    let b3 = parts_within year 3 (omega arith) in
    let a1 = parts_within next 1 (omega arith) in
    let a2 = parts_within next 2 (omega arith) in
    let a3 = parts_within next 3 (omega arith) in
    let one = share_bounds (before_quarter year 1) (pos (year_sum year.indicators)) n b1.0 b1.1 in
    let two = share_bounds (before_quarter year 2) (pos (year_sum year.indicators)) n b2.0 b2.1 in
    let three = share_bounds (before_quarter year 3) (pos (year_sum year.indicators)) n b3.0 b3.1 in
    let four = share_bounds (from_quarter next 1) (pos (year_sum next.indicators)) m (omega (arith, linear))
    (omega (arith, linear)) in
    let five = share_bounds (from_quarter next 2) (pos (year_sum next.indicators)) m (omega (arith, linear))
    (omega (arith, linear)) in
    let six = share_bounds (from_quarter next 3) (pos (year_sum next.indicators)) m (omega (arith, linear))
    (omega (arith, linear)) in
    weight_within (pos 1000 *ℤ pos (width_of year next)) _ _ _ _ _ _ one.0 two.0 three.0 four.0 five.0 six.0 one.1
    two.1 three.1 four.1 five.1 six.1

-- the products of the squares of positive numbers are positive
both_positive : (n m : ℤ) → pos 0 <ℤ n → pos 0 <ℤ m → pos 0 <ℤ both n m
both_positive n m pn pm =
    let times = product_strict (n *ℤ n) (pos 0) (m *ℤ m) (square_positive n pn) (square_positive m pm) in
    let e : (n *ℤ n) *ℤ pos 0 ≡ pos 0 = same_by_ring (n ∷ []) (var 0 ⊗ var 0 ⊗ num (pos 0)) (num (pos 0)) refl in
    omega (arith, linear)

-- the steepness is no less than the product of the squares
both_least : (width n q m p : ℤ) → pos 1 ≤ℤ width → pos 0 ≤ℤ q → pos 0 ≤ℤ p → both n m ≤ℤ steepness width n q m p
both_least width n q m p wide lq lp =
    let times = product_mono (both n m) (pos 1) width (product_nonneg (n *ℤ n) (m *ℤ m) (square_nonneg n)
    (square_nonneg m)) wide in
    let first = product_nonneg (m *ℤ m) q (square_nonneg m) lq in
    let second = product_nonneg (n *ℤ n) p (square_nonneg n) lp in
    let x = var 0 in
    let y = var 1 in
    let e1 : both n m *ℤ pos 1 ≡ both n m =
    same_by_ring (n ∷ m ∷ []) (x ⊗ x ⊗ (y ⊗ y) ⊗ num (pos 1)) (x ⊗ x ⊗ (y ⊗ y)) refl in
    let e2 : both n m *ℤ width ≡ width *ℤ both n m =
    same_by_ring (n ∷ m ∷ width ∷ []) (x ⊗ x ⊗ (y ⊗ y) ⊗ var 2) (var 2 ⊗ (x ⊗ x ⊗ (y ⊗ y))) refl in
    omega (arith, linear)

-- the sum of three squares is not negative
squared_least : (a b c : ℤ) → pos 0 ≤ℤ squared a b c
squared_least a b c =
    let one = square_nonneg a in
    let two = square_nonneg b in
    let three = square_nonneg c in
    omega (arith, linear)

-- and so are products of parts with what is left of their whole
crossed_least : (n a b c : ℤ) → pos 0 ≤ℤ a → a ≤ℤ n → pos 0 ≤ℤ b → b ≤ℤ n → pos 0 ≤ℤ c → c ≤ℤ n →
    pos 0 ≤ℤ crossed n a b c
crossed_least n a b c la ma lb mb lc mc =
    let one = product_nonneg a (n -ℤ a) la (omega (arith, linear)) in
    let two = product_nonneg b (n -ℤ b) lb (omega (arith, linear)) in
    let three = product_nonneg c (n -ℤ c) lc (omega (arith, linear)) in
    omega (arith, linear)

-- what a step of a sweep makes of two multipliers, before it cuts them, is nearer than the greatest difference of the
-- multipliers that it reads
pub moved_near : (k : ℕ) (year next : BenchmarkedYear) (l u r a b c most : ℤ) → AreIndicators year.indicators →
    AreIndicators next.indicators →
    IsNear (pos 0) (l -ℤ a) most → IsNear (pos 0) (u -ℤ b) most → IsNear (pos 0) (r -ℤ c) most →
    IsNear (pos 0) (pos 100 *ℤ (moved_of k year next l u r -ℤ moved_of k year next a b c))
    (pos 84 *ℤ most +ℤ pos 1500)
moved_near k year next l u r a b c most are others near_before near_own near_after =
    let n = pos (year_sum year.indicators) in
    let m = pos (year_sum next.indicators) in
    let width = pos (width_of year next) in
    let weight = weight_of year next in
    let s1 = before_quarter year 1 in
    let s2 = before_quarter year 2 in
    let s3 = before_quarter year 3 in
    let r1 = from_quarter next 1 in
    let r2 = from_quarter next 2 in
    let r3 = from_quarter next 3 in
    let pn : pos 0 <ℤ n = omega (arith, linear, are.first) in
    let pm : pos 0 <ℤ m = omega (arith, linear, others.first) in
    let wide : pos 1 ≤ℤ width = omega (arith, linear) in
    let b1 = parts_within year 1 (omega arith) in
    let b2 = parts_within year 2 (omega arith) in
    let b3 = parts_within year 3 (omega arith) in
    let a1 = parts_within next 1 (omega arith) in
    let a2 = parts_within next 2 (omega arith) in
    let a3 = parts_within next 3 (omega arith) in
    let left = ratio_floor k year l u 3 -ℤ ratio_floor k year a b 3 in
    let right = ratio_floor k next u r 0 -ℤ ratio_floor k next b c 0 in
    let own = u -ℤ b in
    let residual = residual_near width n (crossed n s1 s2 s3) (squared s1 s2 s3) (l -ℤ a) left m (crossed m r1 r2 r3)
    (squared r1 r2 r3) (r -ℤ c) right own most
    (crossed_least n s1 s2 s3 b1.0 b1.1 b2.0 b2.1 b3.0 b3.1)
    (crossed_least m r1 r2 r3 (omega (arith, linear)) (omega (arith, linear)) (omega (arith, linear))
    (omega (arith, linear)) (omega (arith, linear)) (omega (arith, linear)))
    near_before near_after (behind_near k year l u a b pn) (ahead_near k next u r b c pm) in
    let bounds = weight_bounds width n s1 s2 s3 m r1 r2 r3 pn pm in
    let range = weight_range year next are others in
    let positive : pos 0 <ℤ weight = omega (arith, linear, literal_product) in
    let change = floors_near (pos 1000 *ℤ residual_of k year next l u r) (pos 1000 *ℤ residual_of k year next a b c)
    weight positive in
    let step : residual_of k year next l u r -ℤ residual_of k year next a b c ≡ right -ℤ left -ℤ width *ℤ own =
    same_by_ring (ratio_floor k next u r 0 ∷ ratio_floor k year l u 3 ∷ ratio_floor k next b c 0 ∷ ratio_floor k
    year a b 3 ∷ width ∷ u ∷ b ∷ [])
    ((var 0 ⊖ var 1 ⊖ var 4 ⊗ var 5) ⊖ (var 2 ⊖ var 3 ⊖ var 4 ⊗ var 6))
    ((var 0 ⊖ var 2) ⊖ (var 1 ⊖ var 3) ⊖ var 4 ⊗ (var 5 ⊖ var 6)) refl in
    let thousand : pos 1000 *ℤ residual_of k year next l u r -ℤ pos 1000 *ℤ residual_of k year next a b c ≡ pos 1000
    *ℤ (right -ℤ left -ℤ width *ℤ own) =
    omega (arith, linear, literal_product) in
    let settled = settle (both n m) (sideways n (crossed n s1 s2 s3) m (crossed m r1 r2 r3))
    (steepness width n (squared s1 s2 s3) m (squared r1 r2 r3)) (both n m *ℤ weight) weight own
    (right -ℤ left -ℤ width *ℤ own)
    (floor_of (pos 1000 *ℤ residual_of k year next l u r) weight
    -ℤ floor_of (pos 1000 *ℤ residual_of k year next a b c) weight) most
    (both_positive n m pn pm) positive (both_least width n (squared s1 s2 s3) m (squared r1 r2 r3) wide
    (squared_least s1 s2 s3) (squared_least r1 r2 r3)) near_own refl bounds.0 bounds.1
    (cross_bound width n (crossed n s1 s2 s3) (squared s1 s2 s3) m (crossed m r1 r2 r3) (squared r1 r2 r3) wide
    (shares_bound n s1 s2 s3) (shares_bound m r1 r2 r3))
    residual (near_at _ _ _ _ _ _ thousand refl refl change) in
    let parts : pos 100 *ℤ (own +ℤ (floor_of (pos 1000 *ℤ residual_of k year next l u r) weight
    -ℤ floor_of (pos 1000 *ℤ residual_of k year next a b c) weight)) ≡
    pos 100 *ℤ (moved_of k year next l u r -ℤ moved_of k year next a b c) =
    same_by_ring (u ∷ b ∷ floor_of (pos 1000 *ℤ residual_of k year next l u r) weight
    ∷ floor_of (pos 1000 *ℤ residual_of k year next a b c) weight ∷ [])
    (num (pos 100) ⊗ ((var 0 ⊖ var 1) ⊕ (var 2 ⊖ var 3))) (num (pos 100) ⊗ ((var 0 ⊕ var 2) ⊖ (var 1 ⊕ var 3)))
    refl in
    near_at _ _ _ _ _ _ refl parts refl settled

-- a size as a nearness to 0
near_from_size : (z : ℤ) (most : ℕ) → unsigned_abs z ≤ most → IsNear (pos 0) z (pos most)
near_from_size z most small = omega (arith, linear)

-- a nearness in hundredths as a size
size_from_near : (z : ℤ) (most : ℕ) → IsNear (pos 0) (pos 100 *ℤ z) (pos 84 *ℤ pos most +ℤ pos 1500) →
    100 * unsigned_abs z ≤ 84 * most + 1500
size_from_near z most near = omega (arith, linear, literal_product)

-- the same in sizes
pub moved_nearer : (k : ℕ) (year next : BenchmarkedYear) (l u r a b c : ℤ) (most : ℕ) →
    AreIndicators year.indicators → AreIndicators next.indicators →
    unsigned_abs (l -ℤ a) ≤ most → unsigned_abs (u -ℤ b) ≤ most → unsigned_abs (r -ℤ c) ≤ most →
    100 * unsigned_abs (moved_of k year next l u r -ℤ moved_of k year next a b c) ≤ 84 * most + 1500
moved_nearer k year next l u r a b c most are others first second third =
    size_from_near (moved_of k year next l u r -ℤ moved_of k year next a b c) most
    (moved_near k year next l u r a b c (pos most) are others (near_from_size (l -ℤ a) most first)
    (near_from_size (u -ℤ b) most second) (near_from_size (r -ℤ c) most third))

-- cutting makes no difference greater
cut_near : (a b : ℤ) → unsigned_abs (cut_of a -ℤ cut_of b) ≤ unsigned_abs (a -ℤ b)
cut_near a b = omega (arith, ints, clamps)

-- the first numbers of two lists are no further apart than the lists
first_near : (us vs : List ℤ) (most : ℕ) → length us ≡ length vs → greatest_difference us vs ≤ most →
    unsigned_abs (first_of us -ℤ first_of vs) ≤ most
first_near [] [] most same near = omega arith
first_near [] (v ∷ vs) most same near = absurd (omega arith)
first_near (u ∷ us) [] most same near = absurd (omega arith)
first_near (u ∷ us) (v ∷ vs) most same near = omega arith

-- a sweep from a year on brings two rows nearer, whatever stands before them within their greatest difference
sweep_from-near : (k most : ℕ) (before other : ℤ) (year : BenchmarkedYear) (years : List BenchmarkedYear)
    (us vs : List ℤ) → AreIndicators year.indicators → All (λ year. AreIndicators year.indicators) years →
    length us ≡ length vs → unsigned_abs (before -ℤ other) ≤ most → greatest_difference us vs ≤ most →
    100 * greatest_difference (sweep_from k before year years us) (sweep_from k other year years vs) ≤ 84 * most
    + 1500
sweep_from-near k most before other year [] us vs are each same near_before near = omega arith
sweep_from-near k most before other year (next ∷ years) [] vs are each same near_before near = omega arith
sweep_from-near k most before other year (next ∷ years) (u ∷ us) [] are each same near_before near =
    absurd (omega arith)
sweep_from-near k most before other year (next ∷ years) (u ∷ us) (v ∷ vs) are each same near_before near =
    let own : unsigned_abs (u -ℤ v) ≤ most = omega arith in
    let rest : greatest_difference us vs ≤ most = omega arith in
    let others = each 0 next (omega arith) in
    let moved = moved_nearer k year next before u (first_of us) other v (first_of vs) most are others near_before own
    (first_near us vs most (omega arith) rest) in
    let cut = cut_near (moved_of k year next before u (first_of us)) (moved_of k year next other v (first_of vs)) in
    let more = sweep_from-near k most u v next years us vs others (λ y other inside. each (suc y) other (omega arith))
    (omega arith) own rest in
    both_most (unsigned_abs (cut_of (moved_of k year next before u (first_of us))
    -ℤ cut_of (moved_of k year next other v (first_of vs)))) (greatest_difference (sweep_from k u next years us)
    (sweep_from k v next years vs)) (84 * most + 1500) (omega arith) more
  where
    both_most : (a b m : ℕ) → 100 * a ≤ m → 100 * b ≤ m → 100 * max a b ≤ m
    both_most a b m one two = omega arith

-- a sweep brings any two rows of multipliers nearer
pub sweeps_come_near : SweepsComeNear
unfolding sweep_of
sweeps_come_near k [] multipliers others each same = omega arith
sweeps_come_near k (year ∷ years) multipliers others each same =
    sweep_from-near k (greatest_difference multipliers others) (pos 0) (pos 0) year years multipliers others
    (each 0 year (omega arith)) (λ y other inside. each (suc y) other (omega arith)) same (omega arith)
    (omega arith)
