-- No range reaches the bound at which numbers are cut.
use Rattle.std.proofs.Common.{◌≡◌, ℕ, ◌*◌, ◌^◌, ◌<◌, ◌≤◌, ℤ, pos, ◌≤ℤ◌, ◌<ℤ◌, neg_ℤ, Bool, true, false, ◌&&◌, leb, ltb, List, length, get_or, unsigned_abs, refl, sym, ap, subst, inl, inr, arith}
use Rattle.std.proofs.lemmas.Bool.{cases_lt, leb-true, le-leb}
use Rattle.std.proofs.lemmas.Int.{ints, clamps}
use Rattle.std.proofs.lemmas.List.{get_or_past}
use Rattle.std.proofs.Math.Nat.{div-le_self}
use Rattle.std.proofs.Math.Dec.{lit≤}
use Rattle.line_form.specs.Number.{cut_to}
use Rattle.cert_read.specs.Statement.{Statement, certificate_line, scale_line, start_line, indicator_line, benchmark_line, value_line, multiplier_line, gap_line, end_line}
use Rattle.cert_read.specs.Cutting.{cut_number, cut_line}
use Rattle.cert_read.specs.Content.{Content, AreIndicatorRanges, HasRanges, is_between, is_in_range, value_bound}
use Rattle.cert_read.proofs.Ranges.{both_hold, between}

-- two tests that hold together are the same
same_test : (p q : Bool) → (p ≡ true → q ≡ true) → (q ≡ true → p ≡ true) → p ≡ q
same_test true q there back = sym (there refl)
same_test false true there back = absurd (let e = back refl in cc)
same_test false false there back = refl

-- a number lies between two below the bound exactly where the cut number does
cut_out : (m : ℕ) (least v most : ℤ) → neg_ℤ (pos m) <ℤ least → most <ℤ pos m → least ≤ℤ cut_to (pos m) v → cut_to (pos m) v ≤ℤ most → (least ≤ℤ v) × (v ≤ℤ most)
cut_out m least v most low high a b = (omega (arith, ints, clamps), omega (arith, ints, clamps))

-- and is then the same
cut_same : (m : ℕ) (least v most : ℤ) → neg_ℤ (pos m) <ℤ least → most <ℤ pos m → least ≤ℤ v → v ≤ℤ most → cut_to (pos m) v ≡ v
cut_same m least v most low high a b = omega (arith, ints, clamps)

-- the same of sizes
abs_out : (m bound : ℕ) (v : ℤ) → bound < m → unsigned_abs (cut_to (pos m) v) ≤ bound → unsigned_abs v ≤ bound
abs_out m bound v few small = omega (arith, ints, clamps)

pub abs_same : (m bound : ℕ) (v : ℤ) → bound < m → unsigned_abs v ≤ bound → cut_to (pos m) v ≡ v
abs_same m bound v few small = omega (arith, ints, clamps)

-- a number between two passes the test
is_in : (least v most : ℤ) → least ≤ℤ v → v ≤ℤ most → is_between least v most ≡ true
is_in least v most low high = grind (arith, ints)

-- so the tests of a number and of the cut number are the same
between_cut : (least v most : ℤ) → neg_ℤ (pos (10 ^ 37)) <ℤ least → most <ℤ pos (10 ^ 37) → is_between least (cut_number v) most ≡ is_between least v most
between_cut least v most low high =
    same_test (is_between least (cut_number v) most) (is_between least v most)
    (λ e. let b = between least (cut_number v) most e in let o = cut_out (10 ^ 37) least v most low high b.0 b.1 in is_in least v most o.0 o.1)
    (λ e. let b = between least v most e in subst (λ (z : ℤ). is_between least z most ≡ true) (sym (cut_same (10 ^ 37) least v most low high b.0 b.1)) e)

between_same : (least v most : ℤ) → neg_ℤ (pos (10 ^ 37)) <ℤ least → most <ℤ pos (10 ^ 37) → is_between least v most ≡ true → cut_number v ≡ v
between_same least v most low high e = let b = between least v most e in cut_same (10 ^ 37) least v most low high b.0 b.1

size_cut : (bound : ℕ) (v : ℤ) → bound < 10 ^ 37 → leb (unsigned_abs (cut_number v)) bound ≡ leb (unsigned_abs v) bound
size_cut bound v few =
    same_test (leb (unsigned_abs (cut_number v)) bound) (leb (unsigned_abs v) bound)
    (λ e. le-leb _ _ (abs_out (10 ^ 37) bound v few (leb-true _ _ e)))
    (λ e. subst (λ (z : ℤ). leb (unsigned_abs z) bound ≡ true) (sym (abs_same (10 ^ 37) bound v few (leb-true _ _ e))) e)

size_same : (bound : ℕ) (v : ℤ) → bound < 10 ^ 37 → leb (unsigned_abs v) bound ≡ true → cut_number v ≡ v
size_same bound v few e = abs_same (10 ^ 37) bound v few (leb-true _ _ e)

-- the size of a number that lies between 1 and 10^9, or is 0
pub size_at_most : (z : ℤ) → pos 1 ≤ℤ z → z ≤ℤ pos (10 ^ 9) → unsigned_abs z ≤ 10 ^ 9
size_at_most z low high = omega (arith, ints)

indicator_size : (xs : List ℤ) (t : ℕ) → AreIndicatorRanges xs → unsigned_abs (get_or xs t (pos 0)) ≤ 10 ^ 9
indicator_size xs t h =
    elim (cases_lt t (length xs)) [
      | inl lt ↦ size_at_most _ (h.least_each t lt) (h.most_each t lt)
      | inr le ↦ let none : get_or xs t (pos 0) ≡ pos 0 = get_or_past xs t (pos 0) le in rw none (omega arith)
    ]

-- each indicator is at most 10^9 in size
abbrev pub AreSmall : List ℤ → Type 0
AreSmall xs = (t : ℕ) → unsigned_abs (get_or xs t (pos 0)) ≤ 10 ^ 9

-- the greatest size of a value stays below the bound
bound_small : (d : Content) → AreSmall d.ind → value_bound d < 10 ^ 37
bound_small d h =
    let size = h (length d.x) in
    omega (arith, div-le_self (10 ^ 16 * unsigned_abs (get_or d.ind (length d.x) (pos 0))) (10 ^ unsigned_abs d.scale))

-- whatever the lines so far say, each number in range: the next line's number is in range exactly where the cut number is
pub within_cut : (d : Content) (s : Statement) → AreSmall d.ind → is_in_range d (cut_line s) ≡ is_in_range d s
within_cut d (certificate_line name front) h = between_cut (pos 0) front (pos 262144) (omega (arith, ints)) (omega (arith, ints))
within_cut d (scale_line k) h = between_cut (pos 0) k (pos 15) (omega (arith, ints)) (omega (arith, ints))
within_cut d (start_line year) h = refl
within_cut d (indicator_line q v) h = ap (λ (b : Bool). b && ltb (length d.ind) 256) (between_cut (pos 1) v (pos (10 ^ 9)) (omega (arith, ints)) (omega (arith, ints)))
within_cut d (benchmark_line y v) h = size_cut (10 ^ 12) v (lit≤ tt)
within_cut d (value_line q v) h = size_cut (value_bound d) v (bound_small d h)
within_cut d (multiplier_line y v) h = size_cut (10 ^ 15) v (lit≤ tt)
within_cut d (gap_line v) h = between_cut (pos 0) v (pos (10 ^ 36)) (omega (arith, ints)) (omega (arith, ints))
within_cut d end_line h = refl

-- and is then the number as it stands
pub within_same : (d : Content) (s : Statement) → AreSmall d.ind → is_in_range d s ≡ true → cut_line s ≡ s
within_same d (certificate_line name front) h e = ap (certificate_line name) (between_same (pos 0) front (pos 262144) (omega (arith, ints)) (omega (arith, ints)) e)
within_same d (scale_line k) h e = ap scale_line (between_same (pos 0) k (pos 15) (omega (arith, ints)) (omega (arith, ints)) e)
within_same d (start_line year) h e = refl
within_same d (indicator_line q v) h e = ap (indicator_line q) (between_same (pos 1) v (pos (10 ^ 9)) (omega (arith, ints)) (omega (arith, ints)) (both_hold (is_between (pos 1) v (pos (10 ^ 9))) (ltb (length d.ind) 256) e).0)
within_same d (benchmark_line y v) h e = ap (benchmark_line y) (size_same (10 ^ 12) v (lit≤ tt) e)
within_same d (value_line q v) h e = ap (value_line q) (size_same (value_bound d) v (bound_small d h) e)
within_same d (multiplier_line y v) h e = ap (multiplier_line y) (size_same (10 ^ 15) v (lit≤ tt) e)
within_same d (gap_line v) h e = ap gap_line (between_same (pos 0) v (pos (10 ^ 36)) (omega (arith, ints)) (omega (arith, ints)) e)
within_same d end_line h e = refl

pub in_range_cut : (d : Content) (s : Statement) → HasRanges d → is_in_range d (cut_line s) ≡ is_in_range d s
in_range_cut d s h = within_cut d s (λ t. indicator_size d.ind t h.indicators)

pub in_range_same : (d : Content) (s : Statement) → HasRanges d → is_in_range d s ≡ true → cut_line s ≡ s
in_range_same d s h e = within_same d s (λ t. indicator_size d.ind t h.indicators) e

pub ruleset cuts = (in_range_cut, in_range_same)
