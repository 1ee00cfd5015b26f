-- A line in range keeps all numbers in range.
use Rattle.std.proofs.Common.{◌≡◌, ℕ, ◌+◌, ◌*◌, ◌<◌, ◌≤◌, ◌^◌, ℤ, pos, ◌≤ℤ◌, Bool, true, false, ◌&&◌, cond, eqb, leb, ltb, List, [], ◌∷◌, ◌++◌, length, get_or, EachIndex, unsigned_abs, Option, Some, None, refl, sym, subst, ◌∙◌, inl, inr, arith}
use Rattle.std.proofs.lemmas.Bool.{cases_lt, eqb-true, leb-true, ltb-true}
use Rattle.std.proofs.lemmas.Int.{ints}
use Rattle.std.proofs.lemmas.List.{length-append, nil_from_length}
use Rattle.std.proofs.Math.ListN.{get_or-append}
use Rattle.std.proofs.Math.Seq.{get_or-append_seam}
use Rattle.denton_parts.specs.Year.{IsBenchmark, IsMultiplier}
use Rattle.dual_cert.specs.Document.{IsQuarterValue}
use Rattle.cert_read.specs.Statement.{Statement, certificate_line, scale_line, start_line, indicator_line, benchmark_line, value_line, multiplier_line, gap_line, end_line}
use Rattle.cert_read.specs.Progress.{first_noted}
use Rattle.cert_read.specs.Content.{Content, HasRanges, IsInOrder, follows, with_line, is_quarter, is_between, is_in_range, value_bound}

-- what holds of each number of a list, and of one more behind it
each_more : (Q : ℕ → ℤ → Type 0) (xs : List ℤ) (v : ℤ) → EachIndex xs (λ t. Q t (get_or xs t (pos 0))) → Q (length xs) v → EachIndex (xs ++ v ∷ []) (λ t. Q t (get_or (xs ++ v ∷ []) t (pos 0)))
each_more Q xs v each last t inside =
    elim (cases_lt t (length xs)) [
      | inl lt ↦ subst (Q t) (sym (get_or-append xs (v ∷ []) (pos 0) t lt)) (each t lt)
      | inr le ↦ let here : t ≡ length xs = omega (arith, length-append xs (v ∷ [])) in
          subst (λ (k : ℕ). Q k (get_or (xs ++ v ∷ []) k (pos 0))) (sym here) (subst (Q (length xs)) (sym (get_or-append_seam xs v [] (pos 0))) last)
    ]

-- both tests of two that hold together
pub both_hold : (a b : Bool) → (a && b) ≡ true → (a ≡ true) × (b ≡ true)
both_hold true b e = (refl, e)
both_hold false b e = absurd cc

-- a number that passes the test lies between the two
pub between : (least v most : ℤ) → is_between least v most ≡ true → (least ≤ℤ v) × (v ≤ℤ most)
between least v most e = grind (arith, ints)

-- a number is 0 where it can't be more
zero_unless : (n : ℕ) → (1 ≤ n → ⊥) → n ≡ 0
zero_unless n h = elim (cases_lt 0 n) [ inl lt ↦ absurd (h (omega arith)) | inr le ↦ omega arith ]

-- without the three lines at the head no indicator stands
pub no_indicators : (d : Content) → IsInOrder d → d.heads ≤ 2 → length d.ind ≡ 0
no_indicators d order few = zero_unless (length d.ind) (λ some. let three : 3 ≤ d.heads = order.indicators some in omega arith)

-- without an indicator no benchmark does
pub no_benchmarks : (d : Content) → IsInOrder d → length d.ind ≡ 0 → length d.bench ≡ 0
no_benchmarks d order none =
    zero_unless (length d.bench) (λ some.
    let same = order.placed in
    let whole : 4 * get_or d.places 0 0 + 4 ≤ length d.ind = order.benchmarks.whole_years 0 0 (omega arith) in
    omega arith)

-- nor a place of one
pub no_places : (d : Content) → IsInOrder d → length d.bench ≡ 0 → d.places ≡ []
no_places d order none = let same = order.placed in nil_from_length d.places (omega arith)

-- without a benchmark no value, no multiplier and no line at the end do
pub no_values : (d : Content) → IsInOrder d → length d.bench ≡ 0 → length d.x ≡ 0
no_values d order none = zero_unless (length d.x) (λ some. let one : 1 ≤ length d.bench = order.valued some in omega arith)

pub no_multipliers : (d : Content) → IsInOrder d → length d.bench ≡ 0 → length d.u ≡ 0
no_multipliers d order none = zero_unless (length d.u) (λ some. let more : length d.u + 1 ≤ length d.bench = order.multipliers some in omega arith)

pub no_tail : (d : Content) → IsInOrder d → length d.bench ≡ 0 → d.tail ≡ 0
no_tail d order none = zero_unless d.tail (λ some. let joints : length d.u + 1 ≡ length d.bench = order.joined some in omega arith)

-- before the last value no multiplier and no line at the end stand
pub multipliers_later : (d : Content) → IsInOrder d → length d.x < length d.ind → length d.u ≡ 0
multipliers_later d order room = zero_unless (length d.u) (λ some. let all : length d.ind ≤ length d.x = order.multiplied some in omega arith)

pub tail_later : (d : Content) → IsInOrder d → length d.x < length d.ind → d.tail ≡ 0
tail_later d order room = zero_unless d.tail (λ some. let all : length d.ind ≤ length d.x = order.closed some in omega arith)

-- and before the last multiplier no line at the end
pub tail_last : (d : Content) → IsInOrder d → length d.u + 1 < length d.bench → d.tail ≡ 0
tail_last d order room = zero_unless d.tail (λ some. let joints : length d.u + 1 ≡ length d.bench = order.joined some in omega arith)

-- no quarter's value stands yet
none : (Q : ℕ → Type 0) (xs : List ℤ) → length xs ≤ 0 → EachIndex xs Q
none Q xs e t inside = absurd (omega arith)

pub ranges_more : (d : Content) (s : Statement) → IsInOrder (with_line d s) → HasRanges d → follows d s ≡ true → is_in_range d s ≡ true → HasRanges (with_line d s)
ranges_more d (certificate_line name front) order h may within =
    let b = between (pos 0) front (pos 262144) within in
    let first : d.heads ≡ 0 = eqb-true _ _ (both_hold _ _ may).0 in
    record { head = record { least_front = b.0; most_front = b.1; least_scale = h.head.least_scale; most_scale = h.head.most_scale; first_start = λ three. absurd (omega arith); last_start = h.head.last_start }; indicators = h.indicators; benchmarks = h.benchmarks; values = h.values; multipliers = h.multipliers; gap = h.gap }
ranges_more d (scale_line k) order h may within =
    let b = between (pos 0) k (pos 15) within in
    let second : d.heads ≡ 1 = eqb-true _ _ may in
    let empty : length d.x ≤ 0 = (let none_yet : length d.bench ≡ 0 = no_benchmarks (with_line d (scale_line k)) order (no_indicators (with_line d (scale_line k)) order (omega arith)) in let no_x : length d.x ≡ 0 = no_values (with_line d (scale_line k)) order none_yet in omega arith) in
    record { head = record { least_front = h.head.least_front; most_front = h.head.most_front; least_scale = b.0; most_scale = b.1; first_start = λ three. absurd (omega arith); last_start = h.head.last_start }; indicators = h.indicators; benchmarks = h.benchmarks; values = none _ d.x empty; multipliers = h.multipliers; gap = h.gap }
ranges_more d (start_line year) order h may within =
    let b = both_hold (leb 1900 year) (leb year 2200) within in
    record { head = record { least_front = h.head.least_front; most_front = h.head.most_front; least_scale = h.head.least_scale; most_scale = h.head.most_scale; first_start = λ three. leb-true _ _ b.0; last_start = leb-true _ _ b.1 }; indicators = h.indicators; benchmarks = h.benchmarks; values = h.values; multipliers = h.multipliers; gap = h.gap }
ranges_more d (indicator_line q v) order h may within =
    let w = both_hold (is_between (pos 1) v (pos (10 ^ 9))) (ltb (length d.ind) 256) within in
    let b = between (pos 1) v (pos (10 ^ 9)) w.0 in
    let few : length d.ind < 256 = ltb-true _ _ w.1 in
    let none_yet : length d.bench ≡ 0 = eqb-true _ _ (both_hold (eqb d.heads 3) (eqb (length d.bench) 0) (both_hold (eqb d.heads 3 && eqb (length d.bench) 0) (is_quarter d.start (length d.ind) q) may).0).1 in
    let no_x : length d.x ≡ 0 = no_values (with_line d (indicator_line q v)) order none_yet in
    let empty : length d.x ≤ 0 = omega arith in
    record { head = h.head; indicators = record { most = omega (arith, length-append d.ind (v ∷ [])); least_each = each_more (λ t z. pos 1 ≤ℤ z) d.ind v h.indicators.least_each b.0; most_each = each_more (λ t z. z ≤ℤ pos (10 ^ 9)) d.ind v h.indicators.most_each b.1 }; benchmarks = h.benchmarks; values = none _ d.x empty; multipliers = h.multipliers; gap = h.gap }
ranges_more d (benchmark_line y v) order h may within =
    record { head = h.head; indicators = h.indicators; benchmarks = each_more (λ t z. IsBenchmark z) d.bench v h.benchmarks (leb-true _ _ within); values = h.values; multipliers = h.multipliers; gap = h.gap }
ranges_more d (value_line q v) order h may within =
    record { head = h.head; indicators = h.indicators; benchmarks = h.benchmarks; values = each_more (λ t z. IsQuarterValue (unsigned_abs d.scale) (unsigned_abs (get_or d.ind t (pos 0))) z) d.x v h.values (leb-true (unsigned_abs v) (value_bound d) within); multipliers = h.multipliers; gap = h.gap }
ranges_more d (multiplier_line y v) order h may within =
    record { head = h.head; indicators = h.indicators; benchmarks = h.benchmarks; values = h.values; multipliers = each_more (λ t z. IsMultiplier z) d.u v h.multipliers (leb-true _ _ within); gap = h.gap }
ranges_more d (gap_line v) order h may within =
    record { head = h.head; indicators = h.indicators; benchmarks = h.benchmarks; values = h.values; multipliers = h.multipliers; gap = between (pos 0) v (pos (10 ^ 36)) within }
ranges_more d end_line order h may within =
    record { head = h.head; indicators = h.indicators; benchmarks = h.benchmarks; values = h.values; multipliers = h.multipliers; gap = h.gap }

-- nothing is noted as out of range where nothing was and nothing is
none_noted : (late : Option ℕ) (within : Bool) (number : ℕ) → first_noted late (cond within None (Some number)) ≡ None → (late ≡ None) × (within ≡ true)
none_noted (Some n) within number e = absurd cc
none_noted None true number e = (refl, refl)
none_noted None false number e = absurd cc

-- where nothing is noted as out of range, all numbers are in range
pub ranges_kept : (late now : Option ℕ) (d after : Content) (s : Statement) (number : ℕ) → (late ≡ None → HasRanges d) → IsInOrder (with_line d s) → follows d s ≡ true
    → now ≡ first_noted late (cond (is_in_range d s) None (Some number)) → after ≡ with_line d s → now ≡ None → HasRanges after
ranges_kept late now d after s number ranges order may now-is after-is e =
    let h = none_noted late (is_in_range d s) number (sym now-is ∙ e) in
    subst HasRanges (sym after-is) (ranges_more d s order (ranges h.0) may h.1)
