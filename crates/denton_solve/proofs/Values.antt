-- The quarters of the years: what the code shares out, that they meet the benchmarks, how far they reach, and the loop
-- over the years.
use Rattle.std.specs.Prelude.{◌≡◌, ℕ, ◌+◌, ◌*◌, ◌^◌, ◌≤◌, ◌<◌, ℤ, pos, ◌+ℤ◌, ◌*ℤ◌, ◌<ℤ◌, List, [], ◌∷◌, ◌++◌, length, map, take, drop, slice_index, unsigned_abs}
use Rattle.std.proofs.Common.{refl, sym, ◌∙◌, ap, arith, zero, suc, get_or, inl, inr, subst, drop-cons}
use Rattle.std.proofs.Math.Numerals.{add-one}
use Rattle.std.proofs.Math.Seq.{take-append_seam}
use Rattle.std.proofs.lemmas.List.{append-nil, append_assoc, take_all, drop_all, length-take-le, length-append, length-map, get_or-map}
use Rattle.std.proofs.lemmas.List.Elements.{All-head, All-tail}
use Rattle.ratio_arith.specs.Division.{floor_of}
use Rattle.ratio_arith.specs.Nearness.{IsNear}
use Rattle.ratio_arith.proofs.Floors.{floor_is}
use Rattle.ratio_arith.proofs.Ring.{same_by_ring, var, num, ◌⊕◌}
use Rattle.sum_rounding.specs.ShareOut.{sum_of, CanShare, IsShareOut}
use Rattle.sum_rounding.proofs.Laws.{ranks_share_out}
use Rattle.denton_parts.specs.Benchmarks.{AddsUpTo, year_total}
use Rattle.denton_parts.specs.Level.{level_of, level_unit}
use Rattle.denton_parts.specs.Year.{BenchmarkedYear, IsMultiplier, AreIndicators, year_sum}
use Rattle.denton_parts.specs.Years.{year_in, years_in, indicators_of}
use Rattle.denton_parts.specs.declared.year.YearPart.{YearPart}
use Rattle.denton_parts.proofs.Places.{IsInRange, AreInRange}
use Rattle.denton_parts.proofs.Reach.{level_within, near_floor, near_one_more, value_within, level_unit_positive}
use Rattle.denton_solve.specs.Conditions.{AreMultipliers, AreScaled, IsScaled}
use Rattle.denton_solve.specs.Series.{value_part, value_parts, year_series, series_after, series_of, AreShareOuts}
use Rattle.denton_solve.specs.Sweeps.{first_of}
use Rattle.denton_solve.proofs.Benchmarks.{parts_add_up}

-- the parts that the code makes add up to the divisor times the benchmark
pub parts_shared : (k : ℕ) (year : BenchmarkedYear) (left right : ℤ) (parts : List ℤ) (den benchmark : ℤ) →
    parts ≡ value_parts k year left right → den ≡ level_unit k year → benchmark ≡ year.benchmark →
    sum_of parts ≡ den *ℤ benchmark
parts_shared k year left right parts den benchmark e_parts e e_benchmark =
    rw (e_parts, e, e_benchmark) (parts_add_up k year left right)

-- a part that the code makes, from multipliers that it passed on
pub part_is : (k : ℕ) (year : BenchmarkedYear) (left right passed_left passed_right : ℤ) (j : ℕ) (level part : ℤ) →
    passed_left ≡ left → passed_right ≡ right →
    level ≡ level_of year.indicators year.benchmark k passed_left passed_right j →
    part ≡ pos (slice_index year.indicators j) *ℤ level → part ≡ value_part k year left right j
part_is k year left right passed_left passed_right j level part e_left e_right e_level e =
    e ∙ ap (λ (n : ℤ). pos (slice_index year.indicators j) *ℤ n) e_level
    ∙ ap (λ (n : ℤ). value_part k year n passed_right j) e_left ∙ ap (λ (n : ℤ). value_part k year left n j) e_right

-- four numbers that are four others, one by one
pub four_same : {a b c d w x y z : ℤ} → a ≡ w → b ≡ x → c ≡ y → d ≡ z → (a ∷ b ∷ c ∷ d ∷ []) ≡ (w ∷ x ∷ y ∷ z ∷ [])
four_same ea eb ec ed = rw (ea, eb, ec, ed) refl

-- the parts of a year in range can be shared out
can_share : (k : ℕ) (year : BenchmarkedYear) (left right : ℤ) → AreIndicators year.indicators →
    CanShare (value_parts k year left right) (level_unit k year) year.benchmark
can_share k year left right are = record {
  four = refl;
  positive = level_unit_positive k year are;
  adds_up = parts_add_up k year left right;
}

-- the year's values are a share-out of its benchmark
pub year_shares : (k : ℕ) (year : BenchmarkedYear) (left right : ℤ) → AreIndicators year.indicators →
    IsShareOut (value_parts k year left right) (level_unit k year) year.benchmark (year_series k year left right)
year_shares k year left right are =
    ranks_share_out (value_parts k year left right) (level_unit k year) year.benchmark (can_share k year left right are)

-- so they are four, and add up to it
pub year_count : (k : ℕ) (year : BenchmarkedYear) (left right : ℤ) → AreIndicators year.indicators →
    length (year_series k year left right) ≡ 4
year_count k year left right are = (year_shares k year left right are).same_length

pub year_adds_up : (k : ℕ) (year : BenchmarkedYear) (left right : ℤ) → AreIndicators year.indicators →
    sum_of (year_series k year left right) ≡ year.benchmark
year_adds_up k year left right are = (year_shares k year left right are).adds_up

-- four quarters add up to their total
pub four_add_up : (four rest : List ℤ) (benchmark : ℤ) → length four ≡ 4 → sum_of four ≡ benchmark →
    AddsUpTo benchmark (four ++ rest) 0
four_add_up (w ∷ x ∷ y ∷ z ∷ []) rest benchmark four adds_up =
    let a = var 0 in
    let b = var 1 in
    let c = var 2 in
    let d = var 3 in
    (omega arith, same_by_ring (w ∷ x ∷ y ∷ z ∷ []) (a ⊕ b ⊕ c ⊕ d) (a ⊕ (b ⊕ (c ⊕ (d ⊕ num (pos 0))))) refl ∙ adds_up)
four_add_up [] rest benchmark four adds_up = absurd (omega arith)
four_add_up (w ∷ []) rest benchmark four adds_up = absurd (omega arith)
four_add_up (w ∷ x ∷ []) rest benchmark four adds_up = absurd (omega arith)
four_add_up (w ∷ x ∷ y ∷ []) rest benchmark four adds_up = absurd (omega arith)
four_add_up (w ∷ x ∷ y ∷ z ∷ v ∷ more) rest benchmark four adds_up = absurd (omega arith)

-- behind four others each place is four more
next_at : (w x y z : ℤ) (rest : List ℤ) (m n : ℕ) → m ≡ suc (suc (suc (suc n))) →
    get_or (w ∷ x ∷ y ∷ z ∷ rest) m (pos 0) ≡ get_or rest n (pos 0)
next_at w x y z rest m n e = ap (λ i. get_or (w ∷ x ∷ y ∷ z ∷ rest) i (pos 0)) e

-- a year's total behind four others
pub total_next : (w x y z : ℤ) (rest : List ℤ) (place : ℕ) →
    year_total (w ∷ x ∷ y ∷ z ∷ rest) (suc place) ≡ year_total rest place
total_next w x y z rest place =
    sums (next_at w x y z rest (4 * suc place) (4 * place) (omega arith))
    (next_at w x y z rest (4 * suc place + 1) (4 * place + 1) (omega arith))
    (next_at w x y z rest (4 * suc place + 2) (4 * place + 2) (omega arith))
    (next_at w x y z rest (4 * suc place + 3) (4 * place + 3) (omega arith))
  where
    sums : {a b c d e f g h : ℤ} → a ≡ e → b ≡ f → c ≡ g → d ≡ h → a +ℤ b +ℤ c +ℤ d ≡ e +ℤ f +ℤ g +ℤ h
    sums {a} {b} {c} {d} {e} {f} {g} {h} ea eb ec ed =
        ap (λ u. u +ℤ b +ℤ c +ℤ d) ea ∙ ap (λ u. e +ℤ u +ℤ c +ℤ d) eb ∙ ap (λ u. e +ℤ f +ℤ u +ℤ d) ec
        ∙ ap (λ u. e +ℤ f +ℤ g +ℤ u) ed

-- those behind four others add up at the next place
pub adds_up_next : (four rest : List ℤ) (benchmark : ℤ) (place : ℕ) → length four ≡ 4 →
    AddsUpTo benchmark rest place → AddsUpTo benchmark (four ++ rest) (suc place)
adds_up_next (w ∷ x ∷ y ∷ z ∷ []) rest benchmark place four is =
    (omega (arith, is.0), total_next w x y z rest place ∙ is.1)
adds_up_next [] rest benchmark place four is = absurd (omega arith)
adds_up_next (w ∷ []) rest benchmark place four is = absurd (omega arith)
adds_up_next (w ∷ x ∷ []) rest benchmark place four is = absurd (omega arith)
adds_up_next (w ∷ x ∷ y ∷ []) rest benchmark place four is = absurd (omega arith)
adds_up_next (w ∷ x ∷ y ∷ z ∷ v ∷ more) rest benchmark place four is = absurd (omega arith)

-- each year of parts adds up to its benchmark
after_meets : (k : ℕ) (before : ℤ) (parts : List YearPart) (u : List ℤ) (y : ℕ) (other : YearPart) →
    y < length parts →
    AddsUpTo (get_or parts y other).bench (series_after k before (map (year_in 0) parts) u) y
after_meets k before [] u y other inside = absurd (omega arith)
after_meets k before (part ∷ parts) u zero other inside =
    let four = year_series k (year_in 0 part) before (first_of u) in
    four_add_up four (series_after k (first_of u) (map (year_in 0) parts) (drop 1 u)) part.bench
    (year_count k (year_in 0 part) before (first_of u) part.indicators)
    (year_adds_up k (year_in 0 part) before (first_of u) part.indicators)
after_meets k before (part ∷ parts) u (suc y) other inside =
    let four = year_series k (year_in 0 part) before (first_of u) in
    adds_up_next four (series_after k (first_of u) (map (year_in 0) parts) (drop 1 u)) (get_or parts y other).bench y
    (year_count k (year_in 0 part) before (first_of u) part.indicators)
    (after_meets k (first_of u) parts (drop 1 u) y other (omega arith))

-- in a series each year adds up to its benchmark
pub series_meets : (k : ℕ) (parts : List YearPart) (u : List ℤ) (y : ℕ) (other : YearPart) → y < length parts →
    AddsUpTo (get_or parts y other).bench (series_of k (map (year_in 0) parts) u) y
unfolding series_of
series_meets k parts u y other inside = after_meets k (pos 0) parts u y other inside

-- years that stand elsewhere have the same values
after_wherever : (k : ℕ) (before : ℤ) (places : List ℕ) (parts : List YearPart) (u : List ℤ) →
    length places ≡ length parts →
    series_after k before (years_in places parts) u ≡ series_after k before (map (year_in 0) parts) u
after_wherever k before [] [] u e = refl
after_wherever k before [] (part ∷ parts) u e = absurd (omega arith)
after_wherever k before (place ∷ places) [] u e = absurd (omega arith)
after_wherever k before (place ∷ places) (part ∷ parts) u e =
    ap (λ (xs : List ℤ). year_series k (year_in 0 part) before (first_of u) ++ xs)
    (after_wherever k (first_of u) places parts (drop 1 u) (omega arith))

-- so a series is the same wherever the years stand
pub series_wherever : (k : ℕ) (places : List ℕ) (parts : List YearPart) (u : List ℤ) →
    length places ≡ length parts → series_of k (years_in places parts) u ≡ series_of k (map (year_in 0) parts) u
unfolding series_of
series_wherever k places parts u e = after_wherever k (pos 0) places parts u e

after_count : (k : ℕ) (before : ℤ) (years : List BenchmarkedYear) (u : List ℤ) → AreInRange years →
    length (series_after k before years u) ≡ 4 * length years
after_count k before [] u range = refl
after_count k before (year ∷ years) u range =
    let four = year_count k year before (first_of u) (All-head IsInRange year years range).0 in
    let more = after_count k (first_of u) years (drop 1 u) (All-tail IsInRange year years range) in
    omega (arith, length-append (year_series k year before (first_of u)) (series_after k (first_of u) years (drop 1 u)))

-- a series has four values a year
pub series_count : (k : ℕ) (years : List BenchmarkedYear) (u : List ℤ) → AreInRange years →
    length (series_of k years u) ≡ 4 * length years
unfolding series_of
series_count k years u range = after_count k (pos 0) years u range

-- the first four of a list that begins with four, and the rest
pub four_taken : (four rest : List ℤ) → length four ≡ 4 →
    (take 4 (four ++ rest) ≡ four) × (drop 4 (four ++ rest) ≡ rest)
four_taken (w ∷ x ∷ y ∷ z ∷ []) rest count = (refl, refl)
four_taken [] rest count = absurd (omega arith)
four_taken (w ∷ []) rest count = absurd (omega arith)
four_taken (w ∷ x ∷ []) rest count = absurd (omega arith)
four_taken (w ∷ x ∷ y ∷ []) rest count = absurd (omega arith)
four_taken (w ∷ x ∷ y ∷ z ∷ v ∷ more) rest count = absurd (omega arith)

after_shares : (k : ℕ) (before : ℤ) (years : List BenchmarkedYear) (u : List ℤ) → AreInRange years →
    AreShareOuts k before years u (series_after k before years u)
after_shares k before [] u range = refl
after_shares k before (year ∷ years) u range =
    let shares = year_shares k year before (first_of u) (All-head IsInRange year years range).0 in
    let later = after_shares k (first_of u) years (drop 1 u) (All-tail IsInRange year years range) in
    let cut = four_taken (year_series k year before (first_of u)) (series_after k (first_of u) years (drop 1 u))
    shares.same_length in (
      subst (λ (xs : List ℤ). IsShareOut (value_parts k year before (first_of u)) (level_unit k year) year.benchmark xs)
          (sym cut.0) shares,
      subst (λ (xs : List ℤ). AreShareOuts k (first_of u) years (drop 1 u) xs) (sym cut.1) later,
    )

-- a series is made of the years' share-outs
pub series_shares : (k : ℕ) (years : List BenchmarkedYear) (u : List ℤ) → AreInRange years →
    AreShareOuts k (pos 0) years u (series_of k years u)
unfolding series_of
series_shares k years u range = after_shares k (pos 0) years u range

-- behind four values the others begin
drop_four : (four rest : List ℤ) (n : ℕ) → length four ≡ 4 → drop (suc (suc (suc (suc n)))) (four ++ rest) ≡ drop n rest
drop_four (w ∷ x ∷ y ∷ z ∷ []) rest n count = refl
drop_four [] rest n count = absurd (omega arith)
drop_four (w ∷ []) rest n count = absurd (omega arith)
drop_four (w ∷ x ∷ []) rest n count = absurd (omega arith)
drop_four (w ∷ x ∷ y ∷ []) rest n count = absurd (omega arith)
drop_four (w ∷ x ∷ y ∷ z ∷ v ∷ more) rest n count = absurd (omega arith)

-- the multiplier before a later year, and the one after it
before_later : (u : List ℤ) (y : ℕ) → get_or (first_of u ∷ drop 1 u) y (pos 0) ≡ get_or u y (pos 0)
before_later [] zero = refl
before_later [] (suc y) = refl
before_later (own ∷ u) y = refl

behind_later : (u : List ℤ) (y : ℕ) → first_of (drop y (drop 1 u)) ≡ first_of (drop (suc y) u)
behind_later [] zero = refl
behind_later [] (suc y) = refl
behind_later (own ∷ u) y = refl

after_at : (k : ℕ) (before : ℤ) (years : List BenchmarkedYear) (u : List ℤ) (y : ℕ) (d : BenchmarkedYear) →
    AreInRange years → y < length years →
    take 4 (drop (4 * y) (series_after k before years u))
    ≡ year_series k (get_or years y d) (get_or (before ∷ u) y (pos 0)) (first_of (drop y u))
after_at k before [] u y d range inside = absurd (omega arith)
after_at k before (year ∷ years) u zero d range inside =
    (four_taken (year_series k year before (first_of u)) (series_after k (first_of u) years (drop 1 u))
    (year_count k year before (first_of u) (All-head IsInRange year years range).0)).0
after_at k before (year ∷ years) u (suc y) d range inside =
    let four = year_count k year before (first_of u) (All-head IsInRange year years range).0 in
    let more : 4 * suc y ≡ suc (suc (suc (suc (4 * y)))) = omega arith in
    ap (λ n. take 4 (drop n (series_after k before (year ∷ years) u))) more
    ∙ ap (λ (xs : List ℤ). take 4 xs) (drop_four (year_series k year before (first_of u))
    (series_after k (first_of u) years (drop 1 u)) (4 * y) four)
    ∙ after_at k (first_of u) years (drop 1 u) y d (All-tail IsInRange year years range) (omega arith)
    ∙ ap (λ n. year_series k (get_or years y d) n (first_of (drop y (drop 1 u)))) (before_later u y)
    ∙ ap (λ n. year_series k (get_or years y d) (get_or u y (pos 0)) n) (behind_later u y)

-- the values of a year in a series, by its place among the years
pub series_at : (k : ℕ) (years : List BenchmarkedYear) (u : List ℤ) (y : ℕ) (d : BenchmarkedYear) →
    AreInRange years → y < length years →
    take 4 (drop (4 * y) (series_of k years u))
    ≡ year_series k (get_or years y d) (get_or (pos 0 ∷ u) y (pos 0)) (first_of (drop y u))
unfolding series_of
series_at k years u y d range inside = after_at k (pos 0) years u y d range inside

-- the part of a quarter
part_at : (k : ℕ) (year : BenchmarkedYear) (left right : ℤ) (j : ℕ) → j < 4 →
    get_or (value_parts k year left right) j (pos 0) ≡ value_part k year left right j
part_at k year left right zero inside = refl
part_at k year left right (suc zero) inside = refl
part_at k year left right (suc (suc zero)) inside = refl
part_at k year left right (suc (suc (suc zero))) inside = refl
part_at k year left right (suc (suc (suc (suc j)))) inside = absurd (omega arith)

-- a quarter's indicator is positive
indicator_least : (indicators : List ℕ) (j : ℕ) → AreIndicators indicators → j < 4 → 1 ≤ slice_index indicators j
indicator_least indicators zero are inside = are.first.0
indicator_least indicators (suc zero) are inside = are.second.0
indicator_least indicators (suc (suc zero)) are inside = are.third.0
indicator_least indicators (suc (suc (suc zero))) are inside = are.fourth.0
indicator_least indicators (suc (suc (suc (suc j)))) are inside = absurd (omega arith)

-- a quarter's share reaches no further than 8 * 10^15 times its indicator
pub share_within : (k : ℕ) (year : BenchmarkedYear) (left right : ℤ) (j : ℕ) → AreIndicators year.indicators → j < 4 →
    k ≤ 15 → IsScaled k year → IsMultiplier left → IsMultiplier right →
    10 ^ k * unsigned_abs (get_or (year_series k year left right) j (pos 0))
    ≤ 8 * 10 ^ 15 * slice_index year.indicators j
share_within k year left right j are inside small scaled first second =
    elim ((year_shares k year left right are).floor_or_more j inside) [
      | inl floor ↦ made (floor_of part den) floor (near_floor part den (floor_of part den) positive
          (floor_is part den positive))
      | inr more ↦ made (floor_of part den +ℤ pos 1) more
          (near_one_more part den (floor_of part den) positive (floor_is part den positive))
    ]
  where
    den : ℤ
    den = level_unit k year

    part : ℤ
    part = get_or (value_parts k year left right) j (pos 0)

    positive : pos 0 <ℤ level_unit k year
    positive = level_unit_positive k year are

    made : (share : ℤ) → get_or (year_series k year left right) j (pos 0) ≡ share →
        IsNear (get_or (value_parts k year left right) j (pos 0)) (level_unit k year *ℤ share) (level_unit k year) →
        10 ^ k * unsigned_abs (get_or (year_series k year left right) j (pos 0))
        ≤ 8 * 10 ^ 15 * slice_index year.indicators j
    made share e near =
        let some = indicator_least year.indicators j are inside in
        let level = level_within year.indicators year.benchmark k left right j are first second scaled in
        let here = rw (part_at k year left right j inside) at near in
        rw e (value_within (slice_index year.indicators j) (year_sum year.indicators) k
        (level_of year.indicators year.benchmark k left right j) share some
        (omega (arith, are.first.0)) small level here)

-- all four quarters of the first year, and those of later years
reach_first : (four rest : List ℤ) (i0 i1 i2 i3 : ℕ) (later : List ℕ) (k : ℕ) → length four ≡ 4 →
    ((j : ℕ) → j < 4 → 10 ^ k * unsigned_abs (get_or four j (pos 0))
    ≤ 8 * 10 ^ 15 * slice_index (i0 ∷ i1 ∷ i2 ∷ i3 ∷ []) j) →
    ((t : ℕ) → t < length rest → 10 ^ k * unsigned_abs (get_or rest t (pos 0)) ≤ 8 * 10 ^ 15 * slice_index later t) →
    (t : ℕ) → t < length (four ++ rest) → 10 ^ k * unsigned_abs (get_or (four ++ rest) t (pos 0))
    ≤ 8 * 10 ^ 15 * slice_index (i0 ∷ i1 ∷ i2 ∷ i3 ∷ later) t
reach_first (w ∷ x ∷ y ∷ z ∷ []) rest i0 i1 i2 i3 later k four own others zero inside = own 0 (omega arith)
reach_first (w ∷ x ∷ y ∷ z ∷ []) rest i0 i1 i2 i3 later k four own others (suc zero) inside = own 1 (omega arith)
reach_first (w ∷ x ∷ y ∷ z ∷ []) rest i0 i1 i2 i3 later k four own others (suc (suc zero)) inside = own 2 (omega arith)
reach_first (w ∷ x ∷ y ∷ z ∷ []) rest i0 i1 i2 i3 later k four own others (suc (suc (suc zero))) inside =
    own 3 (omega arith)
reach_first (w ∷ x ∷ y ∷ z ∷ []) rest i0 i1 i2 i3 later k four own others (suc (suc (suc (suc t)))) inside =
    others t (omega arith)
reach_first [] rest i0 i1 i2 i3 later k four own others t inside = absurd (omega arith)
reach_first (w ∷ []) rest i0 i1 i2 i3 later k four own others t inside = absurd (omega arith)
reach_first (w ∷ x ∷ []) rest i0 i1 i2 i3 later k four own others t inside = absurd (omega arith)
reach_first (w ∷ x ∷ y ∷ []) rest i0 i1 i2 i3 later k four own others t inside = absurd (omega arith)
reach_first (w ∷ x ∷ y ∷ z ∷ v ∷ more) rest i0 i1 i2 i3 later k four own others t inside = absurd (omega arith)

-- the indicators of a year, one by one
four_indicators : (indicators : List ℕ) (j : ℕ) → j < 4 →
    slice_index indicators j ≡ slice_index (slice_index indicators 0 ∷ slice_index indicators 1
    ∷ slice_index indicators 2 ∷ slice_index indicators 3 ∷ []) j
four_indicators indicators zero inside = refl
four_indicators indicators (suc zero) inside = refl
four_indicators indicators (suc (suc zero)) inside = refl
four_indicators indicators (suc (suc (suc zero))) inside = refl
four_indicators indicators (suc (suc (suc (suc j)))) inside = absurd (omega arith)

-- multipliers in range: the first, and those after it
first_small : (u : List ℤ) → AreMultipliers u → IsMultiplier (first_of u)
first_small [] each = omega arith
first_small (own ∷ u) each = each 0 (omega arith)

later_small : (u : List ℤ) → AreMultipliers u → AreMultipliers (drop 1 u)
later_small [] each y inside = absurd (omega arith)
later_small (own ∷ u) each y inside = each (suc y) (omega arith)

after_within : (k : ℕ) (before : ℤ) (parts : List YearPart) (u : List ℤ) → k ≤ 15 →
    AreScaled k (map (year_in 0) parts) → IsMultiplier before → AreMultipliers u →
    (t : ℕ) → t < length (series_after k before (map (year_in 0) parts) u) →
    10 ^ k * unsigned_abs (get_or (series_after k before (map (year_in 0) parts) u) t (pos 0))
    ≤ 8 * 10 ^ 15 * slice_index (indicators_of parts) t
after_within k before [] u small scaled first each t inside = absurd (omega arith)
after_within k before (part ∷ parts) u small scaled first each t inside =
    let year = year_in 0 part in
    let own = All-head (IsScaled k) (year_in 0 part) (map (year_in 0) parts) scaled in
    let later = All-tail (IsScaled k) (year_in 0 part) (map (year_in 0) parts) scaled in
    reach_first (year_series k year before (first_of u))
    (series_after k (first_of u) (map (year_in 0) parts) (drop 1 u)) _ _ _ _ (indicators_of parts) k
    (year_count k year before (first_of u) part.indicators)
    (λ j inside. subst (λ (i : ℕ). 10 ^ k * unsigned_abs
    (get_or (year_series k (year_in 0 part) before (first_of u)) j (pos 0))
    ≤ 8 * 10 ^ 15 * i) (four_indicators part.ind j inside)
    (share_within k (year_in 0 part) before (first_of u) j part.indicators inside small own first (first_small u each)))
    (after_within k (first_of u) parts (drop 1 u) small later (first_small u each) (later_small u each)) t inside

-- a series is in reach of its indicators
pub series_within : (k : ℕ) (parts : List YearPart) (u : List ℤ) → k ≤ 15 → AreScaled k (map (year_in 0) parts) →
    AreMultipliers u → (t : ℕ) → t < length (series_of k (map (year_in 0) parts) u) →
    10 ^ k * unsigned_abs (get_or (series_of k (map (year_in 0) parts) u) t (pos 0))
    ≤ 8 * 10 ^ 15 * slice_index (indicators_of parts) t
unfolding series_of
series_within k parts u small scaled each = after_within k (pos 0) parts u small scaled (omega arith) each

-- each indicator of the years is at most 10^9
pub indicators_most : (parts : List YearPart) (t : ℕ) → slice_index (indicators_of parts) t ≤ 10 ^ 9
indicators_most [] t = omega arith
indicators_most (part ∷ parts) zero = let are = part.indicators in are.first.1
indicators_most (part ∷ parts) (suc zero) = let are = part.indicators in are.second.1
indicators_most (part ∷ parts) (suc (suc zero)) = let are = part.indicators in are.third.1
indicators_most (part ∷ parts) (suc (suc (suc zero))) = let are = part.indicators in are.fourth.1
indicators_most (part ∷ parts) (suc (suc (suc (suc t)))) = indicators_most parts t

-- ---- the loop over the years

-- the rest of a rest
drop_next : (u : List ℤ) (y : ℕ) → drop 1 (drop y u) ≡ drop (suc y) u
drop_next [] zero = refl
drop_next [] (suc y) = refl
drop_next (own ∷ u) zero = refl
drop_next (own ∷ u) (suc y) = drop_next u y

-- no year yet
pub written_none : (k : ℕ) (years : List BenchmarkedYear) (u out : List ℤ) →
    take (4 * 0) out ++ series_after k (pos 0) (drop 0 years) (drop 0 u) ≡ series_of k years u
unfolding series_of
written_none k years u out = refl

-- one more year is written
pub written_more : (k : ℕ) (left right : ℤ) (parts : List YearPart) (u out quarters new whole : List ℤ) (y : ℕ)
    (d : YearPart) → y < length parts → 4 * y + 4 ≤ length out → d ≡ get_or parts y d →
    quarters ≡ year_series k (year_in 0 d) left right → right ≡ first_of (drop y u) →
    new ≡ take (4 * y) out ++ quarters ++ drop (4 * y + 4) out →
    take (4 * y) out ++ series_after k left (drop y (map (year_in 0) parts)) (drop y u) ≡ whole →
    take (4 * (y + 1)) new ++ series_after k right (drop (y + 1) (map (year_in 0) parts)) (drop (y + 1) u) ≡ whole
written_more k left right parts u out quarters new whole y d inside room e_part e_quarters e_right e_new e =
    let years : List BenchmarkedYear = map (year_in 0) parts in
    let there : y < length (map (year_in 0) parts) = omega (arith, length-map parts (year_in 0)) in
    let e_year : year_in 0 d ≡ get_or (map (year_in 0) parts) y (year_in 0 d) =
    ap (year_in 0) e_part ∙ sym (get_or-map (year_in 0) parts y d (year_in 0 d) inside) in
    let four : length quarters ≡ 4 = ap length e_quarters ∙ year_count k (year_in 0 d) left right d.indicators in
    let before : length (take (4 * y) out) ≡ 4 * y = length-take-le (4 * y) out (omega arith) in
    let count : 4 * (y + 1) ≡ length (take (4 * y) out ++ quarters) =
    omega (arith, length-append (take (4 * y) out) quarters) in
    let here : take (4 * (y + 1)) new ≡ take (4 * y) out ++ quarters =
    ap (λ n. take n new) count ∙ ap (λ (xs : List ℤ). take (length (take (4 * y) out ++ quarters)) xs) e_new
    ∙ take-append_seam (take (4 * y) out ++ quarters) (drop (4 * y + 4) out) in
    let year : series_after k left (drop y (map (year_in 0) parts)) (drop y u)
    ≡ quarters ++ series_after k right (drop (suc y) (map (year_in 0) parts)) (drop (suc y) u) =
    ap (λ (ys : List BenchmarkedYear). series_after k left ys (drop y u)) (drop-cons years y (year_in 0 d) there)
    ∙ ap (λ (n : ℤ). year_series k (get_or (map (year_in 0) parts) y (year_in 0 d)) left n
    ++ series_after k n (drop (suc y) (map (year_in 0) parts)) (drop 1 (drop y u))) (sym e_right)
    ∙ ap (λ (us : List ℤ). year_series k (get_or (map (year_in 0) parts) y (year_in 0 d)) left right
    ++ series_after k right (drop (suc y) (map (year_in 0) parts)) us) (drop_next u y)
    ∙ ap (λ (at : BenchmarkedYear). year_series k at left right
    ++ series_after k right (drop (suc y) (map (year_in 0) parts)) (drop (suc y) u)) (sym e_year)
    ∙ ap (λ (xs : List ℤ). xs ++ series_after k right (drop (suc y) (map (year_in 0) parts)) (drop (suc y) u))
    (sym e_quarters) in
    rw (here, add-one)
    (append_assoc (take (4 * y) out) quarters (series_after k right (drop (suc y) (map (year_in 0) parts))
    (drop (suc y) u))
    ∙ ap (λ (xs : List ℤ). take (4 * y) out ++ xs) (sym year) ∙ e)

-- all years are written
pub written_all : (k : ℕ) (left : ℤ) (years : List BenchmarkedYear) (u out whole : List ℤ) (y : ℕ) →
    length years ≤ y → length out ≤ 4 * y → take (4 * y) out ++ series_after k left (drop y years) (drop y u) ≡ whole →
    out ≡ whole
written_all k left years u out whole y all room e =
    rw (take_all (4 * y) out room, drop_all y years all, append-nil) at e
