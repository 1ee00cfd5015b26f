-- Why the gap of a run's values is within its limit.
use Rattle.std.specs.Prelude.{◌≡◌, ℕ, suc, ◌+◌, ◌-◌, ◌*◌, ◌^◌, ◌≤◌, ◌<◌, ℤ, pos, ◌+ℤ◌, ◌-ℤ◌, ◌*ℤ◌, ◌≤ℤ◌, List, [], ◌∷◌, ◌++◌, map, take, drop, length, slice_index, unsigned_abs}
use Rattle.std.specs.List.{All}
use Rattle.std.proofs.Common.{refl, sym, ◌∙◌, ap, arith, subst, zero}
use Rattle.std.proofs.lemmas.List.{length-take-le}
use Rattle.std.proofs.lemmas.List.Elements.{All-head, All-tail, All-take, All-drop}
use Rattle.ratio_arith.specs.Nearness.{IsNear}
use Rattle.ratio_arith.proofs.Linear.{linear}
use Rattle.denton_parts.specs.Changes.{Fraction, steady, change_in_year, changes_from, changes}
use Rattle.denton_parts.specs.Gap.{gap_by}
use Rattle.denton_parts.specs.Level.{ratio_floor}
use Rattle.denton_parts.specs.Limit.{limit_of}
use Rattle.denton_parts.specs.Year.{BenchmarkedYear, AreIndicators}
use Rattle.denton_parts.specs.Years.{quarters_at}
use Rattle.denton_parts.proofs.Distances.{Follow, gap_within, constant_follow, constant_end}
use Rattle.denton_parts.proofs.Places.{IsInRange, AreInRange}
use Rattle.denton_solve.specs.Series.{year_series}
use Rattle.denton_solve.specs.Settling.{AreSettled, AreSettledBehind}
use Rattle.denton_solve.specs.Sweeps.{first_of}
use Rattle.denton_solve.proofs.YearRatios.{year_follow}
use Rattle.dual_cert.proofs.Duality.{changes_own, changes_other}
use Rattle.extrapolate.specs.Carried.{carried, carried_back, carried_of, carried_back_of, across_of, ratio_between, stepped}
use Rattle.extrapolate.proofs.Outside.{carried_at_ratio, between_first, between_last, between_near, stepped_follow}
use Rattle.node_compile.specs.Leaf.{quarters_between, values_behind, run_values}
use Rattle.node_compile.proofs.Behind.{AreBehind, AreFrom}

-- a run parted at one of its years
parted : (n : ℕ) (is : List ℕ) → n + 4 ≤ length is →
    take n is ++ (slice_index is n ∷ slice_index is (n + 1) ∷ slice_index is (n + 2) ∷ slice_index is (n + 3)
    ∷ drop (n + 4) is) ≡ is
parted n [] room = absurd (omega arith)
parted zero (i ∷ []) room = absurd (omega arith)
parted zero (i ∷ j ∷ []) room = absurd (omega arith)
parted zero (i ∷ j ∷ k ∷ []) room = absurd (omega arith)
parted zero (i ∷ j ∷ k ∷ l ∷ is) room = refl
parted (suc n) (i ∷ is) room =
    let e1 : suc n + 1 ≡ suc (n + 1) = omega arith in
    let e2 : suc n + 2 ≡ suc (n + 2) = omega arith in
    let e3 : suc n + 3 ≡ suc (n + 3) = omega arith in
    let e4 : suc n + 4 ≡ suc (n + 4) = omega arith in
    rw (e1, e2, e3, e4) (ap (λ (later : List ℕ). i ∷ later) (parted n is (omega arith)))

-- the multipliers after each year, 0 after the last: the first of them, and those behind it
abbrev after_first : List ℤ → List ℤ
after_first [] = []
after_first (own ∷ multipliers) = multipliers ++ (pos 0 ∷ [])

first_and_after : (u : List ℤ) → u ++ (pos 0 ∷ []) ≡ first_of u ∷ after_first u
first_and_after [] = refl
first_and_after (own ∷ multipliers) = refl

-- the changes of the quarters before the next benchmarked year, which are the multiplier that stands there, those of
-- the year, and those behind it
changes_parted : (missing place : ℕ) (left : ℤ) (year : BenchmarkedYear) (years : List BenchmarkedYear) (right : ℤ)
    (rights : List ℤ) (js : List ℕ) (i0 i1 i2 i3 : ℕ) (is : List ℕ) → length js ≡ 4 * missing →
    year.place ≡ place + missing →
    changes_from place left (year ∷ years) (right ∷ rights) (js ++ (i0 ∷ i1 ∷ i2 ∷ i3 ∷ is))
    ≡ map (λ i. steady left) js ++ (change_in_year year.indicators left right 0
    ∷ change_in_year year.indicators left right 1 ∷ change_in_year year.indicators left right 2
    ∷ change_in_year year.indicators left right 3 ∷ changes_from (suc year.place) right years rights is)
changes_parted zero place left year years right rights [] i0 i1 i2 i3 is count here =
    let own : year.place ≡ place = omega arith in
    changes_own place left year years right rights i0 i1 i2 i3 is own
    ∙ ap (λ (n : ℕ). change_in_year year.indicators left right 0 ∷ change_in_year year.indicators left right 1
    ∷ change_in_year year.indicators left right 2 ∷ change_in_year year.indicators left right 3
    ∷ changes_from (suc n) right years rights is) (sym own)
changes_parted zero place left year years right rights (j ∷ js) i0 i1 i2 i3 is count here = absurd (omega arith)
changes_parted (suc missing) place left year years right rights [] i0 i1 i2 i3 is count here = absurd (omega arith)
changes_parted (suc missing) place left year years right rights (j ∷ []) i0 i1 i2 i3 is count here =
    absurd (omega arith)
changes_parted (suc missing) place left year years right rights (j ∷ k ∷ []) i0 i1 i2 i3 is count here =
    absurd (omega arith)
changes_parted (suc missing) place left year years right rights (j ∷ k ∷ l ∷ []) i0 i1 i2 i3 is count here =
    absurd (omega arith)
changes_parted (suc missing) place left year years right rights (j ∷ k ∷ l ∷ m ∷ js) i0 i1 i2 i3 is count here =
    changes_other place left year years right rights j k l m (js ++ (i0 ∷ i1 ∷ i2 ∷ i3 ∷ is)) (omega arith)
    ∙ ap (λ (cs : List Fraction). steady left ∷ steady left ∷ steady left ∷ steady left ∷ cs)
    (changes_parted missing (suc place) left year years right rights js i0 i1 i2 i3 is (omega arith) (omega arith))

-- the quarters behind a benchmarked year follow it
behind_follow : (k : ℕ) (before : ℤ) (year : BenchmarkedYear) (years : List BenchmarkedYear) (u : List ℤ)
    (indicators : List ℕ) → All (λ i. 1 ≤ i) indicators → AreIndicators year.indicators →
    AreBehind year.place years indicators → AreInRange years → length u ≡ length years →
    AreSettledBehind k before year years u →
    Follow (pos (10 ^ k)) (ratio_floor k year before (first_of u) 3) indicators
    (values_behind k before year years u indicators)
    (changes_from (suc year.place) (first_of u) years (after_first u) indicators)
unfolding carried_of across_of
behind_follow k before year [] (own ∷ u) indicators each own_range are range joints settled = absurd (omega arith)
behind_follow k before year (next ∷ years) [] indicators each own_range are range joints settled = absurd (omega arith)
behind_follow k before year [] [] indicators each own_range are range joints settled =
    constant_end (pos (10 ^ k)) (ratio_floor k year before (pos 0) 3) (carried k year before) indicators
    (λ i some. carried_at_ratio k year before (pos 0) 3 i own_range) each
behind_follow k before year (next ∷ years) (own ∷ u) indicators each own_range are range joints settled =
    let gap : ℕ = next.place - suc year.place in
    let first : year.place < next.place = are.0 in
    let room : 4 * gap + 4 ≤ length indicators = are.1 in
    let js : List ℕ = take (4 * gap) indicators in
    let is : List ℕ = drop (4 * gap + 4) indicators in
    let i0 : ℕ = slice_index indicators (4 * gap) in
    let i1 : ℕ = slice_index indicators (4 * gap + 1) in
    let i2 : ℕ = slice_index indicators (4 * gap + 2) in
    let i3 : ℕ = slice_index indicators (4 * gap + 3) in
    let after : ℤ = first_of u in
    let from : ℤ = ratio_floor k year before own 3 in
    let to : ℤ = ratio_floor k next own after 0 in
    let count : length js ≡ 4 * gap = length-take-le (4 * gap) indicators (omega arith) in
    let wide : 1 + 4 * gap ≡ suc (length js) = omega (arith, count) in
    let range_next = All-head IsInRange next years range in
    let small : unsigned_abs (to -ℤ from -ℤ pos (suc (length js)) *ℤ own) ≤ 1000 * suc (length js) =
    subst (λ (n : ℕ). unsigned_abs (to -ℤ from -ℤ pos n *ℤ own) ≤ 1000 * n) wide settled.0 in
    let rest = behind_follow k own next years u is (All-drop (λ i. 1 ≤ i) (4 * gap + 4) indicators each) range_next.0
    are.3 (All-tail IsInRange next years range) (omega arith) settled.1 in
    let none_more : length js ≡ 0 + length js = omega arith in
    let near = between_near from to own (suc (length js)) (length js) (omega arith) small in
    let last = between_last from to (suc (length js)) (omega arith) in
    let reached : IsNear (ratio_between from to (suc (length js)) (0 + length js) +ℤ own) to (pos 1001) =
    subst (λ (n : ℕ). IsNear (ratio_between from to (suc (length js)) n +ℤ own) to (pos 1001)) none_more
    (subst (λ (r : ℤ). IsNear (ratio_between from to (suc (length js)) (length js) +ℤ own) r (pos 1001)) last near) in
    let own_follow = year_follow k next own after (ratio_between from to (suc (length js)) (0 + length js)) i0 i1 i2 i3 is
    (values_behind k own next years u is) (changes_from (suc next.place) after years (after_first u) is) range_next.0
    are.2 reached rest in
    let steps = stepped_follow k from to own (suc (length js)) 0 js (i0 ∷ i1 ∷ i2 ∷ i3 ∷ is)
    (year_series k next own after ++ values_behind k own next years u is)
    (change_in_year next.indicators own after 0 ∷ change_in_year next.indicators own after 1
    ∷ change_in_year next.indicators own after 2 ∷ change_in_year next.indicators own after 3
    ∷ changes_from (suc next.place) after years (after_first u) is) (omega arith) small
    (All-take (λ i. 1 ≤ i) (4 * gap) indicators each) own_follow in
    let begun = subst (λ (r : ℤ). Follow (pos (10 ^ k)) r (js ++ (i0 ∷ i1 ∷ i2 ∷ i3 ∷ is))
    (values_behind k before year (next ∷ years) (own ∷ u) indicators)
    (map (λ i. steady own) js ++ (change_in_year next.indicators own after 0
    ∷ change_in_year next.indicators own after 1 ∷ change_in_year next.indicators own after 2
    ∷ change_in_year next.indicators own after 3 ∷ changes_from (suc next.place) after years (after_first u) is)))
    (between_first from to (suc (length js)) (omega arith)) steps in
    let changed = changes_parted gap (suc year.place) own next years after (after_first u) js i0 i1 i2 i3 is count
    (omega arith) in
    subst (λ (l : List ℕ). Follow (pos (10 ^ k)) from l (values_behind k before year (next ∷ years) (own ∷ u) indicators)
    (changes_from (suc year.place) own (next ∷ years) (u ++ (pos 0 ∷ [])) l)) (parted (4 * gap) indicators (omega arith))
    (subst (λ (rights : List ℤ). Follow (pos (10 ^ k)) from (js ++ (i0 ∷ i1 ∷ i2 ∷ i3 ∷ is))
    (values_behind k before year (next ∷ years) (own ∷ u) indicators)
    (changes_from (suc year.place) own (next ∷ years) rights (js ++ (i0 ∷ i1 ∷ i2 ∷ i3 ∷ is))))
    (sym (first_and_after u))
    (subst (λ (cs : List Fraction). Follow (pos (10 ^ k)) from (js ++ (i0 ∷ i1 ∷ i2 ∷ i3 ∷ is))
    (values_behind k before year (next ∷ years) (own ∷ u) indicators) cs) (sym changed) begun))

-- the gap of the values of a run with small residuals is within the limit for its indicators
pub run_limited : (k : ℕ) (year : BenchmarkedYear) (years : List BenchmarkedYear) (u : List ℤ) (indicators : List ℕ) →
    All (λ i. 1 ≤ i) indicators → AreFrom year years indicators → AreInRange (year ∷ years) →
    length u + 1 ≡ length (year ∷ years) → AreSettled k (year ∷ years) u →
    gap_by (pos (10 ^ k)) indicators (run_values k (year ∷ years) u indicators) (changes (year ∷ years) u indicators)
    ≤ℤ limit_of (pos (10 ^ k)) indicators
unfolding carried_back_of
run_limited k year years u indicators each are range joints settled =
    let place : ℕ = year.place in
    let room : 4 * place + 4 ≤ length indicators = are.room in
    let js : List ℕ = take (4 * place) indicators in
    let is : List ℕ = drop (4 * place + 4) indicators in
    let i0 : ℕ = slice_index indicators (4 * place) in
    let i1 : ℕ = slice_index indicators (4 * place + 1) in
    let i2 : ℕ = slice_index indicators (4 * place + 2) in
    let i3 : ℕ = slice_index indicators (4 * place + 3) in
    let after : ℤ = first_of u in
    let ratio : ℤ = ratio_floor k year (pos 0) after 0 in
    let count : length js ≡ 4 * place = length-take-le (4 * place) indicators (omega arith) in
    let range_year = All-head IsInRange year years range in
    let rest = behind_follow k (pos 0) year years u is (All-drop (λ i. 1 ≤ i) (4 * place + 4) indicators each)
    range_year.0 are.behind (All-tail IsInRange year years range) (omega arith) settled in
    let stays : IsNear (ratio +ℤ pos 0) ratio (pos 1001) = omega (arith, linear) in
    let own_follow = year_follow k year (pos 0) after ratio i0 i1 i2 i3 is (values_behind k (pos 0) year years u is)
    (changes_from (suc place) after years (after_first u) is) range_year.0 are.own stays rest in
    let before = constant_follow (pos (10 ^ k)) ratio (carried_back k year after) js (i0 ∷ i1 ∷ i2 ∷ i3 ∷ is)
    (year_series k year (pos 0) after ++ values_behind k (pos 0) year years u is)
    (change_in_year year.indicators (pos 0) after 0 ∷ change_in_year year.indicators (pos 0) after 1
    ∷ change_in_year year.indicators (pos 0) after 2 ∷ change_in_year year.indicators (pos 0) after 3
    ∷ changes_from (suc place) after years (after_first u) is)
    (λ i some. carried_at_ratio k year (pos 0) after 0 i range_year.0) (All-take (λ i. 1 ≤ i) (4 * place) indicators each)
    own_follow in
    let changed = changes_parted place 0 (pos 0) year years after (after_first u) js i0 i1 i2 i3 is count (omega arith) in
    let whole : Follow (pos (10 ^ k)) ratio indicators (run_values k (year ∷ years) u indicators)
    (changes (year ∷ years) u indicators) =
    subst (λ (l : List ℕ). Follow (pos (10 ^ k)) ratio l (run_values k (year ∷ years) u indicators)
    (changes_from 0 (pos 0) (year ∷ years) (u ++ (pos 0 ∷ [])) l)) (parted (4 * place) indicators room)
    (subst (λ (rights : List ℤ). Follow (pos (10 ^ k)) ratio (js ++ (i0 ∷ i1 ∷ i2 ∷ i3 ∷ is))
    (run_values k (year ∷ years) u indicators)
    (changes_from 0 (pos 0) (year ∷ years) rights (js ++ (i0 ∷ i1 ∷ i2 ∷ i3 ∷ is)))) (sym (first_and_after u))
    (subst (λ (cs : List Fraction). Follow (pos (10 ^ k)) ratio (js ++ (i0 ∷ i1 ∷ i2 ∷ i3 ∷ is))
    (run_values k (year ∷ years) u indicators) cs) (sym changed) before)) in
    gap_within (pos (10 ^ k)) ratio indicators (run_values k (year ∷ years) u indicators)
    (changes (year ∷ years) u indicators) whole
