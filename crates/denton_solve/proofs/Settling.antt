-- The residuals that the last sweep leaves are small.
use Rattle.std.specs.Prelude.{◌≡◌, ℕ, ◌+◌, ◌-◌, ◌*◌, ◌/◌, ◌^◌, ◌≤◌, ℤ, pos, ◌+ℤ◌, ◌-ℤ◌, ◌*ℤ◌, neg_ℤ, ◌≤ℤ◌, ◌<ℤ◌, List, [], ◌∷◌, length, max, replicate, slice_index, unsigned_abs}
use Rattle.std.specs.List.{All}
use Rattle.std.proofs.Common.{refl, sym, ◌∙◌, ap, arith, zero, suc, subst}
use Rattle.std.proofs.lemmas.Int.{ints, clamps, unsigned_abs-mul}
use Rattle.std.proofs.lemmas.List.{length-replicate}
use Rattle.ratio_arith.specs.Division.{floor_of}
use Rattle.ratio_arith.proofs.Floors.{floor_is, floor_exact, floor_size}
use Rattle.ratio_arith.proofs.Linear.{linear, literal_product}
use Rattle.ratio_arith.proofs.Order.{product_mono}
use Rattle.ratio_arith.proofs.Ring.{same_by_ring, var, num, ◌⊕◌, ◌⊖◌, ◌⊗◌, neg}
use Rattle.denton_parts.specs.Level.{floored_change, level_in}
use Rattle.denton_parts.specs.Scale.{scale_of_years}
use Rattle.denton_parts.specs.Year.{BenchmarkedYear, AreIndicators, year_sum}
use Rattle.denton_parts.specs.Years.{Wherever, places_apart, years_apart}
use Rattle.denton_parts.specs.declared.year.YearPart.{YearPart}
use Rattle.denton_parts.proofs.Places.{parts_in_range}
use Rattle.denton_solve.specs.Conditions.{IsScaled, AreScaled}
use Rattle.denton_solve.specs.Settling.{greatest_difference, AreSettled, AreSettledBehind}
use Rattle.denton_solve.specs.Sweeps.{before_quarter, residual_of, weight_of, width_of, moved_of, cut_of, first_of, sweep_from, sweep_of, iterated, no_multipliers, swept, multipliers_of}
use Rattle.denton_solve.proofs.Joints.{apart_places}
use Rattle.denton_solve.proofs.Nearing.{weight_range, moved_nearer, sweeps_come_near}
use Rattle.denton_solve.proofs.Scaled.{scaled}
use Rattle.denton_solve.proofs.Steps.{iterated-count}

-- where no multiplier stands on either side no quarter of a year has a change
still_change : (year : BenchmarkedYear) (j : ℕ) → AreIndicators year.indicators →
    floor_of (pos 0 *ℤ (pos (year_sum year.indicators) -ℤ before_quarter year j) +ℤ pos 0 *ℤ before_quarter year j)
    (pos (year_sum year.indicators)) ≡ pos 0
still_change year j are =
    let whole = pos (year_sum year.indicators) in
    let part = before_quarter year j in
    let positive : pos 0 <ℤ whole = omega (arith, linear, are.first) in
    let e : pos 0 *ℤ (whole -ℤ part) +ℤ pos 0 *ℤ part ≡ whole *ℤ pos 0 =
    same_by_ring (whole ∷ part ∷ []) (num (pos 0) ⊗ (var 0 ⊖ var 1) ⊕ num (pos 0) ⊗ var 1) (var 0 ⊗ num (pos 0))
    refl in
    ap (λ u. floor_of u whole) e ∙ floor_exact whole (pos 0) positive

-- a level without rises
flat_level : (base i1 i2 i3 sum e1 e2 e3 rise : ℤ) → e1 ≡ pos 0 → e2 ≡ pos 0 → e3 ≡ pos 0 → rise ≡ pos 0 →
    base -ℤ (i1 *ℤ e1 +ℤ i2 *ℤ (e1 +ℤ e2) +ℤ i3 *ℤ (e1 +ℤ e2 +ℤ e3)) +ℤ sum *ℤ rise ≡ base
flat_level base i1 i2 i3 sum e1 e2 e3 rise h1 h2 h3 h =
    let none = num (pos 0) in
    let flat : base -ℤ (i1 *ℤ pos 0 +ℤ i2 *ℤ (pos 0 +ℤ pos 0) +ℤ i3 *ℤ (pos 0 +ℤ pos 0 +ℤ pos 0)) +ℤ sum *ℤ pos 0
    ≡ base =
    same_by_ring (base ∷ i1 ∷ i2 ∷ i3 ∷ sum ∷ []) (var 0 ⊖ (var 1 ⊗ none ⊕ var 2 ⊗ (none ⊕ none) ⊕ var 3
    ⊗ (none ⊕ none ⊕ none)) ⊕ var 4 ⊗ none) (var 0) refl in
    rw (h1, h2, h3, h) flat

-- the level of its first quarter is that of its benchmark
still_first : (k : ℕ) (year : BenchmarkedYear) → AreIndicators year.indicators →
    level_in k year (pos 0) (pos 0) 0 ≡ pos (10 ^ k) *ℤ year.benchmark
still_first k year are =
    flat_level (pos (10 ^ k) *ℤ year.benchmark) (pos (slice_index year.indicators 1))
    (pos (slice_index year.indicators 2)) (pos (slice_index year.indicators 3)) (pos (year_sum year.indicators))
    (floored_change year.indicators (pos 0) (pos 0) 1) (floored_change year.indicators (pos 0) (pos 0) 2)
    (floored_change year.indicators (pos 0) (pos 0) 3) (pos 0)
    (still_change year 1 are) (still_change year 2 are) (still_change year 3 are) refl

-- also that of its last quarter
still_last : (k : ℕ) (year : BenchmarkedYear) → AreIndicators year.indicators →
    level_in k year (pos 0) (pos 0) 3 ≡ pos (10 ^ k) *ℤ year.benchmark
still_last k year are =
    let one = still_change year 1 are in
    let two = still_change year 2 are in
    let three = still_change year 3 are in
    flat_level (pos (10 ^ k) *ℤ year.benchmark) (pos (slice_index year.indicators 1))
    (pos (slice_index year.indicators 2)) (pos (slice_index year.indicators 3)) (pos (year_sum year.indicators))
    (floored_change year.indicators (pos 0) (pos 0) 1) (floored_change year.indicators (pos 0) (pos 0) 2)
    (floored_change year.indicators (pos 0) (pos 0) 3)
    (floored_change year.indicators (pos 0) (pos 0) 1 +ℤ floored_change year.indicators (pos 0) (pos 0) 2
    +ℤ floored_change year.indicators (pos 0) (pos 0) 3)
    one two three (no_sum _ _ _ one two three)
  where
    no_sum : (a b c : ℤ) → a ≡ pos 0 → b ≡ pos 0 → c ≡ pos 0 → a +ℤ b +ℤ c ≡ pos 0
    no_sum a b c h1 h2 h3 = omega (arith, linear)

-- and its ratios within 10^13
still_ratio : (k : ℕ) (year : BenchmarkedYear) (level : ℤ) → AreIndicators year.indicators → IsScaled k year →
    level ≡ pos (10 ^ k) *ℤ year.benchmark → unsigned_abs (floor_of level (pos (year_sum year.indicators))) ≤ 10 ^ 13
still_ratio k year level are scaled e =
    let whole = year_sum year.indicators in
    let positive : pos 0 <ℤ pos whole = omega (arith, linear, are.first) in
    let size = unsigned_abs-mul (pos (10 ^ k)) year.benchmark in
    let same : unsigned_abs level ≡ unsigned_abs (pos (10 ^ k) *ℤ year.benchmark) = ap unsigned_abs e in
    let bound : unsigned_abs level ≤ 10 ^ 13 * whole = omega arith in
    let turned : pos whole *ℤ pos (10 ^ 13) ≡ pos (10 ^ 13 * whole) = omega (arith, ints) in
    floor_size level (pos whole) (10 ^ 13) positive (omega (arith, linear)) (omega (arith, linear))

-- from no multipliers a step goes no further than 2 * 10^13
moved_still : (k : ℕ) (year next : BenchmarkedYear) → AreIndicators year.indicators → AreIndicators next.indicators →
    IsScaled k year → IsScaled k next → unsigned_abs (moved_of k year next (pos 0) (pos 0) (pos 0)) ≤ 2 * 10 ^ 13
moved_still k year next are others scaled also =
    let last = still_ratio k year (level_in k year (pos 0) (pos 0) 3) are scaled (still_last k year are) in
    let first = still_ratio k next (level_in k next (pos 0) (pos 0) 0) others also (still_first k next others) in
    let weight = weight_of year next in
    let range = weight_range year next are others in
    let wide : pos 1000 ≤ℤ weight = omega (arith, linear, literal_product) in
    let res = residual_of k year next (pos 0) (pos 0) (pos 0) in
    let none : pos (width_of year next) *ℤ pos 0 ≡ pos 0 =
    same_by_ring (pos (width_of year next) ∷ []) (var 0 ⊗ num (pos 0)) (num (pos 0)) refl in
    let small : unsigned_abs (residual_of k year next (pos 0) (pos 0) (pos 0)) ≤ 2 * 10 ^ 13 =
    omega (arith, linear) in
    let times = product_mono (pos (2 * 10 ^ 13)) (pos 1000) weight (omega (arith, linear)) wide in
    let turned : pos (2 * 10 ^ 13) *ℤ weight ≡ weight *ℤ pos (2 * 10 ^ 13) =
    same_by_ring (weight ∷ pos (2 * 10 ^ 13) ∷ []) (var 1 ⊗ var 0) (var 0 ⊗ var 1) refl in
    let size = floor_size (pos 1000 *ℤ residual_of k year next (pos 0) (pos 0) (pos 0)) weight (2 * 10 ^ 13)
    (omega (arith, linear)) (omega (arith, linear, literal_product)) (omega (arith, linear, literal_product)) in
    omega (arith, linear)

-- each of a list is within a size
abbrev AreWithin : ℕ → List ℤ → Type 0
AreWithin most [] = Unit {0}
AreWithin most (z ∷ zs) = (unsigned_abs z ≤ most) × AreWithin most zs

-- what every multiplier of every sweep is within
abbrev bound : ℕ
bound = 13 * 10 ^ 13

-- from multipliers within the bound a step stays within it
moved_within : (k : ℕ) (year next : BenchmarkedYear) (l u r : ℤ) → AreIndicators year.indicators →
    AreIndicators next.indicators → IsScaled k year → IsScaled k next →
    unsigned_abs l ≤ bound → unsigned_abs u ≤ bound → unsigned_abs r ≤ bound →
    unsigned_abs (moved_of k year next l u r) ≤ bound
moved_within k year next l u r are others scaled also first second third =
    let near = moved_nearer k year next l u r (pos 0) (pos 0) (pos 0) bound are others (from_nothing l first)
    (from_nothing u second) (from_nothing r third) in
    within (moved_of k year next l u r) (moved_of k year next (pos 0) (pos 0) (pos 0)) near
    (moved_still k year next are others scaled also)
  where
    from_nothing : (z : ℤ) → unsigned_abs z ≤ bound → unsigned_abs (z -ℤ pos 0) ≤ bound
    from_nothing z h = omega (arith, linear)

    within : (moved still : ℤ) → 100 * unsigned_abs (moved -ℤ still) ≤ 84 * bound + 1500 →
        unsigned_abs still ≤ 2 * 10 ^ 13 → unsigned_abs moved ≤ bound
    within moved still near small = omega (arith, linear)

-- the first of a list
first_within : (us : List ℤ) → AreWithin bound us → unsigned_abs (first_of us) ≤ bound
first_within [] each = omega arith
first_within (u ∷ us) each = each.0

-- so does a sweep
sweep_from-within : (k : ℕ) (before : ℤ) (year : BenchmarkedYear) (years : List BenchmarkedYear) (us : List ℤ) →
    AreIndicators year.indicators → All (λ year. AreIndicators year.indicators) years →
    IsScaled k year → AreScaled k years → unsigned_abs before ≤ bound → AreWithin bound us → AreWithin bound
    (sweep_from k before year years us)
sweep_from-within k before year [] us are each scaled also small within = tt
sweep_from-within k before year (next ∷ years) [] are each scaled also small within = tt
sweep_from-within k before year (next ∷ years) (u ∷ us) are each scaled also small within =
    let others = each 0 next (omega arith) in
    let reached = also 0 next (omega arith) in (
      cut_within (moved_of k year next before u (first_of us)) (moved_within k year next before u (first_of us) are
          others scaled reached small within.0 (first_within us within.1)),
      sweep_from-within k u next years us others (λ y other inside. each (suc y) other (omega arith)) reached
          (λ y other inside. also (suc y) other (omega arith)) within.0 within.1,
    )
  where
    cut_within : (z : ℤ) → unsigned_abs z ≤ bound → unsigned_abs (cut_of z) ≤ bound
    cut_within z h = omega (arith, ints, clamps)

-- from the first year on
sweep_within : (k : ℕ) (years : List BenchmarkedYear) (us : List ℤ) →
    All (λ year. AreIndicators year.indicators) years → AreScaled k years → AreWithin bound us →
    AreWithin bound (sweep_of k years us)
unfolding sweep_of
sweep_within k [] us each also within = tt
sweep_within k (year ∷ years) us each also within =
    sweep_from-within k (pos 0) year years us (each 0 year (omega arith))
    (λ y other inside. each (suc y) other (omega arith)) (also 0 year (omega arith))
    (λ y other inside. also (suc y) other (omega arith)) (omega arith) within

-- no multipliers are within the bound
zeros_within : (n : ℕ) → AreWithin bound (replicate n (pos 0))
zeros_within zero = tt
zeros_within (suc n) = (omega arith, zeros_within n)

-- and all sweeps from nothing
swept_within : (k : ℕ) (years : List BenchmarkedYear) (n : ℕ) → All (λ year. AreIndicators year.indicators) years →
    AreScaled k years → AreWithin bound (swept k years n)
unfolding iterated
swept_within k years zero each also = zeros_within (length years - 1)
swept_within k years (suc n) each also =
    sweep_within k years (swept k years n) each also (swept_within k years n each also)

-- two rows within the bound
apart_within : (us vs : List ℤ) → AreWithin bound us → AreWithin bound vs → greatest_difference us vs ≤ 2 * bound
apart_within [] vs one two = omega arith
apart_within (u ∷ us) [] one two = omega arith
apart_within (u ∷ us) (v ∷ vs) one two = both_most (unsigned_abs (u -ℤ v)) (greatest_difference us vs) (2 * bound)
    (apart u v one.0 two.0) (apart_within us vs one.1 two.1)
  where
    apart : (a b : ℤ) → unsigned_abs a ≤ bound → unsigned_abs b ≤ bound → unsigned_abs (a -ℤ b) ≤ 2 * bound
    apart a b h g = omega (arith, linear)

    both_most : (a b m : ℕ) → a ≤ m → b ≤ m → max a b ≤ m
    both_most a b m h g = omega arith

-- how far a row is from the one that the next sweep makes of it, after so many sweeps
unfoldable shrunk : ℕ → ℕ
shrunk zero = 2 * bound
shrunk (suc n) = (84 * shrunk n + 1500) / 100

-- there is one multiplier fewer than years
swept_count : (k : ℕ) (year : BenchmarkedYear) (years : List BenchmarkedYear) (n : ℕ) →
    length (swept k (year ∷ years) n) ≡ length years
swept_count k year years n =
    let zeros : length (no_multipliers (year ∷ years)) ≡ length (year ∷ years) - 1 =
    length-replicate (length (year ∷ years) - 1) (pos 0) in
    let same = iterated-count k (year ∷ years) n (no_multipliers (year ∷ years)) (omega arith) in
    omega arith

-- two rows that follow one another are no further apart than that
sweeps_near : (k : ℕ) (year : BenchmarkedYear) (years : List BenchmarkedYear) (n : ℕ) →
    All (λ year. AreIndicators year.indicators) (year ∷ years) → AreScaled k (year ∷ years) →
    greatest_difference (sweep_of k (year ∷ years) (swept k (year ∷ years) n)) (swept k (year ∷ years) n) ≤ shrunk n
unfolding iterated shrunk
sweeps_near k year years zero each also = apart_within (sweep_of k (year ∷ years) (swept k (year ∷ years) 0))
    (swept k (year ∷ years) 0) (swept_within k (year ∷ years) 1 each also) (swept_within k (year ∷ years) 0 each also)
sweeps_near k year years (suc n) each also =
    let earlier = sweeps_near k year years n each also in
    let next : length (sweep_of k (year ∷ years) (swept k (year ∷ years) n)) ≡ length years =
    swept_count k year years (suc n) in
    let nearer = sweeps_come_near k (year ∷ years) (sweep_of k (year ∷ years) (swept k (year ∷ years) n))
    (swept k (year ∷ years) n) each (next ∙ sym (swept_count k year years n)) in
    less (greatest_difference (sweep_of k (year ∷ years) (swept k (year ∷ years) (suc n)))
    (swept k (year ∷ years) (suc n)))
    (greatest_difference (sweep_of k (year ∷ years) (swept k (year ∷ years) n)) (swept k (year ∷ years) n)) (shrunk n)
    nearer earlier
  where
    less : (new old most : ℕ) → 100 * new ≤ 84 * old + 1500 → old ≤ most → new ≤ (84 * most + 1500) / 100
    less new old most h g = omega arith

-- after all sweeps that is 100 at most
shrunk_all : shrunk 192 ≤ 100
unfolding shrunk
shrunk_all = omega arith

-- a step of at most 100 comes from a residual within a thousand for each change over the joint
small_residual : (res weight width : ℤ) → pos 1 ≤ℤ width → (pos 1000 *ℤ width) ≤ℤ weight →
    weight ≤ℤ (pos 1000 *ℤ width +ℤ pos 6000) → unsigned_abs (floor_of (pos 1000 *ℤ res) weight) ≤ 100 →
    (neg_ℤ (pos 1000 *ℤ width) ≤ℤ res) × (res ≤ℤ (pos 1000 *ℤ width))
small_residual res weight width some least most small =
    let floor = floor_is (pos 1000 *ℤ res) weight (omega (arith, linear, literal_product)) in
    let step = floor_of (pos 1000 *ℤ res) weight in
    let positive : pos 0 ≤ℤ weight = omega (arith, linear, literal_product) in
    let low = product_mono weight (neg_ℤ (pos 100)) step positive (omega (arith, linear)) in
    let high = product_mono weight step (pos 100) positive (omega (arith, linear)) in
    let e1 : weight *ℤ neg_ℤ (pos 100) ≡ neg_ℤ (pos 100 *ℤ weight) =
    same_by_ring (weight ∷ []) (var 0 ⊗ neg (num (pos 100))) (neg (num (pos 100) ⊗ var 0)) refl in
    let e2 : weight *ℤ pos 100 ≡ pos 100 *ℤ weight =
    same_by_ring (weight ∷ []) (var 0 ⊗ num (pos 100)) (num (pos 100) ⊗ var 0) refl in
    (omega (arith, linear, literal_product), omega (arith, linear, literal_product))

-- one joint of a row that a sweep hardly moves
settled_joint : (k : ℕ) (year next : BenchmarkedYear) (before own after : ℤ) → AreIndicators year.indicators →
    AreIndicators next.indicators → IsScaled k year → IsScaled k next →
    unsigned_abs before ≤ bound → unsigned_abs own ≤ bound → unsigned_abs after ≤ bound →
    unsigned_abs (cut_of (moved_of k year next before own after) -ℤ own) ≤ 100 →
    unsigned_abs (residual_of k year next before own after) ≤ 1000 * width_of year next
settled_joint k year next before own after are others scaled also first second third near =
    let moved = moved_within k year next before own after are others scaled also first second third in
    let step = own_step own (floor_of (pos 1000 *ℤ residual_of k year next before own after) (weight_of year next))
    moved near in
    let range = weight_range year next are others in
    let wide : pos 1 ≤ℤ pos (width_of year next) = omega (arith, linear) in
    let small = small_residual (residual_of k year next before own after) (weight_of year next)
    (pos (width_of year next)) wide range.0 range.1 step in
    as_size (residual_of k year next before own after) (width_of year next) small.0 small.1
  where
    own_step : (own step : ℤ) → unsigned_abs (own +ℤ step) ≤ bound →
        unsigned_abs (cut_of (own +ℤ step) -ℤ own) ≤ 100 → unsigned_abs step ≤ 100
    own_step own step h g = omega (arith, ints, clamps)

    as_size : (res : ℤ) (width : ℕ) → neg_ℤ (pos 1000 *ℤ pos width) ≤ℤ res → res ≤ℤ (pos 1000 *ℤ pos width) →
        unsigned_abs res ≤ 1000 * width
    as_size res width h g = omega (arith, linear, literal_product)

-- all joints behind a year
settled_behind : (k : ℕ) (before : ℤ) (year : BenchmarkedYear) (years : List BenchmarkedYear) (us : List ℤ) →
    AreIndicators year.indicators → All (λ year. AreIndicators year.indicators) years →
    IsScaled k year → AreScaled k years → unsigned_abs before ≤ bound → AreWithin bound us →
    greatest_difference (sweep_from k before year years us) us ≤ 100 → AreSettledBehind k before year years us
settled_behind k before year [] us are each scaled also small within near = tt
settled_behind k before year (next ∷ years) [] are each scaled also small within near = tt
settled_behind k before year (next ∷ years) (u ∷ us) are each scaled also small within near =
    let others = each 0 next (omega arith) in
    let reached = also 0 next (omega arith) in (
      settled_joint k year next before u (first_of us) are others scaled reached small within.0
          (first_within us within.1) (omega arith),
      settled_behind k u next years us others (λ y other inside. each (suc y) other (omega arith)) reached
          (λ y other inside. also (suc y) other (omega arith)) within.0 within.1 (omega arith),
    )

-- all joints
settled_by : (k : ℕ) (years : List BenchmarkedYear) (us : List ℤ) →
    All (λ year. AreIndicators year.indicators) years → AreScaled k years → AreWithin bound us →
    greatest_difference (sweep_of k years us) us ≤ 100 → AreSettled k years us
unfolding sweep_of
settled_by k [] us each also within near = tt
settled_by k (year ∷ years) us each also within near =
    settled_behind k (pos 0) year years us (each 0 year (omega arith))
    (λ y other inside. each (suc y) other (omega arith)) (also 0 year (omega arith))
    (λ y other inside. also (suc y) other (omega arith)) (omega arith) within near

-- the residuals of the multipliers are small
pub multipliers_settled : (k : ℕ) (years : List BenchmarkedYear) → All (λ year. AreIndicators year.indicators) years →
    AreScaled k years → AreSettled k years (multipliers_of k years)
unfolding multipliers_of
multipliers_settled k [] each also = tt
multipliers_settled k (year ∷ years) each also =
    let near = sweeps_near k year years 192 each also in
    let end = shrunk_all in
    settled_by k (year ∷ years) (swept k (year ∷ years) 192) each also (swept_within k (year ∷ years) 192 each also)
    (omega arith)

-- so are those of the multipliers of parts at their scale, wherever the first of them stands
pub parts_settled : (k first : ℕ) (missing : List ℕ) (parts : List YearPart) (multipliers : List ℤ) →
    length missing + 1 ≡ length parts → Wherever parts (λ years. k ≡ scale_of_years years) →
    multipliers ≡ multipliers_of k (years_apart first missing parts) →
    AreSettled k (years_apart first missing parts) multipliers
parts_settled k first missing parts multipliers between scale e =
    let years : List BenchmarkedYear = years_apart first missing parts in
    let in_range = parts_in_range (places_apart first missing) parts in
    let places = apart_places first missing parts between in
    let own : k ≡ scale_of_years years = scale (places_apart first missing) places in
    let fits : AreScaled k years = subst (λ (n : ℕ). AreScaled n years) (sym own) (scaled years in_range) in
    subst (λ (u : List ℤ). AreSettled k years u) (sym e)
    (multipliers_settled k years (λ y other inside. (in_range y other inside).0) fits)
