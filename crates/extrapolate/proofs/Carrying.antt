-- The values outside the benchmarked years: how far they reach, and that they are written.
use Rattle.std.specs.Prelude.{◌≡◌, ℕ, ◌+◌, ◌*◌, ◌^◌, ◌≤◌, ◌<◌, ℤ, pos, ◌*ℤ◌, List, [], ◌∷◌, ◌++◌, map, length, take, drop, slice_index, unsigned_abs, EachIndex}
use Rattle.std.proofs.Common.{◌∙◌, ap, arith, zero, suc, get_or, set, drop-cons}
use Rattle.std.proofs.Math.Numerals.{add-one}
use Rattle.std.proofs.lemmas.List.{append-nil, append_assoc, take_more_set, take_all, drop_all}
use Rattle.ratio_arith.specs.Division.{round_of}
use Rattle.ratio_arith.proofs.Floors.{round_is}
use Rattle.denton_parts.specs.Level.{level_in, level_unit}
use Rattle.denton_parts.specs.Year.{BenchmarkedYear, AreIndicators, IsIndicator, IsMultiplier, year_sum}
use Rattle.denton_parts.proofs.Reach.{level_within, near_rounded, value_within, level_unit_positive}
use Rattle.extrapolate.specs.Carried.{at_quarter, carried, carried_back, carried_of, carried_back_of}

-- a value at the ratio of a quarter of a year reaches no further than 8 * 10^15 times its indicator
at_quarter_within : (k : ℕ) (year : BenchmarkedYear) (left right : ℤ) (j i : ℕ) → k ≤ 15 →
    10 ^ k * unsigned_abs year.benchmark ≤ 10 ^ 13 * year_sum year.indicators → AreIndicators year.indicators →
    IsMultiplier left → IsMultiplier right → 1 ≤ i →
    10 ^ k * unsigned_abs (at_quarter k year left right j i) ≤ 8 * 10 ^ 15 * i
at_quarter_within k year left right j i small fits are before after some =
    let level = level_in k year left right j in
    let unit = level_unit k year in
    let positive = level_unit_positive k year are in
    let within = level_within year.indicators year.benchmark k left right j are before after fits in
    let near = near_rounded (pos i *ℤ level) unit (round_of (pos i *ℤ level) unit) positive
    (round_is (pos i *ℤ level) unit positive) in
    value_within i (year_sum year.indicators) k level (at_quarter k year left right j i) some
    (omega (arith, are.first.0)) small within near

-- what reaches no further in each place does so in all of them
map_within : (k : ℕ) (f : ℕ → ℤ) → ((i : ℕ) → 1 ≤ i → 10 ^ k * unsigned_abs (f i) ≤ 8 * 10 ^ 15 * i) → (rest : List ℕ) →
    EachIndex rest (λ t. IsIndicator (slice_index rest t)) → (t : ℕ) → t < length (map f rest) →
    10 ^ k * unsigned_abs (get_or (map f rest) t (pos 0)) ≤ 8 * 10 ^ 15 * slice_index rest t
map_within k f within [] each t inside = absurd (omega arith)
map_within k f within (i ∷ rest) each zero inside = within i (each 0 (omega arith)).0
map_within k f within (i ∷ rest) each (suc t) inside = map_within k f within rest (λ u h. each (suc u) (omega arith)) t
    (omega arith)

-- all carried values do
pub carried_within : (k : ℕ) (last : BenchmarkedYear) (left : ℤ) (out : List ℤ) (indicators : List ℕ) →
    out ≡ carried_of k last left indicators → k ≤ 15 →
    10 ^ k * unsigned_abs last.benchmark ≤ 10 ^ 13 * year_sum last.indicators → AreIndicators last.indicators →
    IsMultiplier left → EachIndex indicators (λ t. IsIndicator (slice_index indicators t)) → (t : ℕ) → t < length out →
    10 ^ k * unsigned_abs (get_or out t (pos 0)) ≤ 8 * 10 ^ 15 * slice_index indicators t
unfolding carried_of
carried_within k last left out indicators e small fits are before each t inside =
    rw e (map_within k (carried k last left) (λ i some. at_quarter_within k last left (pos 0) 3 i small fits are before
    (omega arith) some) indicators each t (rw e at inside))

-- and all that are carried back
pub carried_back_within : (k : ℕ) (first : BenchmarkedYear) (right : ℤ) (out : List ℤ) (indicators : List ℕ) →
    out ≡ carried_back_of k first right indicators → k ≤ 15 →
    10 ^ k * unsigned_abs first.benchmark ≤ 10 ^ 13 * year_sum first.indicators → AreIndicators first.indicators →
    IsMultiplier right → EachIndex indicators (λ t. IsIndicator (slice_index indicators t)) → (t : ℕ) → t < length out →
    10 ^ k * unsigned_abs (get_or out t (pos 0)) ≤ 8 * 10 ^ 15 * slice_index indicators t
unfolding carried_back_of
carried_back_within k first right out indicators e small fits are after each t inside =
    rw e (map_within k (carried_back k first right) (λ i some. at_quarter_within k first (pos 0) right 0 i small fits
    are (omega arith) after some) indicators each t (rw e at inside))

-- values at a level over its unit are those of the definition
pub carried_is : (k : ℕ) (last : BenchmarkedYear) (left level unit : ℤ) (indicators : List ℕ) (out : List ℤ) →
    level ≡ level_in k last left (pos 0) 3 → unit ≡ level_unit k last →
    out ≡ map (λ i. round_of (pos i *ℤ level) unit) indicators → out ≡ carried_of k last left indicators
unfolding carried_of
carried_is k last left level unit indicators out e_level e_unit e =
    e ∙ ap (λ (n : ℤ). map (λ i. round_of (pos i *ℤ n) unit) indicators) e_level
    ∙ ap (λ (n : ℤ). map (λ i. round_of (pos i *ℤ level_in k last left (pos 0) 3) n) indicators) e_unit

pub carried_back_is : (k : ℕ) (first : BenchmarkedYear) (right level unit : ℤ) (indicators : List ℕ) (out : List ℤ) →
    level ≡ level_in k first (pos 0) right 0 → unit ≡ level_unit k first →
    out ≡ map (λ i. round_of (pos i *ℤ level) unit) indicators → out ≡ carried_back_of k first right indicators
unfolding carried_back_of
carried_back_is k first right level unit indicators out e_level e_unit e =
    e ∙ ap (λ (n : ℤ). map (λ i. round_of (pos i *ℤ n) unit) indicators) e_level
    ∙ ap (λ (n : ℤ). map (λ i. round_of (pos i *ℤ level_in k first (pos 0) right 0) n) indicators) e_unit
