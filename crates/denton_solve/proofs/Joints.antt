-- The joints between years so far apart: their widths, and that it makes no difference where the first year stands.
use Rattle.std.specs.Prelude.{◌≡◌, ℕ, ◌+◌, ◌-◌, ◌*◌, ◌<◌, ℤ, pos, ◌+ℤ◌, ◌-ℤ◌, ◌*ℤ◌, List, [], ◌∷◌, length, replicate}
use Rattle.std.proofs.Common.{refl, sym, ◌∙◌, ap, arith, zero, suc, get_or, inl, inr, subst}
use Rattle.ratio_arith.specs.Division.{floor_of}
use Rattle.denton_parts.specs.Level.{ratio_floor}
use Rattle.denton_parts.specs.Year.{BenchmarkedYear}
use Rattle.denton_parts.specs.Years.{year_in, years_in, places_apart, years_apart}
use Rattle.denton_parts.specs.declared.year.YearPart.{YearPart}
use Rattle.denton_parts.proofs.Places.{years_in-length, years_in-at, places_apart-length, places_apart-next}
use Rattle.denton_solve.specs.Conditions.{IsScaled, AreScaled}
use Rattle.denton_solve.specs.Sweeps.{width_of, weight_of, weight_behind, weight_ahead, cut_of, moved_of, first_of, sweep_after, sweep_of, iterated, swept, no_multipliers, multipliers_of, IsEnough}

-- there are as many places as parts
pub apart_places : (first : ℕ) (missing : List ℕ) (parts : List YearPart) → length missing + 1 ≡ length parts →
    length (places_apart first missing) ≡ length parts
apart_places first missing parts e = places_apart-length first missing ∙ e

-- and as many years
pub apart_count : (first : ℕ) (missing : List ℕ) (parts : List YearPart) → length missing + 1 ≡ length parts →
    length (years_apart first missing parts) ≡ length parts
apart_count first missing parts e =
    years_in-length (places_apart first missing) parts (apart_places first missing parts e)

-- a year so far apart is its part's at its place
pub apart_at : (first : ℕ) (missing : List ℕ) (parts : List YearPart) (y : ℕ) (d : BenchmarkedYear)
    (other : YearPart) → length missing + 1 ≡ length parts → y < length parts →
    get_or (years_apart first missing parts) y d
    ≡ year_in (get_or (places_apart first missing) y 0) (get_or parts y other)
apart_at first missing parts y d other e inside =
    years_in-at (places_apart first missing) parts y d other (apart_places first missing parts e) inside

-- so a part fits the scale that the years fit
pub scaled_at : (k : ℕ) (missing : List ℕ) (parts : List YearPart) (y : ℕ) (other : YearPart) →
    length missing + 1 ≡ length parts → y < length parts → AreScaled k (years_apart 0 missing parts) →
    IsScaled k (year_in 0 (get_or parts y other))
scaled_at k missing parts y other e inside are =
    let d : BenchmarkedYear = year_in 0 other in
    let here : IsScaled k (get_or (years_apart 0 missing parts) y (year_in 0 other)) =
    are y (year_in 0 other) (omega (arith, apart_count 0 missing parts e)) in
    subst (IsScaled k) (apart_at 0 missing parts y (year_in 0 other) other e inside) here

-- the width of a joint is that of the years between that miss a benchmark
pub width_apart : (first : ℕ) (missing : List ℕ) (parts : List YearPart) (y : ℕ) (d : BenchmarkedYear)
    (other : YearPart) → length missing + 1 ≡ length parts → y < length missing →
    width_of (get_or (years_apart first missing parts) y d) (get_or (years_apart first missing parts) (y + 1) d)
    ≡ 1 + 4 * get_or missing y 0
width_apart first missing parts y d other e inside =
    let more : y + 1 ≡ suc y = omega arith in
    rw (
      more,
      apart_at first missing parts y d other e (omega arith),
      apart_at first missing parts (suc y) d other e (omega arith),
    )
    (omega (arith, places_apart-next first missing y inside))

-- its weight from its width and the two parts
pub weight_apart : (first : ℕ) (missing : List ℕ) (parts : List YearPart) (y : ℕ) (d : BenchmarkedYear)
    (other : YearPart) → length missing + 1 ≡ length parts → y < length missing →
    pos 1000 *ℤ pos (1 + 4 * get_or missing y 0) +ℤ weight_behind (year_in 0 (get_or parts y other))
    +ℤ weight_ahead (year_in 0 (get_or parts (y + 1) other))
    ≡ weight_of (get_or (years_apart first missing parts) y d) (get_or (years_apart first missing parts) (y + 1) d)
weight_apart first missing parts y d other e inside =
    let year = apart_at first missing parts y d other e (omega arith) in
    let next = apart_at first missing parts (y + 1) d other e (omega arith) in
    ap (λ n. pos 1000 *ℤ pos n +ℤ weight_behind (year_in 0 (get_or parts y other))
    +ℤ weight_ahead (year_in 0 (get_or parts (y + 1) other))) (sym (width_apart first missing parts y d other e inside))
    ∙ ap (λ (u : BenchmarkedYear). pos 1000 *ℤ pos (width_of (get_or (years_apart first missing parts) y d)
    (get_or (years_apart first missing parts) (y + 1) d)) +ℤ weight_behind u
    +ℤ weight_ahead (year_in 0 (get_or parts (y + 1) other))) (sym year)
    ∙ ap (λ (u : BenchmarkedYear). pos 1000 *ℤ pos (width_of (get_or (years_apart first missing parts) y d)
    (get_or (years_apart first missing parts) (y + 1) d))
    +ℤ weight_behind (get_or (years_apart first missing parts) y d)
    +ℤ weight_ahead u) (sym next)

-- a sweep over two years and those behind them, where as many years lie between the two
joined : (k : ℕ) (place next_place other other_next : ℕ) (before own : ℤ) (part next : YearPart)
    (rest others : List BenchmarkedYear) (u : List ℤ) → next_place - suc place ≡ other_next - suc other →
    sweep_after k own (year_in next_place next ∷ rest) u ≡ sweep_after k own (year_in other_next next ∷ others) u →
    sweep_after k before (year_in place part ∷ year_in next_place next ∷ rest) (own ∷ u)
    ≡ sweep_after k before (year_in other part ∷ year_in other_next next ∷ others) (own ∷ u)
joined k place next_place other other_next before own part next rest others u e same =
    ap (λ n. cut_of (own +ℤ floor_of
    (pos 1000 *ℤ (ratio_floor k (year_in 0 next) own (first_of u) 0 -ℤ ratio_floor k (year_in 0 part) before own 3
    -ℤ pos (1 + 4 * n) *ℤ own))
    (pos 1000 *ℤ pos (1 + 4 * n) +ℤ weight_behind (year_in 0 part) +ℤ weight_ahead (year_in 0 next)))
    ∷ sweep_after k own (year_in next_place next ∷ rest) u) e
    ∙ ap (λ (us : List ℤ). cut_of (moved_of k (year_in other part) (year_in other_next next) before own (first_of u))
    ∷ us)
    same

-- where the first year stands makes no difference to a sweep
sweep_shift : (k first other : ℕ) (before : ℤ) (missing : List ℕ) (parts : List YearPart) (u : List ℤ) →
    sweep_after k before (years_apart first missing parts) u ≡ sweep_after k before (years_apart other missing parts) u
sweep_shift k first other before [] [] u = refl
sweep_shift k first other before [] (part ∷ parts) u = refl
sweep_shift k first other before (m ∷ missing) [] u = refl
sweep_shift k first other before (m ∷ []) (part ∷ []) u = refl
sweep_shift k first other before (m ∷ n ∷ missing) (part ∷ []) u = refl
sweep_shift k first other before (m ∷ []) (part ∷ next ∷ parts) [] = refl
sweep_shift k first other before (m ∷ n ∷ missing) (part ∷ next ∷ parts) [] = refl
sweep_shift k first other before (m ∷ []) (part ∷ next ∷ parts) (own ∷ u) =
    joined k first (suc (first + m)) other (suc (other + m)) before own part next [] [] u (omega arith)
    (sweep_shift k (suc (first + m)) (suc (other + m)) own [] (next ∷ parts) u)
sweep_shift k first other before (m ∷ n ∷ missing) (part ∷ next ∷ parts) (own ∷ u) =
    joined k first (suc (first + m)) other (suc (other + m)) before own part next
    (years_in (places_apart (suc (suc (first + m) + n)) missing) parts)
    (years_in (places_apart (suc (suc (other + m) + n)) missing) parts) u (omega arith)
    (sweep_shift k (suc (first + m)) (suc (other + m)) own (n ∷ missing) (next ∷ parts) u)

-- functions that agree everywhere agree after any number of times
iterated-same : (n : ℕ) (f g : List ℤ → List ℤ) (x : List ℤ) → ((u : List ℤ) → f u ≡ g u) →
    iterated n f x ≡ iterated n g x
unfolding iterated
iterated-same zero f g x same = refl
iterated-same (suc n) f g x same = same (iterated n f x) ∙ ap g (iterated-same n f g x same)

-- a whole sweep is the same wherever the first year stands
sweep_of-shift : (k first other : ℕ) (missing : List ℕ) (parts : List YearPart) (u : List ℤ) →
    sweep_of k (years_apart first missing parts) u ≡ sweep_of k (years_apart other missing parts) u
unfolding sweep_of
sweep_of-shift k first other missing parts u = sweep_shift k first other (pos 0) missing parts u

-- so are the multipliers after any number of sweeps
pub swept_shift : (k first other : ℕ) (missing : List ℕ) (parts : List YearPart) (n : ℕ) →
    length missing + 1 ≡ length parts →
    swept k (years_apart first missing parts) n ≡ swept k (years_apart other missing parts) n
swept_shift k first other missing parts n e =
    let count : length (years_apart first missing parts) ≡ length (years_apart other missing parts) =
    apart_count first missing parts e ∙ sym (apart_count other missing parts e) in
    ap (λ m. iterated n (sweep_of k (years_apart first missing parts)) (replicate (m - 1) (pos 0))) count
    ∙ iterated-same n (sweep_of k (years_apart first missing parts)) (sweep_of k (years_apart other missing parts))
    (no_multipliers (years_apart other missing parts)) (sweep_of-shift k first other missing parts)

-- and those that are looked for
pub multipliers_shift : (k first other : ℕ) (missing : List ℕ) (parts : List YearPart) →
    length missing + 1 ≡ length parts →
    multipliers_of k (years_apart first missing parts) ≡ multipliers_of k (years_apart other missing parts)
unfolding multipliers_of
multipliers_shift k first other missing parts e = swept_shift k first other missing parts 192 e

-- and how many sweeps are enough
pub enough_shift : (k first other : ℕ) (missing : List ℕ) (parts : List YearPart) (sweeps : ℕ) →
    length missing + 1 ≡ length parts → IsEnough k (years_apart first missing parts) sweeps →
    IsEnough k (years_apart other missing parts) sweeps
enough_shift k first other missing parts sweeps e (inl all) = inl all
enough_shift k first other missing parts sweeps e (inr still) =
    inr (
      still.0,
      sym (swept_shift k first other missing parts sweeps e) ∙ still.1
          ∙ swept_shift k first other missing parts (sweeps - 1) e,
    )
