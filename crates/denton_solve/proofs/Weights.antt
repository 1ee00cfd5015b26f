-- The weight of a joint from its parts, and the row of weights.
use Rattle.std.specs.Prelude.{◌≡◌, ◌≢◌, ℕ, ◌+◌, ◌*◌, ◌≤◌, ◌<◌, ℤ, pos, ◌+ℤ◌, ◌*ℤ◌, ◌≤ℤ◌, List, length}
use Rattle.std.proofs.Common.{inl, inr, ◌∙◌, ap, arith, get_or, set}
use Rattle.std.proofs.lemmas.Bool.{cases_lt}
use Rattle.std.proofs.lemmas.List.{get_or-set_same, get_or-set_other, get_or_default}
use Rattle.denton_parts.specs.Year.{BenchmarkedYear}
use Rattle.denton_parts.specs.Years.{year_in, years_apart}
use Rattle.denton_parts.specs.declared.year.YearPart.{YearPart}
use Rattle.denton_solve.specs.Sweeps.{thousandths, weight_of, weight_behind, weight_ahead}
use Rattle.denton_solve.proofs.Joints.{weight_apart}

-- three shares of one whole
abbrev pub three_shares : ℤ → ℤ → ℤ → ℤ → ℤ
three_shares a b c whole = thousandths a whole +ℤ thousandths b whole +ℤ thousandths c whole

-- equal parts of equal wholes have equal shares
pub same_shares : (a b c whole a1 b1 c1 whole1 : ℤ) → a ≡ a1 → b ≡ b1 → c ≡ c1 → whole ≡ whole1 →
    three_shares a b c whole ≡ three_shares a1 b1 c1 whole1
same_shares a b c whole a1 b1 c1 whole1 ea eb ec ew =
    ap (λ u. three_shares u b c whole) ea ∙ ap (λ u. three_shares a1 u c whole) eb
    ∙ ap (λ u. three_shares a1 b1 u whole) ec ∙ ap (λ u. three_shares a1 b1 c1 u) ew

-- what the code joins is the joint's weight
pub weight_is : (missing : List ℕ) (parts : List YearPart) (y : ℕ) (width behind ahead weight : ℤ)
    (before next : YearPart) → length missing + 1 ≡ length parts → y < length missing →
    width ≡ pos (1 + 4 * get_or missing y 0) → before ≡ get_or parts y before → next ≡ get_or parts (y + 1) next →
    behind ≡ weight_behind (year_in 0 before) → ahead ≡ weight_ahead (year_in 0 next) →
    weight ≡ pos 1000 *ℤ width +ℤ behind +ℤ ahead → (d : BenchmarkedYear) →
    weight ≡ weight_of (get_or (years_apart 0 missing parts) y d) (get_or (years_apart 0 missing parts) (y + 1) d)
weight_is missing parts y width behind ahead weight before next count inside e_width e_before e_next e_behind e_ahead e
    d =
    let second : next ≡ get_or parts (y + 1) before = e_next ∙ get_or_default parts (y + 1) next before (omega arith) in
    e ∙ ap (λ u. pos 1000 *ℤ u +ℤ behind +ℤ ahead) e_width
    ∙ ap (λ u. pos 1000 *ℤ pos (1 + 4 * get_or missing y 0) +ℤ u +ℤ ahead)
    (e_behind ∙ ap (λ (u : YearPart). weight_behind (year_in 0 u)) e_before)
    ∙ ap (λ u. pos 1000 *ℤ pos (1 + 4 * get_or missing y 0) +ℤ weight_behind (year_in 0 (get_or parts y before)) +ℤ u)
    (e_ahead ∙ ap (λ (u : YearPart). weight_ahead (year_in 0 u)) second)
    ∙ weight_apart 0 missing parts y d before count inside

-- one more joint has its weight
pub weights_more : (years : List BenchmarkedYear) (weights : List ℤ) (y : ℕ) (w : ℤ) → y < length weights →
    ((d : BenchmarkedYear) → w ≡ weight_of (get_or years y d) (get_or years (y + 1) d)) →
    ((j : ℕ) (d : BenchmarkedYear) → j < y →
    get_or weights j (pos 0) ≡ weight_of (get_or years j d) (get_or years (j + 1) d)) →
    (j : ℕ) (d : BenchmarkedYear) → j < y + 1 →
    get_or (set weights y w) j (pos 0) ≡ weight_of (get_or years j d) (get_or years (j + 1) d)
weights_more years weights y w room e value j d h = elim (cases_lt j y) [ inl less ↦ old less | inr more ↦ new more ]
  where
    old : j < y → get_or (set weights y w) j (pos 0) ≡ weight_of (get_or years j d) (get_or years (j + 1) d)
    old less =
        let apart : j ≢ y = omega arith in
        get_or-set_other weights y j w (pos 0) apart ∙ value j d less

    new : y ≤ j → get_or (set weights y w) j (pos 0) ≡ weight_of (get_or years j d) (get_or years (j + 1) d)
    new more =
        let place : j ≡ y = omega arith in
        rw place (get_or-set_same weights y w (pos 0) room ∙ e d)

-- and it is at least 1000
pub weights_least : (weights : List ℤ) (y : ℕ) (w : ℤ) → y < length weights → pos 1000 ≤ℤ w →
    ((j : ℕ) → j < y → pos 1000 ≤ℤ get_or weights j (pos 0)) → (j : ℕ) → j < y + 1 →
    pos 1000 ≤ℤ get_or (set weights y w) j (pos 0)
weights_least weights y w room least each j h = elim (cases_lt j y) [ inl less ↦ old less | inr more ↦ new more ]
  where
    old : j < y → pos 1000 ≤ℤ get_or (set weights y w) j (pos 0)
    old less = let apart : j ≢ y = omega arith in rw (get_or-set_other weights y j w (pos 0) apart) (each j less)

    new : y ≤ j → pos 1000 ≤ℤ get_or (set weights y w) j (pos 0)
    new more = let place : j ≡ y = omega arith in rw (place, get_or-set_same weights y w (pos 0) room) least
