-- The row that a sweep writes, beside the row that it reads: one more joint is done, and whether the rows agree so far.
use Rattle.std.specs.Prelude.{◌≡◌, ℕ, ◌+◌, ◌*◌, ◌<◌, ℤ, pos, ◌+ℤ◌, ◌-ℤ◌, ◌*ℤ◌, List, [], ◌∷◌, ◌++◌, length, take, drop}
use Rattle.std.proofs.Common.{refl, sym, ◌∙◌, ap, arith, get_or, set}
use Rattle.std.proofs.lemmas.List.{take_more, take_more_set, length-take-le}
use Rattle.ratio_arith.specs.Division.{floor_of}
use Rattle.denton_parts.specs.Level.{ratio_floor}
use Rattle.denton_parts.specs.Year.{BenchmarkedYear}
use Rattle.denton_parts.specs.Years.{year_in, years_apart}
use Rattle.denton_parts.specs.declared.year.YearPart.{YearPart}
use Rattle.denton_solve.specs.Conditions.{AreWeights}
use Rattle.denton_solve.specs.Sweeps.{cut_of, first_of, sweep_after}
use Rattle.denton_solve.proofs.Joints.{apart_at, apart_count, width_apart}
use Rattle.denton_solve.proofs.Steps.{swept_at}

-- one more joint of a sweep over parts is done
swept_of : (k : ℕ) (missing : List ℕ) (parts : List YearPart) (other : YearPart) (weights from into whole : List ℤ)
    (y : ℕ) (own width first last after : ℤ) → length missing + 1 ≡ length parts → y < length missing →
    y < length from → y < length into → AreWeights (years_apart 0 missing parts) weights →
    own ≡ first_of (drop y from) →
    last ≡ ratio_floor k (year_in 0 (get_or parts y other)) (get_or (pos 0 ∷ from) y (pos 0))
    (first_of (drop y from)) 3 →
    first ≡ ratio_floor k (year_in 0 (get_or parts (y + 1) other)) own (first_of (drop (y + 1) from)) 0 →
    width ≡ pos (1 + 4 * get_or missing y 0) →
    after ≡ cut_of (own +ℤ floor_of (pos 1000 *ℤ (first -ℤ last -ℤ width *ℤ own)) (get_or weights y (pos 0))) →
    take y into ++ sweep_after k (get_or (pos 0 ∷ from) y (pos 0)) (drop y (years_apart 0 missing parts)) (drop y from)
    ≡ whole →
    take (y + 1) (set into y after) ++ sweep_after k (get_or (pos 0 ∷ from) (y + 1) (pos 0))
    (drop (y + 1) (years_apart 0 missing parts)) (drop (y + 1) from) ≡ whole
swept_of k missing parts other weights from into whole y own width first last after count hy hf hi are e_own e_last
    e_first e_width e_after e =
    let d : BenchmarkedYear = year_in 0 other in
    let years = years_apart 0 missing parts in
    let inside : y + 1 < length (years_apart 0 missing parts) = omega (arith, apart_count 0 missing parts count) in
    let year = apart_at 0 missing parts y d other count (omega arith) in
    let next = apart_at 0 missing parts (y + 1) d other count (omega arith) in
    swept_at k years from into whole y d own width first last (get_or weights y (pos 0)) after inside hf hi e_own
    (e_last ∙ ap (λ (u : BenchmarkedYear). ratio_floor k u (get_or (pos 0 ∷ from) y (pos 0)) (first_of (drop y from)) 3)
    (sym year))
    (e_first ∙ ap (λ (u : BenchmarkedYear). ratio_floor k u own (first_of (drop (y + 1) from)) 0) (sym next))
    (e_width ∙ ap (λ n. pos n) (sym (width_apart 0 missing parts y d other count hy)))
    (are.value y d inside) e_after e

-- that, for parts of which there is one
pub swept : (k : ℕ) (missing : List ℕ) (parts : List YearPart) (weights from into whole : List ℤ) (y : ℕ)
    (own width first last after : ℤ) → length missing + 1 ≡ length parts → y < length missing →
    y < length from → y < length into → AreWeights (years_apart 0 missing parts) weights →
    own ≡ first_of (drop y from) →
    ((other : YearPart) → last
    ≡ ratio_floor k (year_in 0 (get_or parts y other)) (get_or (pos 0 ∷ from) y (pos 0)) (first_of (drop y from)) 3) →
    ((other : YearPart) →
    first ≡ ratio_floor k (year_in 0 (get_or parts (y + 1) other)) own (first_of (drop (y + 1) from)) 0) →
    width ≡ pos (1 + 4 * get_or missing y 0) →
    after ≡ cut_of (own +ℤ floor_of (pos 1000 *ℤ (first -ℤ last -ℤ width *ℤ own)) (get_or weights y (pos 0))) →
    take y into ++ sweep_after k (get_or (pos 0 ∷ from) y (pos 0)) (drop y (years_apart 0 missing parts)) (drop y from)
    ≡ whole →
    take (y + 1) (set into y after) ++ sweep_after k (get_or (pos 0 ∷ from) (y + 1) (pos 0))
    (drop (y + 1) (years_apart 0 missing parts)) (drop (y + 1) from) ≡ whole
swept k missing [] weights from into whole y own width first last after count hy hf hi are e_own e_last e_first e_width
    e_after e = absurd (omega arith)
swept k missing (part ∷ parts) weights from into whole y own width first last after count hy hf hi are e_own e_last
    e_first e_width e_after e =
    swept_of k missing (part ∷ parts) part weights from into whole y own width first last after count hy hf hi are e_own
    (e_last part) (e_first part) e_width e_after e

-- ---- whether the rows agree

-- they agree at one more place where they agreed before it and at it
pub agree_more : (from into : List ℤ) (y : ℕ) (after : ℤ) → y < length from → y < length into →
    take y into ≡ take y from → after ≡ get_or from y (pos 0) →
    take (y + 1) (set into y after) ≡ take (y + 1) from
agree_more from into y after hf hi before same =
    take_more_set into y after hi ∙ ap (λ u. u ++ after ∷ []) before ∙ ap (λ n. take y from ++ n ∷ []) same
    ∙ sym (take_more from y (pos 0) hf)

-- and then only
pub agreed_before : (from into : List ℤ) (y : ℕ) (after : ℤ) → y < length from → y < length into →
    take (y + 1) (set into y after) ≡ take (y + 1) from → (take y into ≡ take y from) × (after ≡ get_or from y (pos 0))
agreed_before from into y after hf hi same =
    cut (take y into) (take y from) after (get_or from y (pos 0))
    (omega (arith, length-take-le y into (omega arith), length-take-le y from (omega arith)))
    (sym (take_more_set into y after hi) ∙ same ∙ take_more from y (pos 0) hf)
  where
    cut : (us vs : List ℤ) (a b : ℤ) → length us ≡ length vs → us ++ a ∷ [] ≡ vs ++ b ∷ [] → (us ≡ vs) × (a ≡ b)
    cut [] [] a b e h = (refl, cc)
    cut [] (v ∷ vs) a b e h = absurd (omega arith)
    cut (u ∷ us) [] a b e h = absurd (omega arith)
    cut (u ∷ us) (v ∷ vs) a b e h =
        let heads : u ≡ v = cc in
        let tails : us ++ a ∷ [] ≡ vs ++ b ∷ [] = cc in
        let rest = cut us vs a b (omega arith) tails in
        (ap (λ n. n ∷ us) heads ∙ ap (λ ws. v ∷ ws) rest.0, rest.1)
