-- How the values of a run are written: those before its first benchmarked year, and then year by year.
use Rattle.std.specs.Prelude.{◌≡◌, ℕ, ◌+◌, ◌-◌, ◌*◌, ◌≤◌, ◌<◌, ℤ, pos, List, [], ◌∷◌, ◌++◌, take, drop, length}
use Rattle.std.proofs.Common.{refl, sym, ◌∙◌, ap, arith, suc, subst, get_or, drop-cons, length-append, length-drop}
use Rattle.std.proofs.Math.Seq.{take_at, drop-drop}
use Rattle.std.proofs.lemmas.List.{length-take-le, length-map, get_or-map, append_assoc, append-nil, drop_all, take_rest}
use Rattle.denton_parts.specs.Year.{BenchmarkedYear}
use Rattle.denton_parts.specs.Years.{AreYearsOf}
use Rattle.denton_parts.proofs.Places.{IsInRange, AreInRange}
use Rattle.denton_solve.specs.Series.{year_series}
use Rattle.denton_solve.specs.Sweeps.{first_of}
use Rattle.denton_solve.proofs.Steps.{first_of-drop}
use Rattle.denton_solve.proofs.Values.{year_count}
use Rattle.extrapolate.specs.Carried.{across_of, carried_back_of, carried_of}
use Rattle.extrapolate.proofs.Stepped.{across_count}
use Rattle.node_compile.specs.Leaf.{values_behind, run_values, quarters_between}
use Rattle.node_compile.proofs.Behind.{carried_back_count, rooms_of}

-- the values from a benchmarked year on: its own, and those behind it
abbrev pub values_from : ℕ → ℤ → BenchmarkedYear → List BenchmarkedYear → List ℤ → List ℕ → List ℤ
values_from k before year years u indicators =
    year_series k year before (first_of u) ++ values_behind k before year years u (drop (4 * year.place + 4) indicators)

-- the values are written up to a benchmarked year
pub record IsFilled (k : ℕ) (before : ℤ) (year : BenchmarkedYear) (years : List BenchmarkedYear) (u : List ℤ)
    (indicators : List ℕ) (out whole : List ℤ) : Type 0 where
  pub count : length out ≡ length indicators
  pub values : take (4 * year.place) out ++ values_from k before year years u indicators ≡ whole

-- a list put together of one and the rest of another is as long as that
joined_count : (n : ℕ) (xs old : List ℤ) → length xs ≡ n → n ≤ length old → length (xs ++ drop n old) ≡ length old
joined_count n xs old same room = omega (arith, length-append xs (drop n old), length-drop n old)

-- those before the first are
pub filled_first : (k : ℕ) (year : BenchmarkedYear) (years : List BenchmarkedYear) (u : List ℤ) (indicators : List ℕ)
    (old out : List ℤ) → length old ≡ length indicators → 4 * year.place + 4 ≤ length indicators →
    out ≡ carried_back_of k year (first_of u) (take (4 * year.place) indicators) ++ drop (4 * year.place) old →
    IsFilled k (pos 0) year years u indicators out (run_values k (year ∷ years) u indicators)
filled_first k year years u indicators old out same room e =
    let before : List ℤ = carried_back_of k year (first_of u) (take (4 * year.place) indicators) in
    let count : length before ≡ 4 * year.place =
    carried_back_count k year (first_of u) (take (4 * year.place) indicators)
    ∙ length-take-le (4 * year.place) indicators (omega arith) in
    let rest : List ℤ = values_from k (pos 0) year years u indicators in
    record {
      count = ap (λ (xs : List ℤ). length xs) e ∙ joined_count (4 * year.place) before old count (omega arith) ∙ same;
      values = ap (λ (xs : List ℤ). xs ++ rest)
          (ap (λ (xs : List ℤ). take (4 * year.place) xs) e
          ∙ take_at before (drop (4 * year.place) old) (4 * year.place) count);
    }

-- a year's own values are written where it stands
own_written : (place : ℕ) (out four mid : List ℤ) → length four ≡ 4 → 4 * place + 4 ≤ length out →
    mid ≡ take (4 * place) out ++ (four ++ drop (4 * place + 4) out) →
    (length mid ≡ length out) × (take (4 * place + 4) mid ≡ take (4 * place) out ++ four)
own_written place out four mid count room e =
    let head : List ℤ = take (4 * place) out ++ four in
    let before : length (take (4 * place) out) ≡ 4 * place = length-take-le (4 * place) out (omega arith) in
    let both : length head ≡ 4 * place + 4 = omega (arith, length-append (take (4 * place) out) four) in
    let is : mid ≡ head ++ drop (4 * place + 4) out =
    e ∙ sym (append_assoc (take (4 * place) out) four (drop (4 * place + 4) out)) in (
      ap (λ (xs : List ℤ). length xs) is ∙ joined_count (4 * place + 4) head out both room,
      ap (λ (xs : List ℤ). take (4 * place + 4) xs) is
          ∙ take_at head (drop (4 * place + 4) out) (4 * place + 4) both,
    )

-- a year and the quarters up to the next are written
pub filled_next : (k : ℕ) (before : ℤ) (year next : BenchmarkedYear) (years : List BenchmarkedYear) (u : List ℤ)
    (indicators : List ℕ) (out four mid across new whole : List ℤ) → length four ≡ 4 → year.place < next.place →
    4 * next.place + 4 ≤ length indicators → four ≡ year_series k year before (first_of u) →
    mid ≡ take (4 * year.place) out ++ (four ++ drop (4 * year.place + 4) out) →
    across ≡ across_of k year next before (first_of u) (first_of (drop 1 u))
    (take (4 * next.place - (4 * year.place + 4)) (drop (4 * year.place + 4) indicators)) →
    new ≡ take (4 * year.place + 4) mid ++ (across ++ drop (4 * next.place) mid) →
    IsFilled k before year (next ∷ years) u indicators out whole →
    IsFilled k (first_of u) next years (drop 1 u) indicators new whole
filled_next k before year next years u indicators out four mid across new whole four_count rising room e_four e_mid
    e_across e_new filled =
    let same = filled.count in
    let own = own_written year.place out four mid four_count (omega arith) e_mid in
    let mid_count = own.0 in
    let gap : ℕ = 4 * next.place - (4 * year.place + 4) in
    let rest : List ℕ = drop (4 * year.place + 4) indicators in
    let rest_count = length-drop (4 * year.place + 4) indicators in
    let across_count : length across ≡ gap = ap (λ (xs : List ℤ). length xs) e_across
    ∙ across_count k year next before (first_of u) (first_of (drop 1 u)) (take gap rest)
    ∙ length-take-le gap rest (omega arith) in
    let taken : length (take (4 * year.place + 4) mid) ≡ 4 * year.place + 4 =
    length-take-le (4 * year.place + 4) mid (omega arith) in
    let head : List ℤ = take (4 * year.place + 4) mid ++ across in
    let both : length head ≡ 4 * next.place =
    omega (arith, length-append (take (4 * year.place + 4) mid) across) in
    let is : new ≡ head ++ drop (4 * next.place) mid =
    e_new ∙ sym (append_assoc (take (4 * year.place + 4) mid) across (drop (4 * next.place) mid)) in
    let written : take (4 * next.place) new ≡ (take (4 * year.place) out ++ four) ++ across =
    ap (λ (xs : List ℤ). take (4 * next.place) xs) is
    ∙ take_at head (drop (4 * next.place) mid) (4 * next.place) both ∙ ap (λ (xs : List ℤ). xs ++ across) own.1 in
    let later : List ℤ = values_from k (first_of u) next years (drop 1 u) indicators in
    let behind : across ++ later ≡ values_behind k before year (next ∷ years) u rest = unfolded e_across in
    record {
      count = ap (λ (xs : List ℤ). length xs) is ∙ joined_count (4 * next.place) head mid both (omega arith)
          ∙ mid_count ∙ same;
      values = ap (λ (xs : List ℤ). xs ++ later) written
          ∙ append_assoc (take (4 * year.place) out ++ four) across later
          ∙ append_assoc (take (4 * year.place) out) four (across ++ later)
          ∙ ap (λ (xs : List ℤ). take (4 * year.place) out ++ (four ++ xs)) behind
          ∙ ap (λ (xs : List ℤ). take (4 * year.place) out ++ (xs ++ values_behind k before year (next ∷ years) u rest))
          e_four
          ∙ filled.values;
    }
  where
    unfolded : across ≡ across_of k year next before (first_of u) (first_of (drop 1 u))
        (take (4 * next.place - (4 * year.place + 4)) (drop (4 * year.place + 4) indicators)) →
        across ++ values_from k (first_of u) next years (drop 1 u) indicators
        ≡ values_behind k before year (next ∷ years) u (drop (4 * year.place + 4) indicators)
    unfolded e =
        let between : 4 * next.place - (4 * year.place + 4) ≡ quarters_between year next = omega arith in
        let past : 4 * next.place + 4 ≡ 4 * year.place + 4 + (quarters_between year next + 4) = omega arith in
        let rest : drop (4 * next.place + 4) indicators
        ≡ drop (quarters_between year next + 4) (drop (4 * year.place + 4) indicators) =
        ap (λ (n : ℕ). drop n indicators) past
        ∙ sym (drop-drop (quarters_between year next + 4) (4 * year.place + 4) indicators) in
        ap (λ (xs : List ℤ). xs ++ values_from k (first_of u) next years (drop 1 u) indicators) e
        ∙ ap (λ (n : ℕ). across_of k year next before (first_of u) (first_of (drop 1 u))
        (take n (drop (4 * year.place + 4) indicators))
        ++ values_from k (first_of u) next years (drop 1 u) indicators) between
        ∙ ap (λ (is : List ℕ). across_of k year next before (first_of u) (first_of (drop 1 u))
        (take (quarters_between year next) (drop (4 * year.place + 4) indicators))
        ++ (year_series k next (first_of u) (first_of (drop 1 u))
        ++ values_behind k (first_of u) next years (drop 1 u) is)) rest

-- the last year and the quarters behind it are written
pub filled_last : (k : ℕ) (before : ℤ) (year : BenchmarkedYear) (u : List ℤ) (indicators : List ℕ)
    (out four mid carried new whole : List ℤ) → length four ≡ 4 → 4 * year.place + 4 ≤ length indicators →
    four ≡ year_series k year before (first_of u) →
    mid ≡ take (4 * year.place) out ++ (four ++ drop (4 * year.place + 4) out) →
    carried ≡ carried_of k year before (drop (4 * year.place + 4) indicators) →
    new ≡ take (4 * year.place + 4) mid ++ carried → IsFilled k before year [] u indicators out whole → new ≡ whole
filled_last k before year u indicators out four mid carried new whole four_count room e_four e_mid e_carried e_new
    filled =
    let same = filled.count in
    let own = own_written year.place out four mid four_count (omega arith) e_mid in
    e_new ∙ ap (λ (xs : List ℤ). xs ++ carried) own.1
    ∙ append_assoc (take (4 * year.place) out) four carried
    ∙ ap (λ (xs : List ℤ). take (4 * year.place) out ++ (four ++ xs)) e_carried
    ∙ ap (λ (xs : List ℤ). take (4 * year.place) out
    ++ (xs ++ carried_of k year before (drop (4 * year.place + 4) indicators))) e_four
    ∙ filled.values

-- ---- the loop over the years

-- a year that stands for none
abbrev pub nowhere : BenchmarkedYear
nowhere = record { place = 0; indicators = []; benchmark = pos 0 }

-- the values of a run are written up to the year at an index
abbrev pub IsFilledTo : ℕ → List BenchmarkedYear → List ℤ → List ℕ → List ℤ → ℕ → Type 0
IsFilledTo k run u indicators out y =
    IsFilled k (get_or (pos 0 ∷ u) y (pos 0)) (get_or run y nowhere) (drop (suc y) run) (drop y u) indicators out
    (run_values k run u indicators)

-- the first year is reached
pub filled_start : (k : ℕ) (run : List BenchmarkedYear) (u : List ℤ) (indicators : List ℕ) (old out : List ℤ)
    (year : BenchmarkedYear) → 1 ≤ length run → AreYearsOf indicators run → length old ≡ length indicators →
    year ≡ get_or run 0 nowhere →
    out ≡ carried_back_of k year (first_of (drop 0 u)) (take (4 * year.place) indicators) ++ drop (4 * year.place) old →
    IsFilledTo k run u indicators out 0
filled_start k [] u indicators old out year some are same is e = absurd (omega arith)
filled_start k (first ∷ years) u indicators old out year some are same is e =
    filled_first k first years u indicators old out same (rooms_of (first ∷ years) indicators are 0 first (omega arith))
    (subst (λ (y : BenchmarkedYear). out ≡ carried_back_of k y (first_of u) (take (4 * y.place) indicators)
    ++ drop (4 * y.place) old) is e)

-- each year of a run stands before the next
year_rises : (run : List BenchmarkedYear) (indicators : List ℕ) (y : ℕ) (d : BenchmarkedYear) → y + 1 < length run →
    AreYearsOf indicators run → (get_or run y d).place < (get_or run (y + 1) d).place
year_rises run indicators y d inside are =
    let here = are.places.rising y (omega (arith, length-map run (λ year. year.place))) in
    let own = get_or-map (λ (year : BenchmarkedYear). year.place) run y d 0 (omega arith) in
    let next = get_or-map (λ (year : BenchmarkedYear). year.place) run (y + 1) d 0 inside in
    omega arith

-- one more year is reached
pub filled_more : (k : ℕ) (run : List BenchmarkedYear) (u : List ℤ) (indicators : List ℕ) (out four mid new : List ℤ)
    (year next : BenchmarkedYear) (y : ℕ) → y + 1 < length run → AreYearsOf indicators run → AreInRange run →
    year ≡ get_or run y nowhere → next ≡ get_or run (y + 1) nowhere →
    four ≡ year_series k year (get_or (pos 0 ∷ u) y (pos 0)) (first_of (drop y u)) →
    mid ≡ take (4 * year.place) out ++ (four ++ drop (4 * year.place + 4) out) →
    new ≡ take (4 * year.place + 4) mid
    ++ (across_of k year next (get_or (pos 0 ∷ u) y (pos 0)) (first_of (drop y u)) (first_of (drop (y + 1) u))
    (take (4 * next.place - (4 * year.place + 4)) (drop (4 * year.place + 4) indicators)) ++ drop (4 * next.place) mid) →
    IsFilledTo k run u indicators out y → IsFilledTo k run u indicators new (y + 1)
filled_more k run u indicators out four mid new year next y inside are range e_year e_next e_four e_mid e_new filled =
    let before : ℤ = get_or (pos 0 ∷ u) y (pos 0) in
    let later : List BenchmarkedYear = drop (suc (suc y)) run in
    let whole : List ℤ = run_values k run u indicators in
    let index : suc y ≡ y + 1 = omega arith in
    let own_place = ap (λ (at : BenchmarkedYear). at.place) e_year in
    let next_place = ap (λ (at : BenchmarkedYear). at.place) e_next in
    let rising = year_rises run indicators y nowhere inside are in
    let room = rooms_of run indicators are (y + 1) nowhere inside in
    let own_range : IsInRange year = subst IsInRange (sym e_year) (range y nowhere (omega arith)) in
    let count : length four ≡ 4 =
    ap (λ (xs : List ℤ). length xs) e_four ∙ year_count k year before (first_of (drop y u)) own_range.0 in
    let tail : drop (suc y) run ≡ next ∷ later =
    drop-cons run (suc y) nowhere (omega arith)
    ∙ ap (λ (at : BenchmarkedYear). at ∷ later) (ap (λ (n : ℕ). get_or run n nowhere) index ∙ sym e_next) in
    let here : IsFilled k before year (next ∷ later) (drop y u) indicators out whole =
    subst (λ (years : List BenchmarkedYear). IsFilled k before year years (drop y u) indicators out whole) tail
    (subst (λ (at : BenchmarkedYear). IsFilled k before at (drop (suc y) run) (drop y u) indicators out whole)
    (sym e_year) filled) in
    let gap : List ℕ = take (4 * next.place - (4 * year.place + 4)) (drop (4 * year.place + 4) indicators) in
    let across : List ℤ =
    across_of k year next before (first_of (drop y u)) (first_of (drop (y + 1) u)) gap in
    let rest : drop (y + 1) u ≡ drop 1 (drop y u) = sym (drop-drop 1 y u) in
    let is_across = ap (λ (us : List ℤ). across_of k year next before (first_of (drop y u)) (first_of us) gap) rest in
    let made = filled_next k before year next later (drop y u) indicators out four mid across new whole count
    (omega arith) (omega arith) e_four e_mid is_across e_new here in
    let left : first_of (drop y u) ≡ get_or (pos 0 ∷ u) (y + 1) (pos 0) =
    first_of-drop u y ∙ ap (λ (n : ℕ). get_or (pos 0 ∷ u) n (pos 0)) index in
    let behind : later ≡ drop (suc (y + 1)) run = ap (λ (n : ℕ). drop (suc n) run) index in
    moved left e_next behind (sym rest) made
  where
    moved : {l r : ℤ} {a b : BenchmarkedYear} {xs ys : List BenchmarkedYear} {us vs : List ℤ} → l ≡ r → a ≡ b → xs ≡ ys →
        us ≡ vs → IsFilled k l a xs us indicators new (run_values k run u indicators) →
        IsFilled k r b ys vs indicators new (run_values k run u indicators)
    moved {l} {r} {a} {b} {xs} {ys} {us} {vs} el ea eas eus h =
        subst (λ (v : List ℤ). IsFilled k r b ys v indicators new (run_values k run u indicators)) eus
        (subst (λ (v : List BenchmarkedYear). IsFilled k r b v us indicators new (run_values k run u indicators)) eas
        (subst (λ (v : BenchmarkedYear). IsFilled k r v xs us indicators new (run_values k run u indicators)) ea
        (subst (λ (v : ℤ). IsFilled k v a xs us indicators new (run_values k run u indicators)) el h)))

-- the last year is written, and the quarters behind it
pub filled_end : (k : ℕ) (run : List BenchmarkedYear) (u : List ℤ) (indicators : List ℕ) (out four mid new : List ℤ)
    (year : BenchmarkedYear) (y : ℕ) → y + 1 ≡ length run → AreYearsOf indicators run → AreInRange run →
    year ≡ get_or run y nowhere →
    four ≡ year_series k year (get_or (pos 0 ∷ u) y (pos 0)) (first_of (drop y u)) →
    mid ≡ take (4 * year.place) out ++ (four ++ drop (4 * year.place + 4) out) →
    new ≡ take (4 * year.place + 4) mid
    ++ carried_of k year (get_or (pos 0 ∷ u) y (pos 0)) (drop (4 * year.place + 4) indicators) →
    IsFilledTo k run u indicators out y → new ≡ run_values k run u indicators
filled_end k run u indicators out four mid new year y last are range e_year e_four e_mid e_new filled =
    let before : ℤ = get_or (pos 0 ∷ u) y (pos 0) in
    let whole : List ℤ = run_values k run u indicators in
    let own_place = ap (λ (at : BenchmarkedYear). at.place) e_year in
    let room = rooms_of run indicators are y nowhere (omega arith) in
    let own_range : IsInRange year = subst IsInRange (sym e_year) (range y nowhere (omega arith)) in
    let count : length four ≡ 4 =
    ap (λ (xs : List ℤ). length xs) e_four ∙ year_count k year before (first_of (drop y u)) own_range.0 in
    let tail : drop (suc y) run ≡ [] = drop_all (suc y) run (omega arith) in
    let here : IsFilled k before year [] (drop y u) indicators out whole =
    subst (λ (years : List BenchmarkedYear). IsFilled k before year years (drop y u) indicators out whole) tail
    (subst (λ (at : BenchmarkedYear). IsFilled k before at (drop (suc y) run) (drop y u) indicators out whole)
    (sym e_year) filled) in
    filled_last k before year (drop y u) indicators out four mid
    (carried_of k year before (drop (4 * year.place + 4) indicators)) new whole count (omega arith) e_four e_mid refl
    e_new here

-- the values between two years depend on the multipliers alone
pub across_same : (k : ℕ) (left right : BenchmarkedYear) (before own after a b c : ℤ) (indicators : List ℕ) →
    before ≡ a → own ≡ b → after ≡ c →
    across_of k left right before own after indicators ≡ across_of k left right a b c indicators
across_same k left right before own after a b c indicators ea eb ec =
    ap (λ (n : ℤ). across_of k left right n own after indicators) ea
    ∙ ap (λ (n : ℤ). across_of k left right a n after indicators) eb
    ∙ ap (λ (n : ℤ). across_of k left right a b n indicators) ec

-- no quarter stands between years that follow one another
pub across_none : (k : ℕ) (left right : BenchmarkedYear) (before own after : ℤ) (n : ℕ) (indicators : List ℕ) →
    n ≡ 0 → across_of k left right before own after (take n indicators) ≡ []
unfolding across_of
across_none k left right before own after n indicators e =
    ap (λ (m : ℕ). across_of k left right before own after (take m indicators)) e

-- values put in the place of all from a quarter on
pub put_behind : (a n : ℕ) (xs ys zs : List ℤ) → a ≡ n → a ≤ length xs → ys ≡ zs →
    take a xs ++ (ys ++ drop (length xs - a) (drop a xs)) ≡ take n xs ++ zs
put_behind a n xs ys zs same inside e =
    let none : drop (length xs - a) (drop a xs) ≡ [] =
    drop_all (length xs - a) (drop a xs) (omega (arith, length-drop a xs)) in
    ap (λ (rest : List ℤ). take a xs ++ (ys ++ rest)) none ∙ ap (λ (rest : List ℤ). take a xs ++ rest) (append-nil ys)
    ∙ ap (λ (m : ℕ). take m xs ++ ys) same ∙ ap (λ (rest : List ℤ). take n xs ++ rest) e

-- the values carried on behind a quarter
pub carried_behind : (k : ℕ) (last : BenchmarkedYear) (passed left : ℤ) (a n : ℕ) (indicators : List ℕ)
    (values : List ℤ) → a ≡ n → passed ≡ left →
    values ≡ carried_of k last passed (take (length indicators - a) (drop a indicators)) →
    values ≡ carried_of k last left (drop n indicators)
carried_behind k last passed left a n indicators values same e_left e =
    e ∙ ap (λ (is : List ℕ). carried_of k last passed is) (take_rest indicators a)
    ∙ ap (λ (m : ℕ). carried_of k last passed (drop m indicators)) same
    ∙ ap (λ (z : ℤ). carried_of k last z (drop n indicators)) e_left
