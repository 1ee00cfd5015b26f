-- Weak duality for whole series: the changes' denominators have a common multiple, all lists stand side by side, and both multiples are taken off at the end.
use Rattle.std.specs.Prelude.{◌≡◌, ℕ, ◌+◌, ◌≤◌, ℤ, pos, ◌+ℤ◌, ◌-ℤ◌, ◌*ℤ◌, neg_ℤ, ◌≤ℤ◌, ◌<ℤ◌, List, [], ◌∷◌, ◌++◌, length, map, slice_index, EachIndex}
use Rattle.std.proofs.Common.{refl, ◌∙◌, ap, arith, suc, get_or}
use Rattle.std.proofs.Math.IntN.{*ℤ-zero}
use Rattle.std.proofs.lemmas.List.{length-append, get_or_push}
use Rattle.ratio_arith.proofs.Linear.{linear}
use Rattle.ratio_arith.proofs.Order.{product_strict, product_cancel}
use Rattle.ratio_arith.proofs.Ring.{same_by_ring, var, num, ◌⊕◌, ◌⊖◌, ◌⊗◌}
use Rattle.denton_parts.specs.Ratios.{square, AreFactors, objective, squared_changes_from, scaled_ratios}
use Rattle.denton_parts.specs.Changes.{Fraction, steady, changes_from, changes}
use Rattle.denton_parts.specs.Gap.{gap_from, gap_by}
use Rattle.dual_cert.proofs.Quarters.{of_series, of_other, of_gap, of_balance}
use Rattle.denton_parts.specs.Year.{BenchmarkedYear}
use Rattle.dual_cert.specs.Laws.{GapBoundsAll}
use Rattle.dual_cert.proofs.Runs.{Benchmarked, own_year, other_year, benchmarked_run}
use Rattle.dual_cert.proofs.Duality.{Aligned, no_quarters, next_quarter, balance_from, duality_from, changes_here, changes_other, weigh_run}

-- as many changes as indicators, each with a positive denominator
abbrev ChangesFit : List ℕ → List Fraction → Type 0
ChangesFit [] [] = Unit {0}
ChangesFit (i ∷ is) (c ∷ cs) = (pos 0 <ℤ c.denominator) × ChangesFit is cs
ChangesFit _ _ = ⊥

-- so are those of quarters of no benchmarked year
steady_fits : (left : ℤ) (is : List ℕ) → ChangesFit is (map (λ i. steady left) is)
steady_fits left [] = tt
steady_fits left (i ∷ is) = (omega (arith, linear), steady_fits left is)

-- all indicators are positive
abbrev pub ArePositive : List ℕ → Type 0
ArePositive indicators = EachIndex indicators (λ t. 1 ≤ slice_index indicators t)

later_positive : (i : ℕ) (is : List ℕ) → ArePositive (i ∷ is) → ArePositive is
later_positive i is positive t h = positive (suc t) (omega arith)

-- all but the first four are
behind_positive : (i0 i1 i2 i3 : ℕ) (is : List ℕ) → ArePositive (i0 ∷ i1 ∷ i2 ∷ i3 ∷ is) → ArePositive is
behind_positive i0 i1 i2 i3 is positive =
    later_positive i3 is (later_positive i2 (i3 ∷ is) (later_positive i1 (i2 ∷ i3 ∷ is)
    (later_positive i0 (i1 ∷ i2 ∷ i3 ∷ is) positive)))

-- the changes that multipliers fix are as many as the indicators
changes_fit : (n : ℤ) (place : ℕ) (left : ℤ) (years : List BenchmarkedYear) (rights : List ℤ) (is : List ℕ)
    (xs zs : List ℤ) → Benchmarked n place years is xs zs → length rights ≡ length years → ArePositive is →
    ChangesFit is (changes_from place left years rights is)
changes_fit n place left [] [] is xs zs run same positive = steady_fits left is
changes_fit n place left [] (right ∷ rights) is xs zs run same positive = absurd (omega arith)
changes_fit n place left (year ∷ years) [] is xs zs run same positive = absurd (omega arith)
changes_fit n place left (year ∷ years) (right ∷ rights) is' xs' zs'
    (own_year _ _ _ i0 i1 i2 i3 is x0 x1 x2 x3 xs z0 z1 z2 z3 zs here own ex ez run) same positive =
    let first : 1 ≤ i0 = positive 0 (omega arith) in
    let whole : pos 0 <ℤ pos (i0 + i1 + i2 + i3) = omega (arith, linear) in
    let rest = changes_fit n (suc place) right years rights is xs zs run (omega arith)
    (behind_positive i0 i1 i2 i3 is positive) in
    rw (changes_here place left year years right rights i0 i1 i2 i3 is here own)
    (whole, (whole, (whole, (whole, rest))))
changes_fit n place left (year ∷ years) (right ∷ rights) is' xs' zs'
    (other_year _ _ _ i0 i1 i2 i3 is x0 x1 x2 x3 xs z0 z1 z2 z3 zs below run) same positive =
    let one : pos 0 <ℤ pos 1 = omega (arith, linear) in
    let rest = changes_fit n (suc place) left (year ∷ years) (right ∷ rights) is xs zs run same
    (behind_positive i0 i1 i2 i3 is positive) in
    rw (changes_other place left year years right rights i0 i1 i2 i3 is below) (one, (one, (one, (one, rest))))

-- a factor on the common multiple of the denominators is one on each quarter's factor
rescale : (whole share d : ℤ) (is : List ℕ) (ps xs zs : List ℤ) (cs : List Fraction) (qs : List ℤ) → Aligned whole share is ps xs zs cs qs → Aligned whole (share *ℤ d) is ps xs zs cs (map (λ q. q *ℤ d) qs)
rescale whole share d is ps xs zs cs qs no_quarters = no_quarters
rescale whole share d is' ps' xs' zs' cs' qs' (next_quarter i p x z c q is ps xs zs cs qs fits al) =
    let t = var 0 in
    let turned : (q *ℤ d) *ℤ c.denominator ≡ (q *ℤ c.denominator) *ℤ d = same_by_ring (q ∷ d ∷ c.denominator ∷ []) (t ⊗ var 1 ⊗ var 2) (t ⊗ var 2 ⊗ var 1) refl in
    next_quarter i p x z c (q *ℤ d) is ps xs zs cs (map (λ q. q *ℤ d) qs) (record { indicator = fits.indicator; factor = fits.factor; denominator = fits.denominator; part = turned ∙ ap (λ u. u *ℤ d) fits.part }) (rescale whole share d is ps xs zs cs qs al)

-- the lists of one run, side by side, with a common multiple of the changes' denominators
record Shared (whole : ℤ) (is : List ℕ) (ps xs zs : List ℤ) (cs : List Fraction) : Type 0 where
  share : ℤ
  parts : List ℤ
  positive : pos 0 <ℤ share
  aligned : Aligned whole share is ps xs zs cs parts

shared_run : (whole : ℤ) (is : List ℕ) (ps xs zs : List ℤ) (cs : List Fraction) → AreFactors whole is ps → ArePositive is → length xs ≡ length is → length zs ≡ length is → ChangesFit is cs → Shared whole is ps xs zs cs
shared_run whole [] [] [] [] [] factors positive ex ez fit = record { share = pos 1; parts = []; positive = omega (arith, linear); aligned = no_quarters }
shared_run whole (i ∷ is) (p ∷ ps) (x ∷ xs) (z ∷ zs) (c ∷ cs) factors positive ex ez fit =
    let rest = shared_run whole is ps xs zs cs factors.1 (later_positive i is positive) (omega arith) (omega arith) fit.1 in
    let first : 1 ≤ i = positive 0 (omega arith) in
    let strict = product_strict rest.share (pos 0) c.denominator rest.positive fit.0 in
    record {
      share = rest.share *ℤ c.denominator;
      parts = rest.share ∷ map (λ q. q *ℤ c.denominator) rest.parts;
      positive = omega (arith, linear, *ℤ-zero rest.share);
      aligned = next_quarter i p x z c rest.share is ps xs zs cs (map (λ q. q *ℤ c.denominator) rest.parts) (record { indicator = omega (arith, linear); factor = factors.0; denominator = fit.0; part = refl }) (rescale whole rest.share c.denominator is ps xs zs cs rest.parts rest.aligned);
    }
shared_run whole [] (p ∷ ps) xs zs cs factors positive ex ez fit = absurd factors
shared_run whole (i ∷ is) [] xs zs cs factors positive ex ez fit = absurd factors
shared_run whole [] [] (x ∷ xs) zs cs factors positive ex ez fit = absurd (omega arith)
shared_run whole [] [] [] (z ∷ zs) cs factors positive ex ez fit = absurd (omega arith)
shared_run whole [] [] [] [] (c ∷ cs) factors positive ex ez fit = absurd fit
shared_run whole (i ∷ is) (p ∷ ps) [] zs cs factors positive ex ez fit = absurd (omega arith)
shared_run whole (i ∷ is) (p ∷ ps) (x ∷ xs) [] cs factors positive ex ez fit = absurd (omega arith)
shared_run whole (i ∷ is) (p ∷ ps) (x ∷ xs) (z ∷ zs) [] factors positive ex ez fit = absurd fit

-- the square of the share is taken off both sides
take_off : (n whole share scale series other gap balance : ℤ) → pos 0 <ℤ share → balance ≡ pos 0 → (of_series n scale share *ℤ series) ≤ℤ (of_other scale share *ℤ other +ℤ of_gap n whole share *ℤ gap +ℤ of_balance n whole scale share *ℤ balance) → (square n *ℤ square scale *ℤ series) ≤ℤ (square scale *ℤ other +ℤ gap *ℤ square n *ℤ square whole)
take_off n whole share scale series other gap balance positive nothing h =
    let values : List ℤ = n ∷ whole ∷ share ∷ scale ∷ series ∷ other ∷ gap ∷ [] in
    let tn = var 0 in
    let tw = var 1 in
    let ts = var 2 in
    let td = var 3 in
    let strict = product_strict share (pos 0) share positive positive in
    let squared : pos 0 <ℤ (share *ℤ share) = omega (arith, linear, *ℤ-zero share) in
    let left : (share *ℤ share) *ℤ (square n *ℤ square scale *ℤ series) ≡ of_series n scale share *ℤ series = same_by_ring values (ts ⊗ ts ⊗ (tn ⊗ tn ⊗ (td ⊗ td) ⊗ var 4)) (tn ⊗ tn ⊗ (td ⊗ td) ⊗ (ts ⊗ ts) ⊗ var 4) refl in
    let right : (share *ℤ share) *ℤ (square scale *ℤ other +ℤ gap *ℤ square n *ℤ square whole) ≡ of_other scale share *ℤ other +ℤ of_gap n whole share *ℤ gap = same_by_ring values (ts ⊗ ts ⊗ (td ⊗ td ⊗ var 5 ⊕ var 6 ⊗ (tn ⊗ tn) ⊗ (tw ⊗ tw))) (td ⊗ td ⊗ (ts ⊗ ts) ⊗ var 5 ⊕ tn ⊗ tn ⊗ (tw ⊗ tw) ⊗ (ts ⊗ ts) ⊗ var 6) refl in
    let gone : of_balance n whole scale share *ℤ balance ≡ of_balance n whole scale share *ℤ pos 0 = ap (λ u. of_balance n whole scale share *ℤ u) nothing in
    let kept : ((share *ℤ share) *ℤ (square n *ℤ square scale *ℤ series)) ≤ℤ ((share *ℤ share) *ℤ (square scale *ℤ other +ℤ gap *ℤ square n *ℤ square whole)) = omega (arith, linear, *ℤ-zero (of_balance n whole scale share)) in
    product_cancel (share *ℤ share) (square n *ℤ square scale *ℤ series) (square scale *ℤ other +ℤ gap *ℤ square n *ℤ square whole) squared kept

-- the first quarter has no change: what its given change weighs is nothing, whatever it is
within_run : (n whole share scale : ℤ) → pos 0 <ℤ whole → pos 0 <ℤ share → (is : List ℕ) (ps xs zs : List ℤ) (cs : List Fraction) (qs : List ℤ) → Aligned whole share is ps xs zs cs qs → ((w : ℤ) → balance_from n w ps xs zs cs qs ≡ neg_ℤ (share *ℤ (pos 0 *ℤ w))) → (square n *ℤ square scale *ℤ objective ps xs) ≤ℤ (square scale *ℤ objective ps zs +ℤ gap_by scale is xs cs *ℤ square n *ℤ square whole)
within_run n whole share scale whole_positive share_positive is ps xs zs cs qs no_quarters balance =
    let t = var 0 in
    let left : square n *ℤ square scale *ℤ pos 0 ≡ pos 0 = *ℤ-zero (square n *ℤ square scale) in
    let first : square scale *ℤ pos 0 ≡ pos 0 = *ℤ-zero (square scale) in
    let second : pos 0 *ℤ square n *ℤ square whole ≡ pos 0 = same_by_ring (n ∷ whole ∷ []) (num (pos 0) ⊗ (t ⊗ t) ⊗ (var 1 ⊗ var 1)) (num (pos 0)) refl in
    omega (arith, linear)
within_run n whole share scale whole_positive share_positive is' ps' xs' zs' cs' qs' (next_quarter i p x z c q is ps xs zs cs qs fits al) balance =
    let w = p *ℤ (n *ℤ x -ℤ z) in
    let t = var 0 in
    let all = balance (p *ℤ (n *ℤ x -ℤ z)) in
    let first : q *ℤ c.numerator *ℤ (p *ℤ (n *ℤ x -ℤ z) -ℤ p *ℤ (n *ℤ x -ℤ z)) ≡ pos 0 = same_by_ring ((q *ℤ c.numerator) ∷ (p *ℤ (n *ℤ x -ℤ z)) ∷ []) (t ⊗ (var 1 ⊖ var 1)) (num (pos 0)) refl in
    let left : share *ℤ (pos 0 *ℤ (p *ℤ (n *ℤ x -ℤ z))) ≡ pos 0 = same_by_ring (share ∷ (p *ℤ (n *ℤ x -ℤ z)) ∷ []) (t ⊗ (num (pos 0) ⊗ var 1)) (num (pos 0)) refl in
    let nothing : balance_from n (p *ℤ (n *ℤ x -ℤ z)) ps xs zs cs qs ≡ pos 0 = omega (arith, linear) in
    take_off n whole share scale (squared_changes_from (p *ℤ x) (scaled_ratios ps xs)) (squared_changes_from (p *ℤ z) (scaled_ratios ps zs)) (gap_from scale i x is xs cs) (balance_from n (p *ℤ (n *ℤ x -ℤ z)) ps xs zs cs qs) share_positive nothing (duality_from n whole share scale whole_positive share_positive is ps xs zs cs qs al i p x z fits.indicator fits.factor)

-- no multiplier stands after the last year
last_multiplier : (years : List BenchmarkedYear) (multipliers : List ℤ) → length years ≡ length multipliers + 1 →
    get_or (pos 0 ∷ (multipliers ++ pos 0 ∷ [])) (length years) (pos 0) ≡ pos 0
last_multiplier years multipliers joints =
    let count : length years ≡ suc (length multipliers) = omega arith in
    rw count (get_or_push multipliers (pos 0) (pos 0) (length multipliers) refl)

-- no series that meets the benchmarks is better by more than the gap, whatever the multipliers
pub within_gap : GapBoundsAll
within_gap indicators years quarters multipliers scale positive are same_length joints meets
    n whole factors others n_positive whole_positive are_factors others_length others_meet =
    let rights : length (multipliers ++ pos 0 ∷ []) ≡ length years =
    omega (arith, length-append multipliers (pos 0 ∷ [])) in
    let run = benchmarked_run n years indicators quarters others are same_length others_length meets others_meet in
    let fit = changes_fit n 0 (pos 0) years (multipliers ++ pos 0 ∷ []) indicators quarters others run rights
    positive in
    let shared = shared_run whole indicators factors quarters others (changes years multipliers indicators) are_factors
    positive same_length others_length fit in
    within_run n whole shared.share scale whole_positive shared.positive indicators factors quarters others
    (changes years multipliers indicators) shared.parts shared.aligned
    (λ w. weigh_run n whole shared.share 0 (pos 0) years (multipliers ++ pos 0 ∷ []) w indicators factors quarters
    others shared.parts run rights (last_multiplier years multipliers joints) shared.aligned)
