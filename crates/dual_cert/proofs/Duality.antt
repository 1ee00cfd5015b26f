-- Weak duality over all quarters: the sum of the quarters' parts.
use Rattle.std.specs.Prelude.{◌≡◌, ℕ, ◌+◌, ℤ, pos, ◌+ℤ◌, ◌-ℤ◌, ◌*ℤ◌, neg_ℤ, ◌<◌, ◌≤ℤ◌, ◌<ℤ◌, List, [], ◌∷◌, length, map, if◌then◌else◌}
use Rattle.std.proofs.Common.{refl, ◌∙◌, ap, arith, suc, get_or}
use Rattle.std.proofs.Math.IntN.{*ℤ-zero}
use Rattle.ratio_arith.proofs.Linear.{linear}
use Rattle.ratio_arith.proofs.Products.{*ℤ-+ℤ}
use Rattle.denton_parts.specs.Ratios.{square, squared_changes_from, scaled_ratios}
use Rattle.ratio_arith.proofs.Ring.{same_by_ring, var, num, ◌⊗◌, neg}
use Rattle.denton_parts.specs.Changes.{Fraction, change_of, change_in_year, steady, no_change, changes_from}
use Rattle.denton_parts.specs.Gap.{distance_of, gap_from}
use Rattle.denton_parts.specs.Year.{BenchmarkedYear}
use Rattle.std.proofs.lemmas.Bool.{eq-eqb, ne_eqb}
use Rattle.dual_cert.proofs.Runs.{Benchmarked, no_year, own_year, other_year}
use Rattle.dual_cert.proofs.Years.{year_step, year_balanced, same_share, hole_step, one_share}
use Rattle.dual_cert.proofs.Quarters.{QuarterFits, quarter_term, of_series, of_other, of_gap, of_balance}

-- the lists of all quarters side by side: indicators, their factors, the series, another one, the changes, and the factors of the changes' denominators
pub data Aligned (whole share : ℤ) : List ℕ → List ℤ → List ℤ → List ℤ → List Fraction → List ℤ → Type 0 where
  no_quarters : Aligned whole share [] [] [] [] [] []
  next_quarter : (i : ℕ) (p x z : ℤ) (c : Fraction) (q : ℤ) (is : List ℕ) (ps xs zs : List ℤ) (cs : List Fraction) (qs : List ℤ) → QuarterFits whole share i p c q → Aligned whole share is ps xs zs cs qs → Aligned whole share (i ∷ is) (p ∷ ps) (x ∷ xs) (z ∷ zs) (c ∷ cs) (q ∷ qs)

-- the balance: the given changes times the changes of the difference of the two series, which follow the ratio w
abbrev pub balance_from : ℤ → ℤ → List ℤ → List ℤ → List ℤ → List Fraction → List ℤ → ℤ
balance_from n w (p ∷ ps) (x ∷ xs) (z ∷ zs) (c ∷ cs) (q ∷ qs) = q *ℤ c.numerator *ℤ (p *ℤ (n *ℤ x -ℤ z) -ℤ w) +ℤ balance_from n (p *ℤ (n *ℤ x -ℤ z)) ps xs zs cs qs
balance_from n w _ _ _ _ _ = pos 0

-- the sum of the quarters' inequalities, from the quarter after (j, o, v, y) on
pub duality_from : (n whole share scale : ℤ) → pos 0 <ℤ whole → pos 0 <ℤ share → (is : List ℕ) (ps xs zs : List ℤ) (cs : List Fraction) (qs : List ℤ) → Aligned whole share is ps xs zs cs qs → (j : ℕ) (o v y : ℤ) → pos 0 <ℤ pos j → o *ℤ pos j ≡ whole → (of_series n scale share *ℤ squared_changes_from (o *ℤ v) (scaled_ratios ps xs)) ≤ℤ (of_other scale share *ℤ squared_changes_from (o *ℤ y) (scaled_ratios ps zs) +ℤ of_gap n whole share *ℤ gap_from scale j v is xs cs +ℤ of_balance n whole scale share *ℤ balance_from n (o *ℤ (n *ℤ v -ℤ y)) ps xs zs cs qs)
duality_from n whole share scale whole_positive share_positive is ps xs zs cs qs no_quarters j o v y before fit = omega (arith, linear, *ℤ-zero (of_series n scale share), *ℤ-zero (of_other scale share), *ℤ-zero (of_gap n whole share), *ℤ-zero (of_balance n whole scale share))
duality_from n whole share scale whole_positive share_positive is' ps' xs' zs' cs' qs' (next_quarter i p x z c q is ps xs zs cs qs fits al) j o v y before fit =
    let here = quarter_term n whole share scale j o v y i p x z c q whole_positive share_positive before fit fits in
    let rest = duality_from n whole share scale whole_positive share_positive is ps xs zs cs qs al i p x z fits.indicator fits.factor in
    let series = *ℤ-+ℤ (of_series n scale share) (square (p *ℤ x -ℤ o *ℤ v)) (squared_changes_from (p *ℤ x) (scaled_ratios ps xs)) in
    let other = *ℤ-+ℤ (of_other scale share) (square (p *ℤ z -ℤ o *ℤ y)) (squared_changes_from (p *ℤ z) (scaled_ratios ps zs)) in
    let gap = *ℤ-+ℤ (of_gap n whole share) (square (distance_of scale j v i x c)) (gap_from scale i x is xs cs) in
    let balance = *ℤ-+ℤ (of_balance n whole scale share) (q *ℤ c.numerator *ℤ (p *ℤ (n *ℤ x -ℤ z) -ℤ o *ℤ (n *ℤ v -ℤ y))) (balance_from n (p *ℤ (n *ℤ x -ℤ z)) ps xs zs cs qs) in
    join_sums (of_series n scale share *ℤ square (p *ℤ x -ℤ o *ℤ v)) (of_other scale share *ℤ square (p *ℤ z -ℤ o *ℤ y)) (of_gap n whole share *ℤ square (distance_of scale j v i x c)) (of_balance n whole scale share *ℤ (q *ℤ c.numerator *ℤ (p *ℤ (n *ℤ x -ℤ z) -ℤ o *ℤ (n *ℤ v -ℤ y)))) _ _ _ _ _ _ _ _ series other gap balance here rest
  where
    join_sums : (a b c d e f g h left right third fourth : ℤ) → left ≡ a +ℤ e → right ≡ b +ℤ f → third ≡ c +ℤ g → fourth ≡ d +ℤ h → a ≤ℤ (b +ℤ c +ℤ d) → e ≤ℤ (f +ℤ g +ℤ h) → left ≤ℤ (right +ℤ third +ℤ fourth)
    join_sums a b c d e f g h left right third fourth s1 s2 s3 s4 here rest = omega (arith, linear)

-- past the last multiplier there is no change, and nothing weighs
balance_of_rest : (n w : ℤ) (is : List ℕ) (ps xs zs qs : List ℤ) → balance_from n w ps xs zs (map (λ i. no_change) is) qs ≡ pos 0
balance_of_rest n w (i ∷ is) (p ∷ ps) (x ∷ xs) (z ∷ zs) (q ∷ qs) =
    let rest = balance_of_rest n (p *ℤ (n *ℤ x -ℤ z)) is ps xs zs qs in
    let t = var 0 in
    let here : q *ℤ pos 0 *ℤ (p *ℤ (n *ℤ x -ℤ z) -ℤ w) ≡ pos 0 = same_by_ring (q ∷ (p *ℤ (n *ℤ x -ℤ z) -ℤ w) ∷ []) (t ⊗ num (pos 0) ⊗ var 1) (num (pos 0)) refl in
    omega (arith, linear)
balance_of_rest n w is [] xs zs qs = refl
balance_of_rest n w is (p ∷ ps) [] zs qs = refl
balance_of_rest n w is (p ∷ ps) (x ∷ xs) [] qs = refl
balance_of_rest n w [] (p ∷ ps) (x ∷ xs) (z ∷ zs) qs = refl
balance_of_rest n w (i ∷ is) (p ∷ ps) (x ∷ xs) (z ∷ zs) [] = refl

-- the changes of a benchmarked year with these indicators, before others
abbrev pub year_changes : ℤ → ℤ → ℕ → ℕ → ℕ → ℕ → List Fraction → List Fraction
year_changes left right i0 i1 i2 i3 changes =
    change_of left right (i0 + i1 + i2 + i3) 0 ∷ change_of left right (i0 + i1 + i2 + i3) i0
    ∷ change_of left right (i0 + i1 + i2 + i3) (i0 + i1) ∷ change_of left right (i0 + i1 + i2 + i3) (i0 + i1 + i2)
    ∷ changes

-- the balance of a benchmarked year, given that of what follows
own_part : (n whole share a left right w : ℤ) (i0 i1 i2 i3 : ℕ) (is : List ℕ) (ps : List ℤ) (x0 x1 x2 x3 : ℤ)
    (xs : List ℤ) (z0 z1 z2 z3 : ℤ) (zs : List ℤ) (cs : List Fraction) (qs : List ℤ) →
    x0 +ℤ x1 +ℤ x2 +ℤ x3 ≡ pos 1 *ℤ a → z0 +ℤ z1 +ℤ z2 +ℤ z3 ≡ n *ℤ a →
    Aligned whole share (i0 ∷ i1 ∷ i2 ∷ i3 ∷ is) ps (x0 ∷ x1 ∷ x2 ∷ x3 ∷ xs) (z0 ∷ z1 ∷ z2 ∷ z3 ∷ zs)
    (year_changes left right i0 i1 i2 i3 cs) qs →
    ((v : ℤ) (os rs : List ℤ) → Aligned whole share is os xs zs cs rs →
    balance_from n v os xs zs cs rs ≡ neg_ℤ (share *ℤ (right *ℤ v))) →
    balance_from n w ps (x0 ∷ x1 ∷ x2 ∷ x3 ∷ xs) (z0 ∷ z1 ∷ z2 ∷ z3 ∷ zs) (year_changes left right i0 i1 i2 i3 cs) qs
    ≡ neg_ℤ (share *ℤ (left *ℤ w))
own_part n whole share a left right w i0 i1 i2 i3 is ps' x0 x1 x2 x3 xs z0 z1 z2 z3 zs cs qs' ex ez
    (next_quarter _ p0 _ _ _ q0 _ _ _ _ _ _ f0 (next_quarter _ p1 _ _ _ q1 _ _ _ _ _ _ f1
    (next_quarter _ p2 _ _ _ q2 _ _ _ _ _ _ f2 (next_quarter _ p3 _ _ _ q3 _ ps _ _ _ qs f3 al)))) more =
    let nothing = year_balanced whole n a p0 p1 p2 p3 x0 x1 x2 x3 z0 z1 z2 z3 i0 i1 i2 i3
    f0.factor f1.factor f2.factor f3.factor ex ez in
    let same1 : q1 ≡ q0 = same_share share q0 q1 (pos (i0 + i1 + i2 + i3)) f0.denominator f0.part f1.part in
    let same2 : q2 ≡ q0 = same_share share q0 q2 (pos (i0 + i1 + i2 + i3)) f0.denominator f0.part f2.part in
    let same3 : q3 ≡ q0 = same_share share q0 q3 (pos (i0 + i1 + i2 + i3)) f0.denominator f0.part f3.part in
    let follows = more (p3 *ℤ (n *ℤ x3 -ℤ z3)) ps qs al in
    rw (same1, same2, same3)
    (year_step share q0 left right w (p0 *ℤ (n *ℤ x0 -ℤ z0)) (p1 *ℤ (n *ℤ x1 -ℤ z1)) (p2 *ℤ (n *ℤ x2 -ℤ z2))
    (p3 *ℤ (n *ℤ x3 -ℤ z3)) (balance_from n (p3 *ℤ (n *ℤ x3 -ℤ z3)) ps xs zs cs qs) i0 i1 i2 i3
    f0.part nothing follows)

-- the balance of four quarters of no benchmarked year, given that of what follows
hole_part : (n whole share left w : ℤ) (i0 i1 i2 i3 : ℕ) (is : List ℕ) (ps : List ℤ) (x0 x1 x2 x3 : ℤ)
    (xs : List ℤ) (z0 z1 z2 z3 : ℤ) (zs : List ℤ) (cs : List Fraction) (qs : List ℤ) →
    Aligned whole share (i0 ∷ i1 ∷ i2 ∷ i3 ∷ is) ps (x0 ∷ x1 ∷ x2 ∷ x3 ∷ xs) (z0 ∷ z1 ∷ z2 ∷ z3 ∷ zs)
    (steady left ∷ steady left ∷ steady left ∷ steady left ∷ cs) qs →
    ((v : ℤ) (os rs : List ℤ) → Aligned whole share is os xs zs cs rs →
    balance_from n v os xs zs cs rs ≡ neg_ℤ (share *ℤ (left *ℤ v))) →
    balance_from n w ps (x0 ∷ x1 ∷ x2 ∷ x3 ∷ xs) (z0 ∷ z1 ∷ z2 ∷ z3 ∷ zs)
    (steady left ∷ steady left ∷ steady left ∷ steady left ∷ cs) qs ≡ neg_ℤ (share *ℤ (left *ℤ w))
hole_part n whole share left w i0 i1 i2 i3 is ps' x0 x1 x2 x3 xs z0 z1 z2 z3 zs cs qs'
    (next_quarter _ p0 _ _ _ q0 _ _ _ _ _ _ f0 (next_quarter _ p1 _ _ _ q1 _ _ _ _ _ _ f1
    (next_quarter _ p2 _ _ _ q2 _ _ _ _ _ _ f2 (next_quarter _ p3 _ _ _ q3 _ ps _ _ _ qs f3 al)))) more =
    let follows = more (p3 *ℤ (n *ℤ x3 -ℤ z3)) ps qs al in
    let e0 : q0 ≡ share = one_share share q0 f0.part in
    let e1 : q1 ≡ share = one_share share q1 f1.part in
    let e2 : q2 ≡ share = one_share share q2 f2.part in
    let e3 : q3 ≡ share = one_share share q3 f3.part in
    rw (e0, e1, e2, e3)
    (hole_step share left w (p0 *ℤ (n *ℤ x0 -ℤ z0)) (p1 *ℤ (n *ℤ x1 -ℤ z1)) (p2 *ℤ (n *ℤ x2 -ℤ z2))
    (p3 *ℤ (n *ℤ x3 -ℤ z3)) (balance_from n (p3 *ℤ (n *ℤ x3 -ℤ z3)) ps xs zs cs qs) follows)

-- the changes at the place of the next benchmarked year are its own
pub changes_own : (place : ℕ) (left : ℤ) (year : BenchmarkedYear) (years : List BenchmarkedYear) (right : ℤ)
    (rights : List ℤ) (i0 i1 i2 i3 : ℕ) (is : List ℕ) → year.place ≡ place →
    changes_from place left (year ∷ years) (right ∷ rights) (i0 ∷ i1 ∷ i2 ∷ i3 ∷ is)
    ≡ change_in_year year.indicators left right 0 ∷ change_in_year year.indicators left right 1
    ∷ change_in_year year.indicators left right 2 ∷ change_in_year year.indicators left right 3
    ∷ changes_from (suc place) right years rights is
changes_own place left year years right rights i0 i1 i2 i3 is here =
    ap (λ own. if own
    then (change_in_year year.indicators left right 0 ∷ change_in_year year.indicators left right 1
    ∷ change_in_year year.indicators left right 2 ∷ change_in_year year.indicators left right 3
    ∷ changes_from (suc place) right years rights is)
    else (steady left ∷ steady left ∷ steady left ∷ steady left
    ∷ changes_from (suc place) left (year ∷ years) (right ∷ rights) is)) (eq-eqb year.place place here)

-- before the next benchmarked year the multiplier that stands there is the change of four more quarters
pub changes_other : (place : ℕ) (left : ℤ) (year : BenchmarkedYear) (years : List BenchmarkedYear) (right : ℤ)
    (rights : List ℤ) (i0 i1 i2 i3 : ℕ) (is : List ℕ) → place < year.place →
    changes_from place left (year ∷ years) (right ∷ rights) (i0 ∷ i1 ∷ i2 ∷ i3 ∷ is)
    ≡ steady left ∷ steady left ∷ steady left ∷ steady left
    ∷ changes_from (suc place) left (year ∷ years) (right ∷ rights) is
changes_other place left year years right rights i0 i1 i2 i3 is below =
    let apart : year.place ≡ place → ⊥ = λ e. absurd (omega arith) in
    ap (λ own. if own
    then (change_in_year year.indicators left right 0 ∷ change_in_year year.indicators left right 1
    ∷ change_in_year year.indicators left right 2 ∷ change_in_year year.indicators left right 3
    ∷ changes_from (suc place) right years rights is)
    else (steady left ∷ steady left ∷ steady left ∷ steady left
    ∷ changes_from (suc place) left (year ∷ years) (right ∷ rights) is)) (ne_eqb year.place place apart)

-- a benchmarked year's own changes, from its indicators
pub changes_here : (place : ℕ) (left : ℤ) (year : BenchmarkedYear) (years : List BenchmarkedYear) (right : ℤ)
    (rights : List ℤ) (i0 i1 i2 i3 : ℕ) (is : List ℕ) → year.place ≡ place →
    year.indicators ≡ i0 ∷ i1 ∷ i2 ∷ i3 ∷ [] →
    changes_from place left (year ∷ years) (right ∷ rights) (i0 ∷ i1 ∷ i2 ∷ i3 ∷ is)
    ≡ year_changes left right i0 i1 i2 i3 (changes_from (suc place) right years rights is)
changes_here place left year years right rights i0 i1 i2 i3 is here own =
    changes_own place left year years right rights i0 i1 i2 i3 is here
    ∙ ap (λ (l : List ℕ). change_in_year l left right 0 ∷ change_in_year l left right 1 ∷ change_in_year l left right 2
    ∷ change_in_year l left right 3 ∷ changes_from (suc place) right years rights is) own

-- no multiplier, no weight
nothing_left : (share w : ℤ) → pos 0 ≡ neg_ℤ (share *ℤ (pos 0 *ℤ w))
nothing_left share w =
    let t = var 0 in
    same_by_ring (share ∷ w ∷ []) (num (pos 0)) (neg (t ⊗ (num (pos 0) ⊗ var 1))) refl

-- the balance of a whole run, from any ratio w before it on: what is left is the multiplier before the run times w
pub weigh_run : (n whole share : ℤ) (place : ℕ) (left : ℤ) (years : List BenchmarkedYear) (rights : List ℤ)
    (w : ℤ) (is : List ℕ) (ps xs zs qs : List ℤ) → Benchmarked n place years is xs zs →
    length rights ≡ length years → get_or (left ∷ rights) (length years) (pos 0) ≡ pos 0 →
    Aligned whole share is ps xs zs (changes_from place left years rights is) qs →
    balance_from n w ps xs zs (changes_from place left years rights is) qs ≡ neg_ℤ (share *ℤ (left *ℤ w))
weigh_run n whole share place left [] [] w is ps xs zs qs (no_year _ _ _ _) same last al =
    rw last (balance_of_rest n w is ps xs zs qs ∙ nothing_left share w)
weigh_run n whole share place left [] (right ∷ rights) w is ps xs zs qs run same last al = absurd (omega arith)
weigh_run n whole share place left (year ∷ years) [] w is ps xs zs qs run same last al = absurd (omega arith)
weigh_run n whole share place left (year ∷ years) (right ∷ rights) w is' ps xs' zs' qs
    (own_year _ _ _ i0 i1 i2 i3 is x0 x1 x2 x3 xs z0 z1 z2 z3 zs here own ex ez run) same last al =
    let e = changes_here place left year years right rights i0 i1 i2 i3 is here own in
    rw e
    (own_part n whole share year.benchmark left right w i0 i1 i2 i3 is ps x0 x1 x2 x3 xs z0 z1 z2 z3 zs
    (changes_from (suc place) right years rights is) qs ex ez (rw e at al)
    (λ v os rs more. weigh_run n whole share (suc place) right years rights v is os xs zs rs
    run (omega arith) last more))
weigh_run n whole share place left (year ∷ years) (right ∷ rights) w is' ps xs' zs' qs
    (other_year _ _ _ i0 i1 i2 i3 is x0 x1 x2 x3 xs z0 z1 z2 z3 zs below run) same last al =
    let e = changes_other place left year years right rights i0 i1 i2 i3 is below in
    rw e
    (hole_part n whole share left w i0 i1 i2 i3 is ps x0 x1 x2 x3 xs z0 z1 z2 z3 zs
    (changes_from (suc place) left (year ∷ years) (right ∷ rights) is) qs (rw e at al)
    (λ v os rs more. weigh_run n whole share (suc place) left (year ∷ years) (right ∷ rights) v is os xs zs rs
    run same last more))
