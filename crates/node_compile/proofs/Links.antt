-- Why a level is a number exactly where its year is linked to the reference year.
use Rattle.std.proofs.Common.{◌≡◌, ◌∙◌, ap, sym, refl, subst, inl, inr, ℕ, zero, suc, ◌+◌, ◌-◌, ◌^◌, ◌<◌, ◌≤◌, ℤ, pos, ◌<ℤ◌, ◌+ℤ◌, ◌*ℤ◌, Bool, true, false, if◌then◌else◌, List, length, map, arith, int_le, nat_lt}
use Rattle.std.specs.Prelude.{◌≢◌, ◌↔◌, ◌&&◌, ◌||◌, IsSome}
use Rattle.std.specs.List.{range_with_len}
use Rattle.std.proofs.lemmas.Bool.{cases_lt}
use Rattle.std.proofs.lemmas.Simd.{map-map}
use Rattle.std.proofs.lemmas.List.{length-map}
use Rattle.std.proofs.lemmas.List.FromFn.{get_or-map-range_with_len, length-range_with_len}
use Rattle.ratio_arith.specs.Division.{round_of, ceil_of}
use Rattle.ratio_arith.proofs.Linear.{linear}
use Rattle.price_base.specs.declared.Cell.{Cell}
use Rattle.price_base.specs.declared.Cell.TheVariants.{Missing, Value, NoBase, NoLink, Range}
use Rattle.price_base.specs.Cells.{cell_at, number_of}
use Rattle.annual_overlap.specs.declared.Point.{Point}
use Rattle.annual_overlap.specs.declared.Point.TheVariants.{Known, Marked}
use Rattle.annual_overlap.specs.declared.Ratio.{Ratio}
use Rattle.annual_overlap.specs.declared.Ratio.TheVariants.{Of, Broken}
use Rattle.annual_overlap.specs.Chain.{link_of, link_after, moved, step_forward, step_backward, reference_point, years_after, years_before, point_at, points_of, level_cell}
use Rattle.annual_overlap.specs.Table.{chain_of}
use Rattle.annual_overlap.specs.Years.{years_of}
use Rattle.node_compile.specs.Laws.{IsAboveZero, AreLinked, IsLinkedTo, AreLinkedLevels}

-- a point is known only where L holds, and it is another mark than that of the range only where L doesn't
abbrev IsFair : Point → Type 0 → Type 0
IsFair (Known level drift) L = L
IsFair (Marked (Value number)) L = ⊥
IsFair (Marked Missing) L = L → ⊥
IsFair (Marked NoBase) L = L → ⊥
IsFair (Marked NoLink) L = L → ⊥
IsFair (Marked Range) L = Unit {0}

-- the same of a link
abbrev IsFairLink : Ratio → Type 0 → Type 0
IsFairLink (Of over under) M = M
IsFairLink (Broken mark) M = IsFair (Marked mark) M

-- it is so of whatever comes to the same
fair_same : (p : Point) (L N : Type 0) → (L → N) → (N → L) → IsFair p L → IsFair p N
fair_same (Known level drift) L N to from fair = to fair
fair_same (Marked (Value number)) L N to from fair = absurd fair
fair_same (Marked Missing) L N to from fair = λ n. fair (from n)
fair_same (Marked NoBase) L N to from fair = λ n. fair (from n)
fair_same (Marked NoLink) L N to from fair = λ n. fair (from n)
fair_same (Marked Range) L N to from fair = tt

-- a mark is so of whatever asks for more
fair_mark : (mark : Cell) (L N : Type 0) → (N → L) → IsFair (Marked mark) L → IsFair (Marked mark) N
fair_mark (Value number) L N from fair = absurd fair
fair_mark Missing L N from fair = λ n. fair (from n)
fair_mark NoBase L N from fair = λ n. fair (from n)
fair_mark NoLink L N from fair = λ n. fair (from n)
fair_mark Range L N from fair = tt

-- a moved level is known, or out of range
fair_moved : (level drift over under : ℤ) (N : Type 0) → N → IsFair (moved level drift over under) N
fair_moved level drift over under N holds = by (int_le (round_of (level *ℤ over) under) (pos (10 ^ 19)) && int_le (ceil_of (drift *ℤ over) under +ℤ pos 1) (pos (10 ^ 19)))
  where
    by : (b : Bool) → IsFair (if b then Known (round_of (level *ℤ over) under) (ceil_of (drift *ℤ over) under +ℤ pos 1) else Marked Range) N
    by true = holds
    by false = tt

-- one step along a link, forward and backward
fair_forward : (p : Point) (link : Ratio) (L M : Type 0) → IsFair p L → IsFairLink link M → IsFair (step_forward p link) (L × M)
fair_forward (Marked mark) link L M fair own = fair_mark mark L (L × M) (λ both. both.0) fair
fair_forward (Known level drift) (Broken mark) L M fair own = fair_mark mark M (L × M) (λ both. both.1) own
fair_forward (Known level drift) (Of volume before) L M fair own = fair_moved level drift volume before (L × M) (fair, own)

fair_backward : (p : Point) (link : Ratio) (L M : Type 0) → IsFair p L → IsFairLink link M → IsFair (step_backward p link) (L × M)
fair_backward (Marked mark) link L M fair own = fair_mark mark L (L × M) (λ both. both.0) fair
fair_backward (Known level drift) (Broken mark) L M fair own = fair_mark mark M (L × M) (λ both. both.1) own
fair_backward (Known level drift) (Of volume before) L M fair own = fair_moved level drift before volume (L × M) (fair, own)

-- the link between two cells
fair_link : (before volume : Cell) → IsFairLink (link_of before volume) (IsAboveZero before × IsAboveZero volume)
fair_link (Value before) (Value volume) = by (int_le volume (pos 0)) refl (int_le before (pos 0)) refl (int_le before (pos (10 ^ 18)))
  where
    by : (x : Bool) → int_le volume (pos 0) ≡ x → (y : Bool) → int_le before (pos 0) ≡ y → (z : Bool) →
        IsFairLink (if x || y then Broken NoLink else (if z then Of volume before else Broken Range)) (IsAboveZero (Value before) × IsAboveZero (Value volume))
    by true ex y ey z = λ both. let above : pos 0 <ℤ volume = both.1 in absurd (omega (arith, linear))
    by false ex true ey z = λ both. let above : pos 0 <ℤ before = both.0 in absurd (omega (arith, linear))
    by false ex false ey false = tt
    by false ex false ey true = (let above : pos 0 <ℤ before = omega (arith, linear) in above, let above : pos 0 <ℤ volume = omega (arith, linear) in above)
fair_link (Value before) Missing = λ both. both.1
fair_link (Value before) NoBase = λ both. both.1
fair_link (Value before) NoLink = λ both. both.1
fair_link (Value before) Range = tt
fair_link Missing (Value volume) = λ both. both.0
fair_link Missing Missing = λ both. both.0
fair_link Missing NoBase = λ both. both.0
fair_link Missing NoLink = λ both. both.0
fair_link Missing Range = tt
fair_link NoBase (Value volume) = λ both. both.0
fair_link NoBase Missing = λ both. both.0
fair_link NoBase NoBase = λ both. both.0
fair_link NoBase NoLink = λ both. both.0
fair_link NoBase Range = tt
fair_link NoLink (Value volume) = λ both. both.0
fair_link NoLink Missing = λ both. both.0
fair_link NoLink NoBase = λ both. both.0
fair_link NoLink NoLink = λ both. both.0
fair_link NoLink Range = tt
fair_link Range (Value volume) = tt
fair_link Range Missing = λ both. both.0
fair_link Range NoBase = λ both. both.0
fair_link Range NoLink = λ both. both.0
fair_link Range Range = tt

-- the level of the reference year
fair_reference : (cell : Cell) → IsFair (reference_point cell) (IsAboveZero cell)
fair_reference (Value value) = by (int_le value (pos 0)) refl (int_le value (pos (10 ^ 15)))
  where
    by : (x : Bool) → int_le value (pos 0) ≡ x → (y : Bool) → IsFair (if x then Marked NoLink else (if y then Known (pos 10000 *ℤ value) (pos 0) else Marked Range)) (IsAboveZero (Value value))
    by true e y = λ above. let more : pos 0 <ℤ value = above in absurd (omega (arith, linear))
    by false e true = let above : pos 0 <ℤ value = omega (arith, linear) in above
    by false e false = tt
fair_reference Missing = λ above. above
fair_reference NoBase = λ above. above
fair_reference NoLink = λ above. above
fair_reference Range = tt

-- the reference year's value and so many links after it, or before it
abbrev AreLinkedAfter : List Cell → List Cell → ℕ → ℕ → Type 0
AreLinkedAfter values volumes reference n = IsAboveZero (cell_at values reference) × ((y : ℕ) → reference ≤ y → y < reference + n → AreLinked values volumes y)

abbrev AreLinkedBefore : List Cell → List Cell → ℕ → ℕ → Type 0
AreLinkedBefore values volumes reference n = IsAboveZero (cell_at values reference) × ((y : ℕ) → reference ≤ y + n → y < reference → AreLinked values volumes y)

fair_after : (values volumes : List Cell) (reference n : ℕ) → IsFair (years_after values volumes reference n) (AreLinkedAfter values volumes reference n)
fair_after values volumes reference zero =
    fair_same (reference_point (cell_at values reference)) (IsAboveZero (cell_at values reference)) (AreLinkedAfter values volumes reference 0)
    (λ base. (base, λ y above below. absurd (omega (arith, above, below)))) (λ linked. linked.0) (fair_reference (cell_at values reference))
fair_after values volumes reference (suc n) =
    fair_same (years_after values volumes reference (suc n)) (AreLinkedAfter values volumes reference n × AreLinked values volumes (reference + n)) (AreLinkedAfter values volumes reference (suc n))
    more (λ linked. ((linked.0, λ y above below. linked.1 y above (omega (arith, below))), linked.1 (reference + n) (omega arith) (omega arith)))
    (fair_forward (years_after values volumes reference n) (link_after values volumes (reference + n)) (AreLinkedAfter values volumes reference n) (AreLinked values volumes (reference + n))
    (fair_after values volumes reference n) (fair_link (cell_at values (reference + n)) (cell_at volumes (reference + n + 1))))
  where
    more : AreLinkedAfter values volumes reference n × AreLinked values volumes (reference + n) → AreLinkedAfter values volumes reference (suc n)
    more both = (
      both.0.0,
      λ y above below. elim (cases_lt y (reference + n)) [
        | inl within ↦ both.0.1 y above within
        | inr last ↦ let same : reference + n ≡ y = omega (arith, last, below) in subst (AreLinked values volumes) same both.1
      ],
    )

fair_before : (values volumes : List Cell) (reference n : ℕ) → n ≤ reference → IsFair (years_before values volumes reference n) (AreLinkedBefore values volumes reference n)
fair_before values volumes reference zero few =
    fair_same (reference_point (cell_at values reference)) (IsAboveZero (cell_at values reference)) (AreLinkedBefore values volumes reference 0)
    (λ base. (base, λ y above below. absurd (omega (arith, above, below)))) (λ linked. linked.0) (fair_reference (cell_at values reference))
fair_before values volumes reference (suc n) few =
    fair_same (years_before values volumes reference (suc n)) (AreLinkedBefore values volumes reference n × AreLinked values volumes (reference - suc n)) (AreLinkedBefore values volumes reference (suc n))
    more (λ linked. ((linked.0, λ y above below. linked.1 y (omega (arith, above)) below), linked.1 (reference - suc n) (omega (arith, few)) (omega (arith, few))))
    (fair_backward (years_before values volumes reference n) (link_after values volumes (reference - suc n)) (AreLinkedBefore values volumes reference n) (AreLinked values volumes (reference - suc n))
    (fair_before values volumes reference n (omega (arith, few))) (fair_link (cell_at values (reference - suc n)) (cell_at volumes (reference - suc n + 1))))
  where
    more : AreLinkedBefore values volumes reference n × AreLinked values volumes (reference - suc n) → AreLinkedBefore values volumes reference (suc n)
    more both = (
      both.0.0,
      λ y above below. elim (cases_lt (reference - suc n) y) [
        | inl within ↦ both.0.1 y (omega (arith, within, few)) below
        | inr first ↦ let same : reference - suc n ≡ y = omega (arith, first, above, few) in subst (AreLinked values volumes) same both.1
      ],
    )

-- the level of any year
fair_point : (values volumes : List Cell) (reference year : ℕ) → IsFair (point_at values volumes reference year) (IsLinkedTo values volumes reference year)
fair_point values volumes reference year = by (nat_lt year reference) refl
  where
    by : (b : Bool) → nat_lt year reference ≡ b → IsFair (if b then years_before values volumes reference (reference - year) else years_after values volumes reference (year - reference)) (IsLinkedTo values volumes reference year)
    by true e =
        let below : year < reference = grind (arith, e) in
        fair_same (years_before values volumes reference (reference - year)) (AreLinkedBefore values volumes reference (reference - year)) (IsLinkedTo values volumes reference year)
        (λ linked. record { base = linked.0; later = λ y above under. absurd (omega (arith, above, under, below)); earlier = λ y above under. linked.1 y (omega (arith, above, below)) under })
        (λ linked. (linked.base, λ y above under. linked.earlier y (omega (arith, above, below)) under))
        (fair_before values volumes reference (reference - year) (omega arith))
    by false e =
        let beyond : reference ≤ year = grind (arith, e) in
        fair_same (years_after values volumes reference (year - reference)) (AreLinkedAfter values volumes reference (year - reference)) (IsLinkedTo values volumes reference year)
        (λ linked. record { base = linked.0; later = λ y above under. linked.1 y above (omega (arith, under, beyond)); earlier = λ y above under. absurd (omega (arith, above, under, beyond)) })
        (λ linked. (linked.base, λ y above under. linked.later y above (omega (arith, under, beyond))))
        (fair_after values volumes reference (year - reference))

-- what a fair point says of its level
fair_level : (p : Point) (L : Type 0) → IsFair p L → IsSome (number_of (level_cell p)) ↔ (L × (level_cell p ≢ Range))
fair_level (Known level drift) L fair = (λ some. (fair, λ e. cc), λ both. refl)
fair_level (Marked (Value number)) L fair = absurd fair
fair_level (Marked Missing) L fair = (λ some. absurd (let never : false ≡ true = some in cc), λ both. absurd (fair both.0))
fair_level (Marked NoBase) L fair = (λ some. absurd (let never : false ≡ true = some in cc), λ both. absurd (fair both.0))
fair_level (Marked NoLink) L fair = (λ some. absurd (let never : false ≡ true = some in cc), λ both. absurd (fair both.0))
fair_level (Marked Range) L fair = (λ some. absurd (let never : false ≡ true = some in cc), λ both. absurd (both.1 refl))

-- the levels of a chain are numbers exactly where their years are linked to the reference year
levels_linked : (values volumes : List Cell) (reference : ℕ) → AreLinkedLevels values volumes reference (map level_cell (points_of values volumes reference))
unfolding points_of
levels_linked values volumes reference year below =
    let points : List Point = map (point_at values volumes reference) (range_with_len 0 (length values)) in
    let inside : year < length values = omega (arith, below, length-map points level_cell, length-map (range_with_len 0 (length values)) (point_at values volumes reference), length-range_with_len 0 (length values)) in
    let is : cell_at (map level_cell points) year ≡ level_cell (point_at values volumes reference year) =
    ap (λ (cells : List Cell). cell_at cells year) (map-map level_cell (point_at values volumes reference) (range_with_len 0 (length values)))
    ∙ get_or-map-range_with_len (λ y. level_cell (point_at values volumes reference y)) 0 (length values) year year Missing inside (omega arith) in
    subst (λ (cell : Cell). IsSome (number_of cell) ↔ (IsLinkedTo values volumes reference year × (cell ≢ Range))) (sym is)
    (fair_level (point_at values volumes reference year) (IsLinkedTo values volumes reference year) (fair_point values volumes reference year))

pub chain_linked : (value prev : List Cell) (reference : ℕ) → AreLinkedLevels (chain_of value prev reference).value (chain_of value prev reference).prev reference (chain_of value prev reference).level
unfolding chain_of
chain_linked value prev reference = levels_linked (years_of value) (years_of prev) reference
