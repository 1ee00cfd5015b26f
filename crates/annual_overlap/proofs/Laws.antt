-- The laws of an item's chain as a whole: sizes, the drift's meaning, and that quarters add up.
use Rattle.std.proofs.Common.{◌≡◌, ℕ, zero, suc, ◌*◌, ◌^◌, ◌<◌, ◌≤◌, ℤ, pos, ◌*ℤ◌, Bool, true, false, List, [], ◌∷◌, map, length, get_or, arith, ap, sym, ◌∙◌, refl, subst, nat_lt}
use Rattle.std.specs.List.{All}
use Rattle.std.proofs.lemmas.List.{get_or_past}
use Rattle.std.proofs.lemmas.List.FromFn.{length-map-range_with_len, get_or-map-range_with_len}
use Rattle.ratio_arith.specs.Nearness.{IsNear}
use Rattle.ratio_arith.proofs.Linear.{linear}
use Rattle.price_base.specs.declared.Cell.{Cell}
use Rattle.price_base.specs.declared.Cell.TheVariants.{Missing, Value, NoBase, NoLink, Range}
use Rattle.price_base.specs.Cells.{cell_at}
use Rattle.annual_overlap.specs.declared.Point.{Point}
use Rattle.annual_overlap.specs.declared.Point.TheVariants.{Known, Marked}
use Rattle.annual_overlap.specs.declared.ChainTable.{ChainTable}
use Rattle.annual_overlap.specs.Years.{year_count, quarters_in, years_of, IsSizedCell}
use Rattle.annual_overlap.specs.Chain.{point_at, points_of, level_cell, drift_cell}
use Rattle.annual_overlap.specs.Quarters.{chained_of}
use Rattle.annual_overlap.specs.Sizes.{IsSmallPoint, IsTotalOf}
use Rattle.annual_overlap.specs.Drift.{exact_num, exact_den, IsWithinDrift, AreWithinDrift}
use Rattle.annual_overlap.specs.Table.{chain_of, DoQuartersAddUp}
use Rattle.annual_overlap.proofs.Drift.{IsExact, point_near}
use Rattle.annual_overlap.proofs.Shares.{year_adds_up, length-chained_of}
use Rattle.annual_overlap.proofs.YearSums.{length-years_of, sized_wider, sized_at, years_sized, years_total}

-- a place of a mapped list
at_map : (f : Point → Cell) (points : List Point) (k : ℕ) (d : Point) → get_or (map f points) k (f d) ≡ f (get_or points k d)
at_map f [] k d = refl
at_map f (p ∷ points) zero d = refl
at_map f (p ∷ points) (suc k) d = at_map f points k d

length-mapped : (f : Point → Cell) (points : List Point) → length (map f points) ≡ length points
length-mapped f [] = refl
length-mapped f (p ∷ points) = ap suc (length-mapped f points)

-- each level in the list is exact, and past its end there is a mark
exact_points : (values volumes : List Cell) (reference y : ℕ) →
    IsExact (get_or (points_of values volumes reference) y (Marked Missing)) (exact_num values volumes reference y) (exact_den values volumes reference y)
unfolding points_of
exact_points values volumes reference y = by (nat_lt y (length values)) refl
  where
    P : Point → Type 0
    P = λ p. IsExact p (exact_num values volumes reference y) (exact_den values volumes reference y)

    by : (b : Bool) → nat_lt y (length values) ≡ b → P (get_or (points_of values volumes reference) y (Marked Missing))
    by true e =
        let below : y < length values = grind (arith, e) in
        subst P (sym (get_or-map-range_with_len (point_at values volumes reference) 0 (length values) y y (Marked Missing) below (omega arith))) (point_near values volumes reference y)
    by false e =
        let above : length values ≤ y = grind (arith, e) in
        let n = length-map-range_with_len (point_at values volumes reference) 0 (length values) in
        subst P (sym (get_or_past (points_of values volumes reference) y (Marked Missing) (omega arith))) tt

-- a level that is a number is within its drift
within_from : (p : Point) (level n d : ℤ) → IsExact p n d → level_cell p ≡ Value level → IsWithinDrift level (drift_cell p) n d
within_from (Known own drift) level n d exact e =
    let same : own ≡ level = cc in
    (exact.0, subst (λ (z : ℤ). IsNear (pos 10000 *ℤ n) (z *ℤ d) (drift *ℤ d)) same exact.1)
within_from (Marked (Value number)) level n d exact e = absurd exact
within_from (Marked Missing) level n d exact e = cc
within_from (Marked NoBase) level n d exact e = cc
within_from (Marked NoLink) level n d exact e = cc
within_from (Marked Range) level n d exact e = cc

-- all levels of a chain are within their drifts
pub levels_within_drift : (values volumes : List Cell) (reference : ℕ) →
    AreWithinDrift values volumes reference (map level_cell (points_of values volumes reference)) (map drift_cell (points_of values volumes reference))
levels_within_drift values volumes reference y level e =
    let points : List Point = points_of values volumes reference in
    let p : Point = get_or points y (Marked Missing) in
    let is : level_cell p ≡ Value level = sym (at_map level_cell points y (Marked Missing)) ∙ e in
    subst (λ (cell : Cell). IsWithinDrift level cell (exact_num values volumes reference y) (exact_den values volumes reference y)) (sym (at_map drift_cell points y (Marked Missing)))
    (within_from p level _ _ (exact_points values volumes reference y) is)

-- the cell of a small level is small
level_sized : (p : Point) (n d : ℤ) → IsExact p n d → IsSmallPoint p → IsSizedCell (10 ^ 19) (level_cell p)
level_sized (Known level drift) n d exact small = let a = small.0 in let b = small.1 in omega (arith, linear)
level_sized (Marked (Value number)) n d exact small = absurd exact
level_sized (Marked Missing) n d exact small = tt
level_sized (Marked NoBase) n d exact small = tt
level_sized (Marked NoLink) n d exact small = tt
level_sized (Marked Range) n d exact small = tt

pub levels_sized : (values volumes levels : List Cell) (points : List Point) (reference : ℕ) → points ≡ points_of values volumes reference → levels ≡ map level_cell points →
    ((k : ℕ) → IsSmallPoint (get_or points k (Marked Missing))) → (k : ℕ) → IsSizedCell (10 ^ 19) (cell_at levels k)
levels_sized values volumes levels points reference ep el small k =
    let exact = exact_points values volumes reference k in
    let is : IsExact (get_or points k (Marked Missing)) (exact_num values volumes reference k) (exact_den values volumes reference k) =
    subst (λ (list : List Point). IsExact (get_or list k (Marked Missing)) (exact_num values volumes reference k) (exact_den values volumes reference k)) (sym ep) exact in
    let e : cell_at levels k ≡ level_cell (get_or points k (Marked Missing)) = ap (λ (list : List Cell). cell_at list k) el ∙ at_map level_cell points k (Marked Missing) in
    subst (λ (cell : Cell). IsSizedCell (10 ^ 19) cell) (sym e) (level_sized (get_or points k (Marked Missing)) _ _ is (small k))

-- the drift's meaning for a chain
pub chain_within_drift : (table : ChainTable) (value prev : List Cell) (reference : ℕ) → table ≡ chain_of value prev reference → AreWithinDrift table.value table.prev reference table.level table.drift
unfolding chain_of
chain_within_drift table value prev reference e =
    subst (λ (t : ChainTable). AreWithinDrift t.value t.prev reference t.level t.drift) (sym e) (levels_within_drift (years_of value) (years_of prev) reference)

-- the quarters of complete years of a chain add up
pub chain_adds_up : (table : ChainTable) (value prev : List Cell) (reference : ℕ) → table ≡ chain_of value prev reference → DoQuartersAddUp table
unfolding chain_of
chain_adds_up table value prev reference e =
    subst (λ (t : ChainTable). DoQuartersAddUp t) (sym e)
    (λ y v k l. year_adds_up (years_of value) (map level_cell (points_of (years_of value) (years_of prev) reference)) prev y v k l)

-- a chain from its parts
pub chain_from : (value prev values volumes levels drifts quarters v w x y z : List Cell) (points : List Point) (reference : ℕ) → values ≡ years_of value → volumes ≡ years_of prev →
    points ≡ points_of values volumes reference → levels ≡ map level_cell points → drifts ≡ map drift_cell points → quarters ≡ chained_of values volumes levels prev →
    v ≡ values → w ≡ volumes → x ≡ levels → y ≡ drifts → z ≡ quarters →
    ◌≡◌ {A = ChainTable} (record { value = v; prev = w; level = x; drift = y; quarter = z }) (chain_of value prev reference)
unfolding chain_of
chain_from value prev values volumes levels drifts quarters v w x y z points reference e0 e1 e2 e3 e4 e5 e6 e7 e8 e9 e10 =
    let ps : points ≡ points_of (years_of value) (years_of prev) reference = e2 ∙ ap (λ l. points_of l volumes reference) e0 ∙ ap (λ l. points_of (years_of value) l reference) e1 in
    let ls : levels ≡ map level_cell (points_of (years_of value) (years_of prev) reference) = e3 ∙ ap (map level_cell) ps in
    let ds : drifts ≡ map drift_cell (points_of (years_of value) (years_of prev) reference) = e4 ∙ ap (map drift_cell) ps in
    let qs : quarters ≡ chained_of (years_of value) (years_of prev) (map level_cell (points_of (years_of value) (years_of prev) reference)) prev =
    e5 ∙ ap (λ l. chained_of l volumes levels prev) e0 ∙ ap (λ l. chained_of (years_of value) l levels prev) e1 ∙ ap (λ l. chained_of (years_of value) (years_of prev) l prev) ls in
    rw (e6 ∙ e0, e7 ∙ e1, e8 ∙ ls, e9 ∙ ds, e10 ∙ qs) refl

-- how many years and quarters a chain has
pub chain_years : (table : ChainTable) (value prev : List Cell) (reference : ℕ) → table ≡ chain_of value prev reference → length value ≡ length prev →
    (length table.value ≡ year_count (length value)) × (length table.prev ≡ year_count (length value)) × (length table.level ≡ year_count (length value)) × (length table.drift ≡ year_count (length value))
unfolding chain_of points_of
chain_years table value prev reference e same =
    let points : List Point = points_of (years_of value) (years_of prev) reference in
    let years : length points ≡ year_count (length value) = length-map-range_with_len (point_at (years_of value) (years_of prev) reference) 0 (length (years_of value)) ∙ length-years_of value in (
      ap (λ (t : ChainTable). length t.value) e ∙ length-years_of value,
      ap (λ (t : ChainTable). length t.prev) e ∙ length-years_of prev ∙ ap year_count (sym same),
      ap (λ (t : ChainTable). length t.level) e ∙ length-mapped level_cell points ∙ years,
      ap (λ (t : ChainTable). length t.drift) e ∙ length-mapped drift_cell points ∙ years,
    )

pub chain_quarters : (table : ChainTable) (value prev : List Cell) (reference : ℕ) → table ≡ chain_of value prev reference → length value ≡ length prev → length table.quarter ≡ length value
unfolding chain_of
chain_quarters table value prev reference e same = ap (λ (t : ChainTable). length t.quarter) e ∙ length-chained_of _ _ _ prev ∙ sym same

-- the sizes that the parts of a chain are made from
pub volumes_small : (prev volumes : List Cell) → volumes ≡ years_of prev → All (IsSizedCell (512 * 10 ^ 15)) prev → (k : ℕ) → IsSizedCell (4 * 10 ^ 18) (cell_at volumes k)
volumes_small prev volumes e all k =
    subst (λ (list : List Cell). IsSizedCell (4 * 10 ^ 18) (cell_at list k)) (sym e)
    (sized_wider (4 * (512 * 10 ^ 15)) (4 * 10 ^ 18) (cell_at (years_of prev) k) (omega arith) (years_sized (512 * 10 ^ 15) prev (sized_at (512 * 10 ^ 15) prev all) k))

pub years_few : (value values : List Cell) → values ≡ years_of value → length value ≤ 512 → length values ≤ 512
years_few value values e few = let n : length values ≡ year_count (length value) = ap length e ∙ length-years_of value in omega arith

pub volumes_total : (prev volumes quarters : List Cell) → volumes ≡ years_of prev → quarters ≡ prev → (k : ℕ) → IsTotalOf (cell_at volumes k) (quarters_in quarters k)
volumes_total prev volumes quarters e same k =
    subst (λ (list : List Cell). IsTotalOf (cell_at list k) (quarters_in quarters k)) (sym e)
    (subst (λ (list : List Cell). IsTotalOf (cell_at (years_of prev) k) (quarters_in list k)) (sym same) (years_total prev k))
