-- The loop over the quarters, and why the quarters of a complete year add up to its level.
use Rattle.std.proofs.Common.{◌≡◌, ℕ, ◌+◌, ◌*◌, ◌/◌, ◌%◌, ◌<◌, ◌≤◌, ◌⊎◌, inl, inr, ℤ, pos, ◌*ℤ◌, ◌<ℤ◌, Bool, true, false, if◌then◌else◌, List, [], ◌∷◌, map, length, get_or, set, arith, ap, sym, ◌∙◌, refl, nat_lt, int_le}
use Rattle.std.specs.Prelude.{◌||◌}
use Rattle.std.specs.List.{list_any}
use Rattle.std.proofs.lemmas.List.Folds.{list_any-append}
use Rattle.std.proofs.lemmas.List.{get_or_past}
use Rattle.std.proofs.lemmas.List.Edits.{fill_by_more}
use Rattle.std.proofs.lemmas.List.FromFn.{fill_by_all, length-map-range_with_len, get_or-map-range_with_len}
use Rattle.ratio_arith.proofs.Linear.{linear}
use Rattle.sum_rounding.specs.ShareOut.{share_of, sum_of, CanShare, IsShareOut}
use Rattle.sum_rounding.proofs.Laws.{ranks_share_out}
use Rattle.price_base.specs.declared.Cell.{Cell}
use Rattle.price_base.specs.declared.Cell.TheVariants.{Missing, Value, NoBase, NoLink, Range}
use Rattle.price_base.specs.Cells.{cell_at, combined, total, is_missing, is_no_base, is_range}
use Rattle.annual_overlap.specs.Years.{quarters_in, year_cell, years_of, number_or}
use Rattle.annual_overlap.specs.Quarters.{complete_year, rate_at, chained_year, chained_in, chained_at, chained_of}
use Rattle.annual_overlap.specs.Table.{AreNumbersAddingTo}
use Rattle.annual_overlap.proofs.YearSums.{parts_total, total_from_combined, year_at}

-- the quarters of one year are made at once
pub kept_quarters : (values volumes levels quarters four : List Cell) (quarter : ℕ) → four ≡ chained_in values volumes levels quarters (quarter / 4) →
    ((quarter + 1) % 4 ≡ 0) ⊎ (four ≡ chained_in values volumes levels quarters ((quarter + 1) / 4))
kept_quarters values volumes levels quarters four quarter e = elim (same_year quarter) [ inl first ↦ inl first | inr same ↦ inr (e ∙ ap (chained_in values volumes levels quarters) same) ]
  where
    same_year : (quarter : ℕ) → ((quarter + 1) % 4 ≡ 0) ⊎ (quarter / 4 ≡ (quarter + 1) / 4)
    same_year quarter = grind arith

-- one more quarter is written
pub quarter_written : (values volumes levels quarters out four : List Cell) (quarter : ℕ) → quarter < length out → four ≡ chained_in values volumes levels quarters (quarter / 4) →
    ((k : ℕ) → k < quarter → get_or out k Missing ≡ chained_at values volumes levels quarters k) →
    (k : ℕ) → k < quarter + 1 → get_or (set out quarter (get_or four (quarter % 4) Missing)) k Missing ≡ chained_at values volumes levels quarters k
quarter_written values volumes levels quarters out four quarter below e written =
    let is : get_or four (quarter % 4) Missing ≡ chained_at values volumes levels quarters quarter = ap (λ (list : List Cell). get_or list (quarter % 4) Missing) e in
    rw is (fill_by_more (chained_at values volumes levels quarters) out quarter Missing below written)

-- all quarters are written
pub quarters_written : (values volumes levels quarters out : List Cell) (quarter : ℕ) → length out ≤ quarter → length out ≡ length quarters →
    ((k : ℕ) → k < quarter → get_or out k Missing ≡ chained_at values volumes levels quarters k) → out ≡ chained_of values volumes levels quarters
unfolding chained_of
quarters_written values volumes levels quarters out quarter ended same written =
    fill_by_all (chained_at values volumes levels quarters) out (length quarters) Missing same (λ k below. written k (omega arith))

-- there is a chained quarter for each quarter
pub length-chained_of : (values volumes levels quarters : List Cell) → length (chained_of values volumes levels quarters) ≡ length quarters
unfolding chained_of
length-chained_of values volumes levels quarters = length-map-range_with_len (chained_at values volumes levels quarters) 0 (length quarters)

-- a chained quarter of a year
quarter_of : (values volumes levels quarters : List Cell) (y j : ℕ) → j < 4 → 4 * y + j < length quarters →
    cell_at (chained_of values volumes levels quarters) (4 * y + j) ≡ cell_at (chained_in values volumes levels quarters y) j
unfolding chained_of
quarter_of values volumes levels quarters y j small below =
    let year : (4 * y + j) / 4 ≡ y = grind arith in
    let place : (4 * y + j) % 4 ≡ j = grind arith in
    get_or-map-range_with_len (chained_at values volumes levels quarters) 0 (length quarters) (4 * y + j) (4 * y + j) Missing below (omega arith) ∙
    ap (λ k. cell_at (chained_in values volumes levels quarters k) ((4 * y + j) % 4)) year ∙ ap (λ k. cell_at (chained_in values volumes levels quarters y) k) place

-- where a sum is a number its last cell is there
or_true : (x : Bool) → (x || true) ≡ true
or_true true = refl
or_true false = refl

last_there : (a b c d : Cell) (number : ℤ) → combined (a ∷ b ∷ c ∷ d ∷ []) ≡ Value number → d ≡ Missing → ⊥
last_there a b c d number e missing =
    let cells : List Cell = a ∷ b ∷ c ∷ Missing ∷ [] in
    let any : list_any is_missing cells ≡ true = list_any-append is_missing (a ∷ b ∷ c ∷ []) (Missing ∷ []) ∙ or_true (list_any is_missing (a ∷ b ∷ c ∷ [])) in
    let rest : Cell = if list_any is_no_base cells then NoBase else (if list_any is_range cells then Range else Value (total cells)) in
    let mark : combined cells ≡ Missing = ap (λ t. if t then Missing else rest) any in
    let same : combined (a ∷ b ∷ c ∷ d ∷ []) ≡ combined cells = ap (λ cell. combined (a ∷ b ∷ c ∷ cell ∷ [])) missing in
    apart number (sym (sym same ∙ e) ∙ mark)
  where
    apart : (number : ℤ) → Value number ≡ Missing → ⊥
    apart number h = cc

-- a year whose volume is a number has four quarters
four_there : (quarters : List Cell) (y : ℕ) (number : ℤ) → year_cell quarters y ≡ Value number → 4 * y + 3 < length quarters
four_there quarters y number e = by (nat_lt (4 * y + 3) (length quarters)) refl
  where
    by : (b : Bool) → nat_lt (4 * y + 3) (length quarters) ≡ b → 4 * y + 3 < length quarters
    by true less = grind (arith, less)
    by false less = absurd (last_there (cell_at quarters (4 * y)) (cell_at quarters (4 * y + 1)) (cell_at quarters (4 * y + 2)) (cell_at quarters (4 * y + 3)) number e (get_or_past quarters (4 * y + 3) Missing (grind (arith, less))))

-- four numbers as cells, place by place
four_listed : (xs : List ℤ) → length xs ≡ 4 →
    ◌≡◌ {A = List Cell} (cell_at (map Value xs) 0 ∷ cell_at (map Value xs) 1 ∷ cell_at (map Value xs) 2 ∷ cell_at (map Value xs) 3 ∷ []) (map Value xs)
four_listed (a ∷ b ∷ c ∷ d ∷ []) h = refl
four_listed [] h = absurd (omega arith)
four_listed (a ∷ []) h = absurd (omega arith)
four_listed (a ∷ b ∷ []) h = absurd (omega arith)
four_listed (a ∷ b ∷ c ∷ []) h = absurd (omega arith)
four_listed (a ∷ b ∷ c ∷ d ∷ e ∷ xs) h = absurd (omega arith)

-- the parts of a level stand in a share-out
can_share : (level volume : ℤ) (quarters : List Cell) (y : ℕ) → pos 0 <ℤ volume → total (quarters_in quarters y) ≡ volume →
    CanShare (map (λ quarter. level *ℤ number_or (pos 0) quarter) (quarters_in quarters y)) volume level
can_share level volume quarters y positive adds = record {
  four = refl;
  positive = positive;
  adds_up = parts_total level volume (cell_at quarters (4 * y)) (cell_at quarters (4 * y + 1)) (cell_at quarters (4 * y + 2)) (cell_at quarters (4 * y + 3)) _ _ _ _ adds refl refl refl refl;
}

-- a complete year with a level and a volume above zero is shared out
shared_year : (level volume : ℤ) (quarters : List Cell) → pos 0 <ℤ volume →
    complete_year (Value level) volume quarters ≡ map Value (share_of (map (λ quarter. level *ℤ number_or (pos 0) quarter) quarters) volume level)
shared_year level volume quarters positive = by (int_le volume (pos 0)) refl
  where
    by : (b : Bool) → int_le volume (pos 0) ≡ b →
        (if b then map (λ quarter. NoLink) quarters else map Value (share_of (map (λ quarter. level *ℤ number_or (pos 0) quarter) quarters) volume level)) ≡
        map Value (share_of (map (λ quarter. level *ℤ number_or (pos 0) quarter) quarters) volume level)
    by true e = absurd (omega (arith, linear))
    by false e = refl

-- nothing more
plus_nothing : (k : ℕ) → k ≡ k + 0
plus_nothing k = omega arith

-- lists of equal cells
four_same : (a b c d e f g h : Cell) → a ≡ e → b ≡ f → c ≡ g → d ≡ h → ◌≡◌ {A = List Cell} (a ∷ b ∷ c ∷ d ∷ []) (e ∷ f ∷ g ∷ h ∷ [])
four_same a b c d e f g h p q r s = rw (p, q, r, s) refl

-- the four quarters of a complete year are numbers that add up to its level
pub year_adds_up : (values levels quarters : List Cell) (y : ℕ) (value volume level : ℤ) → cell_at values y ≡ Value value → cell_at (years_of quarters) y ≡ Value volume → cell_at levels y ≡ Value level →
    pos 0 <ℤ volume → AreNumbersAddingTo level (quarters_in (chained_of values (years_of quarters) levels quarters) y)
year_adds_up values levels quarters y value volume level ev ek el positive = elim (year_at quarters y) [
  | inl e ↦ there (sym e ∙ ek)
  | inr e ↦ absurd (apart volume (sym ek ∙ e))
]
  where
    apart : (number : ℤ) → Value number ≡ Missing → ⊥
    apart number h = cc

    there : year_cell quarters y ≡ Value volume → AreNumbersAddingTo level (quarters_in (chained_of values (years_of quarters) levels quarters) y)
    there e =
        let inside : 4 * y + 3 < length quarters = four_there quarters y volume e in
        let volumes : List Cell = years_of quarters in
        let parts : List ℤ = map (λ quarter. level *ℤ number_or (pos 0) quarter) (quarters_in quarters y) in
        let shares : List ℤ = share_of parts volume level in
        let law : IsShareOut parts volume level shares = ranks_share_out parts volume level (can_share level volume quarters y positive (total_from_combined (quarters_in quarters y) volume e)) in
        let rate = rate_at values volumes levels y in
        let made : chained_in values volumes levels quarters y ≡ map Value shares =
        ap (λ cell. chained_year cell (cell_at volumes y) (cell_at levels y) rate (quarters_in quarters y)) ev ∙
        ap (λ cell. chained_year (Value value) cell (cell_at levels y) rate (quarters_in quarters y)) ek ∙
        ap (λ cell. chained_year (Value value) (Value volume) cell rate (quarters_in quarters y)) el ∙
        shared_year level volume (quarters_in quarters y) positive in
        let q0 : cell_at (chained_of values volumes levels quarters) (4 * y) ≡ cell_at (map Value shares) 0 = ap (λ k. cell_at (chained_of values volumes levels quarters) k) (plus_nothing (4 * y)) ∙ quarter_of values volumes levels quarters y 0 (omega arith) (omega arith) ∙ ap (λ (list : List Cell). cell_at list 0) made in
        let q1 : cell_at (chained_of values volumes levels quarters) (4 * y + 1) ≡ cell_at (map Value shares) 1 = quarter_of values volumes levels quarters y 1 (omega arith) (omega arith) ∙ ap (λ (list : List Cell). cell_at list 1) made in
        let q2 : cell_at (chained_of values volumes levels quarters) (4 * y + 2) ≡ cell_at (map Value shares) 2 = quarter_of values volumes levels quarters y 2 (omega arith) (omega arith) ∙ ap (λ (list : List Cell). cell_at list 2) made in
        let q3 : cell_at (chained_of values volumes levels quarters) (4 * y + 3) ≡ cell_at (map Value shares) 3 = quarter_of values volumes levels quarters y 3 (omega arith) (omega arith) ∙ ap (λ (list : List Cell). cell_at list 3) made in
        (shares, four_same _ _ _ _ _ _ _ _ q0 q1 q2 q3 ∙ four_listed shares law.same_length, law.adds_up)
