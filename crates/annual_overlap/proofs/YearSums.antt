-- Sums of four cells, and the loop over the years.
use Rattle.std.proofs.Common.{◌≡◌, ℕ, ◌+◌, ◌*◌, ◌^◌, ◌<◌, ◌≤◌, ℤ, pos, ◌+ℤ◌, Bool, true, false, if◌then◌else◌, List, [], ◌∷◌, length, get_or, set, arith, ap, refl, sym, subst, nat_lt, ◌⊎◌, inl, inr, ◌*ℤ◌, unsigned_abs, ◌∙◌, to_z, of_z}
use Rattle.std.specs.Int.{w128}
use Rattle.std.specs.List.{All, list_any}
use Rattle.std.proofs.lemmas.List.Edits.{fill_by_more}
use Rattle.std.proofs.lemmas.List.FromFn.{fill_by_all, length-map-range_with_len, get_or-map-range_with_len}
use Rattle.std.proofs.lemmas.List.{get_or_past}
use Rattle.ratio_arith.proofs.Linear.{linear}
use Rattle.ratio_arith.proofs.Ring.{same_by_ring, var, ◌⊕◌, ◌⊗◌}
use Rattle.price_base.proofs.Quarters.{at_each_index}
use Rattle.annual_overlap.specs.Sizes.{IsTotalOf}
use Rattle.price_base.specs.declared.Cell.{Cell}
use Rattle.price_base.specs.declared.Cell.TheVariants.{Missing, Value, NoBase, NoLink, Range}
use Rattle.price_base.specs.Cells.{cell_at, total, combined, is_missing, is_no_base, is_range}
use Rattle.annual_overlap.proofs.Products.{kept}
use Rattle.annual_overlap.specs.Years.{number_or, quarters_in, year_cell, year_count, years_of, IsSizedCell}

-- the sum of one more cell
total_cons : (cell : Cell) (cells : List Cell) → total (cell ∷ cells) ≡ number_or (pos 0) cell +ℤ total cells
total_cons (Value number) cells = refl
total_cons Missing cells = omega (arith, linear)
total_cons NoBase cells = omega (arith, linear)
total_cons NoLink cells = omega (arith, linear)
total_cons Range cells = omega (arith, linear)

-- the sum of four cells
pub total_of_four : (a b c d : Cell) → total (a ∷ b ∷ c ∷ d ∷ []) ≡ number_or (pos 0) a +ℤ number_or (pos 0) b +ℤ number_or (pos 0) c +ℤ number_or (pos 0) d
total_of_four a b c d =
    let e0 = total_cons a (b ∷ c ∷ d ∷ []) in
    let e1 = total_cons b (c ∷ d ∷ []) in
    let e2 = total_cons c (d ∷ []) in
    let e3 = total_cons d [] in
    omega (arith, linear)

-- the sum of four cells as the code computes it
pub total_kept : (a b c d : Cell) (x y z w sum : ℤ) → x ≡ number_or (pos 0) a → y ≡ number_or (pos 0) b → z ≡ number_or (pos 0) c → w ≡ number_or (pos 0) d →
    sum ≡ x +ℤ y +ℤ z +ℤ w → unsigned_abs sum ≤ 10 ^ 38 → to_z w128 (of_z w128 sum) ≡ total (a ∷ b ∷ c ∷ d ∷ [])
total_kept a b c d x y z w sum ex ey ez ew e small =
    let four = total_of_four a b c d in
    kept sum small ∙ omega (arith, linear)

-- a sum that is a number is the sum of the numbers
pub total_from_combined : (cells : List Cell) (number : ℤ) → combined cells ≡ Value number → total cells ≡ number
total_from_combined cells number e = by (list_any is_missing cells) (list_any is_no_base cells) (list_any is_range cells) e
  where
    by : (x y z : Bool) → (if x then Missing else (if y then NoBase else (if z then Range else Value (total cells)))) ≡ Value number → total cells ≡ number
    by true y z e = cc
    by false true z e = cc
    by false false true e = cc
    by false false false e = cc

-- one more year is written
pub year_written : (cells out : List Cell) (year : ℕ) (cell : Cell) → year < length out → cell ≡ year_cell cells year →
    ((k : ℕ) → k < year → get_or out k Missing ≡ year_cell cells k) → (k : ℕ) → k < year + 1 → get_or (set out year cell) k Missing ≡ year_cell cells k
year_written cells out year cell below e written = rw e (fill_by_more (year_cell cells) out year Missing below written)

-- all years are written
pub years_written : (cells out : List Cell) (year : ℕ) → year_count (length cells) ≤ year → length out ≡ year_count (length cells) →
    ((k : ℕ) → k < year → get_or out k Missing ≡ year_cell cells k) → out ≡ years_of cells
unfolding years_of
years_written cells out year ended same written = fill_by_all (year_cell cells) out (year_count (length cells)) Missing same (λ k below. written k (omega arith))

-- there is a year for each four quarters
pub length-years_of : (cells : List Cell) → length (years_of cells) ≡ year_count (length cells)
unfolding years_of
length-years_of cells = length-map-range_with_len (year_cell cells) 0 (year_count (length cells))

-- a year among those that have a quarter
pub get_or-years_of : (cells : List Cell) (y : ℕ) → y < year_count (length cells) → get_or (years_of cells) y Missing ≡ year_cell cells y
unfolding years_of
get_or-years_of cells y below = get_or-map-range_with_len (year_cell cells) 0 (year_count (length cells)) y y Missing below (omega arith)

-- the parts of a level add up to the level times the year's volume
pub parts_total : (level volume : ℤ) (a b c d : Cell) (p q r s : ℤ) → total (a ∷ b ∷ c ∷ d ∷ []) ≡ volume → p ≡ level *ℤ number_or (pos 0) a → q ≡ level *ℤ number_or (pos 0) b →
    r ≡ level *ℤ number_or (pos 0) c → s ≡ level *ℤ number_or (pos 0) d → p +ℤ (q +ℤ (r +ℤ (s +ℤ pos 0))) ≡ volume *ℤ level
parts_total level volume a b c d p q r s adds ep eq er es =
    let w = number_or (pos 0) a in
    let x = number_or (pos 0) b in
    let y = number_or (pos 0) c in
    let z = number_or (pos 0) d in
    let sum : w +ℤ x +ℤ y +ℤ z ≡ volume = sym (total_of_four a b c d) ∙ adds in
    let e : (w +ℤ x +ℤ y +ℤ z) *ℤ level ≡ level *ℤ w +ℤ (level *ℤ x +ℤ (level *ℤ y +ℤ level *ℤ z)) =
    same_by_ring (level ∷ w ∷ x ∷ y ∷ z ∷ []) ((var 1 ⊕ var 2 ⊕ var 3 ⊕ var 4) ⊗ var 0) (var 0 ⊗ var 1 ⊕ (var 0 ⊗ var 2 ⊕ (var 0 ⊗ var 3 ⊕ var 0 ⊗ var 4))) refl in
    let f : (w +ℤ x +ℤ y +ℤ z) *ℤ level ≡ volume *ℤ level = ap (λ u. u *ℤ level) sum in
    omega (arith, linear)

-- what holds of the marks and of small numbers, of the number in a cell
number_sized : (n : ℕ) (cell : Cell) → IsSizedCell n cell → unsigned_abs (number_or (pos 0) cell) ≤ n
number_sized n (Value number) h = h
number_sized n Missing h = omega (arith, linear)
number_sized n NoBase h = omega (arith, linear)
number_sized n NoLink h = omega (arith, linear)
number_sized n Range h = omega (arith, linear)

-- a larger size
pub sized_wider : (n m : ℕ) (cell : Cell) → n ≤ m → IsSizedCell n cell → IsSizedCell m cell
sized_wider n m (Value number) wider h = omega arith
sized_wider n m Missing wider h = tt
sized_wider n m NoBase wider h = tt
sized_wider n m NoLink wider h = tt
sized_wider n m Range wider h = tt

-- what holds of all cells of a list holds at each place
pub sized_at : (n : ℕ) (cells : List Cell) → All (IsSizedCell n) cells → (k : ℕ) → IsSizedCell n (cell_at cells k)
sized_at n cells all k = at_each_index (IsSizedCell n) cells Missing all tt k

-- a year's number is at most four times as large as those of its quarters
year_sized : (n : ℕ) (a b c d : Cell) → IsSizedCell n a → IsSizedCell n b → IsSizedCell n c → IsSizedCell n d → IsSizedCell (4 * n) (combined (a ∷ b ∷ c ∷ d ∷ []))
year_sized n a b c d ha hb hc hd = by (list_any is_missing (a ∷ b ∷ c ∷ d ∷ [])) (list_any is_no_base (a ∷ b ∷ c ∷ d ∷ [])) (list_any is_range (a ∷ b ∷ c ∷ d ∷ []))
  where
    by : (x y z : Bool) → IsSizedCell (4 * n) (if x then Missing else (if y then NoBase else (if z then Range else Value (total (a ∷ b ∷ c ∷ d ∷ [])))))
    by true y z = tt
    by false true z = tt
    by false false true = tt
    by false false false =
        let sum = total_of_four a b c d in
        let pa = number_sized n a ha in
        let pb = number_sized n b hb in
        let pc = number_sized n c hc in
        let pd = number_sized n d hd in
        omega (arith, linear)

-- a year is there or it is missing
pub year_at : (cells : List Cell) (y : ℕ) → (cell_at (years_of cells) y ≡ year_cell cells y) ⊎ (cell_at (years_of cells) y ≡ Missing)
year_at cells y = by (nat_lt y (year_count (length cells))) refl
  where
    by : (b : Bool) → nat_lt y (year_count (length cells)) ≡ b → (cell_at (years_of cells) y ≡ year_cell cells y) ⊎ (cell_at (years_of cells) y ≡ Missing)
    by true e = inl (get_or-years_of cells y (grind (arith, e)))
    by false e = inr (get_or_past (years_of cells) y Missing (let above : year_count (length cells) ≤ y = grind (arith, e) in let n = length-years_of cells in omega arith))

pub years_sized : (n : ℕ) (cells : List Cell) → ((k : ℕ) → IsSizedCell n (cell_at cells k)) → (y : ℕ) → IsSizedCell (4 * n) (cell_at (years_of cells) y)
years_sized n cells all y =
    let P : Cell → Type 0 = λ cell. IsSizedCell (4 * n) cell in
    elim (year_at cells y) [
      | inl e ↦ subst P (sym e) (year_sized n _ _ _ _ (all (4 * y)) (all (4 * y + 1)) (all (4 * y + 2)) (all (4 * y + 3)))
      | inr e ↦ subst P (sym e) tt
    ]

-- a year's number is the sum of its quarters'
total_is : (cell : Cell) (cells : List Cell) → cell ≡ combined cells → IsTotalOf cell cells
total_is (Value number) cells e = total_from_combined cells number (sym e)
total_is Missing cells e = tt
total_is NoBase cells e = tt
total_is NoLink cells e = tt
total_is Range cells e = tt

pub years_total : (cells : List Cell) (y : ℕ) → IsTotalOf (cell_at (years_of cells) y) (quarters_in cells y)
years_total cells y =
    let P : Cell → Type 0 = λ cell. IsTotalOf cell (quarters_in cells y) in
    elim (year_at cells y) [
      | inl e ↦ total_is (cell_at (years_of cells) y) (quarters_in cells y) e
      | inr e ↦ subst P (sym e) tt
    ]
