-- The sum of joined lists of cells, or their first mark, is that of the lists' sums.
use Rattle.std.proofs.Common.{◌≡◌, ◌∙◌, ap, sym, refl, ℤ, pos, ◌+ℤ◌, Bool, true, false, if◌then◌else◌, List, [], ◌∷◌, ◌++◌}
use Rattle.std.specs.Prelude.{◌||◌}
use Rattle.std.specs.List.{list_any}
use Rattle.std.proofs.Math.IntN.{+ℤ_idl, +ℤ_assoc}
use Rattle.std.proofs.lemmas.List.Folds.{list_any-append}
use Rattle.price_base.specs.declared.Cell.{Cell}
use Rattle.price_base.specs.declared.Cell.TheVariants.{Missing, Value, NoBase, NoLink, Range}
use Rattle.price_base.specs.Cells.{is_missing, is_no_base, is_range, total, combined}

-- the number in a cell; a mark adds nothing
abbrev pub amount_of : Cell → ℤ
amount_of (Value value) = value
amount_of Missing = pos 0
amount_of NoBase = pos 0
amount_of NoLink = pos 0
amount_of Range = pos 0

-- a cell from which marks occur, and the sum of the values
abbrev pick : Bool → Bool → Bool → ℤ → Cell
pick m n r z = if m then Missing else (if n then NoBase else (if r then Range else Value z))

-- the sum of two cells, or the first mark of the two
abbrev pub plus : Cell → Cell → Cell
plus a b = pick (is_missing a || is_missing b) (is_no_base a || is_no_base b) (is_range a || is_range b) (amount_of a +ℤ amount_of b)

total-cons : (cell : Cell) (cells : List Cell) → total (cell ∷ cells) ≡ amount_of cell +ℤ total cells
total-cons (Value value) cells = refl
total-cons Missing cells = sym (+ℤ_idl (total cells))
total-cons NoBase cells = sym (+ℤ_idl (total cells))
total-cons NoLink cells = sym (+ℤ_idl (total cells))
total-cons Range cells = sym (+ℤ_idl (total cells))

total-append : (xs ys : List Cell) → total (xs ++ ys) ≡ total xs +ℤ total ys
total-append [] ys = sym (+ℤ_idl (total ys))
total-append (x ∷ xs) ys =
    total-cons x (xs ++ ys) ∙ ap (λ z. amount_of x +ℤ z) (total-append xs ys) ∙ sym (+ℤ_assoc (amount_of x) (total xs) (total ys)) ∙ ap (λ z. z +ℤ total ys) (sym (total-cons x xs))

-- one cell, and what the others come to
picked : (cell : Cell) (m n r : Bool) (z : ℤ) → pick (is_missing cell || m) (is_no_base cell || n) (is_range cell || r) (amount_of cell +ℤ z) ≡ plus cell (pick m n r z)
picked Missing m n r z = refl
picked (Value value) true n r z = refl
picked (Value value) false true r z = refl
picked (Value value) false false true z = refl
picked (Value value) false false false z = refl
picked NoBase true n r z = refl
picked NoBase false true r z = refl
picked NoBase false false true z = refl
picked NoBase false false false z = refl
picked NoLink true n r z = refl
picked NoLink false true r z = refl
picked NoLink false false true z = refl
picked NoLink false false false z = refl
picked Range true n r z = refl
picked Range false true r z = refl
picked Range false false true z = refl
picked Range false false false z = refl

-- what two lists come to
picked_both : (m n r : Bool) (y : ℤ) (m' n' r' : Bool) (z : ℤ) → pick (m || m') (n || n') (r || r') (y +ℤ z) ≡ plus (pick m n r y) (pick m' n' r' z)
picked_both true n r y m' n' r' z = picked Missing m' n' r' z
picked_both false true r y m' n' r' z = picked NoBase m' n' r' z
picked_both false false true y m' n' r' z = picked Range m' n' r' z
picked_both false false false y m' n' r' z = picked (Value y) m' n' r' z

pub combined-cons : (cell : Cell) (cells : List Cell) → combined (cell ∷ cells) ≡ plus cell (combined cells)
combined-cons cell cells =
    ap (λ z. pick (is_missing cell || list_any is_missing cells) (is_no_base cell || list_any is_no_base cells) (is_range cell || list_any is_range cells) z) (total-cons cell cells)
    ∙ picked cell (list_any is_missing cells) (list_any is_no_base cells) (list_any is_range cells) (total cells)

pub combined-append : (xs ys : List Cell) → combined (xs ++ ys) ≡ plus (combined xs) (combined ys)
combined-append xs ys =
    rw (list_any-append is_missing xs ys, list_any-append is_no_base xs ys, list_any-append is_range xs ys, total-append xs ys)
    (picked_both (list_any is_missing xs) (list_any is_no_base xs) (list_any is_range xs) (total xs) (list_any is_missing ys) (list_any is_no_base ys) (list_any is_range ys) (total ys))
