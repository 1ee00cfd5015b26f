-- What is shown and what is still staged while the items are put one after another.
use Rattle.std.proofs.Common.{◌≡◌, ◌∙◌, ap, sym, refl, ℕ, zero, suc, ◌<◌, List, [], ◌∷◌, ◌++◌, length, take, drop, replicate, get_or, Option, None, arith}
use Rattle.std.proofs.lemmas.List.{get_or_default, length-take-le}
use Rattle.std.specs.Prelude.{slice_set}
use Rattle.vintage_board.specs.Board.{staged_or, put_over}

-- the items before one are put, and the others are as they were
pub record ArePut {Table : Type 0} (count : ℕ) (staged_before : List (Option Table)) (shown_before : List Table) (staged : List (Option Table)) (shown : List Table) : Type 0 where
  pub shown_so_far : shown ≡ put_over (take count staged_before) (take count shown_before) ++ drop count shown_before
  pub staged_so_far : staged ≡ replicate count None ++ drop count staged_before

-- as many tables are shown
pub put_over_as_long : {X : Type 0} (ys : List (Option X)) (xs : List X) → length (put_over ys xs) ≡ length xs
put_over_as_long [] xs = refl
put_over_as_long (y ∷ ys) [] = refl
put_over_as_long (y ∷ ys) (x ∷ xs) = ap suc (put_over_as_long ys xs)

-- one item more is shown
shown_more : {X : Type 0} (d new : X) (ys : List (Option X)) (xs : List X) (k : ℕ) → length ys ≡ length xs → k < length xs → new ≡ staged_or (get_or ys k None) (get_or xs k d)
    → slice_set (put_over (take k ys) (take k xs) ++ drop k xs) k new ≡ put_over (take (suc k) ys) (take (suc k) xs) ++ drop (suc k) xs
shown_more d new [] [] k same within is = absurd (omega arith)
shown_more d new [] (x ∷ xs) k same within is = absurd (omega arith)
shown_more d new (y ∷ ys) [] k same within is = absurd (omega arith)
shown_more {X} d new (y ∷ ys) (x ∷ xs) zero same within is = ap (λ (z : X). z ∷ xs) is
shown_more {X} d new (y ∷ ys) (x ∷ xs) (suc k) same within is = ap (λ (zs : List X). staged_or y x ∷ zs) (shown_more d new ys xs k (omega arith) (omega arith) is)

-- nothing is staged for one item more
none_more : {X : Type 0} (ys : List (Option X)) (k : ℕ) → k < length ys → slice_set (replicate k None ++ drop k ys) k None ≡ replicate (suc k) None ++ drop (suc k) ys
none_more [] k within = absurd (omega arith)
none_more (y ∷ ys) zero within = refl
none_more {X} (y ∷ ys) (suc k) within = ap (λ (zs : List (Option X)). None ∷ zs) (none_more ys k (omega arith))

-- what stands at the next place is what stood there
at_next : {X : Type 0} (d : X) (zs xs : List X) (k : ℕ) → length zs ≡ k → k < length xs → get_or (zs ++ drop k xs) k d ≡ get_or xs k d
at_next d zs [] k e within = absurd (omega arith)
at_next d [] (x ∷ xs) zero e within = refl
at_next d [] (x ∷ xs) (suc k) e within = absurd (omega arith)
at_next d (z ∷ zs) (x ∷ xs) zero e within = absurd (omega arith)
at_next d (z ∷ zs) (x ∷ xs) (suc k) e within = at_next d zs xs k (omega arith) (omega arith)

length-none : (X : Type 0) (k : ℕ) → length (replicate {A = Option X} k None) ≡ k
length-none X zero = refl
length-none X (suc k) = ap suc (length-none X k)

-- one item more is put
pub put_more : {X : Type 0} (ys staged : List (Option X)) (xs shown : List X) (k next : ℕ) (e : Option X) (d new : X) (left : Option X) → next ≡ suc k → length ys ≡ length xs → k < length xs
    → ArePut k ys xs staged shown → new ≡ staged_or (get_or staged k e) (get_or shown k d) → left ≡ None
    → ArePut next ys xs (slice_set staged k left) (slice_set shown k new)
put_more {X} ys staged xs shown k next e d new left following same within put is gone = record {
  shown_so_far =
      ap (λ (zs : List X). slice_set zs k new) put.shown_so_far ∙ shown_more d new ys xs k same within read
      ∙ ap (λ (n : ℕ). put_over (take n ys) (take n xs) ++ drop n xs) (sym following);
  staged_so_far =
      ap (λ (zs : List (Option X)). slice_set zs k left) put.staged_so_far ∙ ap (λ (z : Option X). slice_set (replicate k None ++ drop k ys) k z) gone
      ∙ none_more ys k (omega arith) ∙ ap (λ (n : ℕ). replicate n None ++ drop n ys) (sym following);
}
  where
    shown_here : get_or shown k d ≡ get_or xs k d
    shown_here = ap (λ (zs : List X). get_or zs k d) put.shown_so_far ∙ at_next d (put_over (take k ys) (take k xs)) xs k (put_over_as_long (take k ys) (take k xs) ∙ length-take-le k xs (omega arith)) within

    staged_here : get_or staged k e ≡ get_or ys k None
    staged_here =
        ap (λ (zs : List (Option X)). get_or zs k e) put.staged_so_far ∙ at_next e (replicate k None) ys k (length-none X k) (omega arith)
        ∙ get_or_default ys k e None (omega arith)

    read : new ≡ staged_or (get_or ys k None) (get_or xs k d)
    read = is ∙ ap (λ (z : X). staged_or (get_or staged k e) z) shown_here ∙ ap (λ (y : Option X). staged_or y (get_or xs k d)) staged_here
