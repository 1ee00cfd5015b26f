-- The function of ranks gives a share-out, and four parts have only one.
use Rattle.std.proofs.Common.{◌≡◌, ◌≢◌, ℕ, zero, suc, ◌+◌, ◌*◌, ◌<◌, ◌⊎◌, ℤ, pos, negsuc, ◌+ℤ◌, ◌-ℤ◌, ◌*ℤ◌, ◌<ℤ◌, ◌≤ℤ◌, List, [], ◌∷◌, length, arith, int_lt, if◌then◌else◌, inl, inr, ap, sym, ◌∙◌, refl}
use Rattle.std.proofs.lemmas.Int.{ints}
use Rattle.ratio_arith.specs.Division.{floor_of}
use Rattle.sum_rounding.specs.ShareOut.{sum_of, rank_of, remainder_of, share_of, entry_of, GotFloor, GotOneMore, ComesBefore, IsShareOut, CanShare, RanksShareOut, IsOnlyShareOut}
use Rattle.sum_rounding.proofs.Steps.{sum_of_four}
use Rattle.sum_rounding.proofs.Ranks.{Ordered, first_second, first_third, first_fourth, second_third, second_fourth, third_fourth, ranks_small, counted, one_below, distribute, units_left}

-- the unit that a rank gets
abbrev unit : ℤ → ℕ → ℤ
unit left rank = if int_lt (pos rank) left then pos 1 else pos 0

-- with its unit a floor is itself or one more
either : (f left : ℤ) (rank : ℕ) → (f +ℤ unit left rank ≡ f) ⊎ (f +ℤ unit left rank ≡ f +ℤ pos 1)
either f left rank = grind (arith, ints)

-- who got one more had a rank below what was left
more_below : (f left : ℤ) (rank : ℕ) → f +ℤ unit left rank ≡ f +ℤ pos 1 → pos rank <ℤ left
more_below f left rank e = grind (arith, ints)

-- who got the floor had a rank that was not
none_above : (f left : ℤ) (rank : ℕ) → f +ℤ unit left rank ≡ f → left ≤ℤ pos rank
none_above f left rank e = grind (arith, ints)

-- of an earlier and a later quarter the earlier got the unit
earlier : (i j p q : ℕ) (left f g r s : ℤ) → i < j → Ordered p q r s → f +ℤ unit left p ≡ f +ℤ pos 1 → g +ℤ unit left q ≡ g → (s <ℤ r) ⊎ ((r ≡ s) × (i < j))
earlier i j p q left f g r s before o more none = ordered (more_below f left p more) (none_above g left q none)
  where
    ordered : pos p <ℤ left → left ≤ℤ pos q → (s <ℤ r) ⊎ ((r ≡ s) × (i < j))
    ordered x y = grind (arith, ints)

-- of an earlier and a later quarter the later got the unit
later : (i j p q : ℕ) (left f g r s : ℤ) → Ordered q p s r → f +ℤ unit left p ≡ f +ℤ pos 1 → g +ℤ unit left q ≡ g → (s <ℤ r) ⊎ ((r ≡ s) × (i < j))
later i j p q left f g r s o more none = inl (ordered (more_below f left p more) (none_above g left q none))
  where
    ordered : pos p <ℤ left → left ≤ℤ pos q → s <ℤ r
    ordered x y = grind (arith, ints)

-- no quarter got both
never : {P : Type 0} (p : ℕ) (left f : ℤ) → f +ℤ unit left p ≡ f +ℤ pos 1 → f +ℤ unit left p ≡ f → P
never p left f more none = absurd (omega (arith, ints))

-- a remainder is below the divisor
rest_range : (p : ℤ) (n : ℕ) → 0 < n → (pos 0 ≤ℤ remainder_of p (pos n)) × (remainder_of p (pos n) <ℤ pos n)
rest_range (pos p) n h = (omega (arith, ints), omega (arith, ints))
rest_range (negsuc p) n h = (omega (arith, ints), omega (arith, ints))

differ : (p q : ℕ) (r s : ℤ) → Ordered p q r s → p ≢ q
differ p q r s o e = grind arith

-- the remainders add up to the divisor times what is left
rests_from : (a b c d total x0 x1 x2 x3 x4 l y0 y1 y2 y3 : ℤ) → a +ℤ (b +ℤ (c +ℤ (d +ℤ pos 0))) ≡ total → total ≡ x0 +ℤ l →
    x0 ≡ y0 +ℤ x1 → x1 ≡ y1 +ℤ x2 → x2 ≡ y2 +ℤ x3 → x3 ≡ y3 +ℤ x4 → x4 ≡ pos 0 →
    ((a -ℤ y0) +ℤ (b -ℤ y1)) +ℤ ((c -ℤ y2) +ℤ (d -ℤ y3)) ≡ l
rests_from a b c d total x0 x1 x2 x3 x4 l y0 y1 y2 y3 e0 e1 e2 e3 e4 e5 e6 = omega (arith, ints)

rests_sum : (n : ℕ) (a b c d total e f g h : ℤ) → sum_of (a ∷ b ∷ c ∷ d ∷ []) ≡ pos n *ℤ total →
    ((a -ℤ pos n *ℤ e) +ℤ (b -ℤ pos n *ℤ f)) +ℤ ((c -ℤ pos n *ℤ g) +ℤ (d -ℤ pos n *ℤ h)) ≡ pos n *ℤ (total -ℤ sum_of (e ∷ f ∷ g ∷ h ∷ []))
rests_sum n a b c d total e f g h adds =
    let floors : ℤ = sum_of (e ∷ f ∷ g ∷ h ∷ []) in
    let parted : total ≡ floors +ℤ (total -ℤ floors) = omega (arith, ints) in
    rests_from a b c d (pos n *ℤ total) (pos n *ℤ floors) _ _ _ (pos n *ℤ pos 0) _ _ _ _ _ adds (ap (λ z. pos n *ℤ z) parted ∙ distribute n floors (total -ℤ floors))
    (distribute n e (f +ℤ (g +ℤ (h +ℤ pos 0)))) (distribute n f (g +ℤ (h +ℤ pos 0))) (distribute n g (h +ℤ pos 0)) (distribute n h (pos 0)) (omega (arith, ints))

four_rests : (n : ℕ) (p q r s : ℤ) → (pos 0 ≤ℤ p) × (p <ℤ pos n) → (pos 0 ≤ℤ q) × (q <ℤ pos n) → (pos 0 ≤ℤ r) × (r <ℤ pos n) → (pos 0 ≤ℤ s) × (s <ℤ pos n) →
    (pos 0 ≤ℤ ((p +ℤ q) +ℤ (r +ℤ s))) × (((p +ℤ q) +ℤ (r +ℤ s)) <ℤ pos (4 * n))
four_rests n p q r s hp hq hr hs = (omega (arith, ints), omega (arith, ints))

unit_is : (left : ℤ) (k rank : ℕ) → left ≡ pos k → unit left rank ≡ pos (one_below rank k)
unit_is left k rank e = grind (arith, ints)

handed_sum : (e f g h u v w x total left : ℤ) (k m0 m1 m2 m3 : ℕ) → left ≡ total -ℤ sum_of (e ∷ f ∷ g ∷ h ∷ []) → left ≡ pos k →
    u ≡ pos m0 → v ≡ pos m1 → w ≡ pos m2 → x ≡ pos m3 → m0 + m1 + m2 + m3 ≡ k → sum_of ((e +ℤ u) ∷ (f +ℤ v) ∷ (g +ℤ w) ∷ (h +ℤ x) ∷ []) ≡ total
handed_sum e f g h u v w x total left k m0 m1 m2 m3 e0 e1 e2 e3 e4 e5 e6 = omega (arith, ints)

-- the four outs add up to the total
adds_up : (a b c d total : ℤ) (n : ℕ) → 0 < n → sum_of (a ∷ b ∷ c ∷ d ∷ []) ≡ pos n *ℤ total → sum_of (share_of (a ∷ b ∷ c ∷ d ∷ []) (pos n) total) ≡ total
unfolding share_of
adds_up a b c d total n h adds =
    let p : ℤ = remainder_of a (pos n) in
    let q : ℤ = remainder_of b (pos n) in
    let r : ℤ = remainder_of c (pos n) in
    let s : ℤ = remainder_of d (pos n) in
    let left : ℤ = total -ℤ sum_of (floor_of a (pos n) ∷ floor_of b (pos n) ∷ floor_of c (pos n) ∷ floor_of d (pos n) ∷ []) in
    let rests = four_rests n p q r s (rest_range a n h) (rest_range b n h) (rest_range c n h) (rest_range d n h) in
    let few = units_left n left ((p +ℤ q) +ℤ (r +ℤ s)) h (rests_sum n a b c d total (floor_of a (pos n)) (floor_of b (pos n)) (floor_of c (pos n)) (floor_of d (pos n)) adds) rests.0 rests.1 in
    let small = ranks_small p q r s in
    let below = counted _ _ _ _ few.0 small.0 small.1 small.2 small.3 few.2 (differ _ _ _ _ (first_second p q r s)) (differ _ _ _ _ (first_third p q r s)) (differ _ _ _ _ (first_fourth p q r s)) (differ _ _ _ _ (second_third p q r s)) (differ _ _ _ _ (second_fourth p q r s)) (differ _ _ _ _ (third_fourth p q r s)) in
    handed_sum (floor_of a (pos n)) (floor_of b (pos n)) (floor_of c (pos n)) (floor_of d (pos n)) _ _ _ _ total left few.0 _ _ _ _ refl few.1 (unit_is left few.0 _ few.1) (unit_is left few.0 _ few.1) (unit_is left few.0 _ few.1) (unit_is left few.0 _ few.1) below

-- what is left of the total once the four floors are taken
abbrev left_of : ℤ → ℤ → ℤ → ℤ → ℤ → ℤ → ℤ
left_of a b c d den total = total -ℤ sum_of (floor_of a den ∷ floor_of b den ∷ floor_of c den ∷ floor_of d den ∷ [])

-- the ranks of the four remainders
abbrev first : ℤ → ℤ → ℤ → ℤ → ℤ → ℕ
first a b c d den = rank_of [] (remainder_of a den) (remainder_of b den ∷ remainder_of c den ∷ remainder_of d den ∷ [])

abbrev second : ℤ → ℤ → ℤ → ℤ → ℤ → ℕ
second a b c d den = rank_of (remainder_of a den ∷ []) (remainder_of b den) (remainder_of c den ∷ remainder_of d den ∷ [])

abbrev third : ℤ → ℤ → ℤ → ℤ → ℤ → ℕ
third a b c d den = rank_of (remainder_of a den ∷ remainder_of b den ∷ []) (remainder_of c den) (remainder_of d den ∷ [])

abbrev fourth : ℤ → ℤ → ℤ → ℤ → ℤ → ℕ
fourth a b c d den = rank_of (remainder_of a den ∷ remainder_of b den ∷ remainder_of c den ∷ []) (remainder_of d den) []

-- each of the four got its floor or one more
floor_or_more : (a b c d den total : ℤ) (i : ℕ) → i < 4 →
    GotFloor (a ∷ b ∷ c ∷ d ∷ []) den (share_of (a ∷ b ∷ c ∷ d ∷ []) den total) i ⊎ GotOneMore (a ∷ b ∷ c ∷ d ∷ []) den (share_of (a ∷ b ∷ c ∷ d ∷ []) den total) i
unfolding share_of
floor_or_more a b c d den total zero h = either (floor_of a den) (left_of a b c d den total) (first a b c d den)
floor_or_more a b c d den total (suc zero) h = either (floor_of b den) (left_of a b c d den total) (second a b c d den)
floor_or_more a b c d den total (suc (suc zero)) h = either (floor_of c den) (left_of a b c d den total) (third a b c d den)
floor_or_more a b c d den total (suc (suc (suc zero))) h = either (floor_of d den) (left_of a b c d den total) (fourth a b c d den)
floor_or_more a b c d den total (suc (suc (suc (suc i)))) h = absurd (omega arith)

-- of two of the four of which only one got a unit, that one comes before the other
largest_first : (a b c d den total : ℤ) (i j : ℕ) → i < 4 → j < 4 →
    GotOneMore (a ∷ b ∷ c ∷ d ∷ []) den (share_of (a ∷ b ∷ c ∷ d ∷ []) den total) i →
    GotFloor (a ∷ b ∷ c ∷ d ∷ []) den (share_of (a ∷ b ∷ c ∷ d ∷ []) den total) j → ComesBefore (a ∷ b ∷ c ∷ d ∷ []) den i j
unfolding share_of
largest_first a b c d den total zero zero hi hj more none = never (first a b c d den) (left_of a b c d den total) (floor_of a den) more none
largest_first a b c d den total zero (suc zero) hi hj more none = earlier 0 1 _ _ _ _ _ _ _ (omega arith) (first_second (remainder_of a den) (remainder_of b den) (remainder_of c den) (remainder_of d den)) more none
largest_first a b c d den total zero (suc (suc zero)) hi hj more none = earlier 0 2 _ _ _ _ _ _ _ (omega arith) (first_third (remainder_of a den) (remainder_of b den) (remainder_of c den) (remainder_of d den)) more none
largest_first a b c d den total zero (suc (suc (suc zero))) hi hj more none = earlier 0 3 _ _ _ _ _ _ _ (omega arith) (first_fourth (remainder_of a den) (remainder_of b den) (remainder_of c den) (remainder_of d den)) more none
largest_first a b c d den total (suc zero) zero hi hj more none = later 1 0 _ _ _ _ _ _ _ (first_second (remainder_of a den) (remainder_of b den) (remainder_of c den) (remainder_of d den)) more none
largest_first a b c d den total (suc zero) (suc zero) hi hj more none = never (second a b c d den) (left_of a b c d den total) (floor_of b den) more none
largest_first a b c d den total (suc zero) (suc (suc zero)) hi hj more none = earlier 1 2 _ _ _ _ _ _ _ (omega arith) (second_third (remainder_of a den) (remainder_of b den) (remainder_of c den) (remainder_of d den)) more none
largest_first a b c d den total (suc zero) (suc (suc (suc zero))) hi hj more none = earlier 1 3 _ _ _ _ _ _ _ (omega arith) (second_fourth (remainder_of a den) (remainder_of b den) (remainder_of c den) (remainder_of d den)) more none
largest_first a b c d den total (suc (suc zero)) zero hi hj more none = later 2 0 _ _ _ _ _ _ _ (first_third (remainder_of a den) (remainder_of b den) (remainder_of c den) (remainder_of d den)) more none
largest_first a b c d den total (suc (suc zero)) (suc zero) hi hj more none = later 2 1 _ _ _ _ _ _ _ (second_third (remainder_of a den) (remainder_of b den) (remainder_of c den) (remainder_of d den)) more none
largest_first a b c d den total (suc (suc zero)) (suc (suc zero)) hi hj more none = never (third a b c d den) (left_of a b c d den total) (floor_of c den) more none
largest_first a b c d den total (suc (suc zero)) (suc (suc (suc zero))) hi hj more none = earlier 2 3 _ _ _ _ _ _ _ (omega arith) (third_fourth (remainder_of a den) (remainder_of b den) (remainder_of c den) (remainder_of d den)) more none
largest_first a b c d den total (suc (suc (suc zero))) zero hi hj more none = later 3 0 _ _ _ _ _ _ _ (first_fourth (remainder_of a den) (remainder_of b den) (remainder_of c den) (remainder_of d den)) more none
largest_first a b c d den total (suc (suc (suc zero))) (suc zero) hi hj more none = later 3 1 _ _ _ _ _ _ _ (second_fourth (remainder_of a den) (remainder_of b den) (remainder_of c den) (remainder_of d den)) more none
largest_first a b c d den total (suc (suc (suc zero))) (suc (suc zero)) hi hj more none = later 3 2 _ _ _ _ _ _ _ (third_fourth (remainder_of a den) (remainder_of b den) (remainder_of c den) (remainder_of d den)) more none
largest_first a b c d den total (suc (suc (suc zero))) (suc (suc (suc zero))) hi hj more none = never (fourth a b c d den) (left_of a b c d den total) (floor_of d den) more none
largest_first a b c d den total (suc (suc (suc (suc i)))) j hi hj more none = absurd (omega arith)
largest_first a b c d den total i (suc (suc (suc (suc j)))) hi hj more none = absurd (omega arith)

four_outs : (a b c d den total : ℤ) → length (share_of (a ∷ b ∷ c ∷ d ∷ []) den total) ≡ 4
unfolding share_of
four_outs a b c d den total = refl

-- the law of the function of ranks
pub ranks_share_out : RanksShareOut
ranks_share_out (a ∷ b ∷ c ∷ d ∷ []) (pos n) total can = record {
  same_length = four_outs a b c d (pos n) total;
  floor_or_more = floor_or_more a b c d (pos n) total;
  adds_up = adds_up a b c d total n (omega (arith, ints, can.positive)) can.adds_up;
  largest_first = largest_first a b c d (pos n) total;
}
ranks_share_out (a ∷ b ∷ c ∷ d ∷ []) (negsuc n) total can = absurd (omega (arith, ints, can.positive))
ranks_share_out [] den total can = absurd (omega (arith, can.four))
ranks_share_out (a ∷ []) den total can = absurd (omega (arith, can.four))
ranks_share_out (a ∷ b ∷ []) den total can = absurd (omega (arith, can.four))
ranks_share_out (a ∷ b ∷ c ∷ []) den total can = absurd (omega (arith, can.four))
ranks_share_out (a ∷ b ∷ c ∷ d ∷ e ∷ xs) den total can = absurd (omega (arith, can.four))

-- the four outs add up to the total
pub sum_of-share_of : (parts : List ℤ) (den total : ℤ) → CanShare parts den total → sum_of (share_of parts den total) ≡ total
sum_of-share_of parts den total can = (ranks_share_out parts den total can).adds_up

-- lists of one length with the same entries are equal
same_entries : (xs ys : List ℤ) → length xs ≡ length ys → ((i : ℕ) → i < length xs → entry_of xs i ≡ entry_of ys i) → xs ≡ ys
same_entries [] [] e same = refl
same_entries (x ∷ xs) (y ∷ ys) e same =
    let first : x ≡ y = same zero (omega arith) in
    let rest : xs ≡ ys = same_entries xs ys (omega arith) (λ i h. same (suc i) (omega arith)) in
    cc
same_entries [] (y ∷ ys) e same = absurd (omega arith)
same_entries (x ∷ xs) [] e same = absurd (omega arith)

-- four numbers that are no larger than four others of the same sum are these
none_less : (a b c d e f g h : ℤ) → e ≤ℤ a → f ≤ℤ b → g ≤ℤ c → h ≤ℤ d → a +ℤ (b +ℤ (c +ℤ (d +ℤ pos 0))) ≡ e +ℤ (f +ℤ (g +ℤ (h +ℤ pos 0))) → (a ≡ e) × (b ≡ f) × (c ≡ g) × (d ≡ h)
none_less a b c d e f g h h0 h1 h2 h3 same = (omega (arith, ints), omega (arith, ints), omega (arith, ints), omega (arith, ints))

same_at : (xs ys : List ℤ) → length xs ≡ 4 → length ys ≡ 4 → sum_of xs ≡ sum_of ys → ((j : ℕ) → j < 4 → entry_of ys j ≤ℤ entry_of xs j) → (i : ℕ) → i < 4 → entry_of xs i ≡ entry_of ys i
same_at xs ys four_x four_y same less i h =
    let all = none_less (entry_of xs 0) (entry_of xs 1) (entry_of xs 2) (entry_of xs 3) (entry_of ys 0) (entry_of ys 1) (entry_of ys 2) (entry_of ys 3)
    (less 0 (omega arith)) (less 1 (omega arith)) (less 2 (omega arith)) (less 3 (omega arith)) (sym (sum_of_four xs four_x) ∙ same ∙ sum_of_four ys four_y) in
    at i h all
  where
    at : (k : ℕ) → k < 4 → (entry_of xs 0 ≡ entry_of ys 0) × (entry_of xs 1 ≡ entry_of ys 1) × (entry_of xs 2 ≡ entry_of ys 2) × (entry_of xs 3 ≡ entry_of ys 3) → entry_of xs k ≡ entry_of ys k
    at zero lt all = all.0
    at (suc zero) lt all = all.1
    at (suc (suc zero)) lt all = all.2
    at (suc (suc (suc zero))) lt all = all.3
    at (suc (suc (suc (suc k)))) lt all = absurd (omega arith)

-- two quarters don't come before each other
before_once : (parts : List ℤ) (den : ℤ) (i j : ℕ) → ComesBefore parts den i j → ComesBefore parts den j i → ⊥
before_once parts den i j one other = apart (remainder_of (entry_of parts i) den) (remainder_of (entry_of parts j) den) one other
  where
    apart : (r s : ℤ) → (s <ℤ r) ⊎ ((r ≡ s) × (i < j)) → (r <ℤ s) ⊎ ((s ≡ r) × (j < i)) → ⊥
    apart r s x y = grind (arith, ints)

-- where one share-out gave a unit that another did not give, it gave nowhere less
nowhere_less : (parts : List ℤ) (den total : ℤ) (one other : List ℤ) → IsShareOut parts den total one → IsShareOut parts den total other → (i j : ℕ) → i < length parts → j < length parts →
    GotOneMore parts den one i → GotFloor parts den other i → entry_of other j ≤ℤ entry_of one j
nowhere_less parts den total one other is_one is_other i j hi hj more none =
    elim (is_one.floor_or_more j hj) [
      | inl floor ↦ elim (is_other.floor_or_more j hj) [
        | inl same ↦ at_most (floor_of (entry_of parts j) den) (entry_of one j) (entry_of other j) (inl floor) same
        | inr above ↦ absurd (before_once parts den i j (is_one.largest_first i j hi hj more floor) (is_other.largest_first j i hj hi above none))
      ]
      | inr above ↦ elim (is_other.floor_or_more j hj) [
        | inl floor ↦ at_most (floor_of (entry_of parts j) den) (entry_of one j) (entry_of other j) (inr above) floor
        | inr same ↦ equal (floor_of (entry_of parts j) den) (entry_of one j) (entry_of other j) above same
      ]
    ]
  where
    at_most : (f x y : ℤ) → (x ≡ f) ⊎ (x ≡ f +ℤ pos 1) → y ≡ f → y ≤ℤ x
    at_most f x y ex ey = grind (arith, ints)

    equal : (f x y : ℤ) → x ≡ f +ℤ pos 1 → y ≡ f +ℤ pos 1 → y ≤ℤ x
    equal f x y ex ey = omega (arith, ints)

-- two share-outs are the same at each place
same_entry : (parts : List ℤ) (den total : ℤ) (one other : List ℤ) → length parts ≡ 4 → IsShareOut parts den total one → IsShareOut parts den total other →
    (i : ℕ) → i < 4 → entry_of one i ≡ entry_of other i
same_entry parts den total one other four is_one is_other i h =
    let four_one : length one ≡ 4 = is_one.same_length ∙ four in
    let four_other : length other ≡ 4 = is_other.same_length ∙ four in
    let hi : i < length parts = omega arith in
    elim (is_one.floor_or_more i hi) [
      | inl floor ↦ elim (is_other.floor_or_more i hi) [
        | inl same ↦ floor ∙ sym same
        | inr above ↦ sym (same_at other one four_other four_one (is_other.adds_up ∙ sym is_one.adds_up) (λ j hj. nowhere_less parts den total other one is_other is_one i j hi (omega arith) above floor) i h)
      ]
      | inr above ↦ elim (is_other.floor_or_more i hi) [
        | inl floor ↦ same_at one other four_one four_other (is_one.adds_up ∙ sym is_other.adds_up) (λ j hj. nowhere_less parts den total one other is_one is_other i j hi (omega arith) above floor) i h
        | inr same ↦ above ∙ sym same
      ]
    ]

-- the law that four parts have one share-out
pub only_share_out : IsOnlyShareOut
only_share_out parts den total one other four is_one is_other =
    same_entries one other (is_one.same_length ∙ sym is_other.same_length) (λ i h. same_entry parts den total one other four is_one is_other i (let e : length one ≡ 4 = is_one.same_length ∙ four in omega arith))
