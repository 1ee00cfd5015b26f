-- The share-out of a whole total over parts: each place gets the floor of its part over the divisor, and the units that
-- are then left go one each to the places with the largest remainders, the earlier place first on a tie. It is this
-- product's own rule.
use Rattle.std.specs.Prelude.{◌≡◌, ℕ, ◌+◌, ◌<◌, ℤ, pos, ◌+ℤ◌, ◌-ℤ◌, ◌*ℤ◌, ◌<ℤ◌, int_lt, int_le, if◌then◌else◌, ◌⊎◌}
use Rattle.std.specs.Prelude.{List, [], ◌∷◌, ◌++◌, map, length, count_by, slice_index_or}
use Rattle.ratio_arith.specs.Division.{floor_of}

-- the sum of whole numbers
abbrev pub sum_of : List ℤ → ℤ
sum_of [] = pos 0
sum_of (x ∷ xs) = x +ℤ sum_of xs

-- two lists added place by place
abbrev pub added : List ℤ → List ℤ → List ℤ
added (x ∷ xs) (y ∷ ys) = (x +ℤ y) ∷ added xs ys
added _ _ = []

-- what is left of a part once the floor of its quotient is taken
abbrev pub remainder_of : ℤ → ℤ → ℤ
remainder_of part den = part -ℤ den *ℤ floor_of part den

-- how many remainders come before this one: those at earlier places that are as large, and those at later places that
-- are larger
abbrev pub rank_of : List ℤ → ℤ → List ℤ → ℕ
rank_of before mine after = count_by (λ r. int_le mine r) before + count_by (λ r. int_lt mine r) after

-- one unit for each remainder whose rank is below what is left, and none for the others
abbrev pub units_of : ℤ → List ℤ → List ℤ → List ℤ
units_of left before [] = []
units_of left before (r ∷ rs) =
    (if int_lt (pos (rank_of before r rs)) left then pos 1 else pos 0) ∷ units_of left (before ++ r ∷ []) rs

-- the share-out as a function of ranks: to each floor its unit, if it gets one
unfoldable pub share_of : List ℤ → ℤ → ℤ → List ℤ
share_of parts den total =
    let floors : List ℤ = map (λ part. floor_of part den) parts in
    added floors (units_of (total -ℤ sum_of floors) [] (map (λ part. remainder_of part den) parts))

-- the number at a place
abbrev pub entry_of : List ℤ → ℕ → ℤ
entry_of xs i = slice_index_or xs i (pos 0)

-- place i got the floor of its part over the divisor
abbrev pub GotFloor : List ℤ → ℤ → List ℤ → ℕ → Type 0
GotFloor parts den out i = entry_of out i ≡ floor_of (entry_of parts i) den

-- place i got one more than the floor of its part over the divisor
abbrev pub GotOneMore : List ℤ → ℤ → List ℤ → ℕ → Type 0
GotOneMore parts den out i = entry_of out i ≡ floor_of (entry_of parts i) den +ℤ pos 1

-- place i has the larger remainder, or an equal one and is the earlier place
abbrev pub ComesBefore : List ℤ → ℤ → ℕ → ℕ → Type 0
ComesBefore parts den i j =
    (remainder_of (entry_of parts j) den <ℤ remainder_of (entry_of parts i) den) ⊎
    ((remainder_of (entry_of parts i) den ≡ remainder_of (entry_of parts j) den) × (i < j))

-- out is a share-out of the total: it names no order in which the units are handed out
pub record IsShareOut (parts : List ℤ) (den total : ℤ) (out : List ℤ) : Type 0 where
  pub same_length : length out ≡ length parts
  pub floor_or_more : (i : ℕ) → i < length parts → GotFloor parts den out i ⊎ GotOneMore parts den out i
  pub adds_up : sum_of out ≡ total
  pub largest_first : (i j : ℕ) → i < length parts → j < length parts →
      GotOneMore parts den out i → GotFloor parts den out j → ComesBefore parts den i j

-- the parts are four, the divisor is positive, and the parts add up to the divisor times the total
pub record CanShare (parts : List ℤ) (den total : ℤ) : Type 0 where
  pub four : length parts ≡ 4
  pub positive : pos 0 <ℤ den
  pub adds_up : sum_of parts ≡ den *ℤ total

-- the law that the function of ranks gives a share-out
abbrev pub RanksShareOut : Type 0
RanksShareOut =
    (parts : List ℤ) (den total : ℤ)
    → CanShare parts den total → IsShareOut parts den total (share_of parts den total)

-- the law that four parts have at most one share-out
abbrev pub IsOnlyShareOut : Type 0
IsOnlyShareOut =
    (parts : List ℤ) (den total : ℤ) (one other : List ℤ)
    → length parts ≡ 4 → IsShareOut parts den total one → IsShareOut parts den total other → one ≡ other
