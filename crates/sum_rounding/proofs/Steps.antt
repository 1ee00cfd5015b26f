-- Steps of the loops that fill a list from its front, and lists of four written out.
use Rattle.std.proofs.Common.{Bool, true, false, negsuc, ◌<ℤ◌, FitsSigned, ◌≡◌, ℕ, ◌+◌, ◌-◌, ◌*◌, ◌^◌, unsigned_abs, to_z, of_z, ◌<◌, ◌≤◌, ℤ, pos, ◌+ℤ◌, List, [], ◌∷◌, ◌++◌, map, length, get_or, set, take, drop, refl, arith, int_lt, if◌then◌else◌, ◌∙◌}
use Rattle.std.specs.Int.{w128, int_rem_euclid}
use Rattle.std.proofs.lemmas.Int.{ints, to_z-of_z, fits_signed_from_abs}
use Rattle.std.specs.List.{All}
use Rattle.std.proofs.Math.Numerals.{add-one}
use Rattle.std.proofs.Math.Seq.{drop-cons, take-suc}
use Rattle.std.proofs.lemmas.List.{append-nil, take_more_set, append_assoc, take_all, drop_all}
use Rattle.sum_rounding.specs.ShareOut.{remainder_of, sum_of, added, rank_of, units_of}

-- one more place filled with the value of a function at the same place of another list
pub filled : (f : ℤ → ℤ) (xs out : List ℤ) (i : ℕ) → i < length xs → i < length out → take i out ++ map f (drop i xs) ≡ map f xs →
    take (i + 1) (set out i (f (get_or xs i (pos 0)))) ++ map f (drop (i + 1) xs) ≡ map f xs
filled f xs out i hx ho e =
    rw (take_more_set out i (f (get_or xs i (pos 0))) ho, append_assoc, add-one) (rw (drop-cons xs i (pos 0) hx) at e)

-- all places filled
pub filled_all : (f : ℤ → ℤ) (xs out : List ℤ) (i : ℕ) → length xs ≤ i → length out ≤ i → take i out ++ map f (drop i xs) ≡ map f xs → out ≡ map f xs
filled_all f xs out i hx ho e = rw (take_all i out ho, drop_all i xs hx, append-nil) at e

-- the unit of one remainder between those before it and those after it
abbrev pub unit_for : ℤ → List ℤ → ℤ → List ℤ → ℤ
unit_for left before mine after = if int_lt (pos (rank_of before mine after)) left then pos 1 else pos 0

-- one more quarter has its floor and its unit
pub handed : (left : ℤ) (floors rests out whole : List ℤ) (i : ℕ) → i < length floors → i < length rests → i < length out →
    take i out ++ added (drop i floors) (units_of left (take i rests) (drop i rests)) ≡ whole →
    take (i + 1) (set out i (get_or floors i (pos 0) +ℤ unit_for left (take i rests) (get_or rests i (pos 0)) (drop (i + 1) rests))) ++
    added (drop (i + 1) floors) (units_of left (take (i + 1) rests) (drop (i + 1) rests)) ≡ whole
handed left floors rests out whole i hf hr ho e =
    rw (take_more_set out i (get_or floors i (pos 0) +ℤ unit_for left (take i rests) (get_or rests i (pos 0)) (drop (i + 1) rests)) ho, append_assoc, add-one, take-suc rests i (pos 0) hr)
    (rw (drop-cons floors i (pos 0) hf, drop-cons rests i (pos 0) hr) at e)

-- the sum of four numbers
pub sum_of_four : (xs : List ℤ) → length xs ≡ 4 →
    sum_of xs ≡ get_or xs 0 (pos 0) +ℤ (get_or xs 1 (pos 0) +ℤ (get_or xs 2 (pos 0) +ℤ (get_or xs 3 (pos 0) +ℤ pos 0)))
sum_of_four (a ∷ b ∷ c ∷ d ∷ []) h = refl
sum_of_four [] h = absurd (omega arith)
sum_of_four (a ∷ []) h = absurd (omega arith)
sum_of_four (a ∷ b ∷ []) h = absurd (omega arith)
sum_of_four (a ∷ b ∷ c ∷ []) h = absurd (omega arith)
sum_of_four (a ∷ b ∷ c ∷ d ∷ e ∷ xs) h = absurd (omega arith)

-- what a sum of two numbers of the code is, where both are small
pub cast_sum : (a b : ℤ) → unsigned_abs a ≤ 2 ^ 126 - 1 → unsigned_abs b ≤ 2 ^ 126 - 1 →
    to_z w128 (of_z w128 (to_z w128 (of_z w128 a) +ℤ to_z w128 (of_z w128 b))) ≡ a +ℤ b
cast_sum a b ha hb = omega (arith, ints)

-- the sum of four small numbers, in two pairs, is small
pub small_sum : (m : ℕ) (a b c d : ℤ) → unsigned_abs a ≤ m → unsigned_abs b ≤ m → unsigned_abs c ≤ m → unsigned_abs d ≤ m → unsigned_abs ((a +ℤ b) +ℤ (c +ℤ d)) ≤ 4 * m
small_sum m a b c d ha hb hc hd = omega (arith, ints)

-- a number as the code passes it on
abbrev pub cast : ℤ → ℤ
cast z = to_z w128 (of_z w128 z)

-- the sum of the first two and the last two, as the code computes it
abbrev pub pairs : List ℤ → ℤ
pairs xs = cast (cast (get_or xs 0 (pos 0)) +ℤ cast (get_or xs 1 (pos 0))) +ℤ cast (cast (get_or xs 2 (pos 0)) +ℤ cast (get_or xs 3 (pos 0)))

-- four small numbers are summed in two pairs
pub record SumsFour (xs : List ℤ) : Type 0 where
  pub fits : FitsSigned w128 (pairs xs)
  pub value : cast (pairs xs) ≡ sum_of xs
  pub small : unsigned_abs (cast (pairs xs)) ≤ 4 * 10 ^ 37

summed : (a b c d x y s : ℤ) → unsigned_abs a ≤ 10 ^ 37 → unsigned_abs b ≤ 10 ^ 37 → unsigned_abs c ≤ 10 ^ 37 → unsigned_abs d ≤ 10 ^ 37 →
    x ≡ a +ℤ b → y ≡ c +ℤ d → s ≡ a +ℤ (b +ℤ (c +ℤ (d +ℤ pos 0))) → (unsigned_abs (x +ℤ y) ≤ 4 * 10 ^ 37) × (x +ℤ y ≡ s)
summed a b c d x y s a0 a1 a2 a3 ex ey es = (omega (arith, ints), omega (arith, ints))

kept : (z : ℤ) → unsigned_abs z ≤ 4 * 10 ^ 37 → cast z ≡ z
kept z h = to_z-of_z w128 z (fits_signed_from_abs w128 z (omega arith))

pub sums_four : (xs : List ℤ) → length xs ≡ 4 → All (λ x. unsigned_abs x ≤ 10 ^ 37) xs → SumsFour xs
sums_four xs four all =
    let a0 : unsigned_abs (get_or xs 0 (pos 0)) ≤ 10 ^ 37 = all 0 (pos 0) (omega arith) in
    let a1 : unsigned_abs (get_or xs 1 (pos 0)) ≤ 10 ^ 37 = all 1 (pos 0) (omega arith) in
    let a2 : unsigned_abs (get_or xs 2 (pos 0)) ≤ 10 ^ 37 = all 2 (pos 0) (omega arith) in
    let a3 : unsigned_abs (get_or xs 3 (pos 0)) ≤ 10 ^ 37 = all 3 (pos 0) (omega arith) in
    let front = cast_sum (get_or xs 0 (pos 0)) (get_or xs 1 (pos 0)) (omega arith) (omega arith) in
    let back = cast_sum (get_or xs 2 (pos 0)) (get_or xs 3 (pos 0)) (omega arith) (omega arith) in
    let both = summed (get_or xs 0 (pos 0)) (get_or xs 1 (pos 0)) (get_or xs 2 (pos 0)) (get_or xs 3 (pos 0)) _ _ (sum_of xs) a0 a1 a2 a3 front back (sum_of_four xs four) in
    record {
      fits = fits_signed_from_abs w128 (pairs xs) (omega (arith, both.0));
      value = kept (pairs xs) both.0 ∙ both.1;
      small = rw (kept (pairs xs) both.0) both.0;
    }

-- the remainder that the code computes
pub rem_euclid-remainder : (n d : ℤ) → pos 0 <ℤ d → int_rem_euclid n d ≡ remainder_of n d
rem_euclid-remainder (pos n) (pos d) h = omega (arith, ints)
rem_euclid-remainder (negsuc n) (pos d) h = omega (arith, ints)
rem_euclid-remainder n (negsuc d) h = absurd (omega (arith, ints))

-- what a call over two numbers of the code gives
pub passed : (f : ℤ → ℤ → ℤ) (a d r : ℤ) → FitsSigned w128 a → FitsSigned w128 d → FitsSigned w128 r → r ≡ f (cast a) (cast d) → cast r ≡ f a d
passed f a d r fa fd fr e = rw (to_z-of_z w128 r fr) (rw (to_z-of_z w128 a fa, to_z-of_z w128 d fd) at e)

-- one more than a floor, where a unit is given
pub with_unit : (floor unit : ℤ) (b : Bool) → unsigned_abs floor ≤ 10 ^ 37 → unit ≡ (if b then pos 1 else pos 0) → cast (cast floor +ℤ cast unit) ≡ floor +ℤ unit
with_unit floor unit true small e = omega (arith, ints)
with_unit floor unit false small e = omega (arith, ints)
