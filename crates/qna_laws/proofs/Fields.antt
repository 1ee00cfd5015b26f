-- Printed numbers and periods as fields: which bytes they have, and what they are read as.
use Rattle.std.proofs.Common.{◌≡◌, ◌∙◌, ℕ, ◌+◌, ◌-◌, ◌*◌, ◌/◌, ◌%◌, ◌^◌, ◌<◌, ◌≤◌, suc, ℤ, pos, negsuc, neg_ℤ, unsigned_abs, true, false, nat_eq, List, [], ◌∷◌, ◌++◌, length, Option, Some, None, option_map, refl, ap, inl, inr, length-append, arith}
use Rattle.std.specs.Fmt.{decimal, signed_decimal}
use Rattle.std.proofs.lemmas.Bool.{ne_eqb, le-leb, cases_Bool}
use Rattle.std.proofs.lemmas.Fmt.{decimal_by_steps_wide, length-decimal-le_wide}
use Rattle.std.specs.Char.{is_ascii_digit}
use Rattle.line_form.specs.Number.{digits_from, magnitude_of, number_of}

-- each byte is at least a number
abbrev pub AreAtLeast : ℕ → List ℕ → Type 0
AreAtLeast m [] = Unit {0}
AreAtLeast m (c ∷ cs) = (m ≤ c) × AreAtLeast m cs

pub at_least_append : (m : ℕ) (xs ys : List ℕ) → AreAtLeast m xs → AreAtLeast m ys → AreAtLeast m (xs ++ ys)
at_least_append m [] ys a b = b
at_least_append m (x ∷ xs) ys a b = (a.0, at_least_append m xs ys a.1 b)

pub at_least_lower : (m n : ℕ) (xs : List ℕ) → n ≤ m → AreAtLeast m xs → AreAtLeast n xs
at_least_lower m n [] low a = tt
at_least_lower m n (x ∷ xs) low a = (let above : m ≤ x = a.0 in omega arith, at_least_lower m n xs low a.1)

digit_is : (d : ℕ) → d < 10 → is_ascii_digit (48 + d) ≡ true
digit_is d low = rw (le-leb 48 (48 + d) (omega arith), le-leb (48 + d) 57 (omega arith)) refl

-- one more digit
push_one : (k d : ℕ) → d < 10 → digits_from k ((48 + d) ∷ []) ≡ Some (10 * k + d)
push_one k d low = rw (digit_is d low) (ap (λ (n : ℕ). Some n) (omega arith))

digits_push : (k m d : ℕ) (ds : List ℕ) → d < 10 → digits_from k ds ≡ Some m → digits_from k (ds ++ (48 + d) ∷ []) ≡ Some (10 * m + d)
digits_push k m d [] low e = let same : k ≡ m = cc in rw (push_one k d low, same) refl
digits_push k m d (c ∷ cs) low e =
    elim (cases_Bool (is_ascii_digit c)) [
      | inl t ↦ let later : digits_from (10 * k + (c - 48)) cs ≡ Some m = rw t at e in rw t (digits_push (10 * k + (c - 48)) m d cs low later)
      | inr f ↦ let none : None ≡ Some m = rw f at e in absurd (cc)
    ]

-- digits that spell a number
pub record IsSpelled (n : ℕ) (ds : List ℕ) : Type 0 where
  pub digits : AreAtLeast 48 ds
  pub some : 0 < length ds
  pub value : digits_from 0 ds ≡ Some n

spelled_one : (n : ℕ) → n < 10 → IsSpelled n ((48 + n) ∷ [])
spelled_one n low = record { digits = (omega arith, tt); some = omega arith; value = push_one 0 n low ∙ ap (λ (m : ℕ). Some m) (omega arith) }

spelled_more : (n : ℕ) (ds : List ℕ) → 10 ≤ n → IsSpelled (n / 10) ds → IsSpelled n (ds ++ (48 + n % 10) ∷ [])
spelled_more n ds big h =
    let low : n % 10 < 10 = omega arith in
    record {
      digits = at_least_append 48 ds ((48 + n % 10) ∷ []) h.digits (omega arith, tt);
      some = grind (arith, length-append);
      value = digits_push 0 (n / 10) (n % 10) ds low h.value ∙ ap (λ (m : ℕ). Some m) (omega arith);
    }

pub decimal_spells : (n : ℕ) → n < 10 ^ 64 → IsSpelled n (decimal n)
decimal_spells n small = decimal_by_steps_wide IsSpelled spelled_one spelled_more n small

magnitude_is : (ds : List ℕ) (n : ℕ) → IsSpelled n ds → magnitude_of ds ≡ Some n
magnitude_is [] n h = absurd (let some : 0 < 0 = h.some in omega arith)
magnitude_is (c ∷ cs) n h = h.value

positive_is : (ds : List ℕ) (n : ℕ) → IsSpelled n ds → number_of ds ≡ Some (pos n)
positive_is [] n h = absurd (let some : 0 < 0 = h.some in omega arith)
positive_is (c ∷ cs) n h =
    let digit : 48 ≤ c = h.digits.0 in
    let other : nat_eq c 45 ≡ false = ne_eqb c 45 (λ e. omega arith) in
    rw other (ap (λ (o : Option ℕ). option_map pos o) (magnitude_is (c ∷ cs) n h))

pub number_is : (v : ℤ) → unsigned_abs v < 10 ^ 64 → number_of (signed_decimal v) ≡ Some v
number_is (pos n) small = positive_is (decimal n) n (decimal_spells n small)
number_is (negsuc n) small = ap (λ (o : Option ℕ). option_map (λ m. neg_ℤ (pos m)) o) (magnitude_is (decimal (suc n)) (suc n) (decimal_spells (suc n) small))

-- the bytes and the length of a printed number
pub signed_clear : (v : ℤ) → unsigned_abs v < 10 ^ 64 → AreAtLeast 45 (signed_decimal v)
signed_clear (pos n) small = at_least_lower 48 45 (decimal n) (omega arith) (decimal_spells n small).digits
signed_clear (negsuc n) small = (omega arith, at_least_lower 48 45 (decimal (suc n)) (omega arith) (decimal_spells (suc n) small).digits)

pub signed_length : (k : ℕ) (v : ℤ) → 0 < k → unsigned_abs v < 10 ^ k → unsigned_abs v < 10 ^ 64 → length (signed_decimal v) ≤ k + 1
signed_length k (pos n) some few small = let h = length-decimal-le_wide k n some few small in omega arith
signed_length k (negsuc n) some few small = let h = length-decimal-le_wide k (suc n) some few small in omega arith
