-- How a stream is cut at its line feeds.
use Rattle.std.proofs.Common.{◌≡◌, ◌≤◌, ◌<◌, ◌+◌, ◌-◌, ◌∙◌, ℕ, zero, suc, true, false, cond, nat_eq, List, [], ◌∷◌, ◌++◌, length, take, drop, get_or, refl, sym, ap, arith, append_assoc}
use Rattle.std.proofs.lemmas.List.{append-nil}
use Rattle.std.proofs.lemmas.Bool.{false_from_ne_true, ne_eqb}
use Rattle.std.proofs.lemmas.List.{take_min}
use Rattle.std.proofs.Math.Seq.{take-append-add}
use Rattle.std.proofs.Common.{min}
use Rattle.std.specs.Cmp.Lexicographic.{pointwise}
use Rattle.csv.specs.Reading.{strip_bom}
use Rattle.line_form.specs.Lines.{ended_from, rest_from, without_return, line_at, next_number, numbered, number_after}

-- no byte of a list below a place is a line feed
abbrev pub NoFeedBelow : List ℕ → ℕ → Type 0
NoFeedBelow bs n = (j : ℕ) → j < n → nat_eq (get_or bs j 0) 10 ≡ true → ⊥

-- the same of what follows the first byte
pub no_feed_after : (b : ℕ) (bs : List ℕ) (n : ℕ) → NoFeedBelow (b ∷ bs) (suc n) → NoFeedBelow bs n
no_feed_after b bs n none j lt = none (suc j) (omega arith)

-- the first byte is no line feed
pub no_feed_first : (b : ℕ) (bs : List ℕ) (n : ℕ) → NoFeedBelow (b ∷ bs) (suc n) → nat_eq b 10 ≡ false
no_feed_first b bs n none = false_from_ne_true (nat_eq b 10) (none 0 (omega arith))

-- the first line feed ends a piece
pub ended_from-found : (p bs : List ℕ) (k : ℕ) → k < length bs → NoFeedBelow bs k → nat_eq (get_or bs k 0) 10 ≡ true
    → ended_from p bs ≡ (p ++ take k bs) ∷ ended_from [] (drop (suc k) bs)
unfolding ended_from
ended_from-found p [] k lt none hit = absurd (omega arith)
ended_from-found p (b ∷ bs) zero lt none hit = rw (hit, append-nil) refl
ended_from-found p (b ∷ bs) (suc k) lt none hit =
    let no = no_feed_first b bs k none in
    let later = ended_from-found (p ++ b ∷ []) bs k (omega arith) (no_feed_after b bs k none) hit in
    rw no (later ∙ ap (λ x. x ∷ ended_from [] (drop (suc k) bs)) (append_assoc p (b ∷ []) (take k bs)))

pub rest_from-found : (p bs : List ℕ) (k : ℕ) → k < length bs → NoFeedBelow bs k → nat_eq (get_or bs k 0) 10 ≡ true
    → rest_from p bs ≡ rest_from [] (drop (suc k) bs)
unfolding rest_from
rest_from-found p [] k lt none hit = absurd (omega arith)
rest_from-found p (b ∷ bs) zero lt none hit = rw hit refl
rest_from-found p (b ∷ bs) (suc k) lt none hit =
    let no = no_feed_first b bs k none in
    rw no (rest_from-found (p ++ b ∷ []) bs k (omega arith) (no_feed_after b bs k none) hit)

-- with no line feed nothing is ended
pub ended_from-none : (p bs : List ℕ) → NoFeedBelow bs (length bs) → ended_from p bs ≡ []
unfolding ended_from
ended_from-none p [] none = refl
ended_from-none p (b ∷ bs) none =
    let no = no_feed_first b bs (length bs) none in
    rw no (ended_from-none (p ++ b ∷ []) bs (no_feed_after b bs (length bs) none))

pub rest_from-none : (p bs : List ℕ) → NoFeedBelow bs (length bs) → rest_from p bs ≡ p ++ bs
unfolding rest_from
rest_from-none p [] none = sym (append-nil p)
rest_from-none p (b ∷ bs) none =
    let no = no_feed_first b bs (length bs) none in
    rw no (rest_from-none (p ++ b ∷ []) bs (no_feed_after b bs (length bs) none) ∙ append_assoc p (b ∷ []) bs)

-- a stream and what comes after it
pub ended_from-append : (p xs ys : List ℕ) → ended_from p (xs ++ ys) ≡ ended_from p xs ++ ended_from (rest_from p xs) ys
unfolding ended_from rest_from
ended_from-append p [] ys = refl
ended_from-append p (x ∷ xs) ys =
    elim (nat_eq x 10) as (λ t. cond t (p ∷ ended_from [] (xs ++ ys)) (ended_from (p ++ x ∷ []) (xs ++ ys))
    ≡ cond t (p ∷ ended_from [] xs) (ended_from (p ++ x ∷ []) xs)
    ++ ended_from (cond t (rest_from [] xs) (rest_from (p ++ x ∷ []) xs)) ys) [
      | true ↦ ap (λ z. p ∷ z) (ended_from-append [] xs ys)
      | false ↦ ended_from-append (p ++ x ∷ []) xs ys
    ]

pub rest_from-append : (p xs ys : List ℕ) → rest_from p (xs ++ ys) ≡ rest_from (rest_from p xs) ys
unfolding rest_from
rest_from-append p [] ys = refl
rest_from-append p (x ∷ xs) ys =
    elim (nat_eq x 10) as (λ t. cond t (rest_from [] (xs ++ ys)) (rest_from (p ++ x ∷ []) (xs ++ ys))
    ≡ rest_from (cond t (rest_from [] xs) (rest_from (p ++ x ∷ []) xs)) ys) [
      | true ↦ rest_from-append [] xs ys
      | false ↦ rest_from-append (p ++ x ∷ []) xs ys
    ]

-- what is kept of a list and what comes after it, up to a bound
pub kept_take : (xs ys : List ℕ) (n m : ℕ) → length xs ≤ n → m ≡ min (length ys) (n - length xs) → xs ++ take m ys ≡ take n (xs ++ ys)
kept_take xs ys n m few is =
    let k : ℕ = n - length xs in
    let whole : length xs + k ≡ n = omega arith in
    let all : take (min k (length ys)) ys ≡ take k ys = take_min k ys in
    let same : min k (length ys) ≡ m = omega arith in
    let e : take m ys ≡ take k ys = rw (← same) all in
    rw (← whole, take-append-add xs ys k, e) refl

-- a last carriage return is dropped, and another last byte is not
pub return_dropped : (xs : List ℕ) (n : ℕ) → length xs ≡ suc n → get_or xs n 0 ≡ 13 → without_return xs ≡ take n xs
unfolding without_return
return_dropped [] n e h = absurd (omega arith)
return_dropped (x ∷ []) zero e h = rw h refl
return_dropped (x ∷ []) (suc n) e h = absurd (omega arith)
return_dropped (x ∷ y ∷ xs) zero e h = absurd (omega arith)
return_dropped (x ∷ y ∷ xs) (suc n) e h = ap (λ t. x ∷ t) (return_dropped (y ∷ xs) n (omega arith) h)

pub return_absent : (xs : List ℕ) (n : ℕ) → length xs ≡ suc n → (get_or xs n 0 ≡ 13 → ⊥) → without_return xs ≡ xs
unfolding without_return
return_absent [] n e h = refl
return_absent (x ∷ []) zero e h = rw (ne_eqb x 13 h) refl
return_absent (x ∷ []) (suc n) e h = absurd (omega arith)
return_absent (x ∷ y ∷ xs) zero e h = absurd (omega arith)
return_absent (x ∷ y ∷ xs) (suc n) e h = ap (λ t. x ∷ t) (return_absent (y ∷ xs) n (omega arith) h)

pub return_empty : (xs : List ℕ) → length xs ≡ 0 → without_return xs ≡ xs
unfolding without_return
return_empty [] e = refl
return_empty (x ∷ xs) e = absurd (omega arith)

-- a mark at the start is dropped, and other bytes are not
pub mark_dropped : (xs : List ℕ) → pointwise nat_eq (take 3 xs) (239 ∷ 187 ∷ 191 ∷ []) ≡ true → strip_bom xs ≡ drop 3 xs
unfolding strip_bom
mark_dropped [] h = cc
mark_dropped (a ∷ []) h = grind arith
mark_dropped (a ∷ b ∷ []) h = grind arith
mark_dropped (a ∷ b ∷ c ∷ rest) h = grind arith

pub mark_absent : (xs : List ℕ) → pointwise nat_eq (take 3 xs) (239 ∷ 187 ∷ 191 ∷ []) ≡ false → strip_bom xs ≡ xs
unfolding strip_bom
mark_absent [] h = refl
mark_absent (a ∷ []) h = refl
mark_absent (a ∷ b ∷ []) h = refl
mark_absent (a ∷ b ∷ c ∷ rest) h = grind arith

-- the lines of more pieces
pub numbered-append : (n : ℕ) (ps qs : List (List ℕ)) → numbered n (ps ++ qs) ≡ numbered n ps ++ numbered (number_after n ps) qs
unfolding numbered number_after
numbered-append n [] qs = refl
numbered-append n (p ∷ ps) qs = ap (λ z. line_at (next_number n) p ∷ z) (numbered-append (next_number n) ps qs)

pub number_after-append : (n : ℕ) (ps qs : List (List ℕ)) → number_after n (ps ++ qs) ≡ number_after (number_after n ps) qs
unfolding number_after
number_after-append n [] qs = refl
number_after-append n (p ∷ ps) qs = number_after-append (next_number n) ps qs
