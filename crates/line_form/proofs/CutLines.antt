-- What the lines of a stream are, from its pieces with the mark still in the first.
use Rattle.std.proofs.Common.{◌≡◌, ◌≤◌, ◌<◌, ◌+◌, ◌∙◌, ◌⊎◌, inl, inr, ℕ, zero, suc, Bool, true, false, ◌&&◌, cond, nat_eq, min, List, [], ◌∷◌, ◌++◌, length, take, refl, sym, ap, subst, arith, append_assoc}
use Rattle.std.proofs.lemmas.List.{append-nil, take_all, take-take, take_at, length-take}
use Rattle.std.proofs.lemmas.Bool.{true≢false, cases_Bool, and_parts, eqb-true, ne_eqb, lt-leb, cases_lt}
use Rattle.csv.specs.Reading.{strip_bom, is_bom}
use Rattle.line_form.specs.Lines.{TextLine, ended_from, rest_from, without_return, line_with, line_at, unmarked, next_number, numbered, number_after, last_piece, ended_lines, lines_of, Cutting, IsCutOf}
use Rattle.line_form.proofs.Streams.{numbered-append, number_after-append, ended_from-append, rest_from-append}

-- the lines of pieces of which the first may have the mark
abbrev pub cut_lines : ℕ → List (List ℕ) → List TextLine
cut_lines n [] = []
cut_lines n (p ∷ ps) = numbered n (unmarked n p ∷ ps)

abbrev pub MarkCases : List ℕ → Type 0
MarkCases s = ((t : List ℕ) × (s ≡ 239 ∷ 187 ∷ 191 ∷ t)) ⊎ (strip_bom s ≡ s)

mark_of_three : (a b c : ℕ) (t : List ℕ) → (is_bom a b c ≡ true) ⊎ (is_bom a b c ≡ false) → MarkCases (a ∷ b ∷ c ∷ t)
unfolding strip_bom
mark_of_three a b c t (inl h) =
    let two = and_parts (nat_eq a 239 && nat_eq b 187) (nat_eq c 191) h in
    let one = and_parts (nat_eq a 239) (nat_eq b 187) two.0 in
    inl (t, rw (eqb-true a 239 one.0, eqb-true b 187 one.1, eqb-true c 191 two.1) refl)
mark_of_three a b c t (inr h) = inr (rw h refl)

-- a stream begins with the mark, or has none to drop
pub mark_cases : (s : List ℕ) → MarkCases s
unfolding strip_bom
mark_cases [] = inr refl
mark_cases (a ∷ []) = inr refl
mark_cases (a ∷ b ∷ []) = inr refl
mark_cases (a ∷ b ∷ c ∷ t) = mark_of_three a b c t (cases_Bool (is_bom a b c))

longer_not_same : (a b c : ℕ) (t : List ℕ) → t ≡ a ∷ b ∷ c ∷ t → ⊥
longer_not_same a b c t h = let n = ap length h in omega (arith, n)

front_of_three : (a b c : ℕ) (p more : List ℕ) → (is_bom a b c ≡ true) ⊎ (is_bom a b c ≡ false)
    → strip_bom (a ∷ b ∷ c ∷ (p ++ more)) ≡ a ∷ b ∷ c ∷ (p ++ more) → strip_bom (a ∷ b ∷ c ∷ p) ≡ a ∷ b ∷ c ∷ p
unfolding strip_bom
front_of_three a b c p more (inl t) h = absurd (longer_not_same a b c (p ++ more) (rw t at h))
front_of_three a b c p more (inr t) h = rw t refl

-- a front of a stream without a mark has none
pub front_unmarked : (p more : List ℕ) → strip_bom (p ++ more) ≡ p ++ more → strip_bom p ≡ p
unfolding strip_bom
front_unmarked [] more h = refl
front_unmarked (a ∷ []) more h = refl
front_unmarked (a ∷ b ∷ []) more h = refl
front_unmarked (a ∷ b ∷ c ∷ p) more h = front_of_three a b c p more (cases_Bool (is_bom a b c)) h

-- what stands before a stream stands in its first piece
abbrev onto_first : List ℕ → List (List ℕ) → List (List ℕ)
onto_first x [] = []
onto_first x (p ∷ ps) = (x ++ p) ∷ ps

ended_from-onto : (x p bs : List ℕ) → ended_from (x ++ p) bs ≡ onto_first x (ended_from p bs)
unfolding ended_from
ended_from-onto x p [] = refl
ended_from-onto x p (b ∷ bs) =
    elim (nat_eq b 10) as (λ t. cond t ((x ++ p) ∷ ended_from [] bs) (ended_from ((x ++ p) ++ b ∷ []) bs) ≡ onto_first x (cond t (p ∷ ended_from [] bs) (ended_from (p ++ b ∷ []) bs))) [
      | true ↦ refl
      | false ↦ rw (append_assoc x p (b ∷ [])) (ended_from-onto x (p ++ b ∷ []) bs)
    ]

-- with nothing ended all is the rest
ended_none : (p bs : List ℕ) → ended_from p bs ≡ [] → rest_from p bs ≡ p ++ bs
unfolding ended_from rest_from
ended_none p [] h = sym (append-nil p)
ended_none p (b ∷ bs) h =
    (elim (nat_eq b 10) as (λ t. cond t (p ∷ ended_from [] bs) (ended_from (p ++ b ∷ []) bs) ≡ [] → cond t (rest_from [] bs) (rest_from (p ++ b ∷ []) bs) ≡ p ++ b ∷ bs) [
      | true ↦ λ e. cc
      | false ↦ λ e. ended_none (p ++ b ∷ []) bs e ∙ append_assoc p (b ∷ []) bs
    ]) h

-- behind an ended piece the rest is the same, whatever stood before
rest_any : (p q bs : List ℕ) (x : List ℕ) (xs : List (List ℕ)) → ended_from p bs ≡ x ∷ xs → rest_from p bs ≡ rest_from q bs
unfolding ended_from rest_from
rest_any p q [] x xs h = cc
rest_any p q (b ∷ bs) x xs h =
    (elim (nat_eq b 10) as (λ t. cond t (p ∷ ended_from [] bs) (ended_from (p ++ b ∷ []) bs) ≡ x ∷ xs
    → cond t (rest_from [] bs) (rest_from (p ++ b ∷ []) bs) ≡ cond t (rest_from [] bs) (rest_from (q ++ b ∷ []) bs)) [
      | true ↦ λ e. refl
      | false ↦ λ e. rest_any (p ++ b ∷ []) (q ++ b ∷ []) bs x xs e
    ]) h

-- the first piece is a front of the stream
first_front : (q bs p : List ℕ) (ps : List (List ℕ)) → ended_from q bs ≡ p ∷ ps → (more : List ℕ) × (q ++ bs ≡ p ++ more)
unfolding ended_from
first_front q [] p ps h = cc
first_front q (b ∷ bs) p ps h =
    (elim (nat_eq b 10) as (λ t. cond t (q ∷ ended_from [] bs) (ended_from (q ++ b ∷ []) bs) ≡ p ∷ ps → (more : List ℕ) × (q ++ b ∷ bs ≡ p ++ more)) [
      | true ↦ λ e. let same : q ≡ p = cc in (b ∷ bs, ap (λ z. z ++ b ∷ bs) same)
      | false ↦ λ e. let later = first_front (q ++ b ∷ []) bs p ps e in (later.0, sym (append_assoc q (b ∷ []) bs) ∙ later.1)
    ]) h

abbrev mark : List ℕ
mark = 239 ∷ 187 ∷ 191 ∷ []

cut_onto : (ps : List (List ℕ)) → cut_lines 0 (onto_first mark ps) ≡ numbered 0 ps
unfolding numbered strip_bom
cut_onto [] = refl
cut_onto (q ∷ qs) = refl

cut_plain : (s : List ℕ) (ps : List (List ℕ)) → strip_bom s ≡ s → ended_from [] s ≡ ps → numbered 0 ps ≡ cut_lines 0 ps
unfolding numbered
cut_plain s [] e h = refl
cut_plain s (p ∷ ps) e h =
    let front = first_front [] s p ps h in
    let same : strip_bom p ≡ p = front_unmarked p front.0 (rw (← front.1) e) in
    rw same refl

raw_marked : (t : List ℕ) → ended_lines (239 ∷ 187 ∷ 191 ∷ t) ≡ cut_lines 0 (ended_from [] (239 ∷ 187 ∷ 191 ∷ t))
unfolding ended_lines strip_bom ended_from
raw_marked t = sym (ap (cut_lines 0) (ended_from-onto mark [] t) ∙ cut_onto (ended_from [] t))

raw_plain : (s : List ℕ) → strip_bom s ≡ s → ended_lines s ≡ cut_lines 0 (ended_from [] s)
unfolding ended_lines
raw_plain s e = rw e (cut_plain s (ended_from [] s) e refl)

-- the ended lines of a stream, from its pieces with the mark still in the first
pub raw_lines : (s : List ℕ) → ended_lines s ≡ cut_lines 0 (ended_from [] s)
raw_lines s = elim (mark_cases s) [
  | inl h ↦ let P : List ℕ → Type 0 = λ x. ended_lines x ≡ cut_lines 0 (ended_from [] x) in subst P (sym h.1) (raw_marked h.0)
  | inr e ↦ raw_plain s e
]

-- numbers rise from the first on
next_pos : (n : ℕ) → 1 ≤ next_number n
next_pos n = omega arith

after_pos : (n : ℕ) (ps : List (List ℕ)) → 1 ≤ n → 1 ≤ number_after n ps
unfolding number_after
after_pos n [] h = h
after_pos n (p ∷ ps) h = after_pos (next_number n) ps (next_pos n)

-- behind a first line no mark is dropped
later_unmarked : (n : ℕ) (p : List ℕ) → 1 ≤ n → unmarked n p ≡ p
later_unmarked n p h = rw (ne_eqb n 0 (λ e. omega (arith, e))) refl

-- the last piece of a stream, from the one with the mark still in it
abbrev RawRest : List ℕ → Type 0
RawRest s = rest_from [] (strip_bom s) ≡ unmarked (number_after 0 (ended_from [] s)) (rest_from [] s)

rest_marked : (t : List ℕ) (ps : List (List ℕ)) → ended_from [] t ≡ ps → rest_from [] t ≡ unmarked (number_after 0 (onto_first mark ps)) (rest_from mark t)
unfolding number_after strip_bom
rest_marked t [] h =
    let none : ended_from mark t ≡ [] = ended_from-onto mark [] t ∙ ap (onto_first mark) h in
    rw (ended_none mark t none, ended_none [] t h) refl
rest_marked t (q ∷ qs) h = rest_any [] mark t q qs h ∙ sym (later_unmarked (number_after (next_number 0) qs) (rest_from mark t) (after_pos (next_number 0) qs (next_pos 0)))

rest_plain : (s : List ℕ) (ps : List (List ℕ)) → strip_bom s ≡ s → ended_from [] s ≡ ps → rest_from [] s ≡ unmarked (number_after 0 ps) (rest_from [] s)
unfolding number_after
rest_plain s [] e h = rw (ended_none [] s h) (sym e)
rest_plain s (q ∷ qs) e h = sym (later_unmarked (number_after (next_number 0) qs) (rest_from [] s) (after_pos (next_number 0) qs (next_pos 0)))

raw_rest_marked : (t : List ℕ) → RawRest (239 ∷ 187 ∷ 191 ∷ t)
unfolding strip_bom ended_from rest_from
raw_rest_marked t = rw (ended_from-onto mark [] t) (rest_marked t (ended_from [] t) refl)

raw_rest_plain : (s : List ℕ) → strip_bom s ≡ s → RawRest s
raw_rest_plain s e = rw e (rest_plain s (ended_from [] s) e refl)

raw_rest : (s : List ℕ) → RawRest s
raw_rest s = elim (mark_cases s) [
  | inl h ↦ let P : List ℕ → Type 0 = λ x. RawRest x in subst P (sym h.1) (raw_rest_marked h.0)
  | inr e ↦ raw_rest_plain s e
]

-- the mark ends no piece
abbrev RawCount : List ℕ → Type 0
RawCount s = number_after 0 (ended_from [] (strip_bom s)) ≡ number_after 0 (ended_from [] s)

count_onto : (ps : List (List ℕ)) → number_after 0 ps ≡ number_after 0 (onto_first mark ps)
unfolding number_after
count_onto [] = refl
count_onto (q ∷ qs) = refl

raw_count_marked : (t : List ℕ) → RawCount (239 ∷ 187 ∷ 191 ∷ t)
unfolding strip_bom ended_from
raw_count_marked t = count_onto (ended_from [] t) ∙ sym (ap (number_after 0) (ended_from-onto mark [] t))

raw_count : (s : List ℕ) → RawCount s
raw_count s = elim (mark_cases s) [
  | inl h ↦ let P : List ℕ → Type 0 = λ x. RawCount x in subst P (sym h.1) (raw_count_marked h.0)
  | inr e ↦ rw e refl
]

-- all lines of a stream, from its pieces with the mark still in the first
pub whole_lines : (s : List ℕ) → lines_of s ≡ ended_lines s ++ numbered (number_after 0 (ended_from [] s)) (last_piece (unmarked (number_after 0 (ended_from [] s)) (rest_from [] s)))
unfolding lines_of ended_lines
whole_lines s = rw (numbered-append 0 (ended_from [] (strip_bom s)) (last_piece (rest_from [] (strip_bom s))), raw_count s, raw_rest s) refl

-- more pieces behind those of a stream
pub cut_lines-more : (es : List (List ℕ)) (q : List ℕ) (qs : List (List ℕ))
    → cut_lines 0 (es ++ q ∷ qs) ≡ cut_lines 0 es ++ numbered (number_after 0 es) (unmarked (number_after 0 es) q ∷ qs)
unfolding numbered number_after
cut_lines-more [] q qs = refl
cut_lines-more (p ∷ ps) q qs =
    rw (later_unmarked (number_after (next_number 0) ps) q (after_pos (next_number 0) ps (next_pos 0)), numbered-append (next_number 0) ps (q ∷ qs)) refl

-- a piece loses one byte at most
return_length : (q : List ℕ) → length q ≤ length (without_return q) + 1
unfolding without_return
return_length [] = omega arith
return_length (b ∷ []) = omega arith
return_length (b ∷ c ∷ bs) = let rest = return_length (c ∷ bs) in omega arith

line_long : (n : ℕ) (text : List ℕ) → 256 < length text → line_with n text ≡ record { number = n; long = true; text = [] }
line_long n text h = rw (lt-leb (length text) 256 h) refl

kept_long : (n k : ℕ) (q : List ℕ) → 258 ≤ k → k < length q → line_at n (take k q) ≡ line_at n q
unfolding line_at
kept_long n k q few long =
    let front : length (take k q) ≡ min k (length q) = length-take k q in
    let one = return_length (take k q) in
    let two = return_length q in
    let low : 256 < length (without_return (take k q)) = omega arith in
    let high : 256 < length (without_return q) = omega arith in
    line_long n (without_return (take k q)) low ∙ sym (line_long n (without_return q) high)

kept_same : (n k : ℕ) (q : List ℕ) → 258 ≤ k → line_at n (take k q) ≡ line_at n q
kept_same n k q few = elim (cases_lt k (length q)) [
  | inl long ↦ kept_long n k q few long
  | inr short ↦ ap (line_at n) (take_all k q short)
]

-- the mark aside, a front is kept of what is kept
kept_three : (a b c : ℕ) (t : List ℕ) → (is_bom a b c ≡ true) ⊎ (is_bom a b c ≡ false)
    → (k : ℕ) × ((258 ≤ k) × (strip_bom (take 261 (a ∷ b ∷ c ∷ t)) ≡ take k (strip_bom (a ∷ b ∷ c ∷ t))))
unfolding strip_bom
kept_three a b c t (inl h) = (258, (omega arith, rw h refl))
kept_three a b c t (inr h) = (261, (omega arith, rw h refl))

kept_first : (q : List ℕ) → (k : ℕ) × ((258 ≤ k) × (strip_bom (take 261 q) ≡ take k (strip_bom q)))
unfolding strip_bom
kept_first [] = (261, (omega arith, refl))
kept_first (a ∷ []) = (261, (omega arith, refl))
kept_first (a ∷ b ∷ []) = (261, (omega arith, refl))
kept_first (a ∷ b ∷ c ∷ t) = kept_three a b c t (cases_Bool (is_bom a b c))

unmarked_kept : (n : ℕ) (q : List ℕ) → (k : ℕ) × ((258 ≤ k) × (unmarked n (take 261 q) ≡ take k (unmarked n q)))
unmarked_kept n q = elim (nat_eq n 0) as (λ t. (k : ℕ) × ((258 ≤ k) × (cond t (strip_bom (take 261 q)) (take 261 q) ≡ take k (cond t (strip_bom q) q)))) [
  | true ↦ kept_first q
  | false ↦ (261, (omega arith, refl))
]

pub line_kept : (m n : ℕ) (q : List ℕ) → line_at m (unmarked n (take 261 q)) ≡ line_at m (unmarked n q)
line_kept m n q =
    let h = unmarked_kept n q in
    rw h.1.1 (kept_same m h.0 (unmarked n q) h.1.0)

last_take : (n k : ℕ) (x : List ℕ) → 258 ≤ suc k → numbered n (last_piece (take (suc k) x)) ≡ numbered n (last_piece x)
unfolding numbered
last_take n k [] few = refl
last_take n k (b ∷ bs) few = ap (λ z. z ∷ []) (kept_same (next_number n) (suc k) (b ∷ bs) few)

last_taken : (n k : ℕ) (x : List ℕ) → 258 ≤ k → numbered n (last_piece (take k x)) ≡ numbered n (last_piece x)
last_taken n zero x few = absurd (omega arith)
last_taken n (suc k) x few = last_take n k x few

pub last_kept : (n : ℕ) (q : List ℕ) → numbered n (last_piece (unmarked n (take 261 q))) ≡ numbered n (last_piece (unmarked n q))
last_kept n q =
    let h = unmarked_kept n q in
    rw h.1.1 (last_taken n h.0 (unmarked n q) h.1.0)

-- a stream of which nothing has come
pub nothing_cut : IsCutOf (record { waiting = []; count = 0; rest = []; ended = false }) [] []
unfolding ended_lines ended_from rest_from number_after numbered strip_bom
nothing_cut = record { lines = refl; count = refl; rest = refl }

-- what is kept of a front and of what comes after it
kept_more : (xs ys : List ℕ) (n : ℕ) → take n (take n xs ++ ys) ≡ take n (xs ++ ys)
kept_more xs ys zero = refl
kept_more [] ys (suc n) = refl
kept_more (x ∷ xs) ys (suc n) = ap (λ z. x ∷ z) (kept_more xs ys n)

-- a piece that ends no line
pub fed_none : (e : Bool) → e ≡ false → (w : List TextLine) (n : ℕ) (kept : List ℕ) (stream piece : List ℕ) (handed : List TextLine)
    → ((q : List ℕ) → ended_from q piece ≡ []) → ((q : List ℕ) → rest_from q piece ≡ q ++ piece)
    → IsCutOf (record { waiting = w; count = n; rest = kept; ended = e }) stream handed
    → IsCutOf (record { waiting = w; count = n; rest = take 261 (kept ++ piece); ended = e }) (stream ++ piece) handed
fed_none true still w n kept stream piece handed none all cut = absurd (true≢false still)
fed_none false still w n kept stream piece handed none all cut =
    let ends : ended_from [] (stream ++ piece) ≡ ended_from [] stream = ended_from-append [] stream piece ∙ ap (λ z. ended_from [] stream ++ z) (none (rest_from [] stream)) ∙ append-nil (ended_from [] stream) in
    let rests : rest_from [] (stream ++ piece) ≡ rest_from [] stream ++ piece = rest_from-append [] stream piece ∙ all (rest_from [] stream) in
    record {
      lines = cut.lines ∙ raw_lines stream ∙ sym (ap (cut_lines 0) ends) ∙ sym (raw_lines (stream ++ piece));
      count = cut.count ∙ sym (ap (number_after 0) ends);
      rest = ap (λ z. take 261 (z ++ piece)) cut.rest ∙ kept_more (rest_from [] stream) piece 261 ∙ sym (ap (take 261) rests);
    }

-- a piece that ends lines
pub fed_some : (e : Bool) → e ≡ false → (w more : List TextLine) (n m : ℕ) (kept first head after rest : List ℕ) (stream piece : List ℕ) (handed : List TextLine)
    → ((q : List ℕ) → ended_from q piece ≡ (q ++ head) ∷ ended_from [] after) → ((q : List ℕ) → rest_from q piece ≡ rest_from [] after)
    → first ≡ take 261 (kept ++ head) → more ≡ w ++ numbered n (unmarked n first ∷ ended_from [] after)
    → m ≡ number_after n (first ∷ ended_from [] after) → rest ≡ take 261 (rest_from [] after)
    → IsCutOf (record { waiting = w; count = n; rest = kept; ended = e }) stream handed
    → IsCutOf (record { waiting = more; count = m; rest = rest; ended = e }) (stream ++ piece) handed
unfolding numbered number_after
fed_some true still w more n m kept first head after rest stream piece handed found behind is_first is_more is_m is_rest cut = absurd (true≢false still)
fed_some false still w more n m kept first head after rest stream piece handed found behind is_first is_more is_m is_rest cut =
    let es : List (List ℕ) = ended_from [] stream in
    let r : List ℕ = rest_from [] stream in
    let qs : List (List ℕ) = ended_from [] after in
    let ends : ended_from [] (stream ++ piece) ≡ es ++ (r ++ head) ∷ qs = ended_from-append [] stream piece ∙ ap (λ z. es ++ z) (found r) in
    let rests : rest_from [] (stream ++ piece) ≡ rest_from [] after = rest_from-append [] stream piece ∙ behind r in
    let whole : first ≡ take 261 (r ++ head) = is_first ∙ ap (λ z. take 261 (z ++ head)) cut.rest ∙ kept_more r head 261 in
    let number : n ≡ number_after 0 es = cut.count in
    let same : numbered n (unmarked n first ∷ qs) ≡ numbered n (unmarked n (r ++ head) ∷ qs)
    = ap (λ z. line_at (next_number n) (unmarked n z) ∷ numbered (next_number n) qs) whole
    ∙ ap (λ z. z ∷ numbered (next_number n) qs) (line_kept (next_number n) n (r ++ head)) in
    let all : cut_lines 0 (es ++ (r ++ head) ∷ qs) ≡ cut_lines 0 es ++ numbered n (unmarked n (r ++ head) ∷ qs)
    = rw number (cut_lines-more es (r ++ head) qs) in
    record {
      lines = ap (λ z. handed ++ z) is_more ∙ sym (append_assoc handed w (numbered n (unmarked n first ∷ qs)))
          ∙ ap (λ z. z ++ numbered n (unmarked n first ∷ qs)) (cut.lines ∙ raw_lines stream)
          ∙ ap (λ z. cut_lines 0 es ++ z) same ∙ sym all ∙ sym (ap (cut_lines 0) ends) ∙ sym (raw_lines (stream ++ piece));
      count = is_m ∙ ap (λ z. number_after (next_number z) qs) number ∙ sym (number_after-append 0 es ((r ++ head) ∷ qs)) ∙ sym (ap (number_after 0) ends);
      rest = is_rest ∙ sym (ap (take 261) rests);
    }

-- the end of a stream
pub finished : (e : Bool) → e ≡ false → (w more : List TextLine) (n : ℕ) (kept : List ℕ) (stream : List ℕ) (handed : List TextLine)
    → more ≡ w ++ numbered n (last_piece (unmarked n kept))
    → IsCutOf (record { waiting = w; count = n; rest = kept; ended = e }) stream handed
    → IsCutOf (record { waiting = more; count = n; rest = kept; ended = true }) stream handed
finished true still w more n kept stream handed is_more cut = absurd (true≢false still)
finished false still w more n kept stream handed is_more cut =
    let r : List ℕ = rest_from [] stream in
    let last : numbered n (last_piece (unmarked n kept)) ≡ numbered n (last_piece (unmarked n r))
    = ap (λ z. numbered n (last_piece (unmarked n z))) cut.rest ∙ last_kept n r in
    record {
      lines = ap (λ z. handed ++ z) is_more ∙ sym (append_assoc handed w (numbered n (last_piece (unmarked n kept))))
          ∙ ap (λ z. z ++ numbered n (last_piece (unmarked n kept))) cut.lines
          ∙ ap (λ z. ended_lines stream ++ z) (last ∙ ap (λ z. numbered z (last_piece (unmarked z r))) cut.count) ∙ sym (whole_lines stream);
      count = cut.count;
      rest = cut.rest;
    }

-- one line more behind those that wait, and the lines of the pieces after it
pub added : (all w : List TextLine) (n m : ℕ) (p q : List ℕ) (ps : List (List ℕ)) → all ≡ w ++ line_at m q ∷ [] → m ≡ next_number n → q ≡ p
    → all ++ numbered m ps ≡ w ++ numbered n (p ∷ ps)
unfolding numbered
added all w n m p q ps is_all is_m is_q = rw (is_all, is_m, is_q, append_assoc w (line_at (next_number n) p ∷ []) (numbered (next_number n) ps)) refl

pub counted : (n m : ℕ) (p : List ℕ) (ps : List (List ℕ)) → m ≡ next_number n → number_after m ps ≡ number_after n (p ∷ ps)
unfolding number_after
counted n m p ps h = rw h refl

-- no piece, no line
pub none_added : (w t : List TextLine) (n : ℕ) (ps : List (List ℕ)) → w ++ numbered n ps ≡ t → ps ≡ [] → w ≡ t
unfolding numbered
none_added w t n ps h e = sym (append-nil w) ∙ sym (ap (λ z. w ++ numbered n z) e) ∙ h

pub none_counted : (n t : ℕ) (ps : List (List ℕ)) → number_after n ps ≡ t → ps ≡ [] → n ≡ t
unfolding number_after
none_counted n t ps h e = sym (ap (number_after n) e) ∙ h

-- a front of a front
pub front_of_front : {X : Type 0} (o w v : List X) → take (length o) w ≡ o → take (length w) v ≡ w → take (length o) v ≡ o
front_of_front o w v h k =
    let size : length (take (length o) w) ≡ min (length o) (length w) = length-take (length o) w in
    let same : length (take (length o) w) ≡ length o = ap length h in
    let low : length o ≤ length w = omega arith in
    sym (take-take (length o) (length w) v low) ∙ ap (take (length o)) k ∙ h

-- a front that was kept is got back
pub kept_front : (xs ys : List ℕ) (n : ℕ) → length xs ≤ n → take (length xs) (take n (xs ++ ys)) ≡ xs
kept_front xs ys n h = take-take (length xs) n (xs ++ ys) h ∙ take_at xs ys (length xs) refl

-- a cutting that was put back is the one before
pub restored : (s : Cutting) (w v : List TextLine) (n : ℕ) (r q : List ℕ) (e : Bool) → s ≡ record { waiting = w; count = n; rest = r; ended = e } → v ≡ w → q ≡ r
    → s ≡ record { waiting = v; count = n; rest = q; ended = e }
restored s w v n r q e h i j = rw (i, j) h
