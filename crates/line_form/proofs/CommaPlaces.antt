-- Places of commas, and the parts between them.
use Rattle.std.proofs.Common.{◌≡◌, ◌≤◌, ◌<◌, ◌+◌, ◌-◌, ◌∙◌, ℕ, zero, suc, true, false, cond, nat_eq, List, [], ◌∷◌, ◌++◌, length, take, drop, get_or, refl, sym, ap, arith, append_assoc, length-append}
use Rattle.std.proofs.lemmas.List.{append-nil, take_rest, take_at, drop_at, drop_more, drop_all}
use Rattle.std.proofs.lemmas.Bool.{ne_eqb}
use Rattle.line_form.specs.Commas.{commas_from, cut_at, Rising, start_at, end_at}
use Rattle.line_form.specs.Fields.{parts_from}

-- the places lie in the bytes
pub rising_size : (start : ℕ) (es : List ℕ) (size : ℕ) → Rising start es size → start + length es ≤ size
unfolding Rising
rising_size start [] size h = omega arith
rising_size start (e ∷ es) size h =
    let later = rising_size (e + 1) es size h.1 in
    let low = h.0 in
    omega arith

pub rising_place : (start : ℕ) (es : List ℕ) (size i : ℕ) → Rising start es size → i < length es → get_or es i 0 + 1 ≤ size
unfolding Rising
rising_place start [] size i h lt = absurd (omega arith)
rising_place start (e ∷ es) size zero h lt = let later = rising_size (e + 1) es size h.1 in omega arith
rising_place start (e ∷ es) size (suc i) h lt = rising_place (e + 1) es size i h.1 (omega arith)

pub start_at-later : (start : ℕ) (es : List ℕ) (i : ℕ) → i < length es → start_at start es (suc i) ≡ get_or es i 0 + 1
unfolding start_at
start_at-later start [] i lt = absurd (omega arith)
start_at-later start (e ∷ es) zero lt = refl
start_at-later start (e ∷ es) (suc i) lt = start_at-later (e + 1) es i (omega arith)

pub start_at-zero : (start : ℕ) (es : List ℕ) → start_at start es 0 ≡ start
unfolding start_at
start_at-zero start es = refl

pub end_at-here : (es : List ℕ) (i size : ℕ) → i < length es → end_at es i size ≡ get_or es i 0
unfolding end_at
end_at-here [] i size lt = absurd (omega arith)
end_at-here (e ∷ es) zero size lt = refl
end_at-here (e ∷ es) (suc i) size lt = end_at-here es i size (omega arith)

pub end_at-past : (es : List ℕ) (i size : ℕ) → length es ≤ i → end_at es i size ≡ size
unfolding end_at
end_at-past [] i size ge = refl
end_at-past (e ∷ es) zero size ge = absurd (omega arith)
end_at-past (e ∷ es) (suc i) size ge = end_at-past es i size (omega arith)

-- a part starts at or before its end, and ends in the bytes
pub part_order : (start : ℕ) (es : List ℕ) (i size : ℕ) → Rising start es size → i ≤ length es → start_at start es i ≤ end_at es i size
unfolding Rising start_at end_at
part_order start [] zero size h le = h
part_order start [] (suc i) size h le = absurd (omega arith)
part_order start (e ∷ es) zero size h le = h.0
part_order start (e ∷ es) (suc i) size h le = part_order (e + 1) es i size h.1 (omega arith)

pub part_end : (start : ℕ) (es : List ℕ) (i size : ℕ) → Rising start es size → end_at es i size ≤ size
unfolding Rising end_at
part_end start [] i size h = omega arith
part_end start (e ∷ es) zero size h = let later = rising_size (e + 1) es size h.1 in omega arith
part_end start (e ∷ es) (suc i) size h = part_end (e + 1) es i size h.1

-- the part at a place, and how many there are
pub get_or-cut_at : (start : ℕ) (es text : List ℕ) (i : ℕ) → i ≤ length es
    → get_or (cut_at start es text) i [] ≡ take (end_at es i (length text) - start_at start es i) (drop (start_at start es i) text)
unfolding cut_at start_at end_at
get_or-cut_at start [] text zero le = sym (take_rest text start)
get_or-cut_at start [] text (suc i) le = absurd (omega arith)
get_or-cut_at start (e ∷ es) text zero le = refl
get_or-cut_at start (e ∷ es) text (suc i) le = get_or-cut_at (e + 1) es text i (omega arith)

pub length-cut_at : (start : ℕ) (es text : List ℕ) → length (cut_at start es text) ≡ length es + 1
unfolding cut_at
length-cut_at start [] text = refl
length-cut_at start (e ∷ es) text = let later = length-cut_at (e + 1) es text in omega arith

-- the commas of some bytes rise, and lie in them
pub commas_rising : (start i : ℕ) (bs : List ℕ) (size : ℕ) → start ≤ i → i + length bs ≡ size → Rising start (commas_from i bs) size
unfolding commas_from Rising
commas_rising start i [] size le is = omega arith
commas_rising start i (b ∷ bs) size le is =
    elim (nat_eq b 44) as (λ t. Rising start (cond t (i ∷ commas_from (i + 1) bs) (commas_from (i + 1) bs)) size) [
      | true ↦ (le, commas_rising (i + 1) (i + 1) bs size (omega arith) (omega arith))
      | false ↦ commas_rising start (i + 1) bs size (omega arith) (omega arith)
    ]

-- a text cut at its commas is the parts between them
longer_front : (front part : List ℕ) (b : ℕ) → length (front ++ (part ++ b ∷ [])) ≡ length front + length part + 1
longer_front front part b = omega (arith, length-append front (part ++ b ∷ []), length-append part (b ∷ []))

longer_part : (part : List ℕ) (b : ℕ) → length (part ++ b ∷ []) ≡ length part + 1
longer_part part b = omega (arith, length-append part (b ∷ []))

first_part : (start i : ℕ) (front part bs text : List ℕ) → start ≡ length front → i ≡ length front + length part → text ≡ front ++ (part ++ bs)
    → take (i - start) (drop start text) ≡ part
first_part start i front part bs text s j t =
    let n : i - start ≡ length part = omega arith in
    rw (n, s, t, drop_at front (part ++ bs) (length front) refl) (take_at part bs (length part) refl)

pub cut_from : (start i : ℕ) (front part bs text : List ℕ) → start ≡ length front → i ≡ length front + length part → text ≡ front ++ (part ++ bs)
    → cut_at start (commas_from i bs) text ≡ parts_from part bs
unfolding commas_from cut_at parts_from
cut_from start i front part [] text s j t = rw (s, t, append-nil part) (ap (λ z. z ∷ []) (drop_at front part (length front) refl))
cut_from start i front part (b ∷ bs) text s j t =
    elim (nat_eq b 44) as (λ c. cut_at start (cond c (i ∷ commas_from (i + 1) bs) (commas_from (i + 1) bs)) text ≡ cond c (part ∷ parts_from [] bs) (parts_from (part ++ b ∷ []) bs)) [
      | true ↦
          let first = first_part start i front part (b ∷ bs) text s j t in
          let longer : length (front ++ (part ++ b ∷ [])) ≡ length front + length part + 1 = longer_front front part b in
          let whole : text ≡ (front ++ (part ++ b ∷ [])) ++ bs = t ∙ ap (λ z. front ++ z) (sym (append_assoc part (b ∷ []) bs)) ∙ sym (append_assoc front (part ++ b ∷ []) bs) in
          let later = cut_from (i + 1) (i + 1) (front ++ (part ++ b ∷ [])) [] bs text (omega arith) (omega arith) whole in
          rw (first, later) refl
      | false ↦
          let longer : length (part ++ b ∷ []) ≡ length part + 1 = longer_part part b in
          cut_from start (i + 1) front (part ++ b ∷ []) bs text s (omega arith) (t ∙ ap (λ z. front ++ z) (sym (append_assoc part (b ∷ []) bs)))
    ]

-- the commas so far and those to come
pub commas_step : (es : List ℕ) (i : ℕ) (text : List ℕ) → i < length text → (get_or text i 0 ≡ 44 → ⊥) → es ++ commas_from i (drop i text) ≡ es ++ commas_from (i + 1) (drop (i + 1) text)
unfolding commas_from
commas_step es i text lt other = rw (drop_more text i 0 lt, ne_eqb (get_or text i 0) 44 other) refl

pub commas_found : (es : List ℕ) (i : ℕ) (text : List ℕ) → i < length text → get_or text i 0 ≡ 44 → es ++ commas_from i (drop i text) ≡ (es ++ i ∷ []) ++ commas_from (i + 1) (drop (i + 1) text)
unfolding commas_from
commas_found es i text lt hit = rw (drop_more text i 0 lt, hit) (sym (append_assoc es (i ∷ []) (commas_from (i + 1) (drop (i + 1) text))))

pub commas_done : (es : List ℕ) (i : ℕ) (text : List ℕ) → es ++ commas_from i (drop i text) ≡ commas_from 0 text → length text ≤ i → es ≡ commas_from 0 text
unfolding commas_from
commas_done es i text h le = sym (append-nil es) ∙ sym (ap (λ z. es ++ commas_from i z) (drop_all i text le)) ∙ h

pub cut_commas : (text : List ℕ) → cut_at 0 (commas_from 0 text) text ≡ parts_from [] text
cut_commas text = cut_from 0 0 [] [] text text refl refl refl

pub all_rising : (text : List ℕ) → Rising 0 (commas_from 0 text) (length text)
all_rising text = commas_rising 0 0 text (length text) (omega arith) (omega arith)
