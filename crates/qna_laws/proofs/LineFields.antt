-- The parts of a printed line between commas are its word and its fields.
use Rattle.std.proofs.Common.{◌≡◌, ◌∙◌, ℕ, ◌≤◌, false, nat_eq, List, [], ◌∷◌, ◌++◌, refl, ap, append_assoc, append-nil, arith}
use Rattle.std.proofs.lemmas.Bool.{ne_eqb}
use Rattle.line_form.specs.Fields.{parts_from, is_special}
use Rattle.line_form.specs.Lines.{ended_from, rest_from, without_return}
use Rattle.std.specs.List.{list_any}
use Rattle.release_print.specs.Line.{fields_text, line_text}
use Rattle.qna_laws.proofs.Fields.{AreAtLeast, at_least_append, at_least_lower}

-- a line's fields, each behind a comma, without the line feed
abbrev pub fields_body : List (List ℕ) → List ℕ
fields_body [] = []
fields_body (field ∷ fields) = 44 ∷ (field ++ fields_body fields)

abbrev pub line_body : List ℕ → List (List ℕ) → List ℕ
line_body word fields = word ++ fields_body fields

pub fields_end : (fields : List (List ℕ)) → fields_text fields ≡ fields_body fields ++ 10 ∷ []
fields_end [] = refl
fields_end (field ∷ fields) = ap (λ (z : List ℕ). 44 ∷ z) (rw (fields_end fields, append_assoc) refl)

pub line_end : (word : List ℕ) (fields : List (List ℕ)) → line_text word fields ≡ line_body word fields ++ 10 ∷ []
line_end word fields = rw (fields_end fields, append_assoc) refl

-- no field has a comma
abbrev pub AreFields : List (List ℕ) → Type 0
AreFields [] = Unit {0}
AreFields (field ∷ fields) = AreAtLeast 45 field × AreFields fields

pub fields_plain : (fields : List (List ℕ)) → AreFields fields → AreAtLeast 44 (fields_body fields)
fields_plain [] a = tt
fields_plain (field ∷ fields) a = (omega arith, at_least_append 44 field (fields_body fields) (at_least_lower 45 44 field (omega arith) a.0) (fields_plain fields a.1))

parts_word : (p f rest : List ℕ) → AreAtLeast 45 f → parts_from p (f ++ rest) ≡ parts_from (p ++ f) rest
unfolding parts_from
parts_word p [] rest a = rw append-nil refl
parts_word p (c ∷ cs) rest a =
    let above : 45 ≤ c = a.0 in
    let other : nat_eq c 44 ≡ false = ne_eqb c 44 (λ e. omega arith) in
    rw other (parts_word (p ++ c ∷ []) cs rest a.1 ∙ ap (λ (z : List ℕ). parts_from z rest) (append_assoc p (c ∷ []) cs))

parts_fields : (p : List ℕ) (fields : List (List ℕ)) → AreFields fields → parts_from p (fields_body fields) ≡ p ∷ fields
unfolding parts_from
parts_fields p [] a = refl
parts_fields p (field ∷ fields) a = ap (λ (z : List (List ℕ)). p ∷ z) (parts_word [] field (fields_body fields) a.0 ∙ parts_fields field fields a.1)

pub parts_line : (word : List ℕ) (fields : List (List ℕ)) → AreAtLeast 45 word → AreFields fields → parts_from [] (line_body word fields) ≡ word ∷ fields
parts_line word fields w a = parts_word [] word (fields_body fields) w ∙ parts_fields word fields a

-- a plain line is one piece of a stream, and ends it
pub piece_ended : (p body rest : List ℕ) → AreAtLeast 44 body → ended_from p (body ++ 10 ∷ rest) ≡ (p ++ body) ∷ ended_from [] rest
unfolding ended_from
piece_ended p [] rest a = rw append-nil refl
piece_ended p (c ∷ cs) rest a =
    let above : 44 ≤ c = a.0 in
    let other : nat_eq c 10 ≡ false = ne_eqb c 10 (λ e. omega arith) in
    rw other (piece_ended (p ++ c ∷ []) cs rest a.1 ∙ ap (λ (z : List ℕ). z ∷ ended_from [] rest) (append_assoc p (c ∷ []) cs))

pub rest_ended : (p body rest : List ℕ) → AreAtLeast 44 body → rest_from p (body ++ 10 ∷ rest) ≡ rest_from [] rest
unfolding rest_from
rest_ended p [] rest a = refl
rest_ended p (c ∷ cs) rest a =
    let above : 44 ≤ c = a.0 in
    let other : nat_eq c 10 ≡ false = ne_eqb c 10 (λ e. omega arith) in
    rw other (rest_ended (p ++ c ∷ []) cs rest a.1)

-- a plain line ends with no carriage return
pub return_kept : (body : List ℕ) → AreAtLeast 44 body → without_return body ≡ body
unfolding without_return
return_kept [] a = refl
return_kept (c ∷ []) a = let above : 44 ≤ c = a.0 in let other : nat_eq c 13 ≡ false = ne_eqb c 13 (λ e. omega arith) in rw other refl
return_kept (c ∷ d ∷ ds) a = ap (λ (z : List ℕ). c ∷ z) (return_kept (d ∷ ds) a.1)

-- no byte of a plain line is special
pub none_special : (body : List ℕ) → AreAtLeast 44 body → list_any is_special body ≡ false
none_special [] a = refl
none_special (c ∷ cs) a =
    let above : 44 ≤ c = a.0 in
    let quote : nat_eq c 34 ≡ false = ne_eqb c 34 (λ e. omega arith) in
    let feed : nat_eq c 10 ≡ false = ne_eqb c 10 (λ e. omega arith) in
    let back : nat_eq c 13 ≡ false = ne_eqb c 13 (λ e. omega arith) in
    rw (quote, feed, back) (none_special cs a.1)
