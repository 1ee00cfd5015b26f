-- What the search for a line feed says of the pieces.
use Rattle.std.proofs.Common.{◌≡◌, ◌≤◌, ◌<◌, ◌+◌, ◌-◌, ◌++◌, [], ◌∷◌, ℕ, List, true, take, drop, length, nat_eq, get_or, add-one, arith, Some, None}
use Rattle.std.proofs.lemmas.List.{take_rest}
use Rattle.line_form.specs.Lines.{ended_from, rest_from}
use Rattle.line_form.proofs.Streams.{NoFeedBelow, ended_from-found, rest_from-found, ended_from-none, rest_from-none}
use Rattle.line_form.proofs.cutting.split_line.Goals as goal
use Rattle.memchr.specs.Find.{IsFirstByte, is_byte}

none_before : (bs : List ℕ) (k : ℕ) → ((j : ℕ) → 0 ≤ j → j < k → nat_eq (get_or bs j 0) 10 ≡ true → ⊥) → NoFeedBelow bs k
none_before bs k h j lt hit = h j (omega arith) lt hit

found : (bs : List ℕ) (k : ℕ) → IsFirstByte (is_byte 10) bs (Some k)
    → (q : List ℕ) → ended_from q bs ≡ (q ++ take k bs) ∷ ended_from [] (take (length bs - (k + 1)) (drop (k + 1) bs))
found bs k h q = rw (take_rest bs (k + 1), add-one) (ended_from-found q bs k h.0.high (none_before bs k h.0.before) h.1)

after : (bs : List ℕ) (k : ℕ) → IsFirstByte (is_byte 10) bs (Some k)
    → (q : List ℕ) → rest_from q bs ≡ rest_from [] (take (length bs - (k + 1)) (drop (k + 1) bs))
after bs k h q = rw (take_rest bs (k + 1), add-one) (rest_from-found q bs k h.0.high (none_before bs k h.0.before) h.1)

none : (bs : List ℕ) → IsFirstByte (is_byte 10) bs None → (q : List ℕ) → ended_from q bs ≡ []
none bs h q = ended_from-none q bs (none_before bs (length bs) h)

all : (bs : List ℕ) → IsFirstByte (is_byte 10) bs None → (q : List ℕ) → rest_from q bs ≡ q ++ bs
all bs h q = rest_from-none q bs (none_before bs (length bs) h)

pub returns-in_default-clause-none : goal.returns-in_default-clause-none
returns-in_default-clause-none c = none c.args.bytes.now c.in_default.ensures

pub returns-in_default-clause-all : goal.returns-in_default-clause-all
returns-in_default-clause-all c = all c.args.bytes.now c.in_default.ensures

pub returns-clause-found : goal.returns-clause-found
returns-clause-found c = found c.args.bytes.now c.in-Some.at c.in-Some.ensures

pub returns-clause-after : goal.returns-clause-after
returns-clause-after c = after c.args.bytes.now c.in-Some.at c.in-Some.ensures
