-- A printed line of a certificate is read as its statement.
use Rattle.std.proofs.Common.{◌≡◌, ◌∙◌, ℕ, ◌^◌, ◌<◌, ◌≤◌, ℤ, unsigned_abs, false, List, [], ◌∷◌, ◌++◌, length, get_or, map, codes, Option, Some, option_map, option_and_then, refl, ap, append_assoc, append-nil, length-append, arith}
use Rattle.std.proofs.Math.Dec.{lit≤}
use Rattle.std.proofs.lemmas.Bool.{le-leb}
use Rattle.std.specs.Fmt.{signed_decimal}
use Rattle.csv.specs.Reading.{strip_bom}
use Rattle.period_keys.specs.Period.{Named, year_of, quarter_of, year_text, quarter_text}
use Rattle.line_form.specs.Fields.{parts_from, record_of}
use Rattle.line_form.specs.Number.{number_of}
use Rattle.line_form.specs.Lines.{ended_from, rest_from, line_at, next_number, numbered, lines_of, is_comment}
use Rattle.line_form.proofs.CsvRecords.{plain_line}
use Rattle.cert_read.specs.Statement.{Statement, certificate_line, scale_line, start_line, indicator_line, benchmark_line, value_line, multiplier_line, gap_line, end_line, statement_of, both}
use Rattle.cert_read.specs.Reading.{said, kept}
use Rattle.release_print.specs.Certificate.{statement_text, statements_text}
use Rattle.qna_laws.proofs.Fields.{AreAtLeast, at_least_append, at_least_lower, signed_clear, signed_length, number_is}
use Rattle.qna_laws.proofs.LineFields.{fields_body, line_body, line_end, AreFields, fields_plain, parts_line, piece_ended, rest_ended, return_kept, none_special}

-- what is written for a period is read again
abbrev pub AreYearsRead : Type 0
AreYearsRead = (y : ℕ) → y < 10000 → year_of (year_text y) ≡ Some y

abbrev pub AreQuartersRead : Type 0
AreQuartersRead = (q : Named) → q.year < 10000 → 1 ≤ q.number → q.number ≤ 4 → quarter_of (quarter_text q) ≡ Some q

-- a quarter of a year of four digits
pub record IsNamed (q : Named) : Type 0 where
  pub year : q.year < 10000
  pub least : 1 ≤ q.number
  pub most : q.number ≤ 4

-- a number of at most 37 digits
abbrev pub IsSmall : ℤ → Type 0
IsSmall v = unsigned_abs v < 10 ^ 37

-- a statement whose line is short and plain
abbrev pub IsFine : Statement → Type 0
IsFine (certificate_line name front) = AreAtLeast 45 name × (length name ≤ 32) × IsSmall front
IsFine (scale_line k) = IsSmall k
IsFine (start_line year) = year < 10000
IsFine (indicator_line quarter value) = IsNamed quarter × IsSmall value
IsFine (benchmark_line year value) = (year < 10000) × IsSmall value
IsFine (value_line quarter value) = IsNamed quarter × IsSmall value
IsFine (multiplier_line year value) = (year < 10000) × IsSmall value
IsFine (gap_line value) = IsSmall value
IsFine end_line = Unit {0}

-- a statement's line without the line feed
abbrev pub body_of : Statement → List ℕ
body_of (certificate_line name front) = line_body (codes "cert") (name ∷ signed_decimal front ∷ [])
body_of (scale_line k) = line_body (codes "scale") (signed_decimal k ∷ [])
body_of (start_line year) = line_body (codes "start") (year_text year ∷ [])
body_of (indicator_line quarter value) = line_body (codes "i") (quarter_text quarter ∷ signed_decimal value ∷ [])
body_of (benchmark_line year value) = line_body (codes "b") (year_text year ∷ signed_decimal value ∷ [])
body_of (value_line quarter value) = line_body (codes "x") (quarter_text quarter ∷ signed_decimal value ∷ [])
body_of (multiplier_line year value) = line_body (codes "u") (year_text year ∷ signed_decimal value ∷ [])
body_of (gap_line value) = line_body (codes "gap") (signed_decimal value ∷ [])
body_of end_line = line_body (codes "end") []

pub body_end : (s : Statement) → statement_text s ≡ body_of s ++ 10 ∷ []
body_end (certificate_line name front) = line_end (codes "cert") (name ∷ signed_decimal front ∷ [])
body_end (scale_line k) = line_end (codes "scale") (signed_decimal k ∷ [])
body_end (start_line year) = line_end (codes "start") (year_text year ∷ [])
body_end (indicator_line quarter value) = line_end (codes "i") (quarter_text quarter ∷ signed_decimal value ∷ [])
body_end (benchmark_line year value) = line_end (codes "b") (year_text year ∷ signed_decimal value ∷ [])
body_end (value_line quarter value) = line_end (codes "x") (quarter_text quarter ∷ signed_decimal value ∷ [])
body_end (multiplier_line year value) = line_end (codes "u") (year_text year ∷ signed_decimal value ∷ [])
body_end (gap_line value) = line_end (codes "gap") (signed_decimal value ∷ [])
body_end end_line = line_end (codes "end") []

pub year_clear : (year : ℕ) → AreAtLeast 45 (year_text year)
year_clear year = (omega arith, (omega arith, (omega arith, (omega arith, tt))))

pub quarter_clear : (q : Named) → AreAtLeast 45 (quarter_text q)
quarter_clear q = (omega arith, (omega arith, (omega arith, (omega arith, (omega arith, (omega arith, tt))))))

number_clear : (v : ℤ) → IsSmall v → AreAtLeast 45 (signed_decimal v)
number_clear v small = let wide : unsigned_abs v < 10 ^ 64 = omega arith in signed_clear v wide

number_short : (v : ℤ) → IsSmall v → length (signed_decimal v) ≤ 38
number_short v small = let wide : unsigned_abs v < 10 ^ 64 = omega arith in signed_length 37 v (omega arith) small wide

one_letter : (c : ℕ) → 45 ≤ c → AreAtLeast 45 (c ∷ [])
one_letter c above = (above, tt)

cert_word : AreAtLeast 45 (codes "cert")
cert_word = (lit≤ tt, (lit≤ tt, (lit≤ tt, (lit≤ tt, tt))))

scale_word : AreAtLeast 45 (codes "scale")
scale_word = (lit≤ tt, (lit≤ tt, (lit≤ tt, (lit≤ tt, (lit≤ tt, tt)))))

start_word : AreAtLeast 45 (codes "start")
start_word = (lit≤ tt, (lit≤ tt, (lit≤ tt, (lit≤ tt, (lit≤ tt, tt)))))

gap_word : AreAtLeast 45 (codes "gap")
gap_word = (lit≤ tt, (lit≤ tt, (lit≤ tt, tt)))

end_word : AreAtLeast 45 (codes "end")
end_word = (lit≤ tt, (lit≤ tt, (lit≤ tt, tt)))

letter_word : (c : ℕ) → 45 ≤ c → AreAtLeast 45 (c ∷ [])
letter_word c above = (above, tt)

pub line_plain : (word : List ℕ) (fields : List (List ℕ)) → AreAtLeast 45 word → AreFields fields → AreAtLeast 44 (line_body word fields)
line_plain word fields w a = at_least_append 44 word (fields_body fields) (at_least_lower 45 44 word (omega arith) w) (fields_plain fields a)

pub body_plain : (s : Statement) → IsFine s → AreAtLeast 44 (body_of s)
body_plain (certificate_line name front) f = line_plain (codes "cert") (name ∷ signed_decimal front ∷ []) cert_word (f.0, (number_clear front f.2, tt))
body_plain (scale_line k) f = line_plain (codes "scale") (signed_decimal k ∷ []) scale_word (number_clear k f, tt)
body_plain (start_line year) f = line_plain (codes "start") (year_text year ∷ []) start_word (year_clear year, tt)
body_plain (indicator_line quarter value) f = line_plain (codes "i") (quarter_text quarter ∷ signed_decimal value ∷ []) (letter_word 105 (lit≤ tt)) (quarter_clear quarter, (number_clear value f.1, tt))
body_plain (benchmark_line year value) f = line_plain (codes "b") (year_text year ∷ signed_decimal value ∷ []) (letter_word 98 (lit≤ tt)) (year_clear year, (number_clear value f.1, tt))
body_plain (value_line quarter value) f = line_plain (codes "x") (quarter_text quarter ∷ signed_decimal value ∷ []) (letter_word 120 (lit≤ tt)) (quarter_clear quarter, (number_clear value f.1, tt))
body_plain (multiplier_line year value) f = line_plain (codes "u") (year_text year ∷ signed_decimal value ∷ []) (letter_word 117 (lit≤ tt)) (year_clear year, (number_clear value f.1, tt))
body_plain (gap_line value) f = line_plain (codes "gap") (signed_decimal value ∷ []) gap_word (number_clear value f, tt)
body_plain end_line f = line_plain (codes "end") [] end_word tt

both_are : {A B C : Type 0} (make : A → B → C) (o : Option A) (p : Option B) (a : A) (b : B) → o ≡ Some a → p ≡ Some b → both make o p ≡ Some (make a b)
both_are make o p a b e f = rw (e, f) refl

mapped : {A B : Type 0} (make : A → B) (o : Option A) (a : A) → o ≡ Some a → option_map make o ≡ Some (make a)
mapped make o a e = rw e refl

wide_from : (v : ℤ) → IsSmall v → unsigned_abs v < 10 ^ 64
wide_from v small = omega arith

pub body_says : AreYearsRead → AreQuartersRead → (s : Statement) → IsFine s → statement_of (parts_from [] (body_of s)) ≡ Some s
unfolding statement_of
body_says years quarters (certificate_line name front) f =
    ap statement_of (parts_line (codes "cert") (name ∷ signed_decimal front ∷ []) cert_word (f.0, (number_clear front f.2, tt)))
    ∙ mapped (certificate_line name) (number_of (signed_decimal front)) front (number_is front (wide_from front f.2))
body_says years quarters (scale_line k) f =
    ap statement_of (parts_line (codes "scale") (signed_decimal k ∷ []) scale_word (number_clear k f, tt)) ∙ mapped scale_line (number_of (signed_decimal k)) k (number_is k (wide_from k f))
body_says years quarters (start_line year) f =
    ap statement_of (parts_line (codes "start") (year_text year ∷ []) start_word (year_clear year, tt)) ∙ mapped start_line (year_of (year_text year)) year (years year f)
body_says years quarters (indicator_line quarter value) f =
    ap statement_of (parts_line (codes "i") (quarter_text quarter ∷ signed_decimal value ∷ []) (letter_word 105 (lit≤ tt)) (quarter_clear quarter, (number_clear value f.1, tt)))
    ∙ both_are indicator_line (quarter_of (quarter_text quarter)) (number_of (signed_decimal value)) quarter value (quarters quarter f.0.year f.0.least f.0.most) (number_is value (wide_from value f.1))
body_says years quarters (benchmark_line year value) f =
    ap statement_of (parts_line (codes "b") (year_text year ∷ signed_decimal value ∷ []) (letter_word 98 (lit≤ tt)) (year_clear year, (number_clear value f.1, tt)))
    ∙ both_are benchmark_line (year_of (year_text year)) (number_of (signed_decimal value)) year value (years year f.0) (number_is value (wide_from value f.1))
body_says years quarters (value_line quarter value) f =
    ap statement_of (parts_line (codes "x") (quarter_text quarter ∷ signed_decimal value ∷ []) (letter_word 120 (lit≤ tt)) (quarter_clear quarter, (number_clear value f.1, tt)))
    ∙ both_are value_line (quarter_of (quarter_text quarter)) (number_of (signed_decimal value)) quarter value (quarters quarter f.0.year f.0.least f.0.most) (number_is value (wide_from value f.1))
body_says years quarters (multiplier_line year value) f =
    ap statement_of (parts_line (codes "u") (year_text year ∷ signed_decimal value ∷ []) (letter_word 117 (lit≤ tt)) (year_clear year, (number_clear value f.1, tt)))
    ∙ both_are multiplier_line (year_of (year_text year)) (number_of (signed_decimal value)) year value (years year f.0) (number_is value (wide_from value f.1))
body_says years quarters (gap_line value) f =
    ap statement_of (parts_line (codes "gap") (signed_decimal value ∷ []) gap_word (number_clear value f, tt)) ∙ mapped gap_line (number_of (signed_decimal value)) value (number_is value (wide_from value f))
body_says years quarters end_line f = ap statement_of (parts_line (codes "end") [] end_word tt)

-- no line is empty, a comment, or begins with a mark's first byte
pub body_some : (s : Statement) → 0 < length (body_of s)
body_some (certificate_line name front) = omega arith
body_some (scale_line k) = omega arith
body_some (start_line year) = omega arith
body_some (indicator_line quarter value) = omega arith
body_some (benchmark_line year value) = omega arith
body_some (value_line quarter value) = omega arith
body_some (multiplier_line year value) = omega arith
body_some (gap_line value) = omega arith
body_some end_line = omega arith

pub body_first : (s : Statement) → get_or (body_of s) 0 0 ≤ 122
body_first (certificate_line name front) = lit≤ tt
body_first (scale_line k) = lit≤ tt
body_first (start_line year) = lit≤ tt
body_first (indicator_line quarter value) = lit≤ tt
body_first (benchmark_line year value) = lit≤ tt
body_first (value_line quarter value) = lit≤ tt
body_first (multiplier_line year value) = lit≤ tt
body_first (gap_line value) = lit≤ tt
body_first end_line = lit≤ tt

pub no_comment : (s : Statement) → is_comment (body_of s) ≡ false
no_comment (certificate_line name front) = refl
no_comment (scale_line k) = refl
no_comment (start_line year) = refl
no_comment (indicator_line quarter value) = refl
no_comment (benchmark_line year value) = refl
no_comment (value_line quarter value) = refl
no_comment (multiplier_line year value) = refl
no_comment (gap_line value) = refl
no_comment end_line = refl

pub no_mark : (s : Statement) (rest : List ℕ) → strip_bom (statement_text s ++ rest) ≡ statement_text s ++ rest
unfolding strip_bom
no_mark (certificate_line name front) rest = refl
no_mark (scale_line k) rest = refl
no_mark (start_line year) rest = refl
no_mark (indicator_line quarter value) rest = refl
no_mark (benchmark_line year value) rest = refl
no_mark (value_line quarter value) rest = refl
no_mark (multiplier_line year value) rest = refl
no_mark (gap_line value) rest = refl
no_mark end_line rest = refl

pub body_short : (s : Statement) → IsFine s → length (body_of s) ≤ 256
body_short (certificate_line name front) f = let few : length name ≤ 32 = f.1 in omega (arith, length-append {A = ℕ}, number_short front f.2)
body_short (scale_line k) f = omega (arith, length-append {A = ℕ}, number_short k f)
body_short (start_line year) f = omega (arith, length-append {A = ℕ})
body_short (indicator_line quarter value) f = omega (arith, length-append {A = ℕ}, number_short value f.1)
body_short (benchmark_line year value) f = omega (arith, length-append {A = ℕ}, number_short value f.1)
body_short (value_line quarter value) f = omega (arith, length-append {A = ℕ}, number_short value f.1)
body_short (multiplier_line year value) f = omega (arith, length-append {A = ℕ}, number_short value f.1)
body_short (gap_line value) f = omega (arith, length-append {A = ℕ}, number_short value f)
body_short end_line f = omega arith

-- the line of a number that a fine statement's text makes
pub body_line : (n : ℕ) (s : Statement) → IsFine s → line_at n (body_of s) ≡ record { number = n; long = false; text = body_of s }
unfolding line_at
body_line n s f = rw (return_kept (body_of s) (body_plain s f), le-leb (length (body_of s)) 256 (body_short s f)) refl

body_record : (s : Statement) → IsFine s → record_of (body_of s) ≡ Some (parts_from [] (body_of s))
body_record s f = plain_line (body_of s) (body_some s) (λ e. let h = body_first s in omega arith) (none_special (body_of s) (body_plain s f))

pub body_said : AreYearsRead → AreQuartersRead → (n : ℕ) (s : Statement) → IsFine s → said (record { number = n; long = false; text = body_of s }) ≡ Some s
body_said years quarters n s f = ap (λ (o : Option (List (List ℕ))). option_and_then statement_of o) (body_record s f) ∙ body_says years quarters s f

abbrev pub AreFine : List Statement → Type 0
AreFine [] = Unit {0}
AreFine (s ∷ ss) = IsFine s × AreFine ss

pub kept_says : AreYearsRead → AreQuartersRead → (n : ℕ) (ss : List Statement) → AreFine ss → map (λ p. p.says) (kept (numbered n (map body_of ss))) ≡ map (λ (s : Statement). Some s) ss
unfolding numbered
kept_says years quarters n [] f = refl
kept_says years quarters n (s ∷ ss) f =
    rw (body_line (next_number n) s f.0, no_comment s, body_said years quarters (next_number n) s f.0, kept_says years quarters (next_number n) ss f.1) refl

pub pieces_of : (ss : List Statement) → AreFine ss → ended_from [] (statements_text ss) ≡ map body_of ss
unfolding ended_from
pieces_of [] f = refl
pieces_of (s ∷ ss) f =
    ap (ended_from []) (ap (λ (z : List ℕ). z ++ statements_text ss) (body_end s) ∙ append_assoc (body_of s) (10 ∷ []) (statements_text ss))
    ∙ piece_ended [] (body_of s) (statements_text ss) (body_plain s f.0) ∙ ap (λ (z : List (List ℕ)). body_of s ∷ z) (pieces_of ss f.1)

pub none_left : (ss : List Statement) → AreFine ss → rest_from [] (statements_text ss) ≡ []
unfolding rest_from
none_left [] f = refl
none_left (s ∷ ss) f =
    ap (rest_from []) (ap (λ (z : List ℕ). z ++ statements_text ss) (body_end s) ∙ append_assoc (body_of s) (10 ∷ []) (statements_text ss))
    ∙ rest_ended [] (body_of s) (statements_text ss) (body_plain s f.0) ∙ none_left ss f.1

text_unmarked : (ss : List Statement) → strip_bom (statements_text ss) ≡ statements_text ss
unfolding strip_bom
text_unmarked [] = refl
text_unmarked (s ∷ ss) = no_mark s (statements_text ss)

-- the lines of fine statements say the statements
pub printed_says : AreYearsRead → AreQuartersRead → (ss : List Statement) → AreFine ss → map (λ p. p.says) (kept (lines_of (statements_text ss))) ≡ map (λ (s : Statement). Some s) ss
unfolding lines_of
printed_says years quarters ss f = rw (text_unmarked ss, pieces_of ss f, none_left ss f, append-nil) (kept_says years quarters 0 ss f)
