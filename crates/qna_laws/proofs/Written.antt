-- A written journal is read as the inputs that it holds.
use Rattle.std.proofs.Common.{◌≡◌, ◌∙◌, ℕ, zero, suc, ◌+◌, ◌-◌, ◌*◌, ◌/◌, ◌%◌, ◌^◌, ◌<◌, ◌≤◌, ℤ, pos, neg_ℤ, ◌≤ℤ◌, unsigned_abs, Bool, true, false, ◌&&◌, int_le, nat_lt, List, [], ◌∷◌, ◌++◌, length, get_or, map, take, codes, Option, Some, None, Ok, option_map, refl, sym, ap, subst, append_assoc, append-nil, length-append, arith}
use Rattle.std.specs.Prelude.{nat_le}
use Rattle.std.specs.List.{All, AllByRecursion, filter_map}
use Rattle.std.specs.Fmt.{decimal, signed_decimal}
use Rattle.std.specs.Int.{int_min, int_max}
use Rattle.std.proofs.Math.Dec.{lit≤}
use Rattle.std.proofs.lemmas.Bool.{le-leb, lt-ltb}
use Rattle.std.proofs.lemmas.Int.{ints}
use Rattle.std.proofs.lemmas.List.{take_all, length-map}
use Rattle.std.proofs.lemmas.List.Elements.{recursion_from_All}
use Rattle.std.proofs.lemmas.Option.{slice_get-get_or}
use Rattle.csv.specs.Reading.{strip_bom}
use Rattle.line_form.specs.Fields.{parts_from, record_of}
use Rattle.line_form.specs.Lines.{TextLine, ended_from, rest_from, line_at, next_number, numbered, lines_of, is_comment}
use Rattle.line_form.specs.Number.{number_of, cut_to}
use Rattle.line_form.proofs.CsvRecords.{plain_line}
use Rattle.period_keys.specs.Period.{Named, year_of, quarter_of, year_text, quarter_text, is_within}
use Rattle.series_tables.specs.Fits.{FitsPlan}
use Rattle.series_tables.specs.IsPlan.{IsPlan}
use Rattle.series_tables.specs.LastValue.{periods_of, least_of, most_of}
use Rattle.series_tables.specs.Plan.{PlanShape, item_with_name, is_leaf}
use Rattle.series_tables.specs.declared.input.Input.{Input}
use Rattle.series_tables.specs.declared.input.Kind.{Kind}
use Rattle.series_tables.specs.declared.input.Kind.TheVariants.{Indicator, Benchmark, Price}
use Rattle.series_tables.proofs.Distinct.{name_at, name_found}
use Rattle.input_rules.specs.Accepted.{judged_lines, taken, accepted_of, accepted, refusals, refusals_of, refusals_after}
use Rattle.input_rules.specs.Judgement.{is_zero_indicator, is_in_range, leaf_with_name, judgement_of_leaf, judgement}
use Rattle.input_rules.specs.Lines.{judged_line, judged_meaning}
use Rattle.input_rules.specs.Requests.{Asked, kind_of, year_place, quarter_place, period_of, value_bound, value_of, is_desk, input_with, input_of_kind, request_of, request_or_form, meaning_of_fields}
use Rattle.input_rules.specs.Requests.{input as asks}
use Rattle.input_rules.specs.declared.lines.Judged.{Judged}
use Rattle.input_rules.specs.declared.lines.Judged.TheVariants.{Taken}
use Rattle.cert_read.specs.Content.{quarter_from}
use Rattle.accounts_history.specs.History.{Sent, journal, inputs_of}
use Rattle.accounts_history.specs.declared.entry.Entry.{Entry}
use Rattle.release_print.specs.Journal.{kind_word, period_text, sent_line, sent_lines, journal_text}
use Rattle.release_print.specs.Line.{line_text, name_of}
use Rattle.qna_laws.proofs.Fields.{AreAtLeast, number_is, signed_clear, signed_length, decimal_spells}
use Rattle.qna_laws.proofs.LineFields.{fields_body, line_body, line_end, AreFields, parts_line, piece_ended, rest_ended, return_kept, none_special}
use Rattle.qna_laws.proofs.Printed.{name_fine}
use Rattle.qna_laws.proofs.Statements.{AreYearsRead, AreQuartersRead, line_plain, year_clear, quarter_clear}

-- an input of a desk that is written and read as the same: its leaf's name is that of no other item, and all else is in range
record IsFineSent (plan : PlanShape) (sent : Sent) : Type 0 where
  pub name : AreAtLeast 45 (name_of plan.names sent.input.leaf)
  pub short : length (name_of plan.names sent.input.leaf) ≤ 32
  pub found : leaf_with_name plan (name_of plan.names sent.input.leaf) ≡ Some sent.input.leaf
  pub period : sent.input.period < periods_of sent.input.kind
  pub least : least_of sent.input.kind ≤ℤ sent.input.value
  pub most : sent.input.value ≤ℤ most_of sent.input.kind
  pub start : plan.start ≤ 2200
  pub first : 1 ≤ sent.party
  pub last : sent.party ≤ 16

-- ---- its line

-- the fields behind the word, and the line without the line feed
abbrev fields_of : PlanShape → Sent → List (List ℕ)
fields_of plan sent = name_of plan.names sent.input.leaf ∷ period_text sent.input.kind plan.start sent.input.period ∷ signed_decimal sent.input.value ∷ signed_decimal (pos sent.party) ∷ []

abbrev body_of : PlanShape → Sent → List ℕ
body_of plan sent = line_body (kind_word sent.input.kind) (fields_of plan sent)

word_clear : (kind : Kind) → AreAtLeast 45 (kind_word kind)
word_clear Indicator = (lit≤ tt, (lit≤ tt, (lit≤ tt, tt)))
word_clear Benchmark = (lit≤ tt, (lit≤ tt, (lit≤ tt, (lit≤ tt, (lit≤ tt, tt)))))
word_clear Price = (lit≤ tt, (lit≤ tt, (lit≤ tt, (lit≤ tt, (lit≤ tt, tt)))))

period_clear : (kind : Kind) (start period : ℕ) → AreAtLeast 45 (period_text kind start period)
period_clear Indicator start period = quarter_clear (quarter_from start period)
period_clear Benchmark start period = year_clear (start + period)
period_clear Price start period = quarter_clear (quarter_from start period)

-- values of a kind are within 10^12
value_small : (kind : Kind) (value : ℤ) → least_of kind ≤ℤ value → value ≤ℤ most_of kind → unsigned_abs value ≤ 10 ^ 12
value_small Indicator value low high = omega (arith, ints)
value_small Benchmark value low high = omega (arith, ints)
value_small Price value low high = omega (arith, ints)

fields_clear : (plan : PlanShape) (sent : Sent) → IsFineSent plan sent → AreFields (fields_of plan sent)
fields_clear plan sent fine =
    let small = value_small sent.input.kind sent.input.value fine.least fine.most in
    let wide : unsigned_abs sent.input.value < 10 ^ 64 = omega arith in
    let desk : unsigned_abs (pos sent.party) < 10 ^ 64 = omega (arith, fine.last) in
    (fine.name, (period_clear sent.input.kind plan.start sent.input.period, (signed_clear sent.input.value wide, (signed_clear (pos sent.party) desk, tt))))

body_plain : (plan : PlanShape) (sent : Sent) → IsFineSent plan sent → AreAtLeast 44 (body_of plan sent)
body_plain plan sent fine = line_plain (kind_word sent.input.kind) (fields_of plan sent) (word_clear sent.input.kind) (fields_clear plan sent fine)

body_end : (plan : PlanShape) (sent : Sent) → sent_line plan sent ≡ body_of plan sent ++ 10 ∷ []
body_end plan sent = line_end (kind_word sent.input.kind) (fields_of plan sent)

-- it is no comment, has a byte, and begins with no byte order mark
no_comment : (kind : Kind) (fields : List (List ℕ)) → is_comment (line_body (kind_word kind) fields) ≡ false
no_comment Indicator fields = refl
no_comment Benchmark fields = refl
no_comment Price fields = refl

body_some : (kind : Kind) (fields : List (List ℕ)) → 0 < length (line_body (kind_word kind) fields)
body_some Indicator fields = omega arith
body_some Benchmark fields = omega arith
body_some Price fields = omega arith

body_first : (kind : Kind) (fields : List (List ℕ)) → get_or (line_body (kind_word kind) fields) 0 0 ≤ 122
body_first Indicator fields = lit≤ tt
body_first Benchmark fields = lit≤ tt
body_first Price fields = lit≤ tt

no_mark : (kind : Kind) (fields : List (List ℕ)) (rest : List ℕ) → strip_bom (line_text (kind_word kind) fields ++ rest) ≡ line_text (kind_word kind) fields ++ rest
unfolding strip_bom
no_mark Indicator fields rest = refl
no_mark Benchmark fields rest = refl
no_mark Price fields rest = refl

-- it is short
word_short : (kind : Kind) → length (kind_word kind) ≤ 5
word_short Indicator = omega arith
word_short Benchmark = omega arith
word_short Price = omega arith

period_short : (kind : Kind) (start period : ℕ) → length (period_text kind start period) ≤ 6
period_short Indicator start period = omega (arith, length-append {A = ℕ})
period_short Benchmark start period = omega arith
period_short Price start period = omega (arith, length-append {A = ℕ})

body_short : (plan : PlanShape) (sent : Sent) → IsFineSent plan sent → length (body_of plan sent) ≤ 256
body_short plan sent fine =
    let small = value_small sent.input.kind sent.input.value fine.least fine.most in
    let value = signed_length 13 sent.input.value (omega arith) (omega arith) (omega arith) in
    let desk = signed_length 13 (pos sent.party) (omega arith) (omega (arith, fine.last)) (omega (arith, fine.last)) in
    let name : List ℕ = name_of plan.names sent.input.leaf in
    let period : List ℕ = period_text sent.input.kind plan.start sent.input.period in
    let d : List ℕ = signed_decimal (pos sent.party) in
    let v : List ℕ = signed_decimal sent.input.value in
    omega (
      arith,
      fine.short,
      value,
      desk,
      word_short sent.input.kind,
      period_short sent.input.kind plan.start sent.input.period,
      length-append (kind_word sent.input.kind) (fields_body (fields_of plan sent)),
      length-append name (44 ∷ (period ++ 44 ∷ (v ++ 44 ∷ (d ++ [])))),
      length-append period (44 ∷ (v ++ 44 ∷ (d ++ []))),
      length-append v (44 ∷ (d ++ [])),
      length-append {A = ℕ} d [],
    )

body_line : (n : ℕ) (plan : PlanShape) (sent : Sent) → IsFineSent plan sent → line_at n (body_of plan sent) ≡ record { number = n; long = false; text = body_of plan sent }
unfolding line_at
body_line n plan sent fine = rw (return_kept (body_of plan sent) (body_plain plan sent fine), le-leb (length (body_of plan sent)) 256 (body_short plan sent fine)) refl

body_record : (plan : PlanShape) (sent : Sent) → IsFineSent plan sent → record_of (body_of plan sent) ≡ Some (kind_word sent.input.kind ∷ fields_of plan sent)
body_record plan sent fine =
    plain_line (body_of plan sent) (body_some sent.input.kind (fields_of plan sent)) (λ e. let h = body_first sent.input.kind (fields_of plan sent) in omega arith) (none_special (body_of plan sent) (body_plain plan sent fine))
    ∙ ap (λ (fields : List (List ℕ)). Some fields) (parts_line (kind_word sent.input.kind) (fields_of plan sent) (word_clear sent.input.kind) (fields_clear plan sent fine))

-- ---- what its fields ask for

word_kind : (kind : Kind) → kind_of (kind_word kind) ≡ Some kind
word_kind Indicator = refl
word_kind Benchmark = refl
word_kind Price = refl

within_years : (start year : ℕ) → start ≤ year → year < start + 64 → is_within start year ≡ true
within_years start year low high = rw (le-leb start year low, lt-ltb year (start + 64) high) refl

quarter_read : AreQuartersRead → (start period : ℕ) → start ≤ 2200 → period < 256 → option_map (quarter_place start) (quarter_of (quarter_text (quarter_from start period))) ≡ Some (Some period)
quarter_read quarters start period late few =
    let read = quarters (quarter_from start period) (omega arith) (omega arith) (omega arith) in
    let place : 4 * (start + period / 4 - start) + (period % 4 + 1 - 1) ≡ period = omega arith in
    rw (read, within_years start (start + period / 4) (omega arith) (omega arith), place) refl

year_read : AreYearsRead → (start period : ℕ) → start ≤ 2200 → period < 64 → option_map (year_place start) (year_of (year_text (start + period))) ≡ Some (Some period)
year_read years start period late few =
    let read = years (start + period) (omega arith) in
    let place : start + period - start ≡ period = omega arith in
    rw (read, within_years start (start + period) (omega arith) (omega arith), place) refl

period_read : AreYearsRead → AreQuartersRead → (kind : Kind) (start period : ℕ) → start ≤ 2200 → period < periods_of kind → period_of kind start (period_text kind start period) ≡ Some (Some period)
period_read years quarters Indicator start period late few = quarter_read quarters start period late few
period_read years quarters Benchmark start period late few = year_read years start period late few
period_read years quarters Price start period late few = quarter_read quarters start period late few

cut_small : (value : ℤ) → unsigned_abs value ≤ 10 ^ 12 → cut_to value_bound value ≡ value
cut_small value small = grind (arith, ints)

value_read : (value : ℤ) → unsigned_abs value ≤ 10 ^ 12 → value_of (signed_decimal value) ≡ Some value
value_read value small = rw (number_is value (omega arith), cut_small value small) refl

desk_read : (party : ℕ) → 1 ≤ party → party ≤ 16 → is_desk (number_of (signed_decimal (pos party))) ≡ true
desk_read party low high = rw (number_is (pos party) (omega arith)) (in_desks party low high)
  where
    in_desks : (party : ℕ) → 1 ≤ party → party ≤ 16 → (int_le (pos 1) (pos party) && int_le (pos party) (pos 16)) ≡ true
    in_desks party low high = grind arith

fields_ask : AreYearsRead → AreQuartersRead → (plan : PlanShape) (sent : Sent) → IsFineSent plan sent → request_of plan.start (kind_word sent.input.kind ∷ fields_of plan sent)
    ≡ Some (asks (record { kind = sent.input.kind; name = name_of plan.names sent.input.leaf; period = Some sent.input.period; value = sent.input.value }))
fields_ask years quarters plan sent fine =
    let small = value_small sent.input.kind sent.input.value fine.least fine.most in
    rw (
      desk_read sent.party fine.first fine.last,
      word_kind sent.input.kind,
      period_read years quarters sent.input.kind plan.start sent.input.period fine.start fine.period,
      value_read sent.input.value small,
    ) refl

-- ---- how it is judged

not_zero : (kind : Kind) (value : ℤ) → least_of kind ≤ℤ value → is_zero_indicator kind value ≡ false
not_zero Indicator value least = let above : int_le value (pos 0) ≡ false = grind arith in grind arith
not_zero Benchmark value least = refl
not_zero Price value least = refl

in_range : (kind : Kind) (period : ℕ) (value : ℤ) → period < periods_of kind → least_of kind ≤ℤ value → value ≤ℤ most_of kind → is_in_range kind period value ≡ true
in_range kind period value few least most =
    let low : int_le (least_of kind) value ≡ true = grind arith in
    let high : int_le value (most_of kind) ≡ true = grind arith in
    rw (lt-ltb period (periods_of kind) few, low, high) refl

input_judged : (plan : PlanShape) (sent : Sent) → IsFineSent plan sent → judgement plan sent.input.kind (name_of plan.names sent.input.leaf) (Some sent.input.period) sent.input.value ≡ Ok sent.input
input_judged plan sent fine =
    rw (fine.found, not_zero sent.input.kind sent.input.value fine.least, in_range sent.input.kind sent.input.period sent.input.value fine.period fine.least fine.most, judgement) refl

line_judged : AreYearsRead → AreQuartersRead → (n : ℕ) (plan : PlanShape) (sent : Sent) → IsFineSent plan sent → judged_line plan (record { number = n; long = false; text = body_of plan sent }) ≡ Taken sent.input
unfolding judged_line
line_judged years quarters n plan sent fine =
    rw (no_comment sent.input.kind (fields_of plan sent), body_record plan sent fine, fields_ask years quarters plan sent fine, input_judged plan sent fine) refl

-- ---- all lines

all_taken : AreYearsRead → AreQuartersRead → (n : ℕ) (plan : PlanShape) (sents : List Sent) → AllByRecursion (IsFineSent plan) sents → filter_map taken (judged_lines plan (numbered n (map (body_of plan) sents))) ≡ map (λ sent. sent.input) sents
unfolding numbered
all_taken years quarters n plan [] fine = refl
all_taken years quarters n plan (sent ∷ sents) fine =
    rw (body_line (next_number n) plan sent fine.0, line_judged years quarters (next_number n) plan sent fine.0, all_taken years quarters (next_number n) plan sents fine.1) refl

pieces_of : (plan : PlanShape) (sents : List Sent) → AllByRecursion (IsFineSent plan) sents → ended_from [] (sent_lines plan sents) ≡ map (body_of plan) sents
unfolding ended_from
pieces_of plan [] fine = refl
pieces_of plan (sent ∷ sents) fine =
    ap (ended_from []) (ap (λ (z : List ℕ). z ++ sent_lines plan sents) (body_end plan sent) ∙ append_assoc (body_of plan sent) (10 ∷ []) (sent_lines plan sents))
    ∙ piece_ended [] (body_of plan sent) (sent_lines plan sents) (body_plain plan sent fine.0) ∙ ap (λ (z : List (List ℕ)). body_of plan sent ∷ z) (pieces_of plan sents fine.1)

none_left : (plan : PlanShape) (sents : List Sent) → AllByRecursion (IsFineSent plan) sents → rest_from [] (sent_lines plan sents) ≡ []
unfolding rest_from
none_left plan [] fine = refl
none_left plan (sent ∷ sents) fine =
    ap (rest_from []) (ap (λ (z : List ℕ). z ++ sent_lines plan sents) (body_end plan sent) ∙ append_assoc (body_of plan sent) (10 ∷ []) (sent_lines plan sents))
    ∙ rest_ended [] (body_of plan sent) (sent_lines plan sents) (body_plain plan sent fine.0) ∙ none_left plan sents fine.1

text_unmarked : (plan : PlanShape) (sents : List Sent) → strip_bom (sent_lines plan sents) ≡ sent_lines plan sents
unfolding strip_bom
text_unmarked plan [] = refl
text_unmarked plan (sent ∷ sents) = no_mark sent.input.kind (fields_of plan sent) (sent_lines plan sents)

lines_taken : AreYearsRead → AreQuartersRead → (plan : PlanShape) (sents : List Sent) → AllByRecursion (IsFineSent plan) sents → filter_map taken (judged_lines plan (lines_of (sent_lines plan sents))) ≡ map (λ sent. sent.input) sents
unfolding lines_of
lines_taken years quarters plan sents fine = rw (text_unmarked plan sents, pieces_of plan sents fine, none_left plan sents fine, append-nil) (all_taken years quarters 0 plan sents fine)

-- none of them is refused
none_refused : AreYearsRead → AreQuartersRead → (before n : ℕ) (plan : PlanShape) (sents : List Sent) → AllByRecursion (IsFineSent plan) sents → before + length sents ≤ 262144 → refusals_after plan before (numbered n (map (body_of plan) sents)) ≡ []
unfolding numbered refusals_after
none_refused years quarters before n plan [] fine few = refl
none_refused years quarters before n plan (sent ∷ sents) fine few =
    let room : nat_lt before 262144 ≡ true = lt-ltb before 262144 (omega (arith, few)) in
    rw (body_line (next_number n) plan sent fine.0, line_judged years quarters (next_number n) plan sent fine.0, room) (none_refused years quarters (before + 1) (next_number n) plan sents fine.1 (omega (arith, few)))

lines_unrefused : AreYearsRead → AreQuartersRead → (plan : PlanShape) (sents : List Sent) → AllByRecursion (IsFineSent plan) sents → length sents ≤ 262144 → refusals_after plan 0 (lines_of (sent_lines plan sents)) ≡ []
unfolding lines_of
lines_unrefused years quarters plan sents fine few =
    rw (text_unmarked plan sents, pieces_of plan sents fine, none_left plan sents fine, append-nil) (none_refused years quarters 0 0 plan sents fine (omega (arith, few)))

-- ---- what a line fixes

-- the desk stands in the fifth field
abbrev desk_of : Option (List (List ℕ)) → Option ℤ
desk_of None = None
desk_of (Some fields) = number_of (get_or fields 4 [])

desk_written : (plan : PlanShape) (sent : Sent) → IsFineSent plan sent → desk_of (record_of (body_of plan sent)) ≡ Some (pos sent.party)
desk_written plan sent fine = ap desk_of (body_record plan sent fine) ∙ number_is (pos sent.party) (omega (arith, fine.last))

line_fixed : AreYearsRead → AreQuartersRead → (plan : PlanShape) (one other : Sent) → IsFineSent plan one → IsFineSent plan other → body_of plan one ≡ body_of plan other → one ≡ other
line_fixed years quarters plan one other fine also same = by one other party input
  where
    party : one.party ≡ other.party
    party =
        let desks : Some (pos one.party) ≡ Some (pos other.party) = sym (desk_written plan one fine) ∙ ap (λ (body : List ℕ). desk_of (record_of body)) same ∙ desk_written plan other also in
        cc

    input : one.input ≡ other.input
    input =
        let judged : Taken one.input ≡ Taken other.input =
        sym (line_judged years quarters 1 plan one fine) ∙ ap (λ (body : List ℕ). judged_line plan (record { number = 1; long = false; text = body })) same ∙ line_judged years quarters 1 plan other also in
        cc

    by : (one other : Sent) → one.party ≡ other.party → one.input ≡ other.input → one ≡ other
    by one other p i = ap (λ (q : ℕ). record { party = q; input = one.input }) p ∙ ap (λ (j : Input). record { party = other.party; input = j }) i

lines_fixed : AreYearsRead → AreQuartersRead → (plan : PlanShape) (one other : List Sent) → AllByRecursion (IsFineSent plan) one → AllByRecursion (IsFineSent plan) other → map (body_of plan) one ≡ map (body_of plan) other → one ≡ other
lines_fixed years quarters plan [] [] fine also same = refl
lines_fixed years quarters plan [] (o ∷ other) fine also same = absurd (cc)
lines_fixed years quarters plan (s ∷ one) [] fine also same = absurd (cc)
lines_fixed years quarters plan (s ∷ one) (o ∷ other) fine also same =
    let head : body_of plan s ≡ body_of plan o = cc in
    let tail : map (body_of plan) one ≡ map (body_of plan) other = cc in
    ap (λ (t : Sent). t ∷ one) (line_fixed years quarters plan s o fine.0 also.0 head) ∙ ap (λ (ts : List Sent). o ∷ ts) (lines_fixed years quarters plan one other fine.1 also.1 tail)

-- ---- the inputs of a journal

-- an input that fits, of a desk
sent_fine : (plan : PlanShape) (sent : Sent) → IsPlan plan → FitsPlan plan sent.input → 1 ≤ sent.party → sent.party ≤ 16 → IsFineSent plan sent
sent_fine plan sent kept fits first last =
    let leaf : ℕ = sent.input.leaf in
    let there = slice_get-get_or plan.names leaf [] fits.room.item in
    let named = name_fine (name_of plan.names leaf) (name_at plan.names leaf (name_of plan.names leaf) kept.names there) in
    let found : item_with_name plan (name_of plan.names leaf) ≡ Some leaf = name_found plan.names leaf (name_of plan.names leaf) kept.names there in
    let own : is_leaf plan leaf ≡ true = fits.leaf in
    record {
      name = named.0;
      short = named.1;
      found = rw (found, own, leaf_with_name) refl;
      period = fits.room.period;
      least = fits.room.least;
      most = fits.room.most;
      start = kept.last;
      first = first;
      last = last;
    }

all_fine : (plan : PlanShape) (sents : List Sent) → IsPlan plan → All (FitsPlan plan) (map (λ sent. sent.input) sents) → All (λ sent. (1 ≤ sent.party) × (sent.party ≤ 16)) sents → AllByRecursion (IsFineSent plan) sents
all_fine plan [] kept fit desks = tt
all_fine plan (sent ∷ sents) kept fit desks =
    let desk = desks 0 sent (omega arith) in
    (sent_fine plan sent kept (fit 0 sent.input (omega arith)) desk.0 desk.1, all_fine plan sents kept (λ k d below. fit (suc k) d (omega arith)) (λ k d below. desks (suc k) d (omega arith)))

-- the text of a journal is read as its inputs
pub journal_read : AreYearsRead → AreQuartersRead → (plan : PlanShape) (history : List Entry) → IsPlan plan → All (FitsPlan plan) (inputs_of history) → length (journal history) ≤ 262144 → All (λ sent. (1 ≤ sent.party) × (sent.party ≤ 16)) (journal history)
    → accepted plan (journal_text plan history) ≡ inputs_of history
unfolding accepted accepted_of journal_text
journal_read years quarters plan history kept fit few desks =
    let sents : List Sent = journal history in
    ap (take 262144) (lines_taken years quarters plan sents (all_fine plan sents kept fit desks))
    ∙ take_all 262144 (inputs_of history) (omega (arith, few, length-map sents (λ sent. sent.input)))

-- no line of it is refused
pub journal_unrefused : AreYearsRead → AreQuartersRead → (plan : PlanShape) (history : List Entry) → IsPlan plan → All (FitsPlan plan) (inputs_of history) → length (journal history) ≤ 262144 → All (λ sent. (1 ≤ sent.party) × (sent.party ≤ 16)) (journal history)
    → refusals plan (journal_text plan history) ≡ []
unfolding refusals refusals_of journal_text
journal_unrefused years quarters plan history kept fit few desks = lines_unrefused years quarters plan (journal history) (all_fine plan (journal history) kept fit desks) few

-- it fixes the journal
pub journal_fixed : AreYearsRead → AreQuartersRead → (plan : PlanShape) (one other : List Entry) → IsPlan plan → All (FitsPlan plan) (inputs_of one) → All (FitsPlan plan) (inputs_of other)
    → All (λ sent. (1 ≤ sent.party) × (sent.party ≤ 16)) (journal one) → All (λ sent. (1 ≤ sent.party) × (sent.party ≤ 16)) (journal other)
    → journal_text plan one ≡ journal_text plan other → journal one ≡ journal other
unfolding journal_text
journal_fixed years quarters plan one other kept fit also desks more same =
    let fine : AllByRecursion (IsFineSent plan) (journal one) = all_fine plan (journal one) kept fit desks in
    let fine_too : AllByRecursion (IsFineSent plan) (journal other) = all_fine plan (journal other) kept also more in
    lines_fixed years quarters plan (journal one) (journal other) fine fine_too
    (sym (pieces_of plan (journal one) fine) ∙ ap (ended_from []) same ∙ pieces_of plan (journal other) fine_too)
