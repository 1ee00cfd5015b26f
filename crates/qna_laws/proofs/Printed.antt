-- A printed certificate is read as what it says.
use Rattle.std.proofs.Common.{◌≡◌, ℕ, ◌+◌, ◌*◌, ◌^◌, ◌<◌, ◌≤◌, suc, ℤ, pos, ◌≤ℤ◌, unsigned_abs, true, ◌&&◌, leb, List, [], ◌∷◌, ◌++◌, length, get_or, map, Ok, refl, sym, ap, subst, arith}
use Rattle.std.proofs.lemmas.Bool.{and_parts, leb-true}
use Rattle.std.proofs.lemmas.Bool.Decides.{nat_tests}
use Rattle.std.proofs.lemmas.Int.{ints}
use Rattle.std.proofs.lemmas.List.{length-map}
use Rattle.std.proofs.Math.ListN.{get_or-map}
use Rattle.std.proofs.Math.Nat.{div-le_self}
use Rattle.std.specs.List.{All, list_all}
use Rattle.line_form.specs.Lines.{lines_of, next_number}
use Rattle.period_keys.specs.Period.{Named}
use Rattle.price_base.specs.declared.Cell.{Cell}
use Rattle.denton_parts.specs.Benchmarks.{MeetsBenchmarks}
use Rattle.denton_parts.specs.Changes.{changes}
use Rattle.denton_parts.specs.Gap.{gap_by}
use Rattle.denton_parts.specs.Years.{ArePlaces}
use Rattle.dual_cert.specs.declared.document.CertDoc.{CertDoc}
use Rattle.dual_cert.specs.Verdict.{MeetsAll, gap_of_document}
use Rattle.dual_cert.specs.Document.{IsDocument, IsQuarterValue}
use Rattle.line_form.specs.Name.{is_name, is_name_byte}
use Rattle.cert_read.specs.Statement.{Statement, indicator_line, benchmark_line, value_line, multiplier_line}
use Rattle.cert_read.specs.Content.{Content, nothing, quarter_from, quarterly, yearly, spelled}
use Rattle.cert_read.specs.Reading.{kept, last_number, read_lines, reading, content_of as content_of_document}
use Rattle.cert_read.proofs.Runs.{IsWhole, run_all, run_read, all_lines}
use Rattle.node_compile.specs.Laws.{numbers_in}
use Rattle.node_compile.specs.Table.{Certificate, years_of_certificate}
use Rattle.release_print.specs.Certificate.{statements_text, content_of}
use Rattle.qna_laws.proofs.Fields.{AreAtLeast}
use Rattle.qna_laws.proofs.Statements.{AreYearsRead, AreQuartersRead, IsNamed, IsSmall, IsFine, AreFine, printed_says}

-- a certificate with the shape and the ranges of a document is whole
pub whole_from : (start front : ℕ) (name : List ℕ) (c : Certificate) (values : List Cell) →
    IsDocument name front c.scale start c.places c.indicators c.benchmarks (numbers_in values) c.multipliers c.gap →
    IsWhole (content_of start name front c values)
whole_from start front name c values k =
    let count : length (map pos c.indicators) ≡ length c.indicators = length-map c.indicators pos in
    record {
      named = k.named;
      front_low = omega (arith, ints);
      front_high = omega (arith, ints, k.front_in_range);
      scale_low = omega (arith, ints);
      scale_high = omega (arith, ints, k.quarters.scale_in_range);
      first_start = k.first_start;
      last_start = k.last_start;
      most = omega (arith, k.few);
      some_year = k.some_year;
      placed = k.placed;
      whole_years = subst (λ (n : ℕ). ArePlaces n c.places) (sym count) k.whole_years;
      same_length = omega (arith, k.quarters.same_length);
      joints = k.joints;
      ind_low = λ t inside. let within : t < length c.indicators = omega arith in let one : 1 ≤ get_or c.indicators t 0 = (k.quarters.each_indicator t within).0 in subst (λ (z : ℤ). pos 1 ≤ℤ z) (sym (get_or-map pos c.indicators t 0)) (omega (arith, ints));
      ind_high = λ t inside. let within : t < length c.indicators = omega arith in let most : get_or c.indicators t 0 ≤ 10 ^ 9 = (k.quarters.each_indicator t within).1 in subst (λ (z : ℤ). z ≤ℤ pos (10 ^ 9)) (sym (get_or-map pos c.indicators t 0)) (omega (arith, ints));
      benchmarks = k.each_benchmark;
      values = λ t inside. let within : t < length c.indicators = omega (arith, k.quarters.same_length) in subst (λ (z : ℤ). IsQuarterValue c.scale (unsigned_abs z) (get_or (numbers_in values) t (pos 0))) (sym (get_or-map pos c.indicators t 0)) (k.quarters.each_value t within);
      multipliers = k.each_multiplier;
      gap_low = k.least_gap;
      gap_high = k.most_gap;
    }

-- the bytes of a name
byte_above : (b : ℕ) → is_name_byte b ≡ true → 45 ≤ b
byte_above b e = grind (arith, nat_tests)

name_bytes : (name : List ℕ) → list_all is_name_byte name ≡ true → AreAtLeast 45 name
name_bytes [] e = tt
name_bytes (b ∷ bs) e = let both = and_parts (is_name_byte b) (list_all is_name_byte bs) e in (byte_above b both.0, name_bytes bs both.1)

pub name_fine : (name : List ℕ) → is_name name ≡ true → AreAtLeast 45 name × (length name ≤ 32)
name_fine name e =
    let outer = and_parts (leb 1 (length name) && leb (length name) 32) (list_all is_name_byte name) e in
    let inner = and_parts (leb 1 (length name)) (leb (length name) 32) outer.0 in
    (name_bytes name outer.1, leb-true (length name) 32 inner.1)

fine_append : (ss ts : List Statement) → AreFine ss → AreFine ts → AreFine (ss ++ ts)
fine_append [] ts a b = b
fine_append (s ∷ ss) ts a b = (a.0, fine_append ss ts a.1 b)

named_fine : (start t : ℕ) → start ≤ 2200 → t < 256 → IsNamed (quarter_from start t)
named_fine start t last few = record { year = omega arith; least = omega arith; most = omega arith }

abbrev AreSmall : List ℤ → Type 0
AreSmall vs = (i : ℕ) → i < length vs → IsSmall (get_or vs i (pos 0))

quarterly_fine : (line : Named → ℤ → Statement) → ((q : Named) (v : ℤ) → IsNamed q → IsSmall v → IsFine (line q v)) → (start t : ℕ) (vs : List ℤ) → start ≤ 2200 → t + length vs ≤ 256 → AreSmall vs → AreFine (quarterly line start t vs)
quarterly_fine line fine start t [] last few small = tt
quarterly_fine line fine start t (v ∷ vs) last few small =
    let here : t < 256 = omega arith in
    let first : IsSmall v = small 0 (omega arith) in
    (fine (quarter_from start t) v (named_fine start t last here) first, quarterly_fine line fine start (t + 1) vs last (omega arith) (λ i lt. small (suc i) (omega arith)))

yearly_fine : (line : ℕ → ℤ → Statement) → ((y : ℕ) (v : ℤ) → y < 10000 → IsSmall v → IsFine (line y v)) →
    (start : ℕ) (places : List ℕ) (vs : List ℤ) → All (λ place. start + place < 10000) places → AreSmall vs →
    AreFine (yearly line start places vs)
yearly_fine line fine start [] vs few small = tt
yearly_fine line fine start (place ∷ places) [] few small = tt
yearly_fine line fine start (place ∷ places) (v ∷ vs) few small =
    let first : IsSmall v = small 0 (omega arith) in
    let year : start + place < 10000 = few 0 0 (omega arith) in (
      fine (start + place) v year first,
      yearly_fine line fine start places vs (λ k d inside. few (suc k) d (omega arith))
          (λ i lt. small (suc i) (omega arith)),
    )

-- the years at the places of a certificate have four digits
years_few : (start quarters : ℕ) (places : List ℕ) → start ≤ 2200 → quarters ≤ 256 → ArePlaces quarters places →
    All (λ place. start + place < 10000) places
years_few start quarters places last few are k d inside = let whole = are.whole_years k d inside in omega arith

indicator_small : (v : ℤ) → pos 1 ≤ℤ v → v ≤ℤ pos (10 ^ 9) → IsSmall v
indicator_small v low high = omega (arith, ints)

value_small : (k i : ℕ) (v : ℤ) → i ≤ 10 ^ 9 → IsQuarterValue k i v → IsSmall v
value_small k i v few h = omega (arith, div-le_self (10 ^ 16 * i) (10 ^ k))

size_of : (z : ℤ) → pos 1 ≤ℤ z → z ≤ℤ pos (10 ^ 9) → unsigned_abs z ≤ 10 ^ 9
size_of z low high = omega (arith, ints)

gap_small : (v : ℤ) → pos 0 ≤ℤ v → v ≤ℤ pos (10 ^ 36) → IsSmall v
gap_small v low high = omega (arith, ints)

pub spelled_fine : (start front : ℕ) (name : List ℕ) (c : Certificate) (values : List Cell) → IsWhole (content_of start name front c values) → AreFine (spelled (content_of start name front c values))
unfolding spelled
spelled_fine start front name c values w =
    let n = name_fine name w.named in
    let fronts : IsSmall (pos front) = gap_small (pos front) w.front_low (omega (arith, ints, w.front_high)) in
    let scales : IsSmall (pos c.scale) = gap_small (pos c.scale) w.scale_low (omega (arith, ints, w.scale_high)) in
    let start_small : start < 10000 = omega (arith, w.last_start) in
    let years = years_few start (length (map pos c.indicators)) c.places w.last_start w.most w.whole_years in (
      (n.0, n.1, fronts),
      (
        scales,
        (
          start_small,
          fine_append (quarterly indicator_line start 0 (map pos c.indicators)) _
              (quarterly_fine indicator_line (λ q v a b. (a, b)) start 0 (map pos c.indicators) w.last_start (omega (arith, w.most)) (λ i lt. indicator_small _ (w.ind_low i lt) (w.ind_high i lt)))
              (fine_append (yearly benchmark_line start c.places c.benchmarks) _
              (yearly_fine benchmark_line (λ y v a b. (a, b)) start c.places c.benchmarks years
              (λ i lt. let h = w.benchmarks i lt in omega (arith, ints)))
              (fine_append (quarterly value_line start 0 (numbers_in values)) _
              (quarterly_fine value_line (λ q v a b. (a, b)) start 0 (numbers_in values) w.last_start (omega (arith, w.most, w.same_length)) (λ i lt. let within : i < length (map pos c.indicators) = omega (arith, w.same_length) in value_small c.scale (unsigned_abs (get_or (map pos c.indicators) i (pos 0))) (get_or (numbers_in values) i (pos 0)) (size_of (get_or (map pos c.indicators) i (pos 0)) (w.ind_low i within) (w.ind_high i within)) (w.values i lt)))
              (fine_append (yearly multiplier_line start c.places c.multipliers) _
              (yearly_fine multiplier_line (λ y v a b. (a, b)) start c.places c.multipliers years
              (λ i lt. let h = w.multipliers i lt in omega (arith, ints)))
              (gap_small c.gap w.gap_low w.gap_high, (tt, tt))))),
        ),
      ),
    )

-- so its text is read as what it says
pub printed_read : AreYearsRead → AreQuartersRead → (start front : ℕ) (name : List ℕ) (c : Certificate)
    (values : List Cell) →
    IsDocument name front c.scale start c.places c.indicators c.benchmarks (numbers_in values) c.multipliers c.gap →
    reading (statements_text (spelled (content_of start name front c values)))
    ≡ Ok (content_of start name front c values)
unfolding reading read_lines spelled
printed_read years quarters start front name c values k =
    let d = content_of start name front c values in
    let whole : IsWhole d = whole_from start front name c values k in
    let lines = lines_of (statements_text (spelled d)) in
    let says = printed_says years quarters (spelled d) (spelled_fine start front name c values whole) in
    let r = run_read (next_number (last_number 0 lines)) nothing d (all_lines d) (kept lines) (run_all d whole) says refl in
    rw (r.0, r.1) refl

numbers_same : (xs ys : List ℕ) → map pos xs ≡ map pos ys → xs ≡ ys
numbers_same [] [] e = refl
numbers_same [] (y ∷ ys) e = absurd (cc)
numbers_same (x ∷ xs) [] e = absurd (cc)
numbers_same (x ∷ xs) (y ∷ ys) e =
    let here : x ≡ y = cc in
    let later : map pos xs ≡ map pos ys = cc in
    rw (here, numbers_same xs ys later) refl

-- a document with these numbers is one that a check says yes of
pub document_true : (doc : CertDoc) (start front : ℕ) (name : List ℕ) (c : Certificate) (values : List Cell) →
    content_of_document doc ≡ content_of start name front c values →
    MeetsBenchmarks (years_of_certificate c) (pos 1) (numbers_in values) →
    c.gap ≡ gap_by (pos (10 ^ c.scale)) c.indicators (numbers_in values)
    (changes (years_of_certificate c) c.multipliers c.indicators) → MeetsAll doc × (doc.gap ≡ gap_of_document doc)
document_true doc start front name c values e meets stated =
    let places : doc.years.items ≡ c.places = ap (λ (d : Content). d.places) e in
    let bench : doc.bench.items ≡ c.benchmarks = ap (λ (d : Content). d.bench) e in
    let x : doc.x.items ≡ numbers_in values = ap (λ (d : Content). d.x) e in
    let u : doc.u.items ≡ c.multipliers = ap (λ (d : Content). d.u) e in
    let gap : doc.gap ≡ c.gap = ap (λ (d : Content). d.gap) e in
    let ind : doc.ind.items ≡ c.indicators = numbers_same doc.ind.items c.indicators (ap (λ (d : Content). d.ind) e) in
    let scales : pos doc.scale ≡ pos c.scale = ap (λ (d : Content). d.scale) e in
    let scale : doc.scale ≡ c.scale = cc in
    (rw (ind, places, bench, x) meets, rw (gap, ind, places, bench, x, u, scale) stated)
