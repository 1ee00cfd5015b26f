-- The verdict on a document is the verdict on what its text says.
use Rattle.std.proofs.Common.{◌≡◌, ◌≢◌, ◌↔◌, ℕ, zero, suc, ◌+◌, ◌*◌, ◌^◌, ◌<◌, ◌≤◌, ℤ, pos, unsigned_abs, Bool, true, false, cond, List, [], ◌∷◌, length, map, get_or, Some, None, Ok, Err, refl, sym, ap, subst, ◌∙◌, zero-add, arith}
use Rattle.std.specs.Ordering.{int_eq}
use Rattle.std.proofs.lemmas.Bool.Decides.{Decides-int_eq}
use Rattle.std.proofs.lemmas.List.{get_or-map, length-map}
use Rattle.cert_read.proofs.Places.{rising_apart}
use Rattle.denton_parts.specs.Benchmarks.{MeetsBenchmarks, year_total}
use Rattle.denton_parts.specs.Ratios.{IsWithinGap}
use Rattle.denton_parts.specs.Changes.{changes}
use Rattle.denton_parts.specs.Gap.{gap_by}
use Rattle.denton_parts.specs.Year.{BenchmarkedYear}
use Rattle.denton_parts.specs.Years.{ArePlaces, years_at}
use Rattle.denton_parts.proofs.Places.{years_at-places}
use Rattle.dual_cert.specs.Sums.{AddsUp, IsFirstMissed}
use Rattle.dual_cert.specs.Verdict.{MeetsAll, IsFirstMissedYear, gap_of_document, IsWithinItsGap, years_of_document}
use Rattle.dual_cert.specs.declared.document.CertDoc.{CertDoc}
use Rattle.dual_cert.specs.declared.verdict.Verdict.{Verdict}
use Rattle.dual_cert.specs.declared.verdict.Verdict.TheVariants.{Yes, Sum, Gap}
use Rattle.dual_cert.proofs.Totals.{adds_up}
use Rattle.cert_read.specs.declared.fault.CertFault.{CertFault}
use Rattle.cert_read.specs.declared.fault.CertFault.TheVariants.{Shape, Range, Memory}
use Rattle.cert_read.specs.Content.{Content}
use Rattle.cert_read.specs.Reading.{reading, content_of, Fails}
use Rattle.cert_read.specs.Found.{gap_of_content, years_of, first_missed_among, verdict_with, verdict_of, judge, found, IsFound, CertifiesItsGap}

-- the test of two equal numbers, and of two that differ
pub equal : (x y : ℤ) → x ≡ y → int_eq x y ≡ true
equal x y e = (Decides-int_eq x y).1 e

false_unless : (b : Bool) → (b ≡ true → ⊥) → b ≡ false
false_unless true h = absurd (h refl)
false_unless false h = refl

differ : (x y : ℤ) → (x ≡ y → ⊥) → int_eq x y ≡ false
differ x y h = false_unless (int_eq x y) (λ e. h ((Decides-int_eq x y).0 e))

-- the first year that is missed is found
missed_from : (quarters : List ℤ) (years : List BenchmarkedYear) (k : ℕ) (d : BenchmarkedYear) → k < length years →
    (year_total quarters (get_or years k d).place ≡ (get_or years k d).benchmark → ⊥) →
    ((j : ℕ) → j < k → year_total quarters (get_or years j d).place ≡ (get_or years j d).benchmark) →
    first_missed_among quarters years ≡ Some (get_or years k d).place
missed_from quarters [] k d inside missed earlier = absurd (omega arith)
missed_from quarters (year ∷ later) zero d inside missed earlier =
    let test : int_eq (year_total quarters year.place) year.benchmark ≡ false = differ _ _ missed in
    rw test refl
missed_from quarters (year ∷ later) (suc k) d inside missed earlier =
    let test : int_eq (year_total quarters year.place) year.benchmark ≡ true = equal _ _ (earlier 0 (omega arith)) in
    rw test (missed_from quarters later k d (omega arith) missed (λ j h. earlier (suc j) (omega arith)))

-- and none where each year adds up
none_from : (quarters : List ℤ) (years : List BenchmarkedYear) →
    ((j : ℕ) (d : BenchmarkedYear) → j < length years →
    year_total quarters (get_or years j d).place ≡ (get_or years j d).benchmark) →
    first_missed_among quarters years ≡ None
none_from quarters [] each = refl
none_from quarters (year ∷ later) each =
    let test : int_eq (year_total quarters year.place) year.benchmark ≡ true = equal _ _ (each 0 year (omega arith)) in
    rw test (none_from quarters later (λ j d h. each (suc j) d (omega arith)))

first_missed_is : (years : List BenchmarkedYear) (quarters : List ℤ) (place : ℕ) →
    ArePlaces (length quarters) (map (λ year. year.place) years) → IsFirstMissed years quarters place →
    first_missed_among quarters years ≡ Some place
first_missed_is years quarters place are h =
    let year = h.missed in
    let count = length-map years (λ other. other.place) in
    let stands : (get_or years year.0 year.1).place ≡ place = ap (λ (y : BenchmarkedYear). y.place) year.3 ∙ year.4.0 in
    let missed : ¬ (AddsUp quarters (get_or years year.0 year.1)) =
    subst (λ (y : BenchmarkedYear). ¬ (AddsUp quarters y)) (sym year.3) year.4.1 in
    let at = λ (j : ℕ) (inside : j < length years).
    get_or-map (λ (y : BenchmarkedYear). y.place) years j year.1 0 inside in
    let whole : 4 * get_or (map (λ other. other.place) years) year.0 0 + 4 ≤ length quarters =
    are.whole_years year.0 0 (omega arith) in
    missed_from quarters years year.0 year.1 year.2
    (λ same. missed (let here = at year.0 year.2 in omega arith, same))
    (λ j before.
    let below = rising_apart (map (λ other. other.place) years) j year.0 are.rising before (omega arith) in
    let here = at year.0 year.2 in
    let there = at j (omega arith) in
    (h.earlier j year.1 (omega arith) (omega arith)).1)
    ∙ ap (λ (n : ℕ). Some n) stands

pub none_missed_is : (years : List BenchmarkedYear) (quarters : List ℤ) → MeetsBenchmarks years (pos 1) quarters →
    first_missed_among quarters years ≡ None
none_missed_is years quarters meets =
    none_from quarters years (λ j d inside. (adds_up years quarters meets j d inside).1)

-- the indicators of a document as its text says them
pub same_indicators : (ns : List ℕ) → map unsigned_abs (map pos ns) ≡ ns
same_indicators [] = refl
same_indicators (n ∷ ns) = ap (λ (ms : List ℕ). n ∷ ms) (same_indicators ns)

-- and its years
same_years : (doc : CertDoc) → years_of (content_of doc) ≡ years_of_document doc
same_years doc =
    ap (λ (is : List ℕ). years_at is doc.years.items doc.bench.items) (same_indicators doc.ind.items)

same_gap : (doc : CertDoc) → gap_of_content (content_of doc) ≡ gap_of_document doc
same_gap doc =
    ap (λ (is : List ℕ). gap_by (pos (10 ^ doc.scale)) is doc.x.items
    (changes (years_at is doc.years.items doc.bench.items) doc.u.items is)) (same_indicators doc.ind.items)

-- a document's years stand at its places
document_places : (doc : CertDoc) → ArePlaces (length doc.x.items) (map (λ year. year.place) (years_of_document doc))
document_places doc =
    let kept = doc.kept in
    let same : length doc.ind.items ≡ length doc.x.items = sym kept.quarters.same_length in
    let are : ArePlaces (length doc.x.items) doc.years.items =
    subst (λ (n : ℕ). ArePlaces n doc.years.items) same kept.whole_years in
    subst (ArePlaces (length doc.x.items))
    (sym (years_at-places doc.ind.items doc.years.items doc.bench.items kept.placed)) are

-- the verdict by the gap, where no year is missed
abbrev chosen : ℤ → ℤ → Verdict
chosen said other = cond (int_eq said other) Yes (Gap said other)

pub by_gap : (said : Content) (other : ℤ) (v : Verdict) → first_missed_among said.x (years_of said) ≡ None → gap_of_content said ≡ other → chosen said.gap other ≡ v → verdict_of said ≡ v
unfolding verdict_of
by_gap said other v none e same = ap (verdict_with said) none ∙ (ap (chosen said.gap) e ∙ same)

by_sum : (said : Content) (place : ℕ) → first_missed_among said.x (years_of said) ≡ Some place → verdict_of said ≡ Sum (said.start + place)
unfolding verdict_of
by_sum said place e = ap (verdict_with said) e

pub chosen_yes : (said other : ℤ) → said ≡ other → chosen said other ≡ Yes
chosen_yes said other e = rw (equal said other e) refl

chosen_gap : (said other : ℤ) → (said ≡ other → ⊥) → chosen said other ≡ Gap said other
chosen_gap said other h = rw (differ said other h) refl

-- what a document's text misses is what the document does
none_of : (doc : CertDoc) → MeetsAll doc → first_missed_among doc.x.items (years_of (content_of doc)) ≡ None
none_of doc meets =
    ap (first_missed_among doc.x.items) (same_years doc) ∙ none_missed_is (years_of_document doc) doc.x.items meets

first_of : (doc : CertDoc) (place : ℕ) → IsFirstMissed (years_of_document doc) doc.x.items place →
    first_missed_among doc.x.items (years_of (content_of doc)) ≡ Some place
first_of doc place first =
    ap (first_missed_among doc.x.items) (same_years doc)
    ∙ first_missed_is (years_of_document doc) doc.x.items place (document_places doc) first

-- what a check of a document finds is the verdict on what the document says
pub verdict_is : (doc : CertDoc) (v : Verdict) → ((year : ℕ) → (v ≡ Sum year) ↔ IsFirstMissedYear doc year)
    → ((said other : ℤ) → (v ≡ Gap said other) ↔ (MeetsAll doc × (said ≡ doc.gap) × (other ≡ gap_of_document doc) × (said ≢ other)))
    → ((v ≡ Yes) ↔ (MeetsAll doc × (doc.gap ≡ gap_of_document doc))) → verdict_of (content_of doc) ≡ v
verdict_is doc Yes sum gap good =
    let h = good.0 refl in
    by_gap (content_of doc) (gap_of_document doc) Yes (none_of doc h.0) (same_gap doc) (chosen_yes doc.gap (gap_of_document doc) h.1)
verdict_is doc (Sum year) sum gap good =
    let h = (sum year).0 refl in
    by_sum (content_of doc) h.0 (first_of doc h.0 h.2) ∙ ap (λ (n : ℕ). Sum n) (sym h.1)
verdict_is doc (Gap said other) sum gap good =
    let h = (gap said other).0 refl in
    let differs : doc.gap ≡ gap_of_document doc → ⊥ = λ e. h.3 (h.1 ∙ e ∙ sym h.2) in
    by_gap (content_of doc) (gap_of_document doc) (Gap said other) (none_of doc h.0) (same_gap doc)
    (chosen_gap doc.gap (gap_of_document doc) differs ∙ (ap (λ (z : ℤ). Gap z (gap_of_document doc)) (sym h.1) ∙ ap (λ (z : ℤ). Gap said z) (sym h.2)))

-- so it is what is found of the text
pub found_is : (text : List ℕ) (said : Content) (v : Verdict) → reading text ≡ Ok said → verdict_of said ≡ v → found text ≡ Ok v
unfolding found
found_is text said v read e = ap judge read ∙ ap (λ (w : Verdict). Ok w) e

-- and a text that isn't read is refused with the reading's fault
pub refused_is : (text : List ℕ) (fault : CertFault) → Fails fault (reading text) → IsFound (Err fault) (found text)
unfolding found
refused_is text Memory h = tt
refused_is text (Shape line) h = ap judge h
refused_is text (Range line) h = ap judge h

-- a document within its gap is what its text certifies
pub certifies : (text : List ℕ) (doc : CertDoc) → reading text ≡ Ok (content_of doc) → MeetsAll doc → IsWithinItsGap doc → CertifiesItsGap text
unfolding CertifiesItsGap
certifies text doc read meets within = (
  content_of doc,
  read,
  subst (λ (years : List BenchmarkedYear). MeetsBenchmarks years (pos 1) doc.x.items) (sym (same_years doc)) meets,
  subst (λ (is : List ℕ). IsWithinGap is (years_at is doc.years.items doc.bench.items) doc.x.items doc.gap
      (pos (10 ^ doc.scale))) (sym (same_indicators doc.ind.items)) within,
)
