-- A whole content with its numbers in range is a document's.
use Rattle.std.proofs.Common.{◌≡◌, ℕ, ◌+◌, ◌*◌, ◌^◌, ◌≤◌, ◌<◌, ℤ, pos, ◌≤ℤ◌, List, length, map, get_or, EachIndex, unsigned_abs, negsuc, FitsSigned, to_z, of_z, refl, sym, ap, subst, ◌∙◌, arith}
use Rattle.std.specs.Int.{w128}
use Rattle.std.proofs.lemmas.Int.{ints, to_z-of_z}
use Rattle.std.specs.List.{All}
use Rattle.std.proofs.lemmas.List.{length-map, get_or_default}
use Rattle.denton_parts.specs.Year.{IsBenchmark}
use Rattle.std.proofs.Math.ListN.{get_or-map}
use Rattle.denton_parts.specs.Years.{ArePlaces}
use Rattle.dual_cert.specs.Document.{IsDocument, IsQuarterValue}
use Rattle.cert_read.specs.Content.{Content, IsInOrder, HasRanges}

-- the lists of a document: as many indicators, each the same number
record IsSame (ind : List ℕ) (raw : List ℤ) : Type 0 where
  each : (t : ℕ) → get_or raw t (pos 0) ≡ pos (get_or ind t 0)
  count : length raw ≡ length ind

same : (ind : List ℕ) (raw : List ℤ) → map pos ind ≡ raw → IsSame ind raw
same ind raw e = record { each = λ t. subst (λ (zs : List ℤ). get_or zs t (pos 0) ≡ pos (get_or ind t 0)) e (get_or-map pos ind t 0); count = subst (λ (zs : List ℤ). length zs ≡ length ind) e (length-map ind pos) }

-- a whole content has the three lines at the head
pub all_heads : (d : Content) → IsInOrder d → d.tail ≡ 2 → d.heads ≡ 3
all_heads d order whole =
    let placed = order.placed in
    let joined : length d.u + 1 ≡ length d.bench = order.joined (omega arith) in
    let year : 4 * get_or d.places 0 0 + 4 ≤ length d.ind = order.benchmarks.whole_years 0 0 (omega arith) in
    let least : 3 ≤ d.heads = order.indicators (omega arith) in
    let most = order.heads in
    omega arith

-- places of at most 64 years are below 64
pub small_places : {X : Type 0} (f : X → ℕ) (quarters : ℕ) (xs : List X) → quarters ≤ 256 →
    ArePlaces quarters (map f xs) → All (λ x. f x < 64) xs
small_places f quarters xs few are k d inside =
    let whole : 4 * get_or (map f xs) k (f d) + 4 ≤ quarters =
    are.whole_years k (f d) (omega (arith, length-map xs f)) in
    let same = get_or-map f xs k d in
    omega arith

-- benchmarks in range are so one by one
pub small_benchmarks : {X : Type 0} (f : X → ℤ) (xs : List X) →
    EachIndex (map f xs) (λ y. IsBenchmark (get_or (map f xs) y (pos 0))) → All (λ x. IsBenchmark (f x)) xs
small_benchmarks f xs each k d inside =
    let within : k < length (map f xs) = omega (arith, length-map xs f) in
    let same : get_or (map f xs) k (pos 0) ≡ f (get_or xs k d) =
    get_or_default (map f xs) k (pos 0) (f d) within ∙ get_or-map f xs k d in
    subst (λ (z : ℤ). IsBenchmark z) same (each k within)

-- a content whose fields are a document's is the document's
pub content_is : (d : Content) (places ind : List ℕ) (bench : List ℤ) (front k : ℕ) (gap : ℤ) → d.heads ≡ 3 →
    d.tail ≡ 2 → map pos ind ≡ d.ind → places ≡ d.places → bench ≡ d.bench → pos front ≡ d.front → pos k ≡ d.scale →
    gap ≡ d.gap →
    d ≡ record d {
      heads = 3;
      front = pos front;
      scale = pos k;
      ind = map pos ind;
      places = places;
      bench = bench;
      gap = gap;
      tail = 2;
    }
content_is d places ind bench front k gap three two i-is p-is b-is f-is k-is g-is =
    ap (λ (n : ℕ). record d { heads = n }) three
    ∙ ap (λ (n : ℕ). record d { heads = 3; tail = n }) two
    ∙ ap (λ (z : List ℤ). record d { heads = 3; tail = 2; ind = z }) (sym i-is)
    ∙ ap (λ (z : List ℕ). record d { heads = 3; tail = 2; ind = map pos ind; places = z }) (sym p-is)
    ∙ ap (λ (z : List ℤ). record d { heads = 3; tail = 2; ind = map pos ind; places = places; bench = z }) (sym b-is)
    ∙ ap (λ (z : ℤ). record d {
      heads = 3;
      tail = 2;
      ind = map pos ind;
      places = places;
      bench = bench;
      front = z;
    }) (sym f-is)
    ∙ ap (λ (z : ℤ). record d {
      heads = 3;
      tail = 2;
      ind = map pos ind;
      places = places;
      bench = bench;
      front = pos front;
      scale = z;
    }) (sym k-is)
    ∙ ap (λ (z : ℤ). record d {
      heads = 3;
      tail = 2;
      ind = map pos ind;
      places = places;
      bench = bench;
      front = pos front;
      scale = pos k;
      gap = z;
    }) (sym g-is)

pub is_document : (d : Content) (ind : List ℕ) (front k : ℕ) → IsInOrder d → HasRanges d → d.tail ≡ 2 → map pos ind ≡ d.ind → pos front ≡ d.front → pos k ≡ d.scale
    → IsDocument d.name front k d.start d.places ind d.bench d.x d.u d.gap
is_document d ind front k order h whole i-is f-is k-is =
    let s = same ind d.ind i-is in
    let joined : length d.u + 1 ≡ length d.bench = order.joined (omega arith) in
    let closed : length d.ind ≤ length d.x = order.closed (omega arith) in
    let three = all_heads d order whole in
    let headed : 3 ≤ d.heads = omega arith in
    let first : 1900 ≤ d.start = h.head.first_start headed in
    let front_most : front ≤ 262144 = (let P : ℤ → Type 0 = λ z. z ≤ℤ pos 262144 in let w : pos front ≤ℤ pos 262144 = subst P (sym f-is) h.head.most_front in omega (arith, ints)) in
    let k_most : k ≤ 15 = (let P : ℤ → Type 0 = λ z. z ≤ℤ pos 15 in let w : pos k ≤ℤ pos 15 = subst P (sym k-is) h.head.most_scale in omega (arith, ints)) in
    let counted : length d.ind ≡ length ind = s.count in
    record {
      named = order.named (omega arith);
      front_in_range = front_most;
      first_start = first;
      last_start = h.head.last_start;
      quarters = record {
        scale_in_range = k_most;
        most = omega (arith, h.indicators.most);
        same_length = omega (arith, order.values);
        each_indicator = λ t inside.
            let below : t < length d.ind = omega arith in
            let low : pos 1 ≤ℤ pos (get_or ind t 0) = subst (λ (z : ℤ). pos 1 ≤ℤ z) (s.each t) (h.indicators.least_each t below) in
            let high : pos (get_or ind t 0) ≤ℤ pos (10 ^ 9) = subst (λ (z : ℤ). z ≤ℤ pos (10 ^ 9)) (s.each t) (h.indicators.most_each t below) in
            (omega (arith, ints), omega (arith, ints));
        each_value = λ t inside.
            let below : t < length d.x = omega (arith, order.values) in
            let one : IsQuarterValue (unsigned_abs d.scale) (unsigned_abs (pos (get_or ind t 0))) (get_or d.x t (pos 0)) = subst (λ (z : ℤ). IsQuarterValue (unsigned_abs d.scale) (unsigned_abs z) (get_or d.x t (pos 0))) (s.each t) (h.values t below) in
            subst (λ (z : ℤ). IsQuarterValue (unsigned_abs z) (get_or ind t 0) (get_or d.x t (pos 0))) (sym k-is) one;
      };
      few = omega (arith, h.indicators.most);
      some_year = omega arith;
      placed = order.placed;
      whole_years = subst (λ (n : ℕ). ArePlaces n d.places) counted order.benchmarks;
      joints = joined;
      each_benchmark = h.benchmarks;
      each_multiplier = h.multipliers;
      least_gap = h.gap.0;
      most_gap = h.gap.1;
    }

natural : (z : ℤ) → pos 0 ≤ℤ z → pos (unsigned_abs z) ≡ z
natural (pos n) h = refl
natural (negsuc n) h = absurd (omega (arith, ints))

-- a number that isn't negative, read as a natural one
pub natural_of : (z : ℤ) → FitsSigned w128 z → pos 0 ≤ℤ z → pos (unsigned_abs (to_z w128 (of_z w128 z))) ≡ z
natural_of z fits h = ap (λ (y : ℤ). pos (unsigned_abs y)) (to_z-of_z w128 z fits) ∙ natural z h

-- the same, with each part of the document as it is made
pub kept_of : (d e : Content) (places ind : List ℕ) (bench : List ℤ) (front k : ℕ) (gap : ℤ) → IsInOrder e →
    HasRanges d → d.tail ≡ 2 → d ≡ e → map pos ind ≡ e.ind → places ≡ e.places → bench ≡ e.bench → pos front ≡ e.front →
    pos k ≡ e.scale → gap ≡ e.gap → IsDocument e.name front k e.start places ind bench e.x e.u gap
kept_of d e places ind bench front k gap order h whole same-is i-is p-is b-is f-is k-is g-is =
    let ranges : HasRanges e = subst HasRanges same-is h in
    let tail : e.tail ≡ 2 = sym (ap (λ (c : Content). c.tail) same-is) ∙ whole in
    rw (p-is, b-is, g-is) (is_document e ind front k order ranges tail i-is f-is k-is)
