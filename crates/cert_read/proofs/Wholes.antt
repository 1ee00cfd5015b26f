-- A document's content is whole.
use Rattle.std.proofs.Common.{◌≡◌, ℕ, ◌≤◌, ◌<◌, ◌^◌, ℤ, pos, ◌≤ℤ◌, List, length, map, get_or, unsigned_abs, Some, Ok, refl, sym, subst, arith}
use Rattle.std.proofs.lemmas.Int.{ints}
use Rattle.std.proofs.lemmas.List.{length-map}
use Rattle.std.proofs.Math.ListN.{get_or-map}
use Rattle.dual_cert.specs.declared.document.CertDoc.{CertDoc}
use Rattle.denton_parts.specs.Years.{ArePlaces}
use Rattle.dual_cert.specs.Document.{IsQuarterValue}
use Rattle.line_form.specs.Lines.{next_number, lines_of}
use Rattle.cert_read.specs.Content.{nothing, spelled}
use Rattle.cert_read.specs.Reading.{kept, last_number, read_lines, reading, content_of}
use Rattle.cert_read.proofs.Runs.{IsWhole, run_all, run_read, all_lines}

pub whole_of : (doc : CertDoc) → IsWhole (content_of doc)
whole_of doc =
    let k = doc.kept in
    let count : length (map pos doc.ind.items) ≡ length doc.ind.items = length-map doc.ind.items pos in
    record {
      named = k.named;
      front_low = omega (arith, ints);
      front_high = omega (arith, ints, k.front_in_range);
      scale_low = omega (arith, ints);
      scale_high = omega (arith, ints, k.quarters.scale_in_range);
      first_start = k.first_start;
      last_start = k.last_start;
      most = omega (arith, k.few);
      some_year = k.some_year;
      placed = k.placed;
      whole_years = subst (λ (n : ℕ). ArePlaces n doc.years.items) (sym count) k.whole_years;
      same_length = omega (arith, k.quarters.same_length);
      joints = k.joints;
      ind_low = λ t inside. let within : t < length doc.ind.items = omega arith in let one : 1 ≤ get_or doc.ind.items t 0 = (k.quarters.each_indicator t within).0 in subst (λ (z : ℤ). pos 1 ≤ℤ z) (sym (get_or-map pos doc.ind.items t 0)) (omega (arith, ints));
      ind_high = λ t inside. let within : t < length doc.ind.items = omega arith in let most : get_or doc.ind.items t 0 ≤ 10 ^ 9 = (k.quarters.each_indicator t within).1 in subst (λ (z : ℤ). z ≤ℤ pos (10 ^ 9)) (sym (get_or-map pos doc.ind.items t 0)) (omega (arith, ints));
      benchmarks = k.each_benchmark;
      values = λ t inside. let within : t < length doc.ind.items = omega (arith, k.quarters.same_length) in subst (λ (z : ℤ). IsQuarterValue doc.scale (unsigned_abs z) (get_or doc.x.items t (pos 0))) (sym (get_or-map pos doc.ind.items t 0)) (k.quarters.each_value t within);
      multipliers = k.each_multiplier;
      gap_low = k.least_gap;
      gap_high = k.most_gap;
    }

-- what spells a document is read as it
pub spelled_read : (text : List ℕ) (doc : CertDoc) → map (λ p. p.says) (kept (lines_of text)) ≡ map Some (spelled (content_of doc)) → reading text ≡ Ok (content_of doc)
unfolding reading read_lines spelled
spelled_read text doc says =
    let lines = lines_of text in
    let r = run_read (next_number (last_number 0 lines)) nothing (content_of doc) (all_lines (content_of doc)) (kept lines) (run_all (content_of doc) (whole_of doc)) says refl in
    rw (r.0, r.1) refl
