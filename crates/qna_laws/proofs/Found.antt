-- A check finds yes of each certificate of a compilation of accepted inputs.
use Rattle.std.proofs.Common.{◌≡◌, ℕ, ◌^◌, ◌/◌, ◌<◌, ◌≤◌, zero, suc, ℤ, pos, unsigned_abs, Bool, true, false, cond, List, [], ◌∷◌, length, map, Option, Some, None, IfSome, Result, Ok, IfOk, slice_get, refl, sym, ap, subst, ◌∙◌, zero-add, arith}
use Rattle.std.specs.Option.{is_some, option_map}
use Rattle.std.specs.List.{range_with_len}
use Rattle.std.proofs.lemmas.List.{length-map}
use Rattle.std.proofs.lemmas.List.FromFn.{get_or-map-range_with_len, length-map-range_with_len}
use Rattle.std.proofs.lemmas.Option.{slice_get_within, get_or_from_slice_get}
use Rattle.line_form.specs.Lines.{lines_of}
use Rattle.denton_parts.specs.Changes.{changes}
use Rattle.denton_parts.specs.Gap.{gap_by}
use Rattle.denton_parts.specs.Years.{years_at}
use Rattle.dual_cert.specs.declared.verdict.Verdict.TheVariants.{Yes}
use Rattle.price_base.specs.declared.Cell.{Cell}
use Rattle.cert_read.specs.declared.fault.CertFault.{CertFault}
use Rattle.cert_read.specs.Content.{Content}
use Rattle.cert_read.specs.Reading.{reading}
use Rattle.cert_read.specs.Found.{gap_of_content, years_of, first_missed_among, verdict_of, found}
use Rattle.cert_read.proofs.Verdicts.{none_missed_is, same_indicators, by_gap, chosen_yes, found_is}
use Rattle.series_tables.specs.Cells.{cells_from}
use Rattle.series_tables.specs.IsPlan.{IsPlan}
use Rattle.series_tables.specs.LastValue.{last_value, run_from, run_of}
use Rattle.series_tables.specs.Plan.{PlanShape, is_leaf}
use Rattle.series_tables.specs.Tree.{leaves_under}
use Rattle.series_tables.specs.declared.input.Kind.{Kind}
use Rattle.series_tables.specs.declared.input.Kind.TheVariants.{Indicator, Benchmark, Price}
use Rattle.input_rules.specs.Accepted.{accepted}
use Rattle.input_rules.proofs.AcceptedInputs.{value_range, run_range, indicators_range, benchmarks_range}
use Rattle.input_rules.proofs.MoreLines.{accepted_of-few}
use Rattle.node_compile.specs.Laws.{numbers_in}
use Rattle.node_compile.specs.Leaf.{leaf_table}
use Rattle.node_compile.specs.Release.{table_of_leaf, inner_table, values_of_leaves, volumes_of_leaves, item_table, compilation}
use Rattle.node_compile.specs.Table.{Certificate, Table, years_of_certificate}
use Rattle.node_compile.proofs.Items.{cells_count}
use Rattle.release_print.specs.Certificate.{certificate_or_none, certificate_text, content_of}
use Rattle.release_print.specs.Line.{name_of}
use Rattle.release_print.specs.Release.{gap_line}
use Rattle.qna_laws.specs.Certificates.{shown_line, IsFoundTrue}
use Rattle.qna_laws.proofs.Compiled.{IsSound, leaf_sound}
use Rattle.qna_laws.proofs.Printed.{printed_read}
use Rattle.qna_laws.proofs.Statements.{AreYearsRead, AreQuartersRead}

-- a check finds yes of what is printed of a sound certificate
sound_found : AreYearsRead → AreQuartersRead → (start front : ℕ) (name : List ℕ) (certificate : Certificate) (values : List Cell) → IsSound name front start certificate values
    → found (certificate_or_none start name front (Some certificate) values) ≡ Ok Yes
sound_found years quarters start front name certificate values sound =
    let said : Content = content_of start name front certificate values in
    let gap : gap_of_content said ≡ certificate.gap =
    ap (λ (is : List ℕ). gap_by (pos (10 ^ certificate.scale)) is (numbers_in values)
    (changes (years_at is certificate.places certificate.benchmarks) certificate.multipliers is))
    (same_indicators certificate.indicators) ∙ sym sound.gap in
    let none : first_missed_among said.x (years_of said) ≡ None =
    ap (λ (is : List ℕ). first_missed_among (numbers_in values)
    (years_at is certificate.places certificate.benchmarks)) (same_indicators certificate.indicators)
    ∙ none_missed_is (years_of_certificate certificate) (numbers_in values) sound.meets in
    let yes : verdict_of said ≡ Yes =
    by_gap said certificate.gap Yes none gap (chosen_yes certificate.gap certificate.gap refl) in
    found_is (certificate_or_none start name front (Some certificate) values) said Yes (printed_read years quarters start front name certificate values sound.document) yes

-- what is true of a certificate that is printed at a front, where there is one
record IsTrueOf (start front : ℕ) (name : List ℕ) (leaf : Option Certificate) (values : List Cell) : Type 0 where
  yes : found (certificate_or_none start name front leaf values) ≡ Ok Yes
  shown : IfOk (reading (certificate_or_none start name front leaf values)) (λ said. gap_line name leaf ≡ shown_line said)
  gap : IfOk (reading (certificate_or_none start name front leaf values)) (λ said. IfSome leaf (λ certificate. said.gap ≡ certificate.gap))

sound_true : AreYearsRead → AreQuartersRead → (start front : ℕ) (name : List ℕ) (leaf : Option Certificate) (values : List Cell) → IfSome leaf (λ certificate. IsSound name front start certificate values)
    → is_some leaf ≡ true → IsTrueOf start front name leaf values
sound_true years quarters start front name None values sound some = absurd (let never : false ≡ true = some in cc)
sound_true years quarters start front name (Some certificate) values sound some =
    let read : reading (certificate_or_none start name front (Some certificate) values) ≡ Ok (content_of start name front certificate values) = printed_read years quarters start front name certificate values sound.document in
    record {
      yes = sound_found years quarters start front name certificate values sound;
      shown = subst (λ (r : Result Content CertFault). IfOk r (λ said. gap_line name (Some certificate) ≡ shown_line said)) (sym read) refl;
      gap = subst (λ (r : Result Content CertFault). IfOk r (λ said. said.gap ≡ certificate.gap)) (sym read) refl;
    }

-- a run has no more quarters than are looked at
run_few : (value_at : ℕ → Option ℤ) (more from : ℕ) → length (run_from value_at more from) ≤ more
run_few value_at zero from = omega arith
run_few value_at (suc more) from = by_value (value_at from) (run_few value_at more (suc from))
  where
    by_value : (found : Option ℤ) → length (run_from value_at more (suc from)) ≤ more → length {A = ℤ} (elim found [ None ↦ [] | Some value ↦ value ∷ run_from value_at more (suc from) ]) ≤ suc more
    by_value None few = omega arith
    by_value (Some value) few = omega arith

-- at most 262144 inputs are accepted
front_few : (plan : PlanShape) (text : List ℕ) → length (accepted plan text) ≤ 262144
unfolding accepted
front_few plan text = accepted_of-few plan (lines_of text)

-- a leaf's certificate
leaf_true : AreYearsRead → AreQuartersRead → (plan : PlanShape) (text : List ℕ) (item : ℕ) → IsPlan plan → item < length plan.names →
    is_some (table_of_leaf (last_value (accepted plan text)) plan.reference item).leaf ≡ true →
    IsTrueOf plan.start (length (accepted plan text)) (name_of plan.names item) (table_of_leaf (last_value (accepted plan text)) plan.reference item).leaf (table_of_leaf (last_value (accepted plan text)) plan.reference item).value
leaf_true years quarters plan text item is_plan within some =
    let value_at : Kind → ℕ → ℕ → Option ℤ = last_value (accepted plan text) in
    let run : List ℤ = run_of (value_at Indicator item) in
    let indicators : List ℕ = map unsigned_abs run in
    let prices : List (Option ℕ) = map (option_map unsigned_abs) (cells_from (value_at Price item) (length run) 0) in
    let benchmarks : List (Option ℤ) = cells_from (value_at Benchmark item) (length run / 4) 0 in
    let name : List ℕ = name_of plan.names item in
    let counted : length benchmarks ≡ length indicators / 4 =
    cells_count (value_at Benchmark item) (length run / 4) 0 ∙ sym (ap (λ (n : ℕ). n / 4) (length-map run unsigned_abs)) in
    let few : length indicators ≤ 256 = let short = run_few (value_at Indicator item) 256 0 in omega (arith, short, length-map run unsigned_abs) in
    let table : Table = leaf_table indicators prices benchmarks plan.reference in
    sound_true years quarters plan.start (length (accepted plan text)) name table.leaf table.value
    (leaf_sound name (length (accepted plan text)) plan.start indicators prices benchmarks plan.reference (is_plan.names.each item [] within) (front_few plan text) is_plan.first is_plan.last
    (indicators_range run (run_range (value_at Indicator item) (λ period value. value_range plan text Indicator item period value) 256 0))
    (benchmarks_range (value_at Benchmark item) (λ period value. value_range plan text Benchmark item period value) (length run / 4) 0)
    counted few)
    some

-- an item's: one that has children has none
item_true : AreYearsRead → AreQuartersRead → (plan : PlanShape) (text : List ℕ) (item : ℕ) → IsPlan plan → item < length plan.names →
    is_some (item_table (last_value (accepted plan text)) plan item).leaf ≡ true →
    IsTrueOf plan.start (length (accepted plan text)) (name_of plan.names item) (item_table (last_value (accepted plan text)) plan item).leaf (item_table (last_value (accepted plan text)) plan item).value
item_true years quarters plan text item is_plan within = by_leaf (is_leaf plan item)
  where
    value_at : Kind → ℕ → ℕ → Option ℤ
    value_at = last_value (accepted plan text)

    table : Bool → Table
    table b = cond b (table_of_leaf value_at plan.reference item) (inner_table (values_of_leaves value_at plan.reference (leaves_under plan item)) (volumes_of_leaves value_at plan.reference (leaves_under plan item)) plan.reference)

    by_leaf : (b : Bool) → is_some (table b).leaf ≡ true → IsTrueOf plan.start (length (accepted plan text)) (name_of plan.names item) (table b).leaf (table b).value
    by_leaf true some = leaf_true years quarters plan text item is_plan within some
    by_leaf false some = absurd (let never : false ≡ true = some in cc)

-- that of an item's table in the compilation
pub text_found_true : AreYearsRead → AreQuartersRead → (plan : PlanShape) (text : List ℕ) (item : ℕ) (table : Table) → IsPlan plan → slice_get (compilation plan (accepted plan text)) item ≡ Some table →
    is_some table.leaf ≡ true → IsFoundTrue plan (length (accepted plan text)) item table
unfolding compilation certificate_text
text_found_true years quarters plan text item table is_plan there some =
    let make : ℕ → Table = item_table (last_value (accepted plan text)) plan in
    let within : item < length plan.names =
    let inside = slice_get_within (map make (range_with_len 0 (length plan.names))) item table there in omega (arith, inside, length-map-range_with_len make 0 (length plan.names)) in
    let same : table ≡ make item =
    sym (get_or_from_slice_get (map make (range_with_len 0 (length plan.names))) item table table there) ∙ get_or-map-range_with_len make 0 (length plan.names) item item table within (zero-add item) in
    let true_of : IsTrueOf plan.start (length (accepted plan text)) (name_of plan.names item) table.leaf table.value =
    subst (λ (t : Table). IsTrueOf plan.start (length (accepted plan text)) (name_of plan.names item) t.leaf t.value) (sym same)
    (item_true years quarters plan text item is_plan within (subst (λ (t : Table). is_some t.leaf ≡ true) same some)) in
    record { yes = true_of.yes; shown = true_of.shown; gap = true_of.gap }
