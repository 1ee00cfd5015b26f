-- Accepted inputs fit the plan, so the values that they leave are in range.
use Rattle.std.proofs.Common.{◌≡◌, ◌<◌, ℕ, ℤ, pos, negsuc, ◌≤ℤ◌, Bool, true, false, ◌&&◌, ◌==◌, cond, List, [], ◌∷◌, length, map, take, Option, Some, None, IsTrue, All, refl, sym, subst, arith, zero, suc, unsigned_abs}
use Rattle.std.specs.Prelude.{Result, Ok, Err}
use Rattle.std.specs.List.{filter_map, cons_option, AllByRecursion}
use Rattle.std.specs.Str.{bytes_eq}
use Rattle.std.proofs.lemmas.Int.{ints}
use Rattle.std.proofs.lemmas.List.Elements.{All-from_recursion}
use Rattle.std.proofs.lemmas.List.Quantifiers.{position-Some}
use Rattle.line_form.specs.Lines.{TextLine, lines_of}
use Rattle.series_tables.specs.Fits.{FitsPlan}
use Rattle.series_tables.specs.Plan.{PlanShape, item_with_name, is_leaf}
use Rattle.series_tables.specs.Cells.{cells_from}
use Rattle.series_tables.specs.LastValue.{same_kind, speaks_of, last_from, last_value, run_from, least_of, most_of}
use Rattle.series_tables.specs.Ranges.{IsPositiveInRange, IsBenchmarkOrNone}
use Rattle.series_tables.specs.declared.input.Input.{Input}
use Rattle.series_tables.specs.declared.input.Kind.{Kind}
use Rattle.series_tables.specs.declared.input.Kind.TheVariants.{Indicator, Benchmark, Price}
use Rattle.input_rules.specs.declared.judging.Refusal.{Refusal}
use Rattle.input_rules.specs.declared.judging.Refusal.TheVariants.{Unknown, Zero}
use Rattle.input_rules.specs.declared.lines.Cause.{Cause}
use Rattle.input_rules.specs.Judgement.{leaf_with_name, is_zero_indicator, judgement, judgement_of_leaf}
use Rattle.input_rules.specs.Requests.{SpelledInput, Asked, release, release_of, certificate_of, sync, meaning_of}
use Rattle.input_rules.specs.Requests.{input as asks}
use Rattle.input_rules.specs.Lines.{judged_input, judged_meaning, judged_line}
use Rattle.input_rules.specs.Accepted.{most_inputs, judged_lines, taken, accepted_of, accepted}
use Rattle.input_rules.proofs.Fitting.{leaf_fits}

-- ---- accepted inputs

-- a name's leaf is an item of the plan, and a leaf
leaf_found : (plan : PlanShape) (name : List ℕ) (item : ℕ) → leaf_with_name plan name ≡ Some item → (item < length plan.names) × IsTrue (is_leaf plan item)
leaf_found plan name item found = by_item (item_with_name plan name) refl found
  where
    by_test : (place : ℕ) (test : Bool) → item_with_name plan name ≡ Some place → is_leaf plan place ≡ test → cond test (Some place) None ≡ Some item → (item < length plan.names) × IsTrue (is_leaf plan item)
    by_test place true at leaf e =
        let same : place ≡ item = cc in
        (subst (λ (n : ℕ). n < length plan.names) same (position-Some (bytes_eq name) plan.names place [] at).0, subst (λ (n : ℕ). IsTrue (is_leaf plan n)) same leaf)
    by_test place false at leaf e = absurd (let never : ◌≡◌ {A = Option ℕ} None (Some item) = e in cc)

    by_item : (place : Option ℕ) → item_with_name plan name ≡ place → ◌≡◌ {A = Option ℕ} (elim place [ None ↦ None | Some at ↦ cond (is_leaf plan at) (Some at) None ]) (Some item) → (item < length plan.names) × IsTrue (is_leaf plan item)
    by_item None at e = absurd (let never : ◌≡◌ {A = Option ℕ} None (Some item) = e in cc)
    by_item (Some place) at e = by_test place (is_leaf plan place) at refl e

-- an input that is judged right fits the plan
judged_fits : (plan : PlanShape) (kind : Kind) (name : List ℕ) (period : Option ℕ) (value : ℤ) (input : Input) → judgement plan kind name period value ≡ Ok input → FitsPlan plan input
judged_fits plan kind name period value input e = by_leaf (leaf_with_name plan name) (is_zero_indicator kind value) refl e
  where
    by_leaf : (leaf : Option ℕ) (zero_indicator : Bool) → leaf_with_name plan name ≡ leaf →
        ◌≡◌ {A = Result Input Refusal} (elim leaf [ None ↦ Err Unknown | Some number ↦ cond zero_indicator (Err Zero) (judgement_of_leaf kind number period value) ]) (Ok input) → FitsPlan plan input
    by_leaf None zero_indicator named found = absurd (let never : ◌≡◌ {A = Result Input Refusal} (Err Unknown) (Ok input) = found in cc)
    by_leaf (Some number) true named found = absurd (let never : ◌≡◌ {A = Result Input Refusal} (Err Zero) (Ok input) = found in cc)
    by_leaf (Some number) false named found =
        let there = leaf_found plan name number named in
        leaf_fits plan kind number period value (Ok input) (sym found) there.0 there.1

-- so does the input that is taken of a line
line_fits : (plan : PlanShape) (line : TextLine) (input : Input) → taken (judged_line plan line) ≡ Some input → FitsPlan plan input
unfolding judged_line
line_fits plan line input e = by_meaning (meaning_of plan.start line) e
  where
    nothing : ◌≡◌ {A = Option Input} None (Some input) → FitsPlan plan input
    nothing found = absurd (let never : ◌≡◌ {A = Option Input} None (Some input) = found in cc)

    by_judgement : (spelled : SpelledInput) (judged : Result Input Refusal) → judgement plan spelled.kind spelled.name spelled.period spelled.value ≡ judged → taken (judged_input judged) ≡ Some input → FitsPlan plan input
    by_judgement spelled (Err refusal) is found = nothing found
    by_judgement spelled (Ok right) is found =
        let same : input ≡ right = let one : ◌≡◌ {A = Option Input} (Some right) (Some input) = found in cc in
        rw same (judged_fits plan spelled.kind spelled.name spelled.period spelled.value right is)

    by_meaning : (meaning : Result (Option Asked) Cause) → taken (judged_meaning plan meaning) ≡ Some input → FitsPlan plan input
    by_meaning (Err cause) found = nothing found
    by_meaning (Ok None) found = nothing found
    by_meaning (Ok (Some (asks spelled))) found = by_judgement spelled (judgement plan spelled.kind spelled.name spelled.period spelled.value) refl found
    by_meaning (Ok (Some release)) found = nothing found
    by_meaning (Ok (Some (release_of name))) found = nothing found
    by_meaning (Ok (Some (certificate_of name))) found = nothing found
    by_meaning (Ok (Some sync)) found = nothing found

-- the inputs that are taken of lines
lines_fit : (plan : PlanShape) (lines : List TextLine) → AllByRecursion (FitsPlan plan) (filter_map taken (judged_lines plan lines))
lines_fit plan [] = tt
lines_fit plan (line ∷ lines) = by_input (taken (judged_line plan line)) (line_fits plan line) (lines_fit plan lines)
  where
    by_input : (found : Option Input) → ((input : Input) → found ≡ Some input → FitsPlan plan input) → AllByRecursion (FitsPlan plan) (filter_map taken (judged_lines plan lines)) →
        AllByRecursion (FitsPlan plan) (cons_option found (filter_map taken (judged_lines plan lines)))
    by_input None each rest = rest
    by_input (Some input) each rest = (each input refl, rest)

-- and the first of some that fit
first_fit : (plan : PlanShape) (n : ℕ) (inputs : List Input) → AllByRecursion (FitsPlan plan) inputs → AllByRecursion (FitsPlan plan) (take n inputs)
first_fit plan zero inputs each = tt
first_fit plan (suc n) [] each = tt
first_fit plan (suc n) (input ∷ inputs) each = (each.0, first_fit plan n inputs each.1)

-- so do the accepted inputs of a text
accepted_fit : (plan : PlanShape) (text : List ℕ) → AllByRecursion (FitsPlan plan) (accepted plan text)
unfolding accepted accepted_of
accepted_fit plan text = first_fit plan most_inputs (filter_map taken (judged_lines plan (lines_of text))) (lines_fit plan (lines_of text))

-- each of them
pub accepted_fit_all : (plan : PlanShape) (text : List ℕ) → All (FitsPlan plan) (accepted plan text)
accepted_fit_all plan text = All-from_recursion (FitsPlan plan) (accepted plan text) (accepted_fit plan text)

-- ---- their values

-- a value is in the range of a kind
abbrev pub IsOfKind : Kind → ℤ → Type 0
IsOfKind kind value = (least_of kind ≤ℤ value) × (value ≤ℤ most_of kind)

-- the last value of inputs in range is in range
last_range : (plan : PlanShape) (kind : Kind) (inputs : List Input) → AllByRecursion (FitsPlan plan) inputs → (found : Option ℤ) → ((value : ℤ) → found ≡ Some value → IsOfKind kind value) →
    (leaf period : ℕ) (value : ℤ) → last_from found inputs kind leaf period ≡ Some value → IsOfKind kind value
last_range plan kind [] each found before leaf period value e = before value e
last_range plan kind (input ∷ inputs) each found before leaf period value e =
    last_range plan kind inputs each.1 (cond (speaks_of kind leaf period input) (Some input.value) found) (by_test (speaks_of kind leaf period input) refl) leaf period value e
  where
    of_kind : (one two : Kind) → same_kind one two ≡ true → one ≡ two
    of_kind Indicator Indicator same = refl
    of_kind Benchmark Benchmark same = refl
    of_kind Price Price same = refl
    of_kind Indicator Benchmark same = absurd (let never : false ≡ true = same in cc)
    of_kind Indicator Price same = absurd (let never : false ≡ true = same in cc)
    of_kind Benchmark Indicator same = absurd (let never : false ≡ true = same in cc)
    of_kind Benchmark Price same = absurd (let never : false ≡ true = same in cc)
    of_kind Price Indicator same = absurd (let never : false ≡ true = same in cc)
    of_kind Price Benchmark same = absurd (let never : false ≡ true = same in cc)

    first_part : (one two three : Bool) → (one && two && three) ≡ true → one ≡ true
    first_part true two three all = refl
    first_part false two three all = absurd (let never : false ≡ true = all in cc)

    by_test : (test : Bool) → speaks_of kind leaf period input ≡ test → (value : ℤ) → cond test (Some input.value) found ≡ Some value → IsOfKind kind value
    by_test true spoken value found_here =
        let same : input.value ≡ value = cc in
        let own : input.kind ≡ kind = of_kind input.kind kind (first_part (same_kind input.kind kind) (input.leaf == leaf) (input.period == period) spoken) in
        subst (λ (v : ℤ). IsOfKind kind v) same (subst (λ (k : Kind). IsOfKind k input.value) own (each.0.room.least, each.0.room.most))
    by_test false spoken value found_here = before value found_here

-- the last value that a text's accepted inputs give is in range
pub value_range : (plan : PlanShape) (text : List ℕ) (kind : Kind) (leaf period : ℕ) (value : ℤ) → last_value (accepted plan text) kind leaf period ≡ Some value → IsOfKind kind value
value_range plan text kind leaf period value e =
    last_range plan kind (accepted plan text) (accepted_fit plan text) None (λ v nothing. absurd (let never : ◌≡◌ {A = Option ℤ} None (Some v) = nothing in cc)) leaf period value e

-- the values of a run are in range where each value there is
pub run_range : (value_at : ℕ → Option ℤ) → ((period : ℕ) (value : ℤ) → value_at period ≡ Some value → IsOfKind Indicator value) → (more from : ℕ) → AllByRecursion (λ value. IsOfKind Indicator value) (run_from value_at more from)
run_range value_at each zero from = tt
run_range value_at each (suc more) from = by_value (value_at from) (each from) (run_range value_at each more (suc from))
  where
    by_value : (found : Option ℤ) → ((value : ℤ) → found ≡ Some value → IsOfKind Indicator value) → AllByRecursion (λ value. IsOfKind Indicator value) (run_from value_at more (suc from)) →
        AllByRecursion (λ value. IsOfKind Indicator value) (elim found [ None ↦ [] | Some value ↦ value ∷ run_from value_at more (suc from) ])
    by_value None positive rest = tt
    by_value (Some value) positive rest = (positive value refl, rest)

-- so are the indicators that they give
pub indicators_range : (run : List ℤ) → AllByRecursion (λ value. IsOfKind Indicator value) run → All IsPositiveInRange (map unsigned_abs run)
indicators_range [] each k d inside = absurd (omega arith)
indicators_range (value ∷ run) each zero d inside = size value each.0
  where
    size : (v : ℤ) → IsOfKind Indicator v → IsPositiveInRange (unsigned_abs v)
    size (pos n) range = (omega (arith, ints), omega (arith, ints))
    size (negsuc n) range = absurd (omega (arith, ints))
indicators_range (value ∷ run) each (suc k) d inside = indicators_range run each.1 k d (omega arith)

-- the benchmarks at a number of places are in range where each that is there is
pub benchmarks_range : (value_at : ℕ → Option ℤ) → ((period : ℕ) (value : ℤ) → value_at period ≡ Some value → IsOfKind Benchmark value) → (more from : ℕ) → All IsBenchmarkOrNone (cells_from value_at more from)
benchmarks_range value_at each zero from k d inside = absurd (omega arith)
benchmarks_range value_at each (suc more) from zero d inside = each from
benchmarks_range value_at each (suc more) from (suc k) d inside = benchmarks_range value_at each more (suc from) k d (omega arith)
