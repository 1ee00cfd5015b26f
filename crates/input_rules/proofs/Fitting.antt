-- An input that is taken for a leaf of a plan fits the plan.
use Rattle.std.proofs.Common.{◌≡◌, ◌<◌, ◌≤ℤ◌, ℕ, ℤ, Bool, true, false, ◌&&◌, cond, length, Option, Some, None, Result, Ok, Err, IfOk, IsTrue, refl, sym, subst, arith}
use Rattle.std.specs.Prelude.{int_le, nat_lt}
use Rattle.std.proofs.lemmas.Int.{ints}
use Rattle.series_tables.specs.Fits.{FitsPlan}
use Rattle.series_tables.specs.LastValue.{periods_of, least_of, most_of}
use Rattle.series_tables.specs.Plan.{PlanShape, is_leaf}
use Rattle.series_tables.specs.declared.input.Input.{Input}
use Rattle.series_tables.specs.declared.input.Kind.{Kind}
use Rattle.input_rules.specs.declared.judging.Refusal.{Refusal}
use Rattle.input_rules.specs.declared.judging.Refusal.TheVariants.{Range}
use Rattle.input_rules.specs.Judgement.{is_in_range, judgement_of_leaf}

-- a period and a value that pass the test of their ranges are in them
within_ranges : (kind : Kind) (period : ℕ) (value : ℤ) → is_in_range kind period value ≡ true → (period < periods_of kind) × (least_of kind ≤ℤ value) × (value ≤ℤ most_of kind)
within_ranges kind period value within = by_tests (nat_lt period (periods_of kind)) (int_le (least_of kind) value) (int_le value (most_of kind)) refl refl refl within
  where
    by_tests : (one two three : Bool) → nat_lt period (periods_of kind) ≡ one → int_le (least_of kind) value ≡ two → int_le value (most_of kind) ≡ three → (one && two && three) ≡ true
        → (period < periods_of kind) × (least_of kind ≤ℤ value) × (value ≤ℤ most_of kind)
    by_tests true true true early least most all = (grind arith, grind (arith, ints), grind (arith, ints))
    by_tests true true false early least most all = absurd (let never : false ≡ true = all in cc)
    by_tests true false three early least most all = absurd (let never : false ≡ true = all in cc)
    by_tests false two three early least most all = absurd (let never : false ≡ true = all in cc)

-- the judgement of a value for a leaf
pub leaf_fits : (plan : PlanShape) (kind : Kind) (item : ℕ) (period : Option ℕ) (value : ℤ) (judged : Result Input Refusal) → judged ≡ judgement_of_leaf kind item period value
    → item < length plan.names → IsTrue (is_leaf plan item) → IfOk judged (FitsPlan plan)
leaf_fits plan kind item period value judged is within leaf = subst (λ (r : Result Input Refusal). IfOk r (FitsPlan plan)) (sym is) (by_period period)
  where
    by_test : (place : ℕ) (test : Bool) → is_in_range kind place value ≡ test
        → IfOk {E = Refusal} (cond test (Ok (record { kind = kind; leaf = item; period = place; value = value })) (Err Range)) (FitsPlan plan)
    by_test place true right =
        let ranges = within_ranges kind place value right in
        record { room = record { item = within; period = ranges.0; least = ranges.1; most = ranges.2 }; leaf = leaf }
    by_test place false wrong = tt

    by_period : (place : Option ℕ) → IfOk (judgement_of_leaf kind item place value) (FitsPlan plan)
    by_period None = tt
    by_period (Some place) = by_test place (is_in_range kind place value) refl
