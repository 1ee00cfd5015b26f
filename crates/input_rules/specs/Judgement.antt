-- The judgement of one input: whether it is taken, or why it is refused (this product's own).
use Rattle.std.specs.Prelude.{ℕ, ℤ, pos, Bool, false, ◌&&◌, int_le, nat_lt, List, Option, Some, None}
use Rattle.std.specs.Prelude.{Result, Ok, Err, if◌then◌else◌}
use Rattle.series_tables.specs.Plan.{PlanShape, item_with_name, is_leaf}
use Rattle.series_tables.specs.LastValue.{periods_of, least_of, most_of}
use Rattle.series_tables.specs.declared.input.Input.{Input}
use Rattle.series_tables.specs.declared.input.Kind.{Kind}
use Rattle.series_tables.specs.declared.input.Kind.TheVariants.{Indicator, Benchmark, Price}
use Rattle.input_rules.specs.declared.judging.Refusal.{Refusal}
use Rattle.input_rules.specs.declared.judging.Refusal.TheVariants.{Unknown, Zero, Range}

-- whether a value is 0
abbrev pub is_zero : ℤ → Bool
is_zero value = int_le (pos 0) value && int_le value (pos 0)

-- whether an input is an indicator of 0
abbrev pub is_zero_indicator : Kind → ℤ → Bool
is_zero_indicator Indicator value = is_zero value
is_zero_indicator Benchmark value = false
is_zero_indicator Price value = false

-- whether a period is one of the plan's years, and the value in the kind's range
abbrev pub is_in_range : Kind → ℕ → ℤ → Bool
is_in_range kind period value =
    nat_lt period (periods_of kind) && int_le (least_of kind) value && int_le value (most_of kind)

-- the judgement of a value for a leaf: a period outside the plan's years is none
abbrev pub judgement_of_leaf : Kind → ℕ → Option ℕ → ℤ → Result Input Refusal
judgement_of_leaf kind leaf None value = Err Range
judgement_of_leaf kind leaf (Some period) value =
    if is_in_range kind period value
    then Ok (record { kind = kind; leaf = leaf; period = period; value = value }) else Err Range

-- the number of the leaf that has a name: an item that another names as its parent is no leaf
abbrev pub leaf_with_name : PlanShape → List ℕ → Option ℕ
leaf_with_name plan name = elim (item_with_name plan name) [
  | None ↦ None
  | Some item ↦ if is_leaf plan item then Some item else None
]

-- the judgement of an input: no leaf has the name; then an indicator of 0; then a period or a value out of range; else
-- the input of the leaf's number
abbrev pub judgement : PlanShape → Kind → List ℕ → Option ℕ → ℤ → Result Input Refusal
judgement plan kind name period value = elim (leaf_with_name plan name) [
  | None ↦ Err Unknown
  | Some leaf ↦ if is_zero_indicator kind value then Err Zero else judgement_of_leaf kind leaf period value
]
