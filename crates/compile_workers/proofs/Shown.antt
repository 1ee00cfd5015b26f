-- What holds of a success.
use Rattle.std.proofs.Common.{◌≡◌, subst, List, length}
use Rattle.std.specs.Prelude.{IfOk, OnOk, Result, Ok, Err}
use Rattle.std.proofs.lemmas.List.FromFn.{length-map-range_with_len}
use Rattle.series_tables.specs.Plan.{PlanShape}
use Rattle.series_tables.specs.LastValue.{last_value}
use Rattle.series_tables.specs.declared.input.Input.{Input}
use Rattle.node_compile.specs.Release.{compilation, item_table}

-- what holds of a success holds of its value
pub at_ok : {T E : Type 0} (P : T → Type 0) (result : Result T E) (value : T) → result ≡ Ok value → IfOk result P
    → P value
at_ok {T} {E} P result value is holds = subst (λ (r : Result T E). IfOk r P) is holds

-- what always holds holds at a success
pub at_success : {T E : Type 0} {A : Type 0} (result : Result T E) → A → OnOk result A
at_success (Ok value) a = a
at_success (Err error) a = tt

-- a compilation has a table for each item
pub length-compilation : (plan : PlanShape) (inputs : List Input) → length (compilation plan inputs) ≡ length plan.names
unfolding compilation
length-compilation plan inputs = length-map-range_with_len (item_table (last_value inputs) plan) 0 (length plan.names)
