use Rattle.std.proofs.Common.{refl}
use Rattle.release_print.proofs.Parts.{first_part, later_part, appends_behind, appends_part}
use Rattle.release_print.proofs.certificate.push_numbers.Goals as goal

pub returns-in_err-push_benchmarks : goal.returns-in_err-push_benchmarks
returns-in_err-push_benchmarks c =
    let i = rw c.deref.ensures.value at c.in_ok-push_indicators.ensures in
    let p = rw (c.deref-2.ensures.value, c.deref-3.ensures.value) at c.in_err-push_benchmarks.ensures in
    appends_part c.from_residual-in_err-push_benchmarks.result _ _ _ c.from_residual-in_err-push_benchmarks.ensures.0
    (later_part _ _ _ _ _ _ i (first_part _ _ _ _ _ p refl) refl)

pub returns-in_err-push_values : goal.returns-in_err-push_values
returns-in_err-push_values c =
    let i = rw c.deref.ensures.value at c.in_ok-push_indicators.ensures in
    let b = rw (c.deref-2.ensures.value, c.deref-3.ensures.value) at c.in_ok-push_benchmarks.ensures in
    appends_part c.from_residual-in_err-push_values.result _ _ _ c.from_residual-in_err-push_values.ensures.0
    (later_part _ _ _ _ _ _ i
    (later_part _ _ _ _ _ _ b (first_part _ _ _ _ _ c.in_err-push_values.ensures refl) refl) refl)

pub returns : goal.returns
returns c =
    let i = rw c.deref.ensures.value at c.in_ok-push_indicators.ensures in
    let b = rw (c.deref-2.ensures.value, c.deref-3.ensures.value) at c.in_ok-push_benchmarks.ensures in
    let u = rw (c.deref-4.ensures.value, c.deref-5.ensures.value) at c.push_multipliers.ensures in
    appends_behind c.push_multipliers.result _ _ _ _ _ _ i refl
    (appends_behind c.push_multipliers.result _ _ _ _ _ _ b refl
    (appends_behind c.push_multipliers.result _ _ _ _ _ _ c.in_ok-push_values.ensures refl u))
