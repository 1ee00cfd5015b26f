use Rattle.std.proofs.Common.{rules, ◌≡◌, ◌∙◌, ◌<◌, ◌+◌, ◌-◌, ◌*◌, ◌^◌, sym, arith, None}
use Rattle.std.specs.List.{slice_index_or}
use Rattle.command_words.proofs.Digits.{number_over}
use Rattle.command_words.proofs.words.number_at_most.Goals as goal

pub returns-in_err-checked_mul : goal.returns-in_err-checked_mul
returns-in_err-checked_mul c =
    let none : c.from_residual.result ≡ None = search rules in
    let fits : c.args.most < 2 ^ 64 = search rules in
    let over : c.args.most < 10 * c.loop-digit.number + (slice_index_or c.as_bytes-digits.result.now c.loop-digit.digit-index 0 - 48) = omega (arith, c.in_err-checked_mul.ensures) in
    none ∙ sym (number_over c.args.most c.loop-digit.number c.loop-digit.digit-index c.args.word.now c.as_bytes-digits.result.now c.loop-digit.invariant c.loop-digit-test.true over)

pub returns-in_err-number : goal.returns-in_err-number
returns-in_err-number c =
    let none : c.from_residual-in_err-number.result ≡ None = search rules in
    let fits : c.args.most < 2 ^ 64 = search rules in
    let over : c.args.most < 10 * c.loop-digit.number + (slice_index_or c.as_bytes-digits.result.now c.loop-digit.digit-index 0 - 48) =
    omega (arith, c.in_ok-checked_mul.ensures, c.in_err-number.ensures, c.from.ensures) in
    none ∙ sym (number_over c.args.most c.loop-digit.number c.loop-digit.digit-index c.args.word.now c.as_bytes-digits.result.now c.loop-digit.invariant c.loop-digit-test.true over)
