-- The number so far, cut at the bound, says the same as the whole number.
use Rattle.std.proofs.Common.{◌≡◌, ◌+◌, ◌-◌, ◌*◌, ℕ, min, List, drop, get_or, option_map, arith}
use Rattle.std.proofs.lemmas.Grind.{common_steps}
use Rattle.line_form.specs.Number.{digits_from}
use Rattle.line_form.proofs.CutNumbers.{same_cut}
use Rattle.line_form.proofs.numbers.read_magnitude.Goals as goal

pub loop-digit-preserved : goal.loop-digit-preserved
loop-digit-preserved c =
    let d : ℕ = get_or c.args.digits.now c.loop-digit.digit-index 0 in
    let rest : List ℕ = drop (c.loop-digit.digit-index + 1) c.args.digits.now in
    let cut : min c.min-value.result c.args.most ≡ min (10 * c.loop-digit.value + (d - 48)) c.args.most = omega (arith, c.min-value.ensures) in
    let step : option_map (λ n. min n c.args.most) (digits_from c.min-value.result rest)
    ≡ option_map (λ n. min n c.args.most) (digits_from (10 * c.loop-digit.value + (d - 48)) rest)
    = same_cut c.args.most c.min-value.result (10 * c.loop-digit.value + (d - 48)) rest cut in
    grind (arith, common_steps)
