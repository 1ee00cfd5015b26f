use Rattle.std.proofs.Common.{◌≡◌, ◌≤◌, min, option_map, drop}
use Rattle.line_form.specs.Number.{digits_from}
use Rattle.line_form.proofs.numbers.read_magnitude.Given as goal

abbrev pub invariant-loop-digit : goal.invariant-loop-digit
invariant-loop-digit l = (l.value ≤ l.most) × (option_map (λ n. min n l.most) (digits_from l.value (drop l.digit-index l.digits)) ≡ option_map (λ n. min n l.most) (digits_from 0 l.digits))
