use Rattle.std.specs.Int.{w128}
use Rattle.std.proofs.Common.{◌<◌, arith, ◌≡◌, ◌≤◌, ◌*◌, ◌^◌, max, pos, unsigned_abs, ap, ◌∙◌}
use Rattle.std.proofs.lemmas.Int.{to_z-of_z, to_z_pos}
use Rattle.denton_parts.proofs.Machine.{machine}
use Rattle.dual_cert.proofs.Sizes.{square_small}
use Rattle.dual_cert.proofs.distance.greater_square.Goals as goal

greatest : (c : goal.After-max-distance) → c.max-distance.result ≡ max (unsigned_abs c.args.low) (unsigned_abs c.args.high)
greatest c = grind (arith, to_z-of_z)

small : (c : goal.After-max-distance) → c.max-distance.result * c.max-distance.result ≤ 9 * 10 ^ 32
small c =
    let value = greatest c in
    square_small c.max-distance.result (omega arith)

pub overflow_cast-result : goal.overflow_cast-result
overflow_cast-result c = let square = small c in omega (arith, machine)

pub returns-clause-value : goal.returns-clause-value
returns-clause-value c =
    let square = small c in
    let strict : c.max-distance.result * c.max-distance.result < 2 ^ 127 = omega arith in
    to_z_pos w128 (c.max-distance.result * c.max-distance.result) strict ∙ ap (λ u. pos (u * u)) (greatest c)

pub returns-clause-size : goal.returns-clause-size
returns-clause-size c = let square = small c in omega (arith, machine)
