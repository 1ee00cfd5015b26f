use Rattle.std.proofs.Common.{arith, ◌≡◌, ◌≤◌, ◌^◌, pos, ◌*ℤ◌, to_z, of_z, to_z-of_z}
use Rattle.std.specs.Int.{w128}
use Rattle.std.proofs.Math.Nat.{pow-le-pow_right}
use Rattle.denton_parts.proofs.Machine.{machine}
use Rattle.denton_parts.proofs.Sizes.{scaled_sum_sizes}
use Rattle.denton_parts.proofs.levels.scaled_sum.Goals as goal

unit : (c : goal.After-from-unit) → to_z w128 (of_z w128 c.from-unit.result) ≡ pos (10 ^ c.args.scale)
unit c =
    let small : 10 ^ c.args.scale ≤ 10 ^ 15 = pow-le-pow_right (omega arith) c.requires.scale in
    grind (arith, to_z-of_z)

value : (c : goal.After-from-unit) → to_z w128 (of_z w128 (to_z w128 (of_z w128 c.from-unit.result) *ℤ to_z w128 (of_z w128 c.args.sum))) ≡ pos (10 ^ c.args.scale) *ℤ c.args.sum
value c =
    let sizes = scaled_sum_sizes c.args.scale c.args.sum c.requires.scale c.requires.some c.requires.most in
    rw (unit c, to_z-of_z c.ranges.sum) (omega (arith, machine))

pub returns-clause-positive : goal.returns-clause-positive
returns-clause-positive c =
    let sizes = scaled_sum_sizes c.args.scale c.args.sum c.requires.scale c.requires.some c.requires.most in
    rw (value c) sizes.0

pub returns-clause-most : goal.returns-clause-most
returns-clause-most c =
    let sizes = scaled_sum_sizes c.args.scale c.args.sum c.requires.scale c.requires.some c.requires.most in
    rw (value c) (omega (arith, machine))
