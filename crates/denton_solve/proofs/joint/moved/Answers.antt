use Rattle.std.proofs.Common.{rules, arith, ◌≡◌, pos, ◌*ℤ◌, ◌+ℤ◌, ◌-ℤ◌, FitsSigned, ap, ◌∙◌}
use Rattle.std.specs.Int.{w128}
use Rattle.std.proofs.lemmas.Int.{to_z-of_z}
use Rattle.ratio_arith.specs.Division.{floor_of}
use Rattle.ratio_arith.proofs.Linear.{literal_product}
use Rattle.denton_parts.proofs.Machine.{machine}
use Rattle.denton_solve.specs.Sweeps.{cut_of}
use Rattle.denton_solve.proofs.joint.moved.Goals as goal

pub small_floor-requires-clause-size : goal.small_floor-requires-clause-size
small_floor-requires-clause-size c =
    let residual_fits : FitsSigned w128 c.residual.result = search rules in
    omega (arith, machine, literal_product)

pub returns : goal.returns
returns c =
    let residual : c.residual.result ≡ c.args.first -ℤ c.args.last -ℤ c.args.width *ℤ c.args.own =
    simp (to_z-of_z, c.ranges.first, c.ranges.last, c.ranges.width, c.ranges.own) at c.residual.ensures.value in
    let residual_fits : FitsSigned w128 c.residual.result = search rules in
    let floor_fits : FitsSigned w128 c.small_floor.result = search rules in
    let cut_fits : FitsSigned w128 c.cut.result = search rules in
    let fits : FitsSigned w128 (pos 1000 *ℤ c.residual.result) = omega (arith, machine, literal_product) in
    let weight_fits : FitsSigned w128 c.args.weight = c.ranges.weight in
    let own_fits : FitsSigned w128 c.args.own = c.ranges.own in
    let floor : c.small_floor.result ≡ floor_of (pos 1000 *ℤ c.residual.result) c.args.weight =
    simp to_z-of_z at c.small_floor.ensures.value in
    let cut : c.cut.result ≡ cut_of (c.args.own +ℤ c.small_floor.result) = simp to_z-of_z at c.cut.ensures.value in
    record {
      value = to_z-of_z w128 c.cut.result cut_fits ∙ cut
          ∙ ap (λ u. cut_of (c.args.own +ℤ u)) (floor ∙ ap (λ u. floor_of (pos 1000 *ℤ u) c.args.weight) residual);
    }
