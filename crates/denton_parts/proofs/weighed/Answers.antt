use Rattle.std.proofs.Common.{arith, ◌≡◌, pos, ◌^◌, ◌-ℤ◌, ◌*ℤ◌, FitsSigned}
use Rattle.std.specs.Int.{w128}
use Rattle.std.proofs.lemmas.Int.{to_z-of_z}
use Rattle.std.proofs.Math.IntN.{*ℤ_comm}
use Rattle.ratio_arith.proofs.Linear.{literal_product}
use Rattle.denton_parts.proofs.Machine.{machine}
use Rattle.denton_parts.proofs.Sizes.{weighed_within}
use Rattle.denton_parts.proofs.weighed.Goals as goal

fits : (c : goal.After-product-2) → FitsSigned w128 (c.args.sum -ℤ c.args.before)
fits c = omega (arith, machine)

first : (c : goal.After-product-2) → c.product.result ≡ c.args.left *ℤ (c.args.sum -ℤ c.args.before)
first c = let after = fits c in grind (arith, to_z-of_z)

second : (c : goal.After-product-2) → c.product-2.result ≡ c.args.right *ℤ c.args.before
second c = grind (arith, to_z-of_z)

pub overflow_add-result : goal.overflow_add-result
overflow_add-result c =
    let one = first c in
    let other = second c in
    let size = weighed_within c.args.left c.args.right c.args.sum c.args.before (10 ^ 15) c.requires.left c.requires.right c.requires.start c.requires.within in
    omega (arith, machine, *ℤ_comm c.args.sum (pos (10 ^ 15)), literal_product)

pub returns-clause-value : goal.returns-clause-value
returns-clause-value c =
    let one = first c in
    let other = second c in
    let whole = overflow_add-result c in
    omega (arith, machine)

pub returns-clause-low : goal.returns-clause-low
returns-clause-low c =
    let one = first c in
    let other = second c in
    let whole = overflow_add-result c in
    let size = weighed_within c.args.left c.args.right c.args.sum c.args.before (10 ^ 15) c.requires.left c.requires.right c.requires.start c.requires.within in
    omega (arith, machine)

pub returns-clause-high : goal.returns-clause-high
returns-clause-high c =
    let one = first c in
    let other = second c in
    let whole = overflow_add-result c in
    let size = weighed_within c.args.left c.args.right c.args.sum c.args.before (10 ^ 15) c.requires.left c.requires.right c.requires.start c.requires.within in
    omega (arith, machine)
