use Rattle.std.proofs.Common.{◌≡◌, ◌≤◌, ◌*◌, ◌^◌, ap, sym, pos, ◌+ℤ◌, ◌-ℤ◌, ◌*ℤ◌, unsigned_abs, FitsSigned, to_z, arith, subst, ℤ, rules}
use Rattle.std.proofs.lemmas.Int.{ints, to_z-of_z, to_z_pos, fits_signed_mul, fits_signed_from_abs}
use Rattle.std.specs.Int.{w128}
use Rattle.ratio_arith.specs.Division.{floor_of}
use Rattle.extrapolate.specs.Carried.{ratio_between}
use Rattle.extrapolate.proofs.Stepped.{between_within}
use Rattle.extrapolate.proofs.between.ratio_at.Goals as goal

-- the part of the rise up to the step, without casts
part : (c : goal.After-floor_div) →
    c.floor_div.result ≡ floor_of (pos c.args.step *ℤ (c.args.to -ℤ c.args.from)) (pos c.args.steps)
part c =
    let rise : FitsSigned w128 (c.args.to -ℤ c.args.from) = omega (arith, ints) in
    let size : unsigned_abs (c.args.to -ℤ c.args.from) ≤ 14 * 10 ^ 15 = omega (arith, ints) in
    let count : unsigned_abs (pos c.args.step) ≤ 505 = omega (arith, ints) in
    let fits : FitsSigned w128 (pos c.args.step *ℤ (c.args.to -ℤ c.args.from)) =
    fits_signed_mul w128 (pos c.args.step) (c.args.to -ℤ c.args.from) 505 (14 * 10 ^ 15) count size (omega arith) in
    let step : to_z w128 c.args.step ≡ pos c.args.step = to_z_pos w128 c.args.step (omega arith) in
    let steps : to_z w128 c.args.steps ≡ pos c.args.steps = to_z_pos w128 c.args.steps (omega arith) in
    grind (arith, to_z-of_z)

-- so is the ratio
ratio : (c : goal.After-floor_div) →
    c.args.from +ℤ c.floor_div.result ≡ ratio_between c.args.from c.args.to c.args.steps c.args.step
ratio c = ap (λ (n : ℤ). c.args.from +ℤ n) (part c)

-- it is no larger than the ratios on its sides
size : (c : goal.After-floor_div) → unsigned_abs (c.args.from +ℤ c.floor_div.result) ≤ 7 * 10 ^ 15
size c =
    subst (λ (n : ℤ). unsigned_abs n ≤ 7 * 10 ^ 15) (sym (ratio c))
    (between_within c.args.from c.args.to c.args.steps c.args.step (7 * 10 ^ 15) c.requires.some c.requires.step
    c.requires.from c.requires.to)

pub overflow_add-result : goal.overflow_add-result
overflow_add-result c =
    let most = size c in
    let fits : FitsSigned w128 c.floor_div.result = search rules in
    let sum : FitsSigned w128 (c.args.from +ℤ c.floor_div.result) = fits_signed_from_abs w128 _ (omega arith) in
    grind (arith, to_z-of_z)

pub returns-clause-value : goal.returns-clause-value
returns-clause-value c =
    let most = size c in
    let fits : FitsSigned w128 c.floor_div.result = search rules in
    let sum : FitsSigned w128 (c.args.from +ℤ c.floor_div.result) = fits_signed_from_abs w128 _ (omega arith) in
    let is = ratio c in
    grind (arith, to_z-of_z)

pub returns-clause-size : goal.returns-clause-size
returns-clause-size c =
    let most = size c in
    let fits : FitsSigned w128 c.floor_div.result = search rules in
    let sum : FitsSigned w128 (c.args.from +ℤ c.floor_div.result) = fits_signed_from_abs w128 _ (omega arith) in
    grind (arith, to_z-of_z)
