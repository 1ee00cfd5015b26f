use Rattle.std.proofs.Common.{rules, arith, ◌≡◌, ◌<◌, ◌*◌, ◌^◌, ℕ, ℤ, zero, suc, pos, ◌+ℤ◌, ◌-ℤ◌, ◌*ℤ◌, refl, unsigned_abs, FitsSigned, get_or, slice_index, to_z, of_z}
use Rattle.std.specs.Int.{w64, w128}
use Rattle.std.proofs.lemmas.Int.{to_z-of_z}
use Rattle.denton_parts.specs.Level.{level_of, rises}
use Rattle.denton_parts.proofs.Machine.{machine}
use Rattle.denton_parts.proofs.Sizes.{indicator_most, weighed_level, level_is}
use Rattle.denton_parts.proofs.levels.levels_of.Goals as goal

-- what the calls answered, without casts
pub record Parts (c : goal.After-raised-4) : Type 0 where
  found : c.rises_of-rises.result ≡ rises c.args.part.now.ind c.args.left c.args.right
  base : c.scaled_benchmark-base.result ≡ pos (10 ^ c.args.scale) *ℤ c.args.part.now.bench
  weighed : c.weighed_sum-weighed.result ≡ pos (slice_index c.args.part.now.ind 1) *ℤ get_or c.rises_of-rises.result 1 (pos 0) +ℤ pos (slice_index c.args.part.now.ind 2) *ℤ get_or c.rises_of-rises.result 2 (pos 0) +ℤ pos (slice_index c.args.part.now.ind 3) *ℤ get_or c.rises_of-rises.result 3 (pos 0)
  first : c.raised.result ≡ c.scaled_benchmark-base.result -ℤ c.weighed_sum-weighed.result +ℤ c.args.part.now.sum *ℤ get_or c.rises_of-rises.result 0 (pos 0)
  second : c.raised-2.result ≡ c.scaled_benchmark-base.result -ℤ c.weighed_sum-weighed.result +ℤ c.args.part.now.sum *ℤ get_or c.rises_of-rises.result 1 (pos 0)
  third : c.raised-3.result ≡ c.scaled_benchmark-base.result -ℤ c.weighed_sum-weighed.result +ℤ c.args.part.now.sum *ℤ get_or c.rises_of-rises.result 2 (pos 0)
  fourth : c.raised-4.result ≡ c.scaled_benchmark-base.result -ℤ c.weighed_sum-weighed.result +ℤ c.args.part.now.sum *ℤ get_or c.rises_of-rises.result 3 (pos 0)

parts : (c : goal.After-raised-4) → Parts c
parts c =
    let base_fits : FitsSigned w128 c.scaled_benchmark-base.result = search rules in
    let weighed_fits : FitsSigned w128 c.weighed_sum-weighed.result = search rules in
    let bench_fits : FitsSigned w64 c.args.part.now.bench = omega (arith, machine) in
    let sum_fits : FitsSigned w128 c.args.part.now.sum = omega (arith, machine) in
    let none : get_or c.rises_of-rises.result 0 (pos 0) ≡ pos 0 = rw c.rises_of-rises.ensures.value refl in
    let none_fits : FitsSigned w128 (get_or c.rises_of-rises.result 0 (pos 0)) = omega (arith, machine) in
    let first_fits : FitsSigned w128 (get_or c.rises_of-rises.result 1 (pos 0)) = omega (arith, machine) in
    let second_fits : FitsSigned w128 (get_or c.rises_of-rises.result 2 (pos 0)) = omega (arith, machine) in
    let third_fits : FitsSigned w128 (get_or c.rises_of-rises.result 3 (pos 0)) = omega (arith, machine) in
    record {
      found = simp (to_z-of_z, c.ranges.left, c.ranges.right) at c.rises_of-rises.ensures.value;
      base = simp to_z-of_z at c.scaled_benchmark-base.ensures.value;
      weighed = simp to_z-of_z at c.weighed_sum-weighed.ensures.value;
      first = simp to_z-of_z at c.raised.ensures.value;
      second = simp to_z-of_z at c.raised-2.ensures.value;
      third = simp to_z-of_z at c.raised-3.ensures.value;
      fourth = simp to_z-of_z at c.raised-4.ensures.value;
    }

-- a level that was made is the quarter's
made : (c : goal.After-raised-4) (j : ℕ) (raised : ℤ) → FitsSigned w128 raised → raised ≡ c.scaled_benchmark-base.result -ℤ c.weighed_sum-weighed.result +ℤ c.args.part.now.sum *ℤ get_or c.rises_of-rises.result j (pos 0) → to_z w128 (of_z w128 raised) ≡ level_of c.args.part.now.ind c.args.part.now.bench c.args.scale c.args.left c.args.right j
made c j raised fits e =
    let known = parts c in
    level_is c.args.part.now.ind c.args.part.now.bench c.args.scale c.args.left c.args.right j c.args.part.now.sum c.scaled_benchmark-base.result c.weighed_sum-weighed.result raised (to_z w128 (of_z w128 raised)) c.rises_of-rises.result known.found c.args.part.now.total known.base known.weighed e (to_z-of_z w128 raised fits)

pub returns-clause-values : goal.returns-clause-values
returns-clause-values c zero inside = made c 0 c.raised.result (search rules) (parts c).first
returns-clause-values c (suc zero) inside = made c 1 c.raised-2.result (search rules) (parts c).second
returns-clause-values c (suc (suc zero)) inside = made c 2 c.raised-3.result (search rules) (parts c).third
returns-clause-values c (suc (suc (suc zero))) inside = made c 3 c.raised-4.result (search rules) (parts c).fourth
returns-clause-values c (suc (suc (suc (suc j)))) inside = absurd (omega arith)

-- and as small as it was made
small : (raised : ℤ) → FitsSigned w128 raised → unsigned_abs raised < 3 * 10 ^ 25 → unsigned_abs (to_z w128 (of_z w128 raised)) < 3 * 10 ^ 25
small raised fits less = rw (to_z-of_z w128 raised fits) less

pub returns-clause-sizes : goal.returns-clause-sizes
returns-clause-sizes c zero inside = small c.raised.result (search rules) c.raised.ensures.size
returns-clause-sizes c (suc zero) inside = small c.raised-2.result (search rules) c.raised-2.ensures.size
returns-clause-sizes c (suc (suc zero)) inside = small c.raised-3.result (search rules) c.raised-3.ensures.size
returns-clause-sizes c (suc (suc (suc zero))) inside = small c.raised-4.result (search rules) c.raised-4.ensures.size
returns-clause-sizes c (suc (suc (suc (suc j)))) inside = absurd (omega arith)

pub returns-clause-weighed : goal.returns-clause-weighed
returns-clause-weighed c = λ j inside. weighed_level _ _ (indicator_most c.args.part.now.ind j c.args.part.now.indicators inside) (returns-clause-sizes c j inside)
