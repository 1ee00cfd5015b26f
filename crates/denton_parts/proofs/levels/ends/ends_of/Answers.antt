use Rattle.std.proofs.Common.{rules, arith, ◌≡◌, ◌^◌, pos, ◌+ℤ◌, ◌*ℤ◌, ◌-ℤ◌, ◌<ℤ◌, FitsSigned, get_or, slice_index, ◌∙◌}
use Rattle.std.specs.Int.{w64, w128}
use Rattle.std.proofs.lemmas.Int.{to_z-of_z}
use Rattle.ratio_arith.specs.Division.{floor_of}
use Rattle.denton_parts.specs.Level.{rises}
use Rattle.denton_parts.proofs.EndRatios.{ratio_is, first_ratio_is}
use Rattle.denton_parts.specs.Years.{year_in}
use Rattle.denton_parts.proofs.Machine.{machine}
use Rattle.denton_parts.proofs.Reach.{ratio_within}
use Rattle.denton_parts.proofs.levels.ends.ends_of.Goals as goal

-- what the calls answered, without casts
pub record Parts (c : goal.After-ends_at) : Type 0 where
  found : c.rises_of-rises.result ≡ rises c.args.part.now.ind c.args.left c.args.right
  base : c.scaled_benchmark-base.result ≡ pos (10 ^ c.args.scale) *ℤ c.args.part.now.bench
  weighed : c.weighed_sum-weighed.result ≡ pos (slice_index c.args.part.now.ind 1) *ℤ get_or c.rises_of-rises.result 1 (pos 0) +ℤ pos (slice_index c.args.part.now.ind 2) *ℤ get_or c.rises_of-rises.result 2 (pos 0) +ℤ pos (slice_index c.args.part.now.ind 3) *ℤ get_or c.rises_of-rises.result 3 (pos 0)
  positive : pos 0 <ℤ c.args.part.now.sum
  first : c.ends_at.result.first ≡ floor_of (c.scaled_benchmark-base.result -ℤ c.weighed_sum-weighed.result) c.args.part.now.sum
  last : c.ends_at.result.last ≡ floor_of (c.scaled_benchmark-base.result -ℤ c.weighed_sum-weighed.result) c.args.part.now.sum +ℤ get_or c.rises_of-rises.result 3 (pos 0)

parts : (c : goal.After-ends_at) → Parts c
parts c =
    let base_fits : FitsSigned w128 c.scaled_benchmark-base.result = search rules in
    let weighed_fits : FitsSigned w128 c.weighed_sum-weighed.result = search rules in
    let bench_fits : FitsSigned w64 c.args.part.now.bench = omega (arith, machine) in
    let sum_fits : FitsSigned w128 c.args.part.now.sum = omega (arith, machine) in
    let first_fits : FitsSigned w128 (get_or c.rises_of-rises.result 1 (pos 0)) = omega (arith, machine) in
    let second_fits : FitsSigned w128 (get_or c.rises_of-rises.result 2 (pos 0)) = omega (arith, machine) in
    let rise_fits : FitsSigned w128 (get_or c.rises_of-rises.result 3 (pos 0)) = omega (arith, machine) in
    record {
      found = simp (to_z-of_z, c.ranges.left, c.ranges.right) at c.rises_of-rises.ensures.value;
      base = simp to_z-of_z at c.scaled_benchmark-base.ensures.value;
      weighed = simp to_z-of_z at c.weighed_sum-weighed.ensures.value;
      positive = omega (arith, machine);
      first = simp to_z-of_z at c.ends_at.ensures.first;
      last = simp to_z-of_z at c.ends_at.ensures.last;
    }

pub returns-clause-first : goal.returns-clause-first
returns-clause-first c =
    let known = parts c in
    known.first ∙ first_ratio_is c.args.part.now.ind c.args.part.now.bench c.args.scale c.args.left c.args.right c.args.part.now.sum c.scaled_benchmark-base.result c.weighed_sum-weighed.result c.rises_of-rises.result known.found c.args.part.now.total known.base known.weighed known.positive

pub returns-clause-last : goal.returns-clause-last
returns-clause-last c =
    let known = parts c in
    known.last ∙ ratio_is c.args.part.now.ind c.args.part.now.bench c.args.scale c.args.left c.args.right 3 c.args.part.now.sum c.scaled_benchmark-base.result c.weighed_sum-weighed.result c.rises_of-rises.result known.found c.args.part.now.total known.base known.weighed known.positive

pub returns-clause-first_size : goal.returns-clause-first_size
returns-clause-first_size c =
    rw (returns-clause-first c)
    (ratio_within c.args.scale (year_in 0 c.args.part.now) c.args.left c.args.right 0 c.args.part.now.indicators
    c.requires.left c.requires.right c.requires.fits)

pub returns-clause-last_size : goal.returns-clause-last_size
returns-clause-last_size c =
    rw (returns-clause-last c)
    (ratio_within c.args.scale (year_in 0 c.args.part.now) c.args.left c.args.right 3 c.args.part.now.indicators
    c.requires.left c.requires.right c.requires.fits)
