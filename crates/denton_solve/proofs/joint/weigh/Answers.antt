use Rattle.std.proofs.Common.{rules, arith, ◌≡◌, pos, ◌+ℤ◌, ◌*ℤ◌, ℤ, FitsSigned}
use Rattle.std.specs.Int.{w128}
use Rattle.std.proofs.lemmas.Int.{to_z-of_z}
use Rattle.std.proofs.lemmas.List.{length-set}
use Rattle.denton_parts.specs.Years.{years_apart}
use Rattle.denton_solve.proofs.Joints.{apart_count}
use Rattle.denton_solve.proofs.Weights.{weight_is, weights_more, weights_least}
use Rattle.denton_solve.proofs.joint.weigh.Goals as goal

pub width-requires : goal.width-requires
width-requires c = c.requires.few c.loop-y.y 0 (omega arith)

pub loop-y-preserved : goal.loop-y-preserved
loop-y-preserved c =
    let width_fits : FitsSigned w128 c.width.result = search rules in
    let behind_fits : FitsSigned w128 c.behind.result = search rules in
    let ahead_fits : FitsSigned w128 c.ahead.result = search rules in
    let fits : FitsSigned w128 c.joined.result = search rules in
    let same = to_z-of_z w128 c.joined.result fits in
    let sum : c.joined.result ≡ pos 1000 *ℤ c.width.result +ℤ c.behind.result +ℤ c.ahead.result =
    simp to_z-of_z at c.joined.ensures.value in
    record {
      value = rw same (weights_more (years_apart 0 c.args.miss.now c.args.parts.now) c.loop-y.out c.loop-y.y
          c.joined.result
          (omega arith) (weight_is c.args.miss.now c.args.parts.now c.loop-y.y c.width.result c.behind.result c.ahead.result
          c.joined.result c.index-parts-y.result c.index-parts-y-in-loop-y.result c.requires.between (omega arith)
          c.width.ensures.value c.index-parts-y.is c.index-parts-y-in-loop-y.is c.behind.ensures.value c.ahead.ensures.value
          sum) c.loop-y.invariant.value);
      least = rw same (weights_least c.loop-y.out c.loop-y.y c.joined.result (omega arith) c.joined.ensures.least
          c.loop-y.invariant.least);
      room = omega (arith, length-set {A = ℤ});
    }

pub returns : goal.returns
returns c =
    let count = apart_count 0 c.args.miss.now c.args.parts.now c.requires.between in
    record {
      count = omega arith;
      value = λ j d h. c.loop-y.invariant.value j d (omega arith);
      least = λ j h. c.loop-y.invariant.least j (omega arith);
    }
