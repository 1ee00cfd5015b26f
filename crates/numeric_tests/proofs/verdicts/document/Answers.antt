use Rattle.std.proofs.Common.{rules, arith, ◌≡◌, pos, [], ◌∷◌, length, replicate, to_z, of_z}
use Rattle.std.specs.Int.{w128}
use Rattle.std.proofs.lemmas.Int.{to_z-of_z}
use Rattle.numeric_tests.proofs.Examples.{example_document}
use Rattle.numeric_tests.proofs.verdicts.document.Goals as goal

pub invariant_of-result : goal.invariant_of-result
invariant_of-result c =
    let name : c.in_ok-name.name.items ≡ 70 ∷ 79 ∷ 79 ∷ 68 ∷ [] = c.in_ok-name.ensures.items in
    let indicators : c.in_ok-ind.ind.items ≡ replicate 8 100 = c.in_ok-ind.ensures.items in
    let years : c.in_ok-years.years.items ≡ 0 ∷ 1 ∷ [] = c.in_ok-years.ensures.items in
    let benchmarks : c.in_ok-bench.bench.items ≡ pos 1000 ∷ pos 1400 ∷ [] = c.in_ok-bench.ensures.items in
    let values : c.in_ok-x.x.items ≡ c.args.x = c.in_ok-x.ensures.items in
    let multipliers : c.in_ok-u.u.items ≡ c.args.u ∷ [] = grind (arith, to_z-of_z) in
    let gap : to_z w128 (of_z w128 c.args.gap) ≡ c.args.gap = grind (arith, to_z-of_z) in
    let eight : length c.args.x ≡ 8 = search rules in
    record {
      kept = rw (name, indicators, years, benchmarks, values, multipliers, gap)
          (example_document 10 8 1 c.args.x c.args.u c.args.gap (omega arith) (omega arith) (omega arith) (omega arith)
          eight c.requires.values c.requires.multiplier c.requires.least c.requires.most);
    }
