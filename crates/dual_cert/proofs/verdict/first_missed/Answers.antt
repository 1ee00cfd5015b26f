use Rattle.std.proofs.Common.{arith, ◌≡◌, pos, below_more, get_or, ap, of_z}
use Rattle.std.specs.Int.{w128}
use Rattle.std.proofs.lemmas.Int.{to_z-of_z}
use Rattle.denton_parts.specs.Benchmarks.{year_total}
use Rattle.dual_cert.proofs.Totals.{meets_from_each, first_missed_from}
use Rattle.dual_cert.proofs.verdict.first_missed.Goals as goal

pub returns-then-year_sum-from : goal.returns-then-year_sum-from
returns-then-year_sum-from c =
    λ indicators. first_missed_from indicators c.args.years.now c.args.bench.now c.args.x.now c.loop-y.y
    c.requires.placed c.requires.whole_years c.loop-y-test.true c.loop-y.invariant
    (λ e. let same : c.year_sum.result ≡ c.from.result = grind (arith, to_z-of_z) in
    c.if-year_sum-from.true (ap (of_z w128) same))

pub loop-y-preserved : goal.loop-y-preserved
loop-y-preserved c =
    let here : year_total c.args.x.now (get_or c.args.years.now c.loop-y.y 0)
    ≡ get_or c.args.bench.now c.loop-y.y (pos 0) = grind (arith, to_z-of_z) in
    below_more _ _ c.loop-y.invariant here

pub returns : goal.returns
returns c =
    λ indicators. meets_from_each indicators c.args.years.now c.args.bench.now c.args.x.now c.requires.placed
    c.requires.whole_years (λ y inside. c.loop-y.invariant y (omega arith))
