use Rattle.std.proofs.Common.{◌∙◌, ◌+◌, ℤ, pos, List, length, ap, arith, get_or, FitsSigned, take}
use Rattle.std.proofs.lemmas.Int.{ints, to_z-of_z}
use Rattle.std.proofs.lemmas.List.{length_push}
use Rattle.std.specs.Int.{w64}
use Rattle.denton_parts.specs.Year.{IsBenchmark}
use Rattle.denton_parts.specs.Years.{year_at, years_in}
use Rattle.denton_parts.specs.declared.year.YearPart.{YearPart}
use Rattle.node_compile.proofs.Places.{parts_more}
use Rattle.node_compile.proofs.years.parts_of.Goals as goal

pub loop-y-preserved : goal.loop-y-preserved
loop-y-preserved c =
    let h = c.loop-y.invariant in
    let items = c.in_ok-push.ensures.items in
    let benchmark : ℤ = get_or c.args.bench.now c.loop-y.y (pos 0) in
    let range : IsBenchmark benchmark = c.requires.benchmarks c.loop-y.y (omega arith) in
    let fits : FitsSigned w64 benchmark = omega (arith, ints) in
    let passed = ap (λ (n : ℤ). year_at c.args.ind.now (get_or c.args.years.now c.loop-y.y 0) n)
    (to_z-of_z w64 benchmark fits) in
    record {
      count = ap (λ (l : List YearPart). length l) items ∙ length_push c.loop-y.parts.items c.part_at.result
          ∙ ap (λ n. n + 1) h.count;
      years = ap (λ (l : List YearPart). years_in (take (c.loop-y.y + 1) c.args.years.now) l) items
          ∙ parts_more c.args.ind.now c.args.years.now c.args.bench.now c.loop-y.parts.items c.part_at.result c.loop-y.y
          c.requires.placed (omega arith) h.count (c.part_at.ensures ∙ passed) h.years;
    }
