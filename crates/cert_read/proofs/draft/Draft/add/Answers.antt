use Rattle.std.proofs.Common.{rules, ◌≡◌, true, refl, FitsSigned, to_z, of_z}
use Rattle.std.specs.Int.{w128}
use Rattle.std.proofs.lemmas.Int.{to_z-of_z}
use Rattle.std.proofs.lemmas.List.{map_push}
use Rattle.cert_read.specs.Content.{follows}
use Rattle.cert_read.specs.Statement.{benchmark_line, multiplier_line}
use Rattle.cert_read.specs.contracts.draft.Draft.{the_view}
use Rattle.cert_read.specs.declared.draft.DatedBenchmark.{DatedBenchmark}
use Rattle.cert_read.proofs.Spelled.{order_more}
use Rattle.cert_read.proofs.draft.Draft.add.Goals as goal

pub invariant_of-self-in-Continue-branch-2 : goal.invariant_of-self-in-Continue-branch-2
invariant_of-self-in-Continue-branch-2 c =
    let fits : FitsSigned w128 c.in-Benchmark.value = search rules in
    let stays : to_z w128 (of_z w128 c.in-Benchmark.value) ≡ c.in-Benchmark.value =
    to_z-of_z w128 c.in-Benchmark.value fits in
    let may : follows (the_view c.self.inside) (benchmark_line c.in-Benchmark.year c.in-Benchmark.value) ≡ true =
    rw (← c.self.view_is, c.in-Benchmark.is) at c.requires in
    rw (
      c.in_ok-push-in-Benchmark.ensures.items,
      map_push (λ (b : DatedBenchmark). b.place),
      map_push (λ (b : DatedBenchmark). b.value),
      stays,
    )
    (order_more (the_view c.self.inside) (benchmark_line c.in-Benchmark.year c.in-Benchmark.value) c.self.invariant may)

pub invariant_of-self-in-Continue-branch-4 : goal.invariant_of-self-in-Continue-branch-4
invariant_of-self-in-Continue-branch-4 c =
    let fits : FitsSigned w128 c.in-Multiplier.value = search rules in
    let stays : to_z w128 (of_z w128 c.in-Multiplier.value) ≡ c.in-Multiplier.value =
    to_z-of_z w128 c.in-Multiplier.value fits in
    let may : follows (the_view c.self.inside) (multiplier_line c.in-Multiplier.field-0 c.in-Multiplier.value) ≡ true =
    rw (← c.self.view_is, c.in-Multiplier.is) at c.requires in
    rw (c.in_ok-push-in-Multiplier.ensures.items, stays)
    (order_more (the_view c.self.inside) (multiplier_line c.in-Multiplier.field-0 c.in-Multiplier.value)
    c.self.invariant may)

pub returns-in_ok-push-in-Benchmark : goal.returns-in_ok-push-in-Benchmark
returns-in_ok-push-in-Benchmark c =
    let fits : FitsSigned w128 c.in-Benchmark.value = search rules in
    let stays : to_z w128 (of_z w128 c.in-Benchmark.value) ≡ c.in-Benchmark.value =
    to_z-of_z w128 c.in-Benchmark.value fits in
    rw (
      ← c.self.view_is,
      c.in-Benchmark.is,
      c.in_ok-push-in-Benchmark.ensures.items,
      map_push (λ (b : DatedBenchmark). b.place),
      map_push (λ (b : DatedBenchmark). b.value),
      stays,
    ) refl
