use Rattle.std.proofs.Common.{◌*◌, ℕ, List, length, sym, subst, arith}
use Rattle.denton_parts.specs.Years.{ArePlaces}
use Rattle.node_compile.specs.Leaf.{places_from}
use Rattle.node_compile.proofs.Places.{places_done, places_stand}
use Rattle.node_compile.proofs.years.years_of.Goals as goal

pub returns-clause-whole_years : goal.returns-clause-whole_years
returns-clause-whole_years c =
    let all = places_done c.args.bench.now c.loop-year.years.items (places_from 0 c.args.bench.now) c.loop-year.year
    (omega arith) c.loop-year.invariant in
    subst (λ (places : List ℕ). ArePlaces (4 * length c.args.bench.now) places) (sym all)
    (places_stand c.args.bench.now (4 * length c.args.bench.now) (omega arith))
